-- Texts of ASCII characters that are not escaped.
use Rattle.std.proofs.Common.{◌≡◌, ℕ, ◌<◌, true, nat_lt, List, [], ◌∷◌, ◌++◌, ap, ◌∙◌, arith}
use Rattle.std.proofs.lemmas.Bool.{and_parts}
use Rattle.std.proofs.lemmas.Bool.Decides.{nat_tests}
use Rattle.std.specs.List.{list_all}
use Rattle.dap_transcript.specs.Scalars.{escaped, is_simple, string_text}
use Rattle.dap_transcript.proofs.Escapes.{simple_stays}
use Rattle.dap_transcript.proofs.SameStrings.{AreLow, low_escaped}

below : (b : ℕ) → nat_lt b 127 ≡ true → b < 127
below b h = grind (arith, nat_tests)

are_low : (s : List ℕ) → list_all (λ b. nat_lt b 127) s ≡ true → AreLow s
are_low [] h = tt
are_low (b ∷ s) h =
    let parts = and_parts (nat_lt b 127) (list_all (λ x. nat_lt x 127) s) h in
    (below b parts.0, are_low s parts.1)

pub low_bytes_escaped : (s : List ℕ) → list_all (λ b. nat_lt b 127) s ≡ true → escaped s ≡ s
low_bytes_escaped s h = low_escaped s (are_low s h)

simple_low : (s t : List ℕ) → list_all is_simple s ≡ true → AreLow t → AreLow (s ++ t)
simple_low [] t h low = low
simple_low (b ∷ s) t h low =
    let parts = and_parts (is_simple b) (list_all is_simple s) h in
    let is : is_simple b ≡ true = parts.0 in
    (grind (arith, nat_tests), simple_low s t parts.1 low)

-- A string of simple characters is written in quotes as it is.
pub simple_written : (s : List ℕ) → list_all is_simple s ≡ true
    → string_text s ≡ 34 ∷ (s ++ 34 ∷ [])
simple_written s h =
    ap (λ (t : List ℕ). escaped (34 ∷ (t ++ 34 ∷ []))) (simple_stays s h)
    ∙ low_escaped (34 ∷ (s ++ 34 ∷ [])) (omega arith, simple_low s (34 ∷ []) h (omega arith, tt))
