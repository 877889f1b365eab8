-- The length of a name or a token is within the string.
use Rattle.std.proofs.Common.{◌≡◌, ℕ, ◌+◌, ◌≤◌, ◌==◌, Bool, true, false, not, ◌&&◌, List, [], ◌∷◌}
use Rattle.std.proofs.Common.{length, drop, ap, ◌∙◌, arith, nat_lt}
use Rattle.std.proofs.lemmas.List.{length-append}
use Rattle.std.proofs.lemmas.Bool.{ltb-true, ltb-false}
use Rattle.std.specs.Char.{is_ascii_digit, is_ascii_hexdigit}
use Rattle.dap_words.specs.Uuids.{nil_uuid, fits_at, begins_in_form}
use Rattle.dap_words.specs.Long.{is_long}
use Rattle.dap_words.specs.Uuids.{begins_uuid}
use Rattle.dap_tokens.specs.Tokens.{name, name_length, token_length, hex_run, starts_hex}
use Rattle.dap_tokens.specs.declared.form.Form.{Form}
use Rattle.dap_tokens.specs.declared.form.Form.TheVariants.{Whole, Digits, Hex, Long, Uuid}
use Rattle.dap_tokens.proofs.Booleans.{by_bool, and_right}
use Rattle.dap_tokens.proofs.Lists.{taken_within}
use Rattle.dap_tokens.proofs.Names.{name_at, name_read}

pub name_within : (label s : List ℕ) → name_length label s ≤ length s
name_within label s = by_bool (nat_lt 0 (name_length label s))
    (λ k. let some = ltb-true 0 (name_length label s) k in
    let at = name_at label s (λ e. absurd (omega arith)) in
    let same = ap (name_length label) at.whole ∙ name_read label at.number at.rest at.numeral in
    let long = ap length at.whole ∙ length-append (name label at.number) at.rest in
    omega arith)
    (λ k. let none = ltb-false 0 (name_length label s) k in omega arith)

pub form_within : (form s : List ℕ) → begins_in_form form s ≡ true → length form ≤ length s
form_within [] s h = omega arith
form_within (f ∷ form) [] h = cc
form_within (f ∷ form) (b ∷ s) h =
    let rest = form_within form s (and_right (fits_at f b) (begins_in_form form s) h) in
    omega arith

hex_within : (s : List ℕ) → starts_hex s ≡ true → 2 + length (hex_run (drop 2 s)) ≤ length s
hex_within [] h = cc
hex_within (b ∷ []) h = let no = and_right (b == 48) false h in cc
hex_within (b ∷ c ∷ []) h = let no = and_right (b == 48) false h in cc
hex_within (b ∷ c ∷ e ∷ s) h =
    let rest = taken_within is_ascii_hexdigit (e ∷ s) in omega arith

pub token_within : (form : Form) (d : Bool) (s : List ℕ) → token_length form d s ≤ length s
token_within Whole d s = omega arith
token_within Digits d s = taken_within is_ascii_digit s
token_within Hex d s = by_bool (not d && starts_hex s)
    (λ k. rw k (hex_within s (and_right (not d) (starts_hex s) k))) (λ k. rw k (omega arith))
token_within Long d s = by_bool (not d && is_long (hex_run s))
    (λ k. rw k (taken_within is_ascii_hexdigit s)) (λ k. rw k (omega arith))
token_within Uuid d s = by_bool (begins_uuid d s)
    (λ k. rw k (form_within nil_uuid s (and_right (not d) (begins_in_form nil_uuid s) k)))
    (λ k. rw k (omega arith))
