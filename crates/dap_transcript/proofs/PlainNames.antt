-- The tests of names by the first byte of a name and the other bytes.
use Rattle.std.proofs.Common.{◌≡◌, ℕ, suc, ◌<◌, Bool, true, false, ◌&&◌, List, []}
use Rattle.std.proofs.Common.{◌∷◌, length, refl}
use Rattle.std.proofs.lemmas.Bool.{and_parts}
use Rattle.std.proofs.lemmas.List.{take_all}
use Rattle.std.proofs.Common.{◌-◌, get_or, take, drop, ◌==◌, sym, ◌∙◌, ap, arith, bytes_eq}
use Rattle.std.specs.{Char.is_ascii_digit, List.list_all}
use Rattle.dap_transcript.specs.Names.{has_plain_form, has_underscores, is_e, is_exponent}
use Rattle.dap_transcript.specs.Names.{is_letter, is_name_byte}

and_true : (b : Bool) → (b && true) ≡ b
and_true true = refl
and_true false = refl

pub plain_form : (s : List ℕ) (b : Bool) → 0 < length s → list_all is_name_byte s ≡ true
    → b ≡ is_letter (get_or s 0 0) → b ≡ has_plain_form s
plain_form [] b some names first = absurd (omega arith)
plain_form (x ∷ s) b some names first =
    let rest = (and_parts (is_name_byte x) (list_all is_name_byte s) names).1 in
    first ∙ sym (ap (λ t. is_letter x && t) rest ∙ and_true (is_letter x))

pub exponent : (s : List ℕ) (b : Bool) → 1 < length s → is_e (get_or s 0 0) ≡ true
    → b ≡ list_all is_ascii_digit (take (length s - 1) (drop 1 s)) → b ≡ is_exponent s
exponent [] b some first rest = absurd (omega arith)
exponent (x ∷ []) b some first rest = absurd (omega arith)
exponent (x ∷ y ∷ s) b some first rest =
    rest ∙ ap (list_all is_ascii_digit) (take_all (suc (length (y ∷ s)) - 1) (y ∷ s) (omega arith))
    ∙ ap (λ e. e && list_all is_ascii_digit (y ∷ s)) (sym first)

pub underscores : (w k first : List ℕ) (b : Bool) → first ≡ take (length w) k
    → bytes_eq first w ≡ true → b ≡ list_all (λ x. x == 95) (drop (length w) k)
    → b ≡ has_underscores w k
underscores w k first b is same rest =
    rest ∙ ap (λ e. e && list_all (λ x. x == 95) (drop (length w) k))
    (sym same ∙ ap (λ t. bytes_eq t w) is)
