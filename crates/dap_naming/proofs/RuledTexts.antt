-- The ids of an integer that a rule declares as an id.
use Rattle.std.proofs.Common.{◌≡◌, ◌∙◌, sym, ap, ℕ, ℤ, false, cond, List, [], ◌∷◌}
use Rattle.std.proofs.Common.{Some, pos, negsuc, refl}
use Rattle.std.specs.Fmt.{signed_decimal}
use Rattle.dap_tokens.specs.Values.{is_nothing}
use Rattle.dap_naming.specs.Documents.{integer_text, ids_of_whole}

-- the text of an integer, as it is written
pub text_of_integer : (z : ℤ) → signed_decimal z ≡ integer_text z
text_of_integer (pos n) = refl
text_of_integer (negsuc n) = refl

pub whole_ids : (label v : List ℕ) (z : ℤ) → v ≡ integer_text z → is_nothing v ≡ false
    → ids_of_whole (Some label) z ≡ (label, v) ∷ []
whole_ids label v z same some =
    ap (λ b. cond b [] ((label, integer_text z) ∷ [])) (ap is_nothing (sym same) ∙ some)
    ∙ ap (λ u. (label, u) ∷ []) (sym same)
