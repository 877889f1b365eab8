-- A named text is in UTF-8.
use Rattle.std.proofs.Common.{◌≡◌, ℕ, List, [], sym, ap, subst, IsUtf8, unwrap_or}
use Rattle.std.proofs.lemmas.Str.{IsUtf8-from_is_utf8, is_utf8-from_IsUtf8}
use Rattle.dap_tokens.specs.Tokens.{Labels, parts}
use Rattle.dap_tokens.specs.{Naming.{Numbering, named}, Laws.AreLabels}
use Rattle.dap_tokens.proofs.NamedUtf8.{named_utf8}
use Rattle.dap_naming.specs.Known.{key, number_at, Writes}
use Rattle.dap_naming.specs.declared.value_numbers.ValueNumbers.{ValueNumbers}

pub written_utf8 : (a b : ValueNumbers) (labels : Labels) (s t u : List ℕ) → AreLabels labels
    → IsUtf8 s → u ≡ s → Writes a b (parts labels u) [] t → IsUtf8 t
written_utf8 a b labels s t u l h same w =
    let f : Numbering = λ label v. unwrap_or (number_at b (key label v)) 0 in
    let is : IsUtf8 u = subst IsUtf8 (sym same) h in
    subst IsUtf8 (sym (w.1.1 f (λ label v n e. ap (λ o. unwrap_or o 0) e)))
    (IsUtf8-from_is_utf8 (named labels f u)
    (named_utf8 labels f u l (is_utf8-from_IsUtf8 u is)))
