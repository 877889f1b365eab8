-- The concatenation of explanation lines, and the bytes of their characters.
use Rattle.std.proofs.Common.{◌≡◌, ℕ, Bool, true, false, cond}
use Rattle.std.proofs.Common.{List, [], ◌∷◌, ◌++◌, All, flat_map, refl, sym, ap, ◌∙◌, subst}
use Rattle.std.proofs.Common.{append_assoc}
use Rattle.std.proofs.lemmas.List.{append-nil}
use Rattle.std.proofs.lemmas.List.Elements.{All-nil, All-push}
use mathlib.Core.Logic.{∥∥₁_map}
use Rattle.dap_explain.specs.Lines.{IsPrinted, AreLines, line_of}

pub no_lines : AreLines []
no_lines = record { lines = []; printed = All-nil (All IsPrinted); same = refl }

line_more : (lines : List (List ℕ)) (words : List ℕ)
    → flat_map line_of lines ++ line_of words ≡ flat_map line_of (lines ++ words ∷ [])
line_more [] words = sym (append-nil (line_of words))
line_more (line ∷ lines) words =
    append_assoc (line_of line) (flat_map line_of lines) (line_of words)
    ∙ ap (λ rest. line_of line ++ rest) (line_more lines words)

-- One more line.
pub AreLines-append : (text words : List ℕ) → AreLines text → All IsPrinted words
    → AreLines (text ++ line_of words)
AreLines-append text words before printed = record {
  lines = before.lines ++ words ∷ [];
  printed = All-push (All IsPrinted) before.lines words before.printed printed;
  same = ap (λ bytes. bytes ++ line_of words) before.same ∙ line_more before.lines words;
}

pub lines_kept : (ok : Bool) (old more new : List ℕ) → new ≡ cond ok (old ++ more) old
    → ∥ AreLines old ∥₁ → ((words : List ℕ) × All IsPrinted words × (more ≡ line_of words))
    → ∥ AreLines new ∥₁
lines_kept true old more new same before line =
    ∥∥₁_map before (λ lines. subst AreLines
    (ap (λ bytes. old ++ bytes) (sym line.2) ∙ sym same) (AreLines-append old line.0 lines line.1))
lines_kept false old more new same before line =
    subst (λ bytes. ∥ AreLines bytes ∥₁) (sym same) before
