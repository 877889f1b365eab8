-- Two prefixes of the same bytes.
use Rattle.std.proofs.Common.{◌≡◌, ℕ, ◌≤◌, List, ◌++◌, length, take, drop, refl, sym, ap, ◌∙◌}
use Rattle.std.proofs.lemmas.List.{take-append-le, take-append-drop, take_at}

-- prefixes of equal length are equal
pub same_front : (front other rest more : List ℕ) → front ++ rest ≡ other ++ more
    → length front ≡ length other → front ≡ other
same_front front other rest more same len =
    sym (take_at front rest (length other) len) ∙ ap (take (length other)) same
    ∙ take_at other more (length other) refl

-- the shorter prefix is a prefix of the longer
pub shorter_front : (long short rest more : List ℕ) → long ++ rest ≡ short ++ more
    → length short ≤ length long
    → long ≡ short ++ drop (length short) long
shorter_front long short rest more same le =
    let n : ℕ = length short in
    let front : take n long ≡ short =
    sym (take-append-le n long rest le) ∙ ap (take n) same ∙ take_at short more n refl in
    sym (take-append-drop n long) ∙ ap (λ t. t ++ drop n long) front
