use Rattle.std.proofs.Common.{◌≡◌, ℕ, ◌<◌, List, [], ◌∷◌, length, arith}
use Rattle.dap_difference.specs.Shown.{shown_differences}
use Rattle.dap_difference.specs.declared.difference.Difference.{Difference}
use Rattle.dap_difference.proofs.lines.lines_of.Goals as goal

-- the iteration has a difference, so there are differences
one_next : (xs : List Difference) (i : ℕ) → i < length xs → shown_differences xs ≡ [] → ⊥
one_next [] i within none = omega arith
one_next (x ∷ xs) i within none = cc

pub returns-in_err-push_values-clause-none : goal.returns-in_err-push_values-clause-none
returns-in_err-push_values-clause-none c none =
    let i = c.loop-difference.difference-index in
    let within : i < length c.args.found.now = omega arith in
    absurd (one_next c.args.found.now i within none)
