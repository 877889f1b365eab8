use Rattle.std.proofs.Common.{ℕ, List}
use Rattle.dap_suggest.specs.Hidden.{AreRepresented}
use Rattle.dap_suggest.proofs.HiddenValues.{IsHiddenBefore}
use Rattle.dap_suggest.proofs.choosing.hidden_by.Given as goal

abbrev pub invariant-loop-place : goal.invariant-loop-place
invariant-loop-place l = (values : List (List ℕ)) → AreRepresented l.spot.tallies.items values
    → IsHiddenBefore l.before l.rule values l.place l.hidden
