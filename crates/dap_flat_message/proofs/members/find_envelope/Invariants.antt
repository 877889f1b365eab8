use Rattle.std.proofs.Common.{length, ◌-◌}
use Rattle.dap_flat_message.specs.Places.{IsEnvelopeLeft}
use Rattle.dap_flat_message.proofs.members.find_envelope.Given as goal

abbrev pub invariant-loop-p : goal.invariant-loop-p
invariant-loop-p l = IsEnvelopeLeft l.nodes l.p l.found

abbrev pub decreases-loop-p : goal.decreases-loop-p
decreases-loop-p l = length l.nodes - l.p
