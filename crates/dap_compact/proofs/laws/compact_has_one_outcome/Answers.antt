use Rattle.dap_compact.specs.Compacting.{compacting}
use Rattle.dap_compact.proofs.CompactingFacts.{value_facts, accepted_facts, readable_frames}
use Rattle.dap_input.proofs.ItemReaders.{shown_frame_cause}
use Rattle.dap_input.proofs.OneOutcome.{has_one_outcome, refusal_of_stays}
use Rattle.dap_compact.proofs.laws.compact_has_one_outcome.Goals as goal

pub returns : goal.returns
returns c = record {
  outcome = λ limits sound. has_one_outcome (compacting limits)
      (shown_frame_cause limits.frame) (readable_frames limits sound) (value_facts limits)
      (accepted_facts limits);
  refusal_stays =
      λ limits sound. refusal_of_stays (compacting limits) (readable_frames limits sound)
      (value_facts limits) (accepted_facts limits);
}
