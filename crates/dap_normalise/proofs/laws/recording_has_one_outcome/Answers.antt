use Rattle.dap_normalise.specs.Accepting.{accepting}
use Rattle.dap_normalise.proofs.AcceptingFacts.{value_facts, accepted_facts}
use Rattle.dap_recording.proofs.Records.{readable}
use Rattle.dap_input.proofs.ItemReaders.{shown_cause}
use Rattle.dap_input.proofs.OneOutcome.{has_one_outcome, refusal_of_stays}
use Rattle.dap_normalise.proofs.laws.recording_has_one_outcome.Goals as goal

pub returns : goal.returns
returns c = record {
  outcome = λ limits mode sound. has_one_outcome (accepting limits mode) (shown_cause limits.frame)
      (readable limits.frame) (value_facts limits mode) (accepted_facts limits mode);
  refusal_stays =
      λ limits mode sound. refusal_of_stays (accepting limits mode) (readable limits.frame)
      (value_facts limits mode) (accepted_facts limits mode);
}
