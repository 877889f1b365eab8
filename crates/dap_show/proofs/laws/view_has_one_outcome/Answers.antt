use Rattle.dap_recording.proofs.Records.{readable}
use Rattle.dap_show.specs.Viewing.{viewing}
use Rattle.dap_show.proofs.ViewingFacts.{accepted_facts, value_facts}
use Rattle.dap_input.proofs.ItemReaders.{shown_cause}
use Rattle.dap_input.proofs.OneOutcome.{has_one_outcome, refusal_of_stays}
use Rattle.dap_show.proofs.laws.view_has_one_outcome.Goals as goal

pub returns : goal.returns
returns c = record {
  outcome = λ view sound.
      has_one_outcome (viewing view) (shown_cause view.limits.frame)
      (readable view.limits.frame) (value_facts view)
      (accepted_facts view);
  refusal_stays = λ view sound.
      refusal_of_stays (viewing view) (readable view.limits.frame)
      (value_facts view) (accepted_facts view);
}
