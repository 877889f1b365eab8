use Rattle.dap_recording.proofs.Records.{readable}
use Rattle.dap_show.specs.Viewing.{showing, without_marks}
use Rattle.dap_show.specs.declared.detail.Detail.TheVariants.{Lists}
use Rattle.dap_show.proofs.ViewingFacts.{accepted_facts, value_facts}
use Rattle.dap_input.proofs.ItemReaders.{shown_cause}
use Rattle.dap_input.proofs.OneOutcome.{has_one_outcome, refusal_of_stays}
use Rattle.dap_show.proofs.laws.show_has_one_outcome.Goals as goal

pub returns : goal.returns
returns c = record {
  outcome = λ limits sound.
      let view = without_marks Lists limits in
      has_one_outcome (showing limits) (shown_cause limits.frame) (readable limits.frame)
      (value_facts view) (accepted_facts view);
  refusal_stays = λ limits sound.
      let view = without_marks Lists limits in
      refusal_of_stays (showing limits) (readable limits.frame) (value_facts view)
      (accepted_facts view);
}
