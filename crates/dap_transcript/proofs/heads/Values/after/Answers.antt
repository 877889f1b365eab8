use Rattle.std.proofs.Common.{◌∙◌, refl}
use Rattle.dap_transcript.proofs.heads.Values.after.Goals as goal

pub returns : goal.returns
returns c k d left ms is is_value h = record {
  type_is = c.first_value.ensures k d left is is_value refl ∙ h.type_is;
  command_is = c.first_value-2.ensures k d left is is_value refl ∙ h.command_is;
  event_is = c.first_value-3.ensures k d left is is_value refl ∙ h.event_is;
  seq_is = c.first_value-4.ensures k d left is is_value refl ∙ h.seq_is;
  request_is = c.first_value-5.ensures k d left is is_value refl ∙ h.request_is;
  success_is = c.first_value-6.ensures k d left is is_value refl ∙ h.success_is;
}
