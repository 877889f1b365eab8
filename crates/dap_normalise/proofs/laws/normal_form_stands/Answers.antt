use Rattle.dap_normalise.proofs.NormalFormLaws.{has_one_normal_form, normal_accepted}
use Rattle.dap_normalise.proofs.NormalFormLaws.{accepted_is_normalised, one_normal_text}
use Rattle.dap_normalise.proofs.NormalFormLaws.{normal_stands_still}
use Rattle.dap_normalise.proofs.laws.normal_form_stands.Goals as goal

pub returns : goal.returns
returns c = record {
  form = has_one_normal_form;
  accepted = normal_accepted;
  some_text = accepted_is_normalised;
  one_text = one_normal_text;
  still = normal_stands_still;
}
