use Rattle.dap_rename.proofs.NormalForms.{normal_of_front, normal_of_next}
use Rattle.dap_rename.proofs.laws.normal_form_grows.Goals as goal

pub returns : goal.returns
returns c = record {
  front = normal_of_front;
  next = normal_of_next;
}
