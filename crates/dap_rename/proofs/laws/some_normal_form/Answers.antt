use Rattle.dap_rename.proofs.NormalForms.{some_normal, whole_is_told}
use Rattle.dap_rename.proofs.Sameness.{named_is_normal}
use Rattle.dap_rename.proofs.Stops.{mode_is_told}
use Rattle.dap_rename.proofs.laws.some_normal_form.Goals as goal

pub returns : goal.returns
returns c = record {
  named = named_is_normal;
  some = some_normal;
  reported = whole_is_told;
  told_in_mode = mode_is_told;
}
