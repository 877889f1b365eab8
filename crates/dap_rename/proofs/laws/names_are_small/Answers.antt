use Rattle.dap_rename.proofs.NormalForms.{names_are_counted, names_are_small}
use Rattle.dap_rename.proofs.laws.names_are_small.Goals as goal

pub returns : goal.returns
returns c = record {
  counted = names_are_counted;
  small = names_are_small;
}
