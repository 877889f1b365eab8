use Rattle.dap_tree.proofs.Paths.{get-change, get-change_other, at-change, at-change_other}
use Rattle.dap_tree.proofs.laws.changes_one_member.Goals as goal

pub returns : goal.returns
returns c = record {
  member = get-change;
  members = get-change_other;
  path = λ k f d rest. at-change k f rest d;
  paths = at-change_other;
}
