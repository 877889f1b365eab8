use Rattle.dap_rename.proofs.NormalForms.{same_counts, front_has_few_ids}
use Rattle.dap_rename.proofs.Sameness.{same_fronts}
use Rattle.dap_rename.proofs.laws.same_share.Goals as goal

pub returns : goal.returns
returns c = record {
  fronts = same_fronts;
  counts = same_counts;
  few = front_has_few_ids;
}
