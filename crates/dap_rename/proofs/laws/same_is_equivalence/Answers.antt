use Rattle.dap_rename.proofs.Sameness.{same_as_itself, same_both_ways, same_along, same_is_proper}
use Rattle.dap_rename.proofs.laws.same_is_equivalence.Goals as goal

pub returns : goal.returns
returns c = record {
  itself = same_as_itself;
  both_ways = same_both_ways;
  along = same_along;
  proper = same_is_proper;
}
