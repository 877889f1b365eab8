use Rattle.dap_rename.proofs.Sameness.{equal_places_rename, equal_places_carry}
use Rattle.dap_rename.proofs.laws.equal_places_carry.Goals as goal

pub returns : goal.returns
returns c = record {
  renaming = equal_places_rename;
  carry = equal_places_carry;
}
