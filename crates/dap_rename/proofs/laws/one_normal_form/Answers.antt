use Rattle.dap_rename.proofs.Sameness.{fresh_is_unique, normal_is_unique, normal_is_complete}
use Rattle.dap_rename.proofs.Sameness.{normal_is_its_own}
use Rattle.dap_rename.proofs.laws.one_normal_form.Goals as goal

pub returns : goal.returns
returns c = record {
  fresh = fresh_is_unique;
  unique = normal_is_unique;
  complete = normal_is_complete;
  own = normal_is_its_own;
}
