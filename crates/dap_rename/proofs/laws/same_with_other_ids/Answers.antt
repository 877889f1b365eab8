use Rattle.dap_rename.proofs.MixedSameness.{same_by_parts}
use Rattle.dap_rename.proofs.laws.same_with_other_ids.Goals as goal

pub returns : goal.returns
returns c = same_by_parts
