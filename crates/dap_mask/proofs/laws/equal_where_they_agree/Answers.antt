use Rattle.dap_mask.proofs.ByPath.{agree_from_equal, equal_from_agree}
use Rattle.dap_mask.proofs.laws.equal_where_they_agree.Goals as goal

pub returns : goal.returns
returns c = λ rs d e safe o q. (agree_from_equal rs d e safe, equal_from_agree rs d e safe q)
