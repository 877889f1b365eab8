use Rattle.dap_join.proofs.OneJoined.{not_both}
use Rattle.dap_join.proofs.laws.not_both.Goals as goal

pub returns : goal.returns
returns c = λ limits sound joining bytes written numbers because joins.
    not_both limits sound joining bytes written numbers joins because
