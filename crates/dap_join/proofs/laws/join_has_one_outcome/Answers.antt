use Rattle.dap_join.proofs.Outcomes.{one_refusal, some_join}
use Rattle.dap_join.proofs.laws.join_has_one_outcome.Goals as goal

pub returns : goal.returns
returns c = λ limits sound joining bytes. record {
  some = some_join limits sound joining bytes;
  one_refusal = one_refusal limits sound joining bytes;
}
