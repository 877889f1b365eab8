use Rattle.dap_compare.proofs.Verdicts.{recordings_have_one_verdict, same_is_told_exactly}
use Rattle.dap_compare.proofs.Verdicts.{same_is_carried}
use Rattle.dap_compare.proofs.laws.two_recordings_have_one_verdict.Goals as goal

pub returns : goal.returns
returns c = record {
  one = recordings_have_one_verdict;
  same = same_is_told_exactly;
  carried = same_is_carried;
}
