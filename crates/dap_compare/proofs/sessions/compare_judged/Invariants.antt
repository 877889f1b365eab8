use Rattle.std.proofs.Common.{◌≡◌, ◌-◌, length}
use Rattle.dap_stored.specs.Sessions.{messages_of}
use Rattle.dap_normalise.specs.JudgingSteps.{judge_limits, judge_mode}
use Rattle.dap_compare.proofs.SessionComparing.{HasReached}
use Rattle.dap_compare.proofs.sessions.compare_judged.Given as goal

abbrev pub invariant-records : goal.invariant-records
invariant-records g l = record {
  a : HasReached g.T.NameTable.numbers g.T.NameTable.limit (judge_limits l.fn.judge_a)
      (judge_mode l.fn.judge_a)
      (messages_of l.fn.a) l.place l.judge_a;
  b : HasReached g.T.NameTable.numbers g.T.NameTable.limit (judge_limits l.fn.judge_a)
      (judge_mode l.fn.judge_a)
      (messages_of l.fn.b) l.place l.judge_b;
  alike : a.normal ≡ b.normal;
}

abbrev pub decreases-records : goal.decreases-records
decreases-records g l = length (messages_of l.fn.a) - l.place
