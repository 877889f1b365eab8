use Rattle.std.proofs.Common.{◌≡◌, ◌++◌, take, drop}
use Rattle.dap_mask.specs.Runs.{has_class, front, behind}
use Rattle.dap_mask.proofs.runs.split_run.Given as goal

-- the bytes before the index are of the class
abbrev pub invariant-loop-i : goal.invariant-loop-i
invariant-loop-i l = record {
  before : front (has_class l.class) l.text ≡ take l.i l.text
      ++ front (has_class l.class) (drop l.i l.text);
  rest : behind (has_class l.class) l.text ≡ behind (has_class l.class) (drop l.i l.text);
}
