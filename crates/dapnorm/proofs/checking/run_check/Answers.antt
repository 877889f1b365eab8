use Rattle.std.proofs.Common.{Some, inr, refl}
use Rattle.dapnorm.proofs.checking.run_check.Goals as goal

pub returns-in-Ok-check_made-clause-run : goal.returns-in-Ok-check_made-clause-run
returns-in-Ok-check_made-clause-run g c = inr (
  Some c.in-Ok-Some.rules,
  rw c.in-Ok-Some.field-0-is at c.in-Ok-Some.ensures,
  (c.in-Ok.recording, c.in-Ok.ensures.reads, c.in-Ok-check_made.ensures),
)

pub returns-clause-run : goal.returns-clause-run
returns-clause-run g c = inr (
  Some c.in-Ok-Some.rules,
  rw c.in-Ok-Some.field-0-is at c.in-Ok-Some.ensures,
  (
    refl,
    (c.in-Ok.recording, c.in-Ok.ensures.reads, c.in-Err-check_made.ensures),
  ),
)
