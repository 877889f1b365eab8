use Rattle.std.proofs.Common.{inr, refl}
use Rattle.dapnorm.proofs.answer.Answer.print.Goals as goal

pub returns-in-Err : goal.returns-in-Err
returns-in-Err g c = inr (c.in-Err.ensures, rw (c.fault.ensures) at c.report_line.ensures, refl)
