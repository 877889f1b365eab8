use Rattle.std.proofs.Common.{refl}
use Rattle.dap_compare.proofs.verdict.CompareRefused.of.Goals as goal

pub returns-in_default : goal.returns-in_default
returns-in_default c = (λ memory. absurd (c.in_default.not-Memory memory), λ other. refl)
