use Rattle.dap_golden.proofs.OneGoldenText.{golden_is_not_refused, one_golden_text}
use Rattle.dap_golden.proofs.laws.one_golden_text.Goals as goal

pub returns : goal.returns
returns c = record { one = one_golden_text; not_refused = golden_is_not_refused }
