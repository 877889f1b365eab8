use Rattle.std.proofs.Common.{inl, inr, refl}
use Rattle.dap_tree.specs.Json.{HasFraction, HasNoReading, data_of}
use Rattle.dap_tree.proofs.Outcomes.{whole_or_fraction}
use Rattle.dap_join.proofs.joiner.read_event.Goals as goal

pub returns-in-Err-Json : goal.returns-in-Err-Json
returns-in-Err-Json c =
    let none : HasNoReading c.args.whole.now.content =
    rw (c.as_slice-content.ensures, c.in-Err-Json.field-0-is) at c.in-Err-Json.ensures.err in
    inr (λ d read. none (data_of d) read.0, refl)

pub returns-in-Err-Fraction : goal.returns-in-Err-Fraction
returns-in-Err-Fraction c =
    let float : HasFraction c.args.whole.now.content =
    rw (c.as_slice-content.ensures, c.in-Err-Fraction.field-0-is)
    at c.in-Err-Fraction.ensures.err in
    inr (λ d read. whole_or_fraction c.args.whole.now.content d read float, refl)
