use Rattle.std.proofs.Common.{ap, arith, refl}
use Rattle.dap_device.specs.Pieces.{Window}
use Rattle.dap_input.proofs.records.Records.new.Goals as goal

pub returns : goal.returns
returns g c = λ limits represents.
    let taken = ap (λ (w : Window). w.taken) c.in_ok-new.ensures in
    let limit = ap (λ (w : Window). w.limit) c.in_ok-new.ensures in
    record {
      between = record { reads = represents; within = omega (arith, taken, limit); goes_on = refl };
      pieces = c.in_ok-new.ensures;
      number = refl;
    }
