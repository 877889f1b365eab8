use Rattle.std.proofs.Common.{ap, refl, sym}
use Rattle.dap_device.specs.Pieces.{Window}
use Rattle.dap_input.proofs.Draining.{drain_on, drained, no_piece, some_piece}
use Rattle.dap_input.proofs.RecordLoop.{counted_on}
use Rattle.dap_input.proofs.records.Records.drain.Goals as goal

pub loop-self-preserved : goal.loop-self-preserved
loop-self-preserved g c =
    let got = some_piece g.R.Source
    c.loop-self.self.pieces c.fill.new.self c.loop-self.reader c.fill.new.reader c.fill.result
    (sym c.loop-self-test.ensures.value) c.fill.ensures in
    record {
      counted = counted_on g.R.Source c.args.self.now
          c.loop-self.self _ c.args.reader.now c.loop-self.reader c.fill.new.reader c.fill.new.self
          c.loop-self.invariant.counted got (ap (λ (w : Window). w.taken) c.skip.ensures)
          (ap (λ (w : Window). w.limit) c.skip.ensures) refl;
      came = drain_on g.R.Source c.args.self.now
          c.args.reader.now c.loop-self.self c.loop-self.reader c.loop-self.invariant.came _
          c.fill.new.self c.fill.new.reader got (ap (λ (w : Window). w.taken) c.skip.ensures)
          (ap (λ (w : Window). w.limit) c.skip.ensures);
    }

pub returns-clause-rest : goal.returns-clause-rest
returns-clause-rest g c = λ goes_on le.
    let none = no_piece g.R.Source
    c.loop-self.self.pieces c.fill.new.self c.loop-self.reader c.fill.new.reader c.fill.result
    (sym c.loop-self-test.ensures.value) c.fill.ensures in
    drained g.R.Source c.args.self.now
    c.args.reader.now c.loop-self.self c.loop-self.reader c.loop-self.invariant.came
    c.fill.new.reader none.0 none.1 le
