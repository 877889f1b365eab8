use Rattle.std.proofs.Common.{ap, sym}
use Rattle.dap_device.specs.Pieces.{Window}
use Rattle.dap_input.proofs.Draining.{no_piece, some_piece}
use Rattle.dap_record.proofs.PieceLoop.{drop_on, drop_start, dropped}
use Rattle.dap_record.proofs.tracing.drop_rest.Goals as goal

pub loop-pieces-init : goal.loop-pieces-init
loop-pieces-init g c = drop_start g.R.Source c.args.pieces.now c.args.reader.now

pub loop-pieces-preserved : goal.loop-pieces-preserved
loop-pieces-preserved g c =
    let got = some_piece g.R.Source
    c.loop-pieces.pieces c.fill.new.self c.loop-pieces.reader c.fill.new.reader c.fill.result
    (sym c.loop-pieces-test.ensures.value) c.fill.ensures in
    drop_on g.R.Source c.args.pieces.now c.loop-pieces.pieces c.args.reader.now
    c.loop-pieces.reader c.loop-pieces.invariant _ c.fill.new.self c.fill.new.reader got
    (ap (λ (w : Window). w.taken) c.skip.ensures) (ap (λ (w : Window). w.limit) c.skip.ensures)

pub returns : goal.returns
returns g c = λ le.
    let none = no_piece g.R.Source
    c.loop-pieces.pieces c.fill.new.self c.loop-pieces.reader c.fill.new.reader c.fill.result
    (sym c.loop-pieces-test.ensures.value) c.fill.ensures in (
      none.0,
      dropped g.R.Source c.args.pieces.now c.loop-pieces.pieces c.args.reader.now
          c.loop-pieces.reader c.loop-pieces.invariant c.fill.new.reader none.0 none.1 le,
    )
