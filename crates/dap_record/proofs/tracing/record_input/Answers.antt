use Rattle.std.proofs.Common.{[], length, Ok, Err, ap, arith}
use Rattle.dap_device.specs.Pieces.{Window}
use Rattle.dap_input.proofs.Coming.{nothing_came}
use Rattle.dap_record.proofs.PieceLoop.{at_start, few_failures, given_small, goes_on, no_failure}
use Rattle.dap_record.proofs.PieceLoop.{of_piece, refused, room, smaller, stopped}
use Rattle.dap_record.proofs.TracingLoop.{start}
use Rattle.dap_record.proofs.tracing.record_input.Goals as goal

pub loop-stop-init : goal.loop-stop-init
loop-stop-init g c =
    at_start g.R.Source c.args.limits c.args.reader.now c.args.reader.now c.args.pieces.now
    c.new-trace.result c.args.recorder.now c.requires.at_start
    (nothing_came g.R.Source c.args.reader.now)
    (start c.args.limits [] c.new-trace.result c.args.recorder.now c.requires.sound (omega arith)
    c.new-trace.ensures c.requires.new c.requires.empty c.requires.its_limits)

pub fill-requires-clause-given : goal.fill-requires-clause-given
fill-requires-clause-given g c =
    given_small g.R.Source c.args.limits c.args.reader.now c.loop-stop.reader c.loop-stop.pieces
    c.loop-stop.trace c.loop-stop.recorder c.loop-stop.last c.loop-stop.invariant
    c.requires.sound.input c.requires.reader.0

pub fill-requires-clause-failures : goal.fill-requires-clause-failures
fill-requires-clause-failures g c =
    few_failures g.R.Source c.args.limits c.args.reader.now c.loop-stop.reader c.loop-stop.pieces
    c.loop-stop.trace c.loop-stop.recorder c.loop-stop.last c.loop-stop.invariant
    c.requires.reader.1

pub end_trace-requires-clause-represents : goal.end_trace-requires-clause-represents
end_trace-requires-clause-represents g c =
    (c.loop-stop.invariant.bytes, c.loop-stop.invariant.traced)

pub returns-in-Err : goal.returns-in-Err
returns-in-Err g c =
    let ended = stopped g.R.Source c.args.limits c.args.reader.now c.loop-stop.reader
    c.loop-stop.pieces c.loop-stop.trace c.loop-stop.recorder c.loop-stop.last c.loop-stop.invariant
    c.fill.new.reader c.in-Err.stop c.in-Err.ensures.2 in
    record {
      bytes = ended.bytes;
      stop = c.in-Err.stop;
      came = ended.came;
      traces = c.end_trace.ensures c.loop-stop.invariant.bytes ended.bytes
          c.loop-stop.invariant.traced ended.is_front ended.fits;
    }

pub drop_rest-requires-clause-given : goal.drop_rest-requires-clause-given
drop_rest-requires-clause-given g c =
    room g.R.Source c.args.limits c.args.reader.now c.loop-stop.reader c.loop-stop.pieces
    c.loop-stop.trace c.loop-stop.recorder c.loop-stop.last c.loop-stop.invariant
    c.fill.new.self c.fill.new.reader c.in_default.ensures
    c.requires.sound.input c.requires.reader.0

pub drop_rest-requires-clause-failures : goal.drop_rest-requires-clause-failures
drop_rest-requires-clause-failures g c =
    no_failure g.R.Source c.args.limits c.args.reader.now c.loop-stop.reader c.loop-stop.pieces
    c.loop-stop.trace c.loop-stop.recorder c.loop-stop.last c.loop-stop.invariant
    c.fill.new.self c.fill.new.reader c.in_default.ensures
    c.requires.reader.1

pub returns-in-Err-record_piece : goal.returns-in-Err-record_piece
returns-in-Err-record_piece g c =
    let rest = c.drop_rest.ensures c.in_default.ensures.within in
    refused g.R.Source c.args.limits c.args.reader.now c.loop-stop.reader c.loop-stop.pieces
    c.loop-stop.trace c.loop-stop.recorder c.loop-stop.last c.loop-stop.invariant
    c.fill.new.self c.fill.new.reader c.in_default.ensures
    c.in-Err-record_piece.refused c.record_piece.new.recorder
    (of_piece g.R.Source c.args.limits c.args.reader.now c.loop-stop.reader c.loop-stop.pieces
    c.loop-stop.trace c.loop-stop.recorder c.loop-stop.last c.loop-stop.invariant
    c.fill.new.self c.fill.new.reader c.in_default.ensures
    c.requires.sound c.unread.result.now c.unread.ensures c.record_piece.new.trace
    c.record_piece.new.recorder (Err c.in-Err-record_piece.refused)
    c.in-Err-record_piece.ensures) c.drop_rest.new.reader rest.0 rest.1

pub loop-stop-smaller : goal.loop-stop-smaller
loop-stop-smaller g c =
    smaller g.R.Source c.args.limits c.args.reader.now c.loop-stop.reader c.loop-stop.pieces
    c.loop-stop.trace c.loop-stop.recorder c.loop-stop.last c.loop-stop.invariant
    c.fill.new.self c.fill.new.reader c.in_default.ensures
    c.skip.new.self (ap (λ (w : Window). w.taken) c.skip.ensures)
    (ap (λ (w : Window). w.limit) c.skip.ensures)

pub loop-stop-preserved : goal.loop-stop-preserved
loop-stop-preserved g c =
    goes_on g.R.Source c.args.limits c.args.reader.now c.loop-stop.reader c.loop-stop.pieces
    c.loop-stop.trace c.loop-stop.recorder c.loop-stop.last c.loop-stop.invariant
    c.fill.new.self c.fill.new.reader c.in_default.ensures
    c.record_piece.new.trace c.record_piece.new.recorder c.in-Ok.piece
    (of_piece g.R.Source c.args.limits c.args.reader.now c.loop-stop.reader c.loop-stop.pieces
    c.loop-stop.trace c.loop-stop.recorder c.loop-stop.last c.loop-stop.invariant
    c.fill.new.self c.fill.new.reader c.in_default.ensures
    c.requires.sound c.unread.result.now c.unread.ensures c.record_piece.new.trace
    c.record_piece.new.recorder (Ok c.in-Ok.piece) c.in-Ok.ensures)
    _ _ (ap length c.unread-count.ensures) c.skip.ensures
