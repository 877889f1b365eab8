use Rattle.std.proofs.Common.{Err, ap, sym, subst}
use Rattle.std.proofs.lemmas.List.{take_rest}
use Rattle.std.proofs.lemmas.Result.{err_from_is_err_and}
use Rattle.dap_record.proofs.RawRunLoop.{RunGoesOn, run_refused, run_taken}
use Rattle.dap_record.proofs.tracing.record_run.Goals as goal

pub returns-in_err-used : goal.returns-in_err-used
returns-in_err-used c =
    let because =
    err_from_is_err_and c.from_residual.result c.from_residual.ensures.1 in λ limits taken was.
    rw (because.1, because.2)
    (run_refused c.args.recorder.now c.loop-rest.recorder c.piece.new.self c.args.side
    c.args.run.now c.loop-rest.rest.now c.loop-rest.invariant (Unit {0}) c.in_err-used.field-0.0
    c.in_err-used.ensures.gives (λ memory. c.in_err-used.ensures.memory_for_record (ap Err memory))
    limits taken was)

pub loop-rest-preserved : goal.loop-rest-preserved
loop-rest-preserved c =
    subst (RunGoesOn c.args.recorder.now c.piece.new.self c.args.side c.args.run.now)
    (sym (take_rest c.loop-rest.rest.now c.in_ok-used.used))
    (run_taken c.args.recorder.now c.loop-rest.recorder c.piece.new.self c.args.side c.args.run.now
    c.loop-rest.rest.now c.loop-rest.invariant c.in_ok-used.used c.in_ok-used.ensures.gives
    c.in_ok-used.ensures.limits)
