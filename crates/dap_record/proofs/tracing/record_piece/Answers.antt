use Rattle.std.proofs.Common.{arith, eqb, true, false, ◌≡◌, ◌<◌, ◌≤◌, ℕ, List, [], ◌∷◌, ◌++◌}
use Rattle.std.proofs.Common.{Err, length, take, sym, subst}
use Rattle.std.proofs.lemmas.Bool.{false≢true, eqb-true}
use Rattle.std.proofs.lemmas.List.{nil_from_length, take_all, take_rest}
use Rattle.dap_input.specs.declared.limits.Limits.{Limits}
use Rattle.dap_recording.specs.RecordedTraces.{bytes_of}
use Rattle.dap_record.specs.TracingSteps.{RecordsRun, Tracing}
use Rattle.dap_record.proofs.RawRunLoop.{run_done}
use Rattle.dap_record.proofs.TracingLoop.{fault_in_piece, fed_none, fed_run, longer, memory_in_run}
use Rattle.dap_record.proofs.TracingLoop.{no_run}
use Rattle.dap_record.proofs.TracingLoop.{piece_done, recorded_before, run_faulty, run_recorded}
use Rattle.dap_record.proofs.tracing.record_piece.Goals as goal

-- A slice that is found empty has no bytes left.
ended : (rest : List ℕ) → true ≡ eqb (length rest) 0 → rest ≡ []
ended rest is = nil_from_length rest (eqb-true _ 0 (sym is))

some_left : (rest : List ℕ) → false ≡ eqb (length rest) 0 → 0 < length rest
some_left [] is = absurd (false≢true is)
some_left (b ∷ rest) is = omega arith

pub loop-rest-init : goal.loop-rest-init
loop-rest-init c = λ limits bytes sound short was.
    longer limits sound bytes [] c.args.trace.now c.args.recorder.now c.args.last was
    c.args.piece.now short

-- Bytes within the limit are all consumed.
all_taken : (limits : Limits) (whole : List ℕ) → length whole ≤ limits.input
    → whole ≡ take limits.input whole
all_taken limits whole short = sym (take_all limits.input whole short)

pub returns-in-Err : goal.returns-in-Err
returns-in-Err c = λ limits bytes sound short was stop.
    let so_far = c.loop-rest.invariant limits bytes sound short was in
    fault_in_piece limits sound _ c.loop-rest.rest.now c.loop-rest.trace
    c.loop-rest.recorder c.loop-rest.last so_far (bytes ++ c.args.piece.now)
    (all_taken limits (bytes ++ c.args.piece.now) short) stop c.in-Err.fault c.feed.new.self
    (c.in-Err.ensures.gives _ _ _ so_far.reads)

pub loop-rest-preserved-in_default-record_run : goal.loop-rest-preserved-in_default-record_run
loop-rest-preserved-in_default-record_run c = λ limits bytes sound short was.
    let so_far = c.loop-rest.invariant limits bytes sound short was in
    let gives = c.in-Ok.ensures.gives _ _ _ so_far.reads in
    let run = fed_run _ _ _ c.loop-rest.rest.now c.in-Ok.fed c.feed.new.self gives c.in-Some.part
    c.in-Some.is in
    subst (λ rest. Tracing limits (bytes ++ c.args.piece.now) rest c.feed.new.self
    c.record_run.new.recorder c.in-Some.part.piece)
    (sym (take_rest c.loop-rest.rest.now c.in-Ok.fed.used))
    (run_recorded limits sound _ c.loop-rest.rest.now c.loop-rest.trace
    c.loop-rest.recorder c.loop-rest.last so_far
    c.in-Ok.fed.used c.in-Some.part.side c.in-Some.part.bytes.now c.feed.new.self gives.0 run.1
    c.record_run.new.recorder
    (run_done limits.frame c.record_run.new.recorder _ c.in-Some.part.side
    c.in-Some.part.bytes.now c.record_run.result c.in_default-record_run.not-Err
    (c.record_run.ensures _ _
    (recorded_before limits sound _ c.loop-rest.rest.now c.loop-rest.trace
    c.loop-rest.recorder c.loop-rest.last so_far)))
    c.in-Some.part.piece run.0)

pub returns-in-Memory : goal.returns-in-Memory
returns-in-Memory c = λ limits bytes sound short was stop.
    let so_far = c.loop-rest.invariant limits bytes sound short was in
    let gives = c.in-Ok.ensures.gives _ _ _ so_far.reads in
    let run = fed_run _ _ _ c.loop-rest.rest.now c.in-Ok.fed c.feed.new.self gives c.in-Some.part
    c.in-Some.is in
    let before = bytes_of so_far.so_far.pieces ++ so_far.so_far.raw in
    memory_in_run limits sound _ c.loop-rest.rest.now c.loop-rest.trace
    c.loop-rest.recorder c.loop-rest.last so_far
    c.in-Ok.fed.used c.in-Some.part.side c.in-Some.part.bytes.now c.feed.new.self gives.0 run.1
    (bytes ++ c.args.piece.now) (all_taken limits (bytes ++ c.args.piece.now) short)
    (subst (λ f. RecordsRun {U = Unit {0}} limits.frame c.record_run.new.recorder before
    c.in-Some.part.side c.in-Some.part.bytes.now (Err f)) c.in-Memory.is
    (c.in-Err-record_run.ensures limits.frame before
    (recorded_before limits sound _ c.loop-rest.rest.now c.loop-rest.trace
    c.loop-rest.recorder c.loop-rest.last so_far)))

pub returns-in_default-fault : goal.returns-in_default-fault
returns-in_default-fault c = λ limits bytes sound short was stop.
    let so_far = c.loop-rest.invariant limits bytes sound short was in
    let gives = c.in-Ok.ensures.gives _ _ _ so_far.reads in
    let run = fed_run _ _ _ c.loop-rest.rest.now c.in-Ok.fed c.feed.new.self gives c.in-Some.part
    c.in-Some.is in
    run_faulty limits sound _ c.loop-rest.rest.now c.loop-rest.trace
    c.loop-rest.recorder c.loop-rest.last so_far
    c.in-Ok.fed.used c.in-Some.part.side c.in-Some.part.bytes.now c.feed.new.self gives.0 run.1
    (bytes ++ c.args.piece.now) (all_taken limits (bytes ++ c.args.piece.now) short) stop
    c.record_run.new.recorder c.in-Some.part.piece
    c.in-Err-record_run.fault (Unit {0}) run.0
    c.in_default-fault.not-Memory
    (c.in-Err-record_run.ensures _ _
    (recorded_before limits sound _ c.loop-rest.rest.now c.loop-rest.trace
    c.loop-rest.recorder c.loop-rest.last so_far))

pub loop-rest-preserved : goal.loop-rest-preserved
loop-rest-preserved c = λ limits bytes sound short was.
    let so_far = c.loop-rest.invariant limits bytes sound short was in
    let gives = c.in-Ok.ensures.gives _ _ _ so_far.reads in
    let none = fed_none _ _ _ c.loop-rest.rest.now c.in-Ok.fed c.feed.new.self gives c.in_default.is
    in
    subst (λ rest. Tracing limits (bytes ++ c.args.piece.now) rest c.feed.new.self
    c.loop-rest.recorder c.loop-rest.last)
    (sym (take_rest c.loop-rest.rest.now c.in-Ok.fed.used))
    (no_run limits sound _ c.loop-rest.rest.now c.loop-rest.trace
    c.loop-rest.recorder c.loop-rest.last so_far
    c.in-Ok.fed.used c.feed.new.self none.0 none.1
    (some_left c.loop-rest.rest.now c.loop-rest-test.ensures))

pub returns : goal.returns
returns c = λ limits bytes sound short was.
    piece_done limits sound _ c.loop-rest.rest.now c.loop-rest.trace
    c.loop-rest.recorder c.loop-rest.last (c.loop-rest.invariant limits bytes sound short was)
    (ended c.loop-rest.rest.now c.loop-rest-test.ensures)
