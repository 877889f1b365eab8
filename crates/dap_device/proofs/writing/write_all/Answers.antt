use Rattle.std.proofs.Common.{◌<◌, drop, length, sym, refl, ◌∙◌, subst, arith}
use Rattle.std.proofs.lemmas.List.{take_rest, length-drop}
use Rattle.std.proofs.lemmas.Result.{err_from_is_err_and}
use Rattle.std.proofs.Math.Seq.{take-add}
use Rattle.std.specs.Io.KnownBytes.{Appends}
use Rattle.std.proofs.KnownBytes.{Appends-nil, Appends-trans}
use Rattle.dap_device.proofs.Sending.{front_then_fault, front_then_none}
use Rattle.dap_device.proofs.Sending.{nothing_awaits, some_of_both}
use Rattle.dap_device.proofs.writing.write_all.Goals as goal

pub loop-at-init : goal.loop-at-init
loop-at-init g c = record {
  within = omega arith;
  appended = Appends-nil (g.W.Sink.out c.args.writer.now);
  awaits = nothing_awaits g.W.Sink.unflushed c.args.writer.now c.args.writer.now refl;
  no_failure = refl;
}

pub loop-at-preserved : goal.loop-at-preserved
loop-at-preserved g c =
    let took = (rw (take_rest c.args.bytes.now c.loop-at.at) at c.in_ok-count.ensures).written in
    let some : 0 < c.in_ok-count.count = omega arith in
    record {
      within = omega (arith, took.fits, length-drop c.loop-at.at c.args.bytes.now);
      appended = subst (Appends (g.W.Sink.out c.args.writer.now) (g.W.Sink.out c.write.new.self))
          (sym (take-add c.loop-at.at c.in_ok-count.count c.args.bytes.now))
          (Appends-trans _ _ _ _ _ c.loop-at.invariant.appended took.appended);
      awaits = some_of_both g.W.Sink.unflushed c.args.writer.now c.loop-at.writer c.write.new.self
          c.loop-at.at c.in_ok-count.count c.loop-at.invariant.awaits took.awaits;
      no_failure = took.something some ∙ c.loop-at.invariant.no_failure;
    }

pub returns-in_err-count : goal.returns-in_err-count
returns-in_err-count g c =
    let because = err_from_is_err_and c.from_residual.result c.from_residual.ensures.1 in
    rw (because.1)
    (front_then_fault g.W.Sink c.args.writer.now c.loop-at.writer c.write.new.self
    c.args.bytes.now c.loop-at.at c.loop-at.invariant.within c.loop-at.invariant.appended
    c.loop-at.invariant.awaits c.loop-at.invariant.no_failure c.in_err-count.ensures.written)

pub returns-then-count-eq0 : goal.returns-then-count-eq0
returns-then-count-eq0 g c =
    let took = (rw (take_rest c.args.bytes.now c.loop-at.at) at c.in_ok-count.ensures).written in
    let some : 0 < length (drop c.loop-at.at c.args.bytes.now) =
    omega (arith, length-drop c.loop-at.at c.args.bytes.now) in
    front_then_none g.W.Sink c.args.writer.now c.loop-at.writer c.write.new.self
    c.args.bytes.now c.loop-at.at c.loop-at.invariant.within c.loop-at.invariant.appended
    c.loop-at.invariant.awaits c.loop-at.invariant.no_failure
    (drop c.loop-at.at c.args.bytes.now) c.in_ok-count.count c.if-count-eq0.true some took
