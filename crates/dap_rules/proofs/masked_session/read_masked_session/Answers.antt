use Rattle.std.proofs.Common.{Ok, refl, subst}
use Rattle.std.proofs.lemmas.Result.{err_from_is_err_and}
use Rattle.dap_input.specs.RecordSteps.{ReadsNextRecord}
use Rattle.dap_input.proofs.MemoryInputs.{memory}
use Rattle.dap_mask.specs.KeptRules.{mask_of}
use Rattle.dap_rules.proofs.MaskedSessionLoop.{all_masked, few_given, few_records, fewer, none_read}
use Rattle.dap_rules.proofs.MaskedSessionLoop.{not_pushed, not_read, pushed_on, within}
use Rattle.dap_rules.proofs.masked_session.read_masked_session.Goals as goal

pub loop-session-init : goal.loop-session-init
loop-session-init c =
    none_read c.args.limits c.requires.limits (mask_of c.args.rules.now) c.args.recording.now
    c.new-reader.result c.in-Ok.records _ c.new-reader.ensures
    (c.in-Ok.ensures c.args.limits.frame search) c.new-2.ensures c.new-3.ensures.items refl
    c.new-4.ensures.empty c.new-4.ensures.limit refl

pub next-requires-clause-number : goal.next-requires-clause-number
next-requires-clause-number c =
    few_records c.args.limits c.requires.limits (mask_of c.args.rules.now) c.args.recording.now
    c.loop-session.reader c.loop-session.records c.loop-session.written
    c.loop-session.session c.loop-session.invariant

pub next-requires-clause-given : goal.next-requires-clause-given
next-requires-clause-given c =
    few_given c.args.limits c.requires.limits (mask_of c.args.rules.now) c.args.recording.now
    c.loop-session.reader c.loop-session.records c.loop-session.written
    c.loop-session.session c.loop-session.invariant

pub push_masked-requires-clause-short : goal.push_masked-requires-clause-short
push_masked-requires-clause-short c = within c.loop-session.invariant

pub push_masked-requires-clause-represents : goal.push_masked-requires-clause-represents
push_masked-requires-clause-represents c =
    let was = c.loop-session.invariant in (was.values, was.represents)

pub returns-in_err-whole-clause-err : goal.returns-in_err-whole-clause-err
returns-in_err-whole-clause-err c =
    let because = err_from_is_err_and c.from_residual.result c.from_residual.ensures.1 in
    let was = c.loop-session.invariant in
    rw (because.1, because.2)
    (not_read c.args.limits c.requires.limits (mask_of c.args.rules.now) c.args.recording.now
    c.loop-session.reader c.loop-session.records c.loop-session.written c.loop-session.session was
    c.next.new.self c.next.new.reader _
    (c.in_err-whole.ensures c.args.limits.frame was.judged.behind.between))

pub returns-in_default-2-clause-ok : goal.returns-in_default-2-clause-ok
returns-in_default-2-clause-ok c =
    let was = c.loop-session.invariant in
    all_masked c.args.limits c.requires.limits (mask_of c.args.rules.now) c.args.recording.now
    c.loop-session.reader c.loop-session.records c.loop-session.written c.loop-session.session was
    c.next.new.self c.next.new.reader
    (subst (λ o. ReadsNextRecord c.args.limits.frame memory c.loop-session.records c.next.new.self
    c.loop-session.reader c.next.new.reader (Ok o)) c.in_default-2.is
    (c.in_ok-whole.ensures c.args.limits.frame was.judged.behind.between))

pub returns-in_err-written-clause-err : goal.returns-in_err-written-clause-err
returns-in_err-written-clause-err c =
    let because = err_from_is_err_and c.from_residual-in_err-written.result
    c.from_residual-in_err-written.ensures.1 in
    let was = c.loop-session.invariant in
    let read = subst (λ o. ReadsNextRecord c.args.limits.frame memory c.loop-session.records
    c.next.new.self c.loop-session.reader c.next.new.reader (Ok o)) c.in-Some.is
    (c.in_ok-whole.ensures c.args.limits.frame was.judged.behind.between) in
    rw (because.1, because.2)
    (not_pushed c.args.limits c.requires.limits (mask_of c.args.rules.now) c.args.recording.now
    c.loop-session.reader c.loop-session.records c.loop-session.written c.loop-session.session was
    c.next.new.self c.next.new.reader c.in-Some.whole read _ c.push_masked.new.session
    (rw c.number-number.ensures at c.in_err-written.ensures was.values was.represents))

pub loop-session-preserved : goal.loop-session-preserved
loop-session-preserved c =
    let was = c.loop-session.invariant in
    let read = subst (λ o. ReadsNextRecord c.args.limits.frame memory c.loop-session.records
    c.next.new.self c.loop-session.reader c.next.new.reader (Ok o)) c.in-Some.is
    (c.in_ok-whole.ensures c.args.limits.frame was.judged.behind.between) in
    rw c.recycle.ensures
    (pushed_on c.args.limits c.requires.limits (mask_of c.args.rules.now) c.args.recording.now
    c.loop-session.reader c.loop-session.records c.loop-session.written c.loop-session.session was
    c.next.new.self c.next.new.reader c.in-Some.whole read c.push_masked.new.session
    c.in_ok-written.written (c.in_ok-written.ensures was.values was.represents))

pub loop-session-smaller : goal.loop-session-smaller
loop-session-smaller c =
    let was = c.loop-session.invariant in
    let read = subst (λ o. ReadsNextRecord c.args.limits.frame memory c.loop-session.records
    c.next.new.self c.loop-session.reader c.next.new.reader (Ok o)) c.in-Some.is
    (c.in_ok-whole.ensures c.args.limits.frame was.judged.behind.between) in
    rw c.recycle.ensures
    (fewer c.args.limits c.requires.limits (mask_of c.args.rules.now) c.args.recording.now
    c.loop-session.reader c.loop-session.records c.loop-session.written c.loop-session.session was
    c.next.new.self c.next.new.reader c.in-Some.whole read)
