use Rattle.std.proofs.Common.{Ok, subst}
use Rattle.std.proofs.lemmas.Result.{err_from_is_err_and}
use Rattle.dap_input.specs.RecordSteps.{ReadsNextRecord}
use Rattle.dap_input.proofs.MemoryInputs.{memory}
use Rattle.dap_join.proofs.Reading.{added, all_read, few_given, few_records, fewer, none_read}
use Rattle.dap_join.proofs.Reading.{not_read}
use Rattle.dap_join.proofs.joined.join_records.Goals as goal

pub records-init : goal.records-init
records-init c =
    none_read c.args.limits c.requires.limits c.args.joining c.args.recording.now
    c.new-reader.result c.in-Ok.records c.args.joiner.now c.new-reader.ensures
    (c.in-Ok.ensures c.args.limits.frame search) c.requires.empty

pub next-requires-clause-number : goal.next-requires-clause-number
next-requires-clause-number c =
    few_records c.args.limits c.requires.limits c.args.joining c.args.recording.now
    c.records.reader c.records.records c.records.joiner c.records.invariant

pub next-requires-clause-given : goal.next-requires-clause-given
next-requires-clause-given c =
    few_given c.args.limits c.requires.limits c.args.joining c.args.recording.now
    c.records.reader c.records.records c.records.joiner c.records.invariant

pub returns-in_err-whole-clause-err : goal.returns-in_err-whole-clause-err
returns-in_err-whole-clause-err c =
    let because = err_from_is_err_and c.from_residual.result c.from_residual.ensures.1 in
    let was = c.records.invariant in
    rw (because.1, because.2)
    (not_read c.args.limits c.requires.limits c.args.joining c.args.recording.now
    c.records.reader c.records.records c.records.joiner was c.next.new.self c.next.new.reader _
    (c.in_err-whole.ensures c.args.limits.frame was.judged.behind.between))

pub returns-in_default-2-clause-ok : goal.returns-in_default-2-clause-ok
returns-in_default-2-clause-ok c =
    let was = c.records.invariant in
    all_read c.args.limits c.requires.limits c.args.joining c.args.recording.now
    c.records.reader c.records.records c.records.joiner was c.next.new.self c.next.new.reader
    (subst (λ o. ReadsNextRecord c.args.limits.frame memory c.records.records c.next.new.self
    c.records.reader c.next.new.reader (Ok o)) c.in_default-2.is
    (c.in_ok-whole.ensures c.args.limits.frame was.judged.behind.between))

pub records-preserved : goal.records-preserved
records-preserved c =
    let was = c.records.invariant in
    let read = subst (λ o. ReadsNextRecord c.args.limits.frame memory c.records.records
    c.next.new.self c.records.reader c.next.new.reader (Ok o)) c.in-Some.is
    (c.in_ok-whole.ensures c.args.limits.frame was.judged.behind.between) in
    rw c.recycle.ensures
    (added c.args.limits c.requires.limits c.args.joining c.args.recording.now
    c.records.reader c.records.records c.records.joiner was
    c.next.new.self c.next.new.reader c.in-Some.whole read c.add.new.self
    (rw c.number-number.ensures at c.in-Ok-add.ensures))

pub records-smaller : goal.records-smaller
records-smaller c =
    let was = c.records.invariant in
    let read = subst (λ o. ReadsNextRecord c.args.limits.frame memory c.records.records
    c.next.new.self c.records.reader c.next.new.reader (Ok o)) c.in-Some.is
    (c.in_ok-whole.ensures c.args.limits.frame was.judged.behind.between) in
    rw c.recycle.ensures
    (fewer c.args.limits c.requires.limits c.args.joining c.args.recording.now
    c.records.reader c.records.records c.records.joiner was
    c.next.new.self c.next.new.reader c.in-Some.whole read)
