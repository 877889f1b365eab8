use Rattle.std.proofs.Common.{Ok, sym, subst}
use Rattle.std.proofs.lemmas.Result.{err_from_is_err_and}
use Rattle.dap_input.specs.RecordSteps.{ReadsNextFrame}
use Rattle.dap_compact.proofs.CompactingLoop.{Compacting, few_failed, few_given, few_records, fewer}
use Rattle.dap_compact.proofs.CompactingLoop.{none_read, not_read, all_compacted, not_appended}
use Rattle.dap_compact.proofs.CompactingLoop.{one_more}
use Rattle.dap_compact.proofs.compacting.compact_records.Goals as goal

pub loop-out-init : goal.loop-out-init
loop-out-init g c =
    subst (Compacting c.args.limits g.R.Source
    c.args.reader.now c.args.reader.now c.args.records.now) (sym c.new-out.ensures.items)
    (none_read c.args.limits c.requires.sound g.R.Source c.args.reader.now c.args.records.now
    c.requires.start)

pub next-requires-clause-number : goal.next-requires-clause-number
next-requires-clause-number g c =
    few_records c.args.limits c.requires.sound g.R.Source c.args.reader.now c.loop-out.reader
    c.loop-out.records c.loop-out.out.items c.loop-out.invariant

pub next-requires-clause-given : goal.next-requires-clause-given
next-requires-clause-given g c =
    few_given c.args.limits c.requires.sound g.R.Source c.args.reader.now c.loop-out.reader
    c.loop-out.records c.loop-out.out.items c.loop-out.invariant c.requires.reader.0

pub next-requires-clause-failures : goal.next-requires-clause-failures
next-requires-clause-failures g c =
    few_failed c.args.limits c.requires.sound g.R.Source c.args.reader.now c.loop-out.reader
    c.loop-out.records c.loop-out.out.items c.loop-out.invariant c.requires.reader.1

pub returns-in_err-content : goal.returns-in_err-content
returns-in_err-content g c =
    let because = err_from_is_err_and c.from_residual.result c.from_residual.ensures.1 in
    rw (because.1, because.2)
    (not_read c.args.limits c.requires.sound g.R.Source c.args.reader.now c.loop-out.reader
    c.loop-out.records c.loop-out.out.items c.loop-out.invariant c.next.new.self c.next.new.reader _
    (c.in_err-content.ensures c.args.limits.frame c.loop-out.invariant.going.behind.between))

pub returns-in_default : goal.returns-in_default
returns-in_default g c =
    all_compacted c.args.limits c.requires.sound g.R.Source c.args.reader.now c.loop-out.reader
    c.loop-out.records c.loop-out.out.items c.loop-out.invariant c.next.new.self c.next.new.reader
    (subst (λ o. ReadsNextFrame c.args.limits.frame
    g.R.Source c.loop-out.records c.next.new.self
    c.loop-out.reader c.next.new.reader (Ok o)) c.in_default.is
    (c.in_ok-content.ensures c.args.limits.frame c.loop-out.invariant.going.behind.between))

pub returns-in_err-append_compact : goal.returns-in_err-append_compact
returns-in_err-append_compact g c =
    let because = err_from_is_err_and c.from_residual-in_err-append_compact.result
    c.from_residual-in_err-append_compact.ensures.1 in
    let read = subst
    (λ o. ReadsNextFrame c.args.limits.frame
    g.R.Source c.loop-out.records c.next.new.self
    c.loop-out.reader c.next.new.reader (Ok o)) c.in-Some.is
    (c.in_ok-content.ensures c.args.limits.frame c.loop-out.invariant.going.behind.between) in
    rw (because.1, because.2)
    (not_appended c.args.limits c.requires.sound g.R.Source c.args.reader.now c.loop-out.reader
    c.loop-out.records c.loop-out.out.items c.loop-out.invariant c.next.new.self c.next.new.reader
    c.in-Some.content c.append_compact.new.out.items _ read
    (rw (c.number-number.ensures, c.as_slice.ensures) at c.in_err-append_compact.ensures))

pub loop-out-preserved : goal.loop-out-preserved
loop-out-preserved g c =
    let read = subst
    (λ o. ReadsNextFrame c.args.limits.frame
    g.R.Source c.loop-out.records c.next.new.self
    c.loop-out.reader c.next.new.reader (Ok o)) c.in-Some.is
    (c.in_ok-content.ensures c.args.limits.frame c.loop-out.invariant.going.behind.between) in
    rw c.recycle.ensures
    (one_more c.args.limits c.requires.sound g.R.Source c.args.reader.now c.loop-out.reader
    c.loop-out.records
    c.loop-out.out.items c.loop-out.invariant c.next.new.self c.next.new.reader (tt {0})
    c.in-Some.content c.append_compact.new.out.items read
    (rw c.as_slice.ensures at c.in_ok-append_compact.ensures))

pub loop-out-smaller : goal.loop-out-smaller
loop-out-smaller g c =
    rw c.recycle.ensures
    (fewer c.args.limits c.requires.sound g.R.Source c.args.reader.now c.loop-out.reader
    c.loop-out.records c.loop-out.out.items c.loop-out.invariant c.next.new.self c.next.new.reader
    c.in-Some.content
    (subst (λ o. ReadsNextFrame c.args.limits.frame
    g.R.Source c.loop-out.records c.next.new.self
    c.loop-out.reader c.next.new.reader (Ok o)) c.in-Some.is
    (c.in_ok-content.ensures c.args.limits.frame c.loop-out.invariant.going.behind.between)))
