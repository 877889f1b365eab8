use Rattle.std.proofs.Common.{ap, ◌-◌, ◌∙◌, sym}
use Rattle.std.proofs.lemmas.Result.{err_from_is_err_and}
use Rattle.dap_show.proofs.Framing.{few_failed, few_given, few_records, fewer, found, go_on}
use Rattle.dap_show.proofs.Framing.{missing, none_sought, not_framed}
use Rattle.dap_show.proofs.one_record.find_record.Goals as goal

pub each-init : goal.each-init
each-init g c =
    none_sought c.args.limits g.R.Source c.args.number c.args.reader.now c.args.records.now
    c.requires.start

pub next-requires-clause-number : goal.next-requires-clause-number
next-requires-clause-number g c =
    few_records c.args.limits g.R.Source c.args.number c.args.reader.now c.each.reader
    c.each.records c.each.invariant c.requires.sound.input

pub next-requires-clause-given : goal.next-requires-clause-given
next-requires-clause-given g c =
    few_given c.args.limits g.R.Source c.args.number c.args.reader.now c.each.reader
    c.each.records c.each.invariant c.requires.sound.input c.requires.reader.0

pub next-requires-clause-failures : goal.next-requires-clause-failures
next-requires-clause-failures g c =
    few_failed c.args.limits g.R.Source c.args.number c.args.reader.now c.each.reader
    c.each.records c.each.invariant c.requires.reader.1

pub returns-in_err-whole : goal.returns-in_err-whole
returns-in_err-whole g c =
    let because = err_from_is_err_and c.from_residual.result c.from_residual.ensures.1 in
    rw (because.1, because.2)
    (not_framed c.args.limits g.R.Source c.args.number c.args.reader.now c.each.reader
    c.each.records c.each.invariant c.next.new.self c.next.new.reader _
    (c.in_err-whole.ensures c.args.limits.frame c.each.invariant.going.behind.between))

pub returns-in_default : goal.returns-in_default
returns-in_default g c =
    missing c.args.limits g.R.Source c.args.number c.args.reader.now c.each.reader
    c.each.records c.each.invariant c.next.new.self c.next.new.reader _
    (ap (λ n. n - 1) c.number-at.ensures)
    (rw c.in_default.is at
    (c.in_ok-whole.ensures c.args.limits.frame c.each.invariant.going.behind.between))

pub returns-then-at-number : goal.returns-then-at-number
returns-then-at-number g c =
    found c.args.limits g.R.Source c.args.number c.args.reader.now c.each.reader
    c.each.records c.each.invariant c.next.new.self c.next.new.reader c.in-Some.whole
    (sym c.number-at.ensures ∙ c.if-at-number.true)
    (rw c.in-Some.is at
    (c.in_ok-whole.ensures c.args.limits.frame c.each.invariant.going.behind.between))

pub each-preserved : goal.each-preserved
each-preserved g c =
    rw c.recycle.ensures
    (go_on c.args.limits g.R.Source c.args.number c.args.reader.now c.each.reader
    c.each.records c.each.invariant c.next.new.self c.next.new.reader c.in-Some.whole
    (λ same. c.if-at-number.false (c.number-at.ensures ∙ same))
    (rw c.in-Some.is at
    (c.in_ok-whole.ensures c.args.limits.frame c.each.invariant.going.behind.between)))

pub each-smaller : goal.each-smaller
each-smaller g c =
    rw c.recycle.ensures
    (fewer c.args.limits g.R.Source c.args.number c.args.reader.now c.each.reader
    c.each.records c.each.invariant c.next.new.self c.next.new.reader c.in-Some.whole
    (rw c.in-Some.is at
    (c.in_ok-whole.ensures c.args.limits.frame c.each.invariant.going.behind.between)))
