use Rattle.std.proofs.lemmas.Result.{err_from_is_err_and}
use Rattle.dap_show.proofs.ViewingLoop.{all_viewed, few_failed, few_given, few_records, fewer}
use Rattle.dap_show.proofs.ViewingLoop.{none_viewed, not_entered, not_read, one_more}
use Rattle.dap_show.proofs.viewing.view_records.Goals as goal

pub each-init : goal.each-init
each-init g c =
    none_viewed c.args.view g.R.Source
    c.args.reader.now c.args.records.now c.new-session.result c.args.lines.now.items
    c.args.first.now c.requires.start c.new-session.ensures c.requires.lines c.requires.first

pub next-requires-clause-number : goal.next-requires-clause-number
next-requires-clause-number g c =
    few_records c.args.view g.R.Source
    c.args.reader.now c.each.reader c.each.records c.each.session c.each.lines.items c.each.first
    c.each.invariant c.requires.sound.input

pub next-requires-clause-given : goal.next-requires-clause-given
next-requires-clause-given g c =
    few_given c.args.view g.R.Source
    c.args.reader.now c.each.reader c.each.records c.each.session c.each.lines.items c.each.first
    c.each.invariant c.requires.sound.input c.requires.reader.0

pub next-requires-clause-failures : goal.next-requires-clause-failures
next-requires-clause-failures g c =
    few_failed c.args.view g.R.Source
    c.args.reader.now c.each.reader c.each.records c.each.session c.each.lines.items c.each.first
    c.each.invariant c.requires.reader.1

pub returns-in_err-whole : goal.returns-in_err-whole
returns-in_err-whole g c =
    let because = err_from_is_err_and c.from_residual.result c.from_residual.ensures.1 in
    rw (because.1, because.2)
    (not_read c.args.view g.R.Source
    c.args.reader.now c.each.reader c.each.records c.each.session c.each.lines.items c.each.first
    c.each.invariant c.next.new.self c.next.new.reader _
    (c.in_err-whole.ensures c.args.view.limits.frame c.each.invariant.going.behind.between))

pub returns-in_default : goal.returns-in_default
returns-in_default g c =
    all_viewed c.args.view g.R.Source
    c.args.reader.now c.each.reader c.each.records c.each.session c.each.lines.items c.each.first
    c.each.invariant c.next.new.self c.next.new.reader (tt {0})
    (rw c.in_default.is at
    (c.in_ok-whole.ensures c.args.view.limits.frame c.each.invariant.going.behind.between))

pub returns-in_err-refusal : goal.returns-in_err-refusal
returns-in_err-refusal g c =
    let because = err_from_is_err_and c.from_residual-in_err-refusal.result
    c.from_residual-in_err-refusal.ensures.1 in
    let was = c.each.invariant in
    let read = rw c.in-Some.is at
    (c.in_ok-whole.ensures c.args.view.limits.frame was.going.behind.between) in
    rw (because.1, because.2)
    (not_entered c.args.view g.R.Source
    c.args.reader.now c.each.reader c.each.records c.each.session c.each.lines.items c.each.first
    was c.next.new.self c.next.new.reader c.in-Some.whole c.append_entry.new.lines.items _
    read
    (rw c.number-number.ensures at c.in_err-refusal.ensures was.entries was.session_is
    was.shown.lines_are was.going.behind.number_is))

pub each-preserved : goal.each-preserved
each-preserved g c =
    let was = c.each.invariant in
    let read = rw c.in-Some.is at
    (c.in_ok-whole.ensures c.args.view.limits.frame was.going.behind.between) in
    rw c.recycle.ensures
    (one_more c.args.view g.R.Source
    c.args.reader.now c.each.reader c.each.records c.each.session c.each.lines.items c.each.first
    was c.next.new.self c.next.new.reader c.in-Some.whole c.append_entry.new.session
    c.append_entry.new.lines.items c.in_ok-refusal.refusal c.or.result read
    (rw c.number-number.ensures at c.in_ok-refusal.ensures was.entries was.session_is
    was.shown.lines_are was.going.behind.number_is)
    c.or.ensures)

pub each-smaller : goal.each-smaller
each-smaller g c =
    let was = c.each.invariant in
    rw c.recycle.ensures
    (fewer c.args.view g.R.Source
    c.args.reader.now c.each.reader c.each.records c.each.session c.each.lines.items c.each.first
    was c.next.new.self c.next.new.reader c.in-Some.whole
    (rw c.in-Some.is at
    (c.in_ok-whole.ensures c.args.view.limits.frame was.going.behind.between)))
