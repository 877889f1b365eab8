use Rattle.std.proofs.Common.{◌≡◌, ◌<◌, ◌≤◌, length, ap, ◌∙◌, arith}
use Rattle.std.specs.Vec.{with_items}
use Rattle.std.proofs.lemmas.List.{with_items_is}
use Rattle.std.proofs.lemmas.List.Elements.{All-same, All-from_all_within, AllWithin-upto}
use Rattle.dap_words.specs.Occurrences.{pairs_at, IsNextOf}
use Rattle.dap_words.proofs.OccurrenceSteps.{pairs_stay, rest_stays, next_moved}
use Rattle.dap_words.proofs.occurrences.move_on.Goals as goal

pub loop-occurrence-preserved : goal.loop-occurrence-preserved
loop-occurrence-preserved c =
    let l = c.loop-occurrence in
    let os = l.occurrence-items in
    let start = c.deref_mut-occurrence-items.result.now in
    let i = l.occurrence-index in
    let d = c.occurrence-item.result in
    let y = c.move_one.new.occurrence in
    let lt : i < length os = omega arith in
    let at_start : i < length start = omega arith in
    record {
      pairs = pairs_stay os start i d y c.move_one.ensures.pair ∙ l.invariant.pairs;
      next = λ earlier before next. next_moved os start i d y c.args.bytes.now earlier c.args.from lt
          at_start l.invariant.rest next (l.invariant.next earlier before next)
          (c.move_one.ensures.next earlier before);
      rest = rest_stays os start i d y l.invariant.rest;
    }

pub returns-clause-pairs : goal.returns-clause-pairs
returns-clause-pairs c =
    let v = c.args.occurrences.now in
    let os = c.loop-occurrence.occurrence-items in
    let same : length os ≡ v.len = omega arith in
    ap pairs_at (with_items_is v os same) ∙ c.loop-occurrence.invariant.pairs
    ∙ ap pairs_at c.deref_mut-occurrence-items.ensures.value

pub returns-clause-next : goal.returns-clause-next
returns-clause-next c = λ earlier before next.
    let v = c.args.occurrences.now in
    let s = c.args.bytes.now in
    let l = c.loop-occurrence in
    let os = l.occurrence-items in
    let start = c.deref_mut-occurrence-items.result.now in
    let same : length os ≡ v.len = omega arith in
    let past : length os ≤ l.occurrence-index = omega arith in
    let Next = IsNextOf s c.args.from in
    let done = l.invariant.next earlier before (All-same (IsNextOf s earlier) start v.items
    c.deref_mut-occurrence-items.ensures.value next) in
    All-same Next (with_items v os).items os (with_items_is v os same)
    (All-from_all_within Next os (AllWithin-upto Next os 0 l.occurrence-index (length os) past done))
