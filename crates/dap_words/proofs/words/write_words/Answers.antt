use Rattle.std.proofs.Common.{◌≡◌, ℕ, ◌-◌, ◌≤◌, List, ◌++◌, take, drop, length, Option, Some, sym}
use Rattle.std.proofs.Common.{ap, ◌∙◌, subst, arith, rules}
use Rattle.std.proofs.lemmas.List.{take_all}
use Rattle.dap_words.specs.declared.occurrences.Occurrence.{Occurrence}
use Rattle.dap_words.specs.Words.{pairs_of, replaced}
use Rattle.dap_words.specs.Occurrences.{pair_at, pairs_at, AreNext, IsEarliest}
use Rattle.dap_words.proofs.ReplaceSteps.{rest_step, still_begun}
use Rattle.dap_words.proofs.OccurrenceSteps.{text_found, text_inside, one_replaced}
use Rattle.dap_words.proofs.words.write_words.Goals as goal
use Rattle.dap_words.proofs.words.write_words.Goals.{In-Some}

earliest_of : {os slice : List Occurrence} {bytes : List ℕ} {done : ℕ} {best : Option Occurrence}
    → slice ≡ os → done ≤ length bytes → AreNext bytes done os
    → ((from : ℕ) → from ≤ length bytes → AreNext bytes from slice
    → IsEarliest (pairs_at slice) bytes from best)
    → IsEarliest (pairs_at os) bytes done best
earliest_of {os} {slice} {bytes} {done} {best} same within next is =
    subst (λ os. IsEarliest (pairs_at os) bytes done best) same
    (is done within (subst (AreNext bytes done) (sym same) next))

earliest_here : (c : In-Some)
    → IsEarliest (pairs_at c.loop-next.occurrences.items) c.as_bytes-bytes.result.now
    c.loop-next.done (Some c.in-Some.next)
earliest_here c =
    let l = c.loop-next in
    earliest_of c.as_slice.ensures.value l.invariant.within l.invariant.next c.in-Some.ensures

pub loop-next-init : goal.loop-next-init
loop-next-init c =
    let out = c.args.out.now.items in
    record {
      within = omega arith;
      begun = take_all (length out) out (omega arith);
      next = c.in_ok-occurrences.ensures.next;
      whole = ap (λ t. out ++ t) c.in_ok-occurrences.ensures.same;
    }

pub move_on-requires : goal.move_on-requires
move_on-requires c =
    let o = c.in-Some.next in
    let inside = text_inside c.loop-next.occurrences.items c.as_bytes-bytes.result.now
    c.loop-next.done o (earliest_here (goal.at.move_on-requires c).In-Some) in
    let len : c.len.result ≡ length (pair_at o).text = search rules in
    omega (arith, inside, len)

pub loop-next-smaller : goal.loop-next-smaller
loop-next-smaller c =
    let l = c.loop-next in
    let o = c.in-Some.next in
    let bytes = c.as_bytes-bytes.result.now in
    let is = earliest_here (goal.at.loop-next-smaller c).In-Some in
    let low = is.low in
    let some = text_found l.occurrences.items bytes l.done o is in
    let inside = text_inside l.occurrences.items bytes l.done o is in
    let len : c.len.result ≡ length (pair_at o).text = search rules in
    omega (arith, low, some, inside, len)

pub loop-next-preserved : goal.loop-next-preserved
loop-next-preserved c =
    let l = c.loop-next in
    let o = c.in-Some.next in
    let bytes = c.as_bytes-bytes.result.now in
    let old = c.args.out.now.items in
    let is = earliest_here (goal.at.loop-next-preserved c).In-Some in
    let low = is.low in
    let copied = take (o.at - l.done) (drop l.done bytes) in
    let inside = text_inside l.occurrences.items bytes l.done o is in
    let len : c.len.result ≡ length (pair_at o).text = search rules in
    let first : c.extend_from_slice.new.self.items ≡ l.out.items ++ copied = search rules in
    let second : c.extend_from_slice-in-Some.new.self.items
    ≡ c.extend_from_slice.new.self.items ++ (pair_at o).word = search rules in
    let out = second ∙ ap (λ t. t ++ (pair_at o).word) first in
    record {
      within = omega (arith, inside, len);
      begun = rw out (still_begun old (l.out.items ++ copied) (pair_at o).word
          (still_begun old l.out.items copied l.invariant.begun));
      next = c.move_on.ensures.next l.done (omega (arith, low)) l.invariant.next;
      whole = rw (out, c.move_on.ensures.pairs, len) (one_replaced l.occurrences.items bytes l.done o
          is l.out.items (old ++ replaced (pairs_of c.args.words.now) bytes) l.invariant.whole);
    }

pub returns-clause-ok : goal.returns-clause-ok
returns-clause-ok c =
    let l = c.loop-next in
    let bytes = c.as_bytes-bytes.result.now in
    let old = c.args.out.now.items in
    let pairs = pairs_of c.args.words.now in
    let is = earliest_of c.as_slice.ensures.value l.invariant.within l.invariant.next
    c.in_default.ensures in
    c.in_ok-extend_from_slice-3.ensures.items
    ∙ rest_step (pairs_at l.occurrences.items) bytes l.out.items (old ++ replaced pairs bytes) l.done
    l.invariant.within is.before l.invariant.whole
    ∙ ap (λ t. old ++ replaced pairs t) c.as_bytes-bytes.ensures.value
