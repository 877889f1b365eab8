use Rattle.std.proofs.Common.{◌≤◌, length, drop, vec_items, refl, sym, ap, ◌∙◌}
use Rattle.std.proofs.Common.{subst, arith}
use Rattle.std.proofs.lemmas.List.{take_all}
use Rattle.std.proofs.lemmas.List.Elements.{All-push}
use Rattle.dap_words.specs.Words.{pair_of, pairs_of, found}
use Rattle.dap_words.specs.Occurrences.{pairs_at, IsNext, IsNextOf}
use Rattle.dap_words.proofs.ReplaceSteps.{same_replaced}
use Rattle.dap_words.proofs.OccurrenceSteps.{same_pushed, same_skipped}
use Rattle.dap_words.proofs.occurrences.first_occurrences.Goals as goal
use Rattle.dap_words.proofs.occurrences.first_occurrences.Goals.{then-at-bytes+in_ok-push}
use Rattle.dap_words.proofs.occurrences.first_occurrences.Goals.{else-at-bytes}

pub loop-word-preserved : goal.loop-word-preserved
loop-word-preserved c =
    let l = c.loop-word in
    let os = l.occurrences.items in
    let ws = c.args.words.now in
    let s = c.args.bytes.now in
    let w = c.word-item.result in
    let at = c.next_place-at.result in
    let next : IsNext (pair_of w).text s 0 at =
    subst (λ x. IsNext x s 0 at) c.as_bytes.ensures.value c.next_place-at.ensures in
    elim c.if-at-bytes.branch [
      | then-at-bytes+in_ok-push b ↦
          let pushed = ap vec_items b.occurrences-is ∙ b.in_ok-push.ensures.items in
          rw pushed (record {
            next = All-push (IsNextOf s 0) os _ l.invariant.next next;
            same = same_pushed ws os s l.word-index w c.loop-word-test.true c.word-item.is
                l.invariant.same _ refl;
          })
      | else-at-bytes b ↦ rw b.occurrences-is (record {
        next = l.invariant.next;
        same = same_skipped ws os s l.word-index w c.loop-word-test.true c.word-item.is
            l.invariant.same at next b.if-at-bytes.false;
      })
    ]

pub returns-clause-same : goal.returns-clause-same
returns-clause-same c =
    let l = c.loop-word in
    let ws = c.args.words.now in
    let s = c.args.bytes.now in
    let past : length ws ≤ l.word-index = omega arith in
    same_replaced (pairs_at l.occurrences.items) (pairs_of ws) s
    (λ k. sym (l.invariant.same k)
    ∙ ap (λ vs. found (pairs_of vs) (drop k s)) (take_all l.word-index ws past))
