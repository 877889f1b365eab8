use Rattle.std.proofs.Common.{◌≡◌, ℕ, List, [], ◌∷◌, ◌++◌, ◌∙◌, sym, ap, subst, append_assoc, append-nil}
use Rattle.std.proofs.Common.{string_cmp, rules}
use Rattle.std.specs.Map.{keys_of}
use Rattle.std.specs.Vec.Iter.{into_iter_items}
use Rattle.std.specs.List.Sorted.{IsStrictlySortedBy}
use Rattle.dap_words.specs.Words.{pairs_of}
use Rattle.dap_tree.proofs.ReadTrees.{nil_from}
use Rattle.dap_tree.proofs.Views.{Entry}
use Rattle.dap_tree.specs.View.{view}
use Rattle.dap_words.proofs.Steps.{part, word_push, word_insert}
use Rattle.dap_words.proofs.putting.+word_tree.Goals as goal

pub word_items-loop-item-preserved : goal.word_items-loop-item-preserved
word_items-loop-item-preserved t c = record {
  all = c.loop-item.invariant.all ∙ ap (λ vs. c.loop-item.yielded ++ vs) c.in-Some.ensures.steps.0
      ∙ sym (append_assoc c.loop-item.yielded (c.in-Some.item ∷ []) _);
  done = rw c.in_ok-push.ensures.items
      (word_push (pairs_of c.args.words.now) c.loop-item.yielded c.loop-item.worded.items
      c.in-Some.item c.in_ok-item.item c.loop-item.invariant.done c.in_ok-item.ensures);
}

pub word_items-returns : goal.word_items-returns
word_items-returns t c =
    let none = nil_from (into_iter_items c.loop-item.item-iterator)
    (search (rules, c.in-None.ensures.steps.0)) in
    let all : c.args.items.items ≡ c.loop-item.yielded =
    c.loop-item.invariant.all ∙ ap (λ vs. c.loop-item.yielded ++ vs) none
    ∙ append-nil c.loop-item.yielded in
    rw all c.loop-item.invariant.done

pub word_members-loop-name-preserved : goal.word_members-loop-name-preserved
word_members-loop-name-preserved t c =
    let l = c.loop-name in
    let p : Entry = (c.in-Some.name, c.in-Some.member) in
    let all : c.args.members.entries ≡ l.yielded ++ p ∷ c.next.new.self =
    l.invariant.all ∙ ap (λ vs. l.yielded ++ vs) c.in-Some.ensures.steps in
    let named = subst (λ (k : List ℕ). view c.in_ok-member.member
    ≡ part (pairs_of c.args.words.now) c.args.is_message k (view c.in-Some.member))
    c.as_str.ensures.value c.in_ok-member.ensures in
    record {
      all = all ∙ sym (append_assoc l.yielded (p ∷ []) _);
      ordered = l.invariant.ordered;
      done = rw c.in_ok-insert.ensures.entries
          (word_insert (pairs_of c.args.words.now) c.args.is_message l.yielded p c.next.new.self
          l.worded.entries c.in_ok-member.member
          (subst (λ es. IsStrictlySortedBy string_cmp (keys_of es)) all l.invariant.ordered)
          l.invariant.done named);
    }

pub word_members-returns : goal.word_members-returns
word_members-returns t c =
    let all : c.args.members.entries ≡ c.loop-name.yielded =
    c.loop-name.invariant.all ∙ ap (λ vs. c.loop-name.yielded ++ vs) c.in-None.ensures.steps.0
    ∙ append-nil c.loop-name.yielded in
    rw all c.loop-name.invariant.done
