use Rattle.std.proofs.Common.{◌≡◌, [], ◌∷◌, ◌++◌, ◌∙◌, sym, ap, subst, append_assoc, append-nil}
use Rattle.std.proofs.Common.{string_cmp, rules}
use Rattle.serde_json.proofs.Views.{Entry as Pair}
use Rattle.std.specs.Map.{keys_of}
use Rattle.std.specs.Vec.Iter.{into_iter_items}
use Rattle.std.specs.List.Sorted.{IsStrictlySortedBy}
use Rattle.dap_tree.proofs.ReadTrees.{nil_from}
use Rattle.dap_mask.proofs.Loosening.{loose_push, loose_insert}
use Rattle.dap_mask.proofs.loose.+loose_tree.Goals as goal

pub loose_items-loop-value-preserved : goal.loose_items-loop-value-preserved
loose_items-loop-value-preserved t c = record {
  all = c.loop-value.invariant.all ∙ ap (λ vs. c.loop-value.yielded ++ vs) c.in-Some.ensures.steps.0
      ∙ sym (append_assoc c.loop-value.yielded (c.in-Some.value ∷ []) _);
  done = rw c.in_ok-push.ensures.items
      (loose_push c.loop-value.yielded c.loop-value.items.items c.in-Some.value c.in_ok-item.item
      c.loop-value.invariant.done c.in_ok-item.ensures);
}

pub loose_items-returns : goal.loose_items-returns
loose_items-returns t c =
    let none = nil_from (into_iter_items c.loop-value.value-iterator)
    (search (rules, c.in-None.ensures.steps.0)) in
    let all : c.args.values.items ≡ c.loop-value.yielded =
    c.loop-value.invariant.all ∙ ap (λ vs. c.loop-value.yielded ++ vs) none
    ∙ append-nil c.loop-value.yielded in
    rw all c.loop-value.invariant.done

pub loose_members-loop-name-preserved : goal.loose_members-loop-name-preserved
loose_members-loop-name-preserved t c =
    let l = c.loop-name in
    let p : Pair = (c.in-Some.name, c.in-Some.value) in
    let all : c.args.values.entries ≡ l.yielded ++ p ∷ c.next.new.self =
    l.invariant.all ∙ ap (λ vs. l.yielded ++ vs) c.in-Some.ensures.steps in
    record {
      all = all ∙ sym (append_assoc l.yielded (p ∷ []) _);
      ordered = l.invariant.ordered;
      done = rw c.in_ok-insert.ensures.entries
          (loose_insert l.yielded p c.next.new.self l.members.entries c.in_ok-member.member
          (subst (λ es. IsStrictlySortedBy string_cmp (keys_of es)) all l.invariant.ordered)
          l.invariant.done c.in_ok-member.ensures);
    }

pub loose_members-returns : goal.loose_members-returns
loose_members-returns t c =
    let all : c.args.values.entries ≡ c.loop-name.yielded =
    c.loop-name.invariant.all ∙ ap (λ vs. c.loop-name.yielded ++ vs) c.in-None.ensures.steps.0
    ∙ append-nil c.loop-name.yielded in
    rw all c.loop-name.invariant.done
