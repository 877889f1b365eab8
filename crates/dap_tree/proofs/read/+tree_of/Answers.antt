use Rattle.std.proofs.Common.{◌≡◌, [], ◌∷◌, ◌++◌, ◌∙◌, sym, ap, subst, append_assoc, append-nil}
use Rattle.std.proofs.Common.{string_cmp, rules}
use Rattle.std.proofs.lemmas.Result.{err_from_is_err_and}
use Rattle.serde_json.proofs.Views.{Entry as Pair}
use Rattle.std.specs.Map.{keys_of}
use Rattle.std.specs.Vec.Iter.{into_iter_items}
use Rattle.std.specs.List.Sorted.{IsStrictlySortedBy}
use Rattle.serde_json.specs.View.{view as value_view}
use Rattle.serde_json.specs.Written.{has_float}
use Rattle.dap_tree.proofs.ReadTrees.{explains_more, nil_from, float_among_items}
use Rattle.dap_tree.proofs.ReadTrees.{float_among_members, stand_push, stand_insert}
use Rattle.dap_tree.proofs.read.+tree_of.Goals as goal

pub items_of-returns-in_err-item-clause-err : goal.items_of-returns-in_err-item-clause-err
items_of-returns-in_err-item-clause-err t c =
    let p = err_from_is_err_and c.from_residual-in_err-item.result
    c.from_residual-in_err-item.ensures.1 in
    let all : c.args.values.items
    ≡ c.loop-value.yielded ++ c.in-Some.value ∷ into_iter_items c.next.new.self =
    c.loop-value.invariant.all
    ∙ ap (λ vs. c.loop-value.yielded ++ vs) c.in-Some.ensures.steps.0 in
    rw (p.1, p.2, all)
    (explains_more (has_float (value_view c.in-Some.value)) _ _
    (float_among_items c.loop-value.yielded c.in-Some.value _) c.in_err-item.ensures.err)

pub items_of-loop-value-preserved : goal.items_of-loop-value-preserved
items_of-loop-value-preserved t c = record {
  all = c.loop-value.invariant.all ∙ ap (λ vs. c.loop-value.yielded ++ vs) c.in-Some.ensures.steps.0
      ∙ sym (append_assoc c.loop-value.yielded (c.in-Some.value ∷ []) _);
  done = rw c.in_ok-push.ensures.items
      (stand_push c.loop-value.yielded c.loop-value.items.items c.in-Some.value c.in_ok-item.item
      c.loop-value.invariant.done c.in_ok-item.ensures.ok);
}

pub items_of-returns-clause-ok : goal.items_of-returns-clause-ok
items_of-returns-clause-ok t c =
    let none = nil_from (into_iter_items c.loop-value.value-iterator)
    (search (rules, c.in-None.ensures.steps.0)) in
    let all : c.args.values.items ≡ c.loop-value.yielded =
    c.loop-value.invariant.all ∙ ap (λ vs. c.loop-value.yielded ++ vs) none
    ∙ append-nil c.loop-value.yielded in
    rw all c.loop-value.invariant.done

pub members_of-returns-in_err-member-clause-err : goal.members_of-returns-in_err-member-clause-err
members_of-returns-in_err-member-clause-err t c =
    let p = err_from_is_err_and c.from_residual.result c.from_residual.ensures.1 in
    let all : c.args.values.entries
    ≡ c.loop-name.yielded ++ (c.in-Some.name, c.in-Some.value) ∷ c.next.new.self =
    c.loop-name.invariant.all ∙ ap (λ vs. c.loop-name.yielded ++ vs) c.in-Some.ensures.steps in
    rw (p.1, p.2, all)
    (explains_more (has_float (value_view c.in-Some.value)) _ _
    (float_among_members c.loop-name.yielded (c.in-Some.name, c.in-Some.value) _)
    c.in_err-member.ensures.err)

pub members_of-loop-name-preserved : goal.members_of-loop-name-preserved
members_of-loop-name-preserved t c =
    let l = c.loop-name in
    let p : Pair = (c.in-Some.name, c.in-Some.value) in
    let all : c.args.values.entries ≡ l.yielded ++ p ∷ c.next.new.self =
    l.invariant.all ∙ ap (λ vs. l.yielded ++ vs) c.in-Some.ensures.steps in
    record {
      all = all ∙ sym (append_assoc l.yielded (p ∷ []) _);
      ordered = l.invariant.ordered;
      done = rw c.in_ok-insert.ensures.entries
          (stand_insert l.yielded p c.next.new.self l.members.entries c.in_ok-member.member
          (subst (λ es. IsStrictlySortedBy string_cmp (keys_of es)) all l.invariant.ordered)
          l.invariant.done c.in_ok-member.ensures.ok);
    }

pub members_of-returns-clause-ok : goal.members_of-returns-clause-ok
members_of-returns-clause-ok t c =
    let all : c.args.values.entries ≡ c.loop-name.yielded =
    c.loop-name.invariant.all ∙ ap (λ vs. c.loop-name.yielded ++ vs) c.in-None.ensures.steps.0
    ∙ append-nil c.loop-name.yielded in
    rw all c.loop-name.invariant.done
