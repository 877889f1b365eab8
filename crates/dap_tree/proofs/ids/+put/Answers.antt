use Rattle.std.proofs.Common.{rules, ◌≡◌, ℕ, ◌<◌, ◌≤◌, length, subst, sym, ◌∙◌, ap, ℤ, List, Bor}
use Rattle.std.proofs.Common.{refl, arith, add-one}
use Rattle.dap_tree.specs.Doc.{depth, members_depth}
use Rattle.dap_tree.specs.Ids.{items_with_ids}
use Rattle.dap_tree.specs.View.{view, items_view, members_view}
use Rattle.dap_tree.proofs.Joins.{put_step, put_done, shallow_step, member_shallow, folds_keep}
use Rattle.dap_tree.proofs.Joins.{retained_with_ids, left_step}
use Rattle.dap_tree.proofs.Views.{view-Object}
use Rattle.dap_tree.specs.declared.tree.Tree.{the_lemmas}
use Rattle.dap_tree.proofs.ids.+put.Goals as goal

abbrev State : Type 0
State = Bor (List ℤ) × ℕ

pub put-returns-in-Object : goal.put-returns-in-Object
put-returns-in-Object t c = search (rules, the_lemmas, view-Object)

pub put_members-retain-requires : goal.put_members-retain-requires
put_members-retain-requires t c = record {
  at = λ before after f k v e steps. λ p q ek ev.
      let same : f.1 ≡ c.args.levels =
      folds_keep {P = State} _ (λ f. f.1
      ≡ c.args.levels) (λ f a g r i. search rules) before _ f steps refl in
      let shallow : depth (view q.now) ≤ c.args.levels =
      rw ev (member_shallow before (k, v) after c.args.levels
      (subst (λ es. members_depth (members_view es) ≤ c.args.levels) e c.requires)) in
      (omega arith, subst (λ n. depth (view q.now) ≤ n) (sym same) shallow);
}

pub put_members-returns-clause-put : goal.put_members-returns-clause-put
put_members-returns-clause-put t c =
    retained_with_ids {F = State} _ (λ f. f.0.now)
    (λ f k v b w g s. (search rules, search rules, search rules)) _ _ _ c.retain.ensures.filtered

pub put_items-loop-item-preserved : goal.put_items-loop-item-preserved
put_items-loop-item-preserved t c =
    let l = c.loop-item in
    let lt : l.item-index < length l.item-items = omega arith in
    record {
      shallow = rw add-one
          (shallow_step l.item-items l.item-index c.put-rest.new.tree c.args.levels
          l.invariant.shallow);
      done = rw (add-one, c.put-rest.ensures.left)
          (put_step l.item-items l.item-index c.item-item.result c.put-rest.new.tree l.rest.now lt
          c.put-rest.ensures.put ∙ l.invariant.done);
      left = rw (add-one, c.put-rest.ensures.left)
          (left_step l.item-items l.item-index c.item-item.result c.put-rest.new.tree l.rest.now lt
          ∙ l.invariant.left);
    }

pub put_items-returns-clause-put : goal.put_items-returns-clause-put
put_items-returns-clause-put t c =
    let l = c.loop-item in
    let past : length l.item-items ≤ l.item-index = omega arith in
    let same : c.args.items.now.len ≡ length l.item-items = omega arith in
    put_done l.item-items _ l.item-index _ l.rest.now _ past same l.invariant.done
    ∙ ap (λ xs. items_with_ids (items_view xs) c.args.numbers.now)
    c.deref_mut-item-items.ensures.value
