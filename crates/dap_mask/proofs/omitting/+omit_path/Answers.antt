use Rattle.dap_tree.specs.Doc.{map_items}
use Rattle.dap_tree.specs.View.{view, items_view}
use Rattle.dap_tree.proofs.Joins.{change_step, change_done}
use Rattle.dap_tree.proofs.Views.{child_written, child_absent, view-List}
use Rattle.dap_tree.specs.declared.tree.Tree.{the_lemmas}
use Rattle.std.proofs.Common.{rules, ◌≡◌, ◌<◌, ◌≤◌, length, ap, sym, ◌∙◌, arith, add-one}
use Rattle.std.proofs.Common.{option_map}
use Rattle.dap_mask.specs.Omissions.{without}
use Rattle.dap_mask.specs.RuleSteps.{change_at_place, change_called}
use Rattle.dap_mask.specs.Rules.{place_of, step_of}
use Rattle.dap_mask.proofs.omitting.+omit_path.Goals as goal

pub omit_below-returns-in-Some-get_mut : goal.omit_below-returns-in-Some-get_mut
omit_below-returns-in-Some-get_mut t c =
    child_written c.args.name.now
    (change_at_place (place_of c.args.path.now) (without (step_of c.args.last.now)))
    (view c.args.tree.now) c.in-Some.members.now _ c.in-Some-get_mut.member.now
    c.omit_path.new.tree c.in-Some.ensures.value (sym c.in-Some-get_mut.ensures.value)
    c.omit_path.ensures
    (c.get_mut.follows.holds c.omit_path.new.tree).0

pub omit_below-returns-in_default-get_mut : goal.omit_below-returns-in_default-get_mut
omit_below-returns-in_default-get_mut t c =
    child_absent c.args.name.now
    (change_at_place (place_of c.args.path.now) (without (step_of c.args.last.now)))
    (view c.args.tree.now) c.in-Some.members.now _ c.in-Some.ensures.value
    (sym c.in_default-get_mut.ensures.value) c.get_mut.follows.holds-at-none

pub omit_in_each-loop-item-preserved : goal.omit_in_each-loop-item-preserved
omit_in_each-loop-item-preserved t c =
    let l = c.loop-item in
    let lt : l.item-index < length l.item-items = omega arith in
    rw add-one (change_step (change_called (option_map (λ s. s.now) c.args.name)
    (change_at_place (place_of c.args.path.now) (without (step_of c.args.last.now)))) l.item-items
    l.item-index c.item-item.result c.omit_in_element.new.tree lt c.omit_in_element.ensures
    ∙ l.invariant)

pub omit_in_each-returns : goal.omit_in_each-returns
omit_in_each-returns t c =
    let l = c.loop-item in
    let past : length l.item-items ≤ l.item-index = omega arith in
    let same : c.args.items.now.len ≡ length l.item-items = omega arith in
    let f = change_called (option_map (λ s. s.now) c.args.name)
    (change_at_place (place_of c.args.path.now) (without (step_of c.args.last.now))) in
    change_done f l.item-items _ l.item-index _ _ past same l.invariant
    ∙ ap (λ xs. map_items f (items_view xs)) c.deref_mut-item-items.ensures.value

pub omit_in_items-returns-in-List : goal.omit_in_items-returns-in-List
omit_in_items-returns-in-List t c = search (rules, the_lemmas, view-List)
