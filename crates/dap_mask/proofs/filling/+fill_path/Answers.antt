use Rattle.dap_tree.specs.Doc.{map_items}
use Rattle.dap_tree.specs.View.{view, items_view}
use Rattle.dap_tree.proofs.Joins.{change_step, change_done}
use Rattle.dap_tree.proofs.Views.{child_written, child_absent}
use Rattle.std.proofs.Common.{◌≡◌, ◌<◌, ◌≤◌, length, ap, sym, ◌∙◌, arith, add-one, option_map}
use Rattle.dap_mask.specs.Fills.{fill_of, set_value}
use Rattle.dap_mask.specs.RuleSteps.{change_at_place, change_called}
use Rattle.dap_mask.specs.Rules.{place_of}
use Rattle.dap_mask.proofs.filling.+fill_path.Goals as goal

pub fill_below-returns-in_ok-fill_path : goal.fill_below-returns-in_ok-fill_path
fill_below-returns-in_ok-fill_path t c =
    child_written c.args.name.now
    (change_at_place (place_of c.args.path.now) (set_value (fill_of c.args.rule.now)))
    (view c.args.tree.now) c.in-Some.members.now _ c.in-Some-get_mut.member.now
    c.fill_path.new.tree c.in-Some.ensures.value (sym c.in-Some-get_mut.ensures.value)
    c.in_ok-fill_path.ensures
    (c.get_mut.follows.holds c.fill_path.new.tree).0

pub fill_below-returns-in_default-get_mut : goal.fill_below-returns-in_default-get_mut
fill_below-returns-in_default-get_mut t c =
    child_absent c.args.name.now
    (change_at_place (place_of c.args.path.now) (set_value (fill_of c.args.rule.now)))
    (view c.args.tree.now) c.in-Some.members.now _ c.in-Some.ensures.value
    (sym c.in_default-get_mut.ensures.value) c.get_mut.follows.holds-at-none

pub fill_each-loop-item-preserved : goal.fill_each-loop-item-preserved
fill_each-loop-item-preserved t c =
    let l = c.loop-item in
    let lt : l.item-index < length l.item-items = omega arith in
    rw add-one (change_step (change_called (option_map (λ s. s.now) c.args.name)
    (change_at_place (place_of c.args.path.now) (set_value (fill_of c.args.rule.now))))
    l.item-items l.item-index c.item-item.result c.fill_element.new.tree lt
    c.in_ok-fill_element.ensures
    ∙ l.invariant)

pub fill_each-returns : goal.fill_each-returns
fill_each-returns t c =
    let l = c.loop-item in
    let past : length l.item-items ≤ l.item-index = omega arith in
    let same : c.args.items.now.len ≡ length l.item-items = omega arith in
    let f = change_called (option_map (λ s. s.now) c.args.name)
    (change_at_place (place_of c.args.path.now) (set_value (fill_of c.args.rule.now))) in
    change_done f l.item-items _ l.item-index _ _ past same l.invariant
    ∙ ap (λ xs. map_items f (items_view xs)) c.deref_mut-item-items.ensures.value
