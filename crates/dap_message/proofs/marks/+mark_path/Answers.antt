use Rattle.dap_tree.specs.Doc.{map_items}
use Rattle.dap_tree.specs.View.{view, items_view}
use Rattle.dap_tree.proofs.Joins.{change_step, change_done}
use Rattle.dap_tree.proofs.Views.{child_written, child_absent, view-List}
use Rattle.dap_tree.specs.declared.tree.Tree.{the_lemmas}
use Rattle.std.proofs.Common.{rules, ◌≡◌, ◌<◌, ◌≤◌, length, ap, sym, ◌∙◌, arith, add-one}
use Rattle.dap_message.specs.Marks.{edit, marked}
use Rattle.dap_message.specs.Steps.{place_of}
use Rattle.dap_message.proofs.marks.+mark_path.Goals as goal

pub mark_below-returns-in-Some-get_mut : goal.mark_below-returns-in-Some-get_mut
mark_below-returns-in-Some-get_mut t c =
    child_written c.args.name.now (edit (place_of c.args.path.now) (marked c.args.sort))
    (view c.args.tree.now) c.in-Some.members.now _ c.in-Some-get_mut.member.now
    c.mark_path.new.tree c.in-Some.ensures.value (sym c.in-Some-get_mut.ensures.value)
    c.mark_path.ensures
    (c.get_mut.follows.holds c.mark_path.new.tree).0

pub mark_below-returns-in_default-get_mut : goal.mark_below-returns-in_default-get_mut
mark_below-returns-in_default-get_mut t c =
    child_absent c.args.name.now (edit (place_of c.args.path.now) (marked c.args.sort))
    (view c.args.tree.now) c.in-Some.members.now _ c.in-Some.ensures.value
    (sym c.in_default-get_mut.ensures.value) c.get_mut.follows.holds-at-none

pub mark_each-loop-item-preserved : goal.mark_each-loop-item-preserved
mark_each-loop-item-preserved t c =
    let l = c.loop-item in
    let lt : l.item-index < length l.item-items = omega arith in
    rw add-one (change_step (edit (place_of c.args.path.now) (marked c.args.sort)) l.item-items
    l.item-index c.item-item.result c.mark_path.new.tree lt c.mark_path.ensures ∙ l.invariant)

pub mark_each-returns : goal.mark_each-returns
mark_each-returns t c =
    let l = c.loop-item in
    let past : length l.item-items ≤ l.item-index = omega arith in
    let same : c.args.items.now.len ≡ length l.item-items = omega arith in
    change_done (edit (place_of c.args.path.now) (marked c.args.sort)) l.item-items _ l.item-index _
    _ past same l.invariant
    ∙ ap (λ xs. map_items (edit (place_of c.args.path.now) (marked c.args.sort))
    (items_view xs)) c.deref_mut-item-items.ensures.value

pub mark_list-returns-in-List : goal.mark_list-returns-in-List
mark_list-returns-in-List t c = search (rules, the_lemmas, view-List)
