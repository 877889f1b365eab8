use Rattle.std.proofs.Common.{◌≡◌, ◌∙◌, ◌+◌, ◌-◌, ◌<◌, [], ◌∷◌, ◌++◌, length, drop, refl, sym, ap, subst}
use Rattle.std.proofs.Common.{true, string_bytes, arith, rules}
use Rattle.std.proofs.lemmas.List.{at_drop_more, at_drop_all}
use Rattle.dap_tree.specs.Doc.{item, all_in_range, items_in_range, members_in_range}
use Rattle.dap_tree.specs.View.{view, items_view, members_view}
use Rattle.dap_tree.proofs.Booleans.{and_right}
use Rattle.dap_tree.proofs.Views.{Entry}
use Rattle.dap_flat.specs.Pieces.{begin_list, end_list, begin_object, end_object, name}
use Rattle.dap_flat.specs.Pieces.{Appends, pieces, items_pieces, members_pieces}
use Rattle.dap_flat.specs.declared.node.Node.TheVariants as node
use Rattle.dap_flat.proofs.Adding.{adds_one, adds_same, adds_then, adds_whole, inside_is}
use Rattle.dap_flat.proofs.TreeNodes.{none_yet, next_part, all_parts}
use Rattle.dap_flat.proofs.trees.+nodes_of.Goals as goal

pub list_nodes-loop-item-init : goal.list_nodes-loop-item-init
list_nodes-loop-item-init t c = record { in_range = search rules; so_far = none_yet _ _ _ refl }

pub list_nodes-loop-item-preserved : goal.list_nodes-loop-item-preserved
list_nodes-loop-item-preserved t c =
    let l = c.loop-item in
    let ts = c.deref-item-items.result.now in
    let x = c.item-item.result in
    let within : l.item-index < length ts = omega arith in
    let left = drop (l.item-index + 1) ts in
    let step : items_view (drop l.item-index ts) ≡ item (view x) (items_view left) =
    at_drop_more items_view ts l.item-index x within
    ∙ ap (λ y. items_view (y ∷ left)) (sym c.item-item.is) in
    record {
      in_range = and_right (all_in_range (view x)) _
          (sym (ap items_in_range step) ∙ l.invariant.in_range);
      so_far = next_part _ _ _ (pieces (view x)) _ _ _ (ap items_pieces step) l.invariant.so_far
          c.in_ok-nodes_of.ensures;
    }

pub list_nodes-returns : goal.list_nodes-returns
list_nodes-returns t c =
    let l = c.loop-item in
    let ts = c.deref-item-items.result.now in
    let all = items_pieces (items_view c.args.items.now.items) in
    let none : items_pieces (items_view (drop l.item-index ts)) ≡ [] =
    at_drop_all (λ us. items_pieces (items_view us)) ts l.item-index (omega arith) in
    let found : Appends c.push.new.self.items l.nodes.items all =
    all_parts _ _ _ _ _ none
    (ap (λ us. items_pieces (items_view us)) c.deref-item-items.ensures.value) l.invariant.so_far in
    let here : c.len-at.result ≡ length c.args.nodes.now.items = search rules in
    let there : c.len.result ≡ length l.nodes.items = search rules in
    adds_same _ _ _ _
    (ap (λ n. begin_list n ∷ (all ++ end_list ∷ []))
    (inside_is _ _ _ _ _ _ _ c.in_ok-push.ensures.items found here there))
    (adds_whole _ _ _ _ _ (node.List 0) (node.List (c.len.result - c.len-at.result - 1))
    node.EndList _ _ c.in_ok-push.ensures.items found here c.set_node.ensures
    c.in_ok-push-2.ensures.items)

pub object_nodes-loop-name-init : goal.object_nodes-loop-name-init
object_nodes-loop-name-init t c =
    let same : c.into_iter-name-iterator.result ≡ c.args.members.now.entries = search rules in
    record {
      in_range = search rules;
      so_far = none_yet _ _ _ (ap (λ es. members_pieces (members_view es)) same);
    }

pub object_nodes-loop-name-preserved : goal.object_nodes-loop-name-preserved
object_nodes-loop-name-preserved t c =
    let l = c.loop-name in
    let e : Entry = (c.in-Some.name.now, c.in-Some.member.now) in
    let step : l.name-iterator ≡ e ∷ c.next.new.self = c.in-Some.ensures.steps in
    let named : Appends l.nodes.items c.push-in-loop-name.new.self.items (name (string_bytes e.0) ∷ []) =
    adds_same _ _ _ _ (ap (λ k. name k ∷ []) c.as_str.ensures.value)
    (adds_one _ _ _ c.in_ok-push-2.ensures.items) in
    record {
      in_range = and_right (all_in_range (view e.1)) _
          (subst (λ es. members_in_range (members_view es) ≡ true) step l.invariant.in_range);
      so_far = next_part _ _ _ (name (string_bytes e.0) ∷ pieces (view e.1)) _ _ _
          (ap (λ es. members_pieces (members_view es)) step) l.invariant.so_far
          (adds_then _ _ _ _ _ named c.in_ok-nodes_of.ensures);
    }

pub object_nodes-returns : goal.object_nodes-returns
object_nodes-returns t c =
    let l = c.loop-name in
    let all = members_pieces (members_view c.args.members.now.entries) in
    let found : Appends c.push.new.self.items l.nodes.items all =
    all_parts _ _ _ _ _
    (ap (λ es. members_pieces (members_view es)) c.in-None.ensures.steps.0) refl
    l.invariant.so_far in
    let here : c.len-at.result ≡ length c.args.nodes.now.items = search rules in
    let there : c.len.result ≡ length l.nodes.items = search rules in
    adds_same _ _ _ _
    (ap (λ n. begin_object n ∷ (all ++ end_object ∷ []))
    (inside_is _ _ _ _ _ _ _ c.in_ok-push.ensures.items found here there))
    (adds_whole _ _ _ _ _ (node.Object 0) (node.Object (c.len.result - c.len-at.result - 1))
    node.EndObject _ _ c.in_ok-push.ensures.items found here c.set_node.ensures
    c.in_ok-push-3.ensures.items)
