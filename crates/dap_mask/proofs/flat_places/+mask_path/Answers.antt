use Rattle.std.proofs.Common.{◌≡◌, ◌+◌, ◌-◌, ◌<◌, ◌∷◌, ◌∙◌, None, IfSome, length, take, drop}
use Rattle.std.proofs.Common.{get_or, ap, arith, refl, sym, subst}
use Rattle.std.specs.Prelude.{OnOk}
use Rattle.std.proofs.lemmas.Result.{on_ok_weaker}
use Rattle.dap_tree.specs.Doc.{get, change_child, change_items}
use Rattle.dap_flat.specs.Finding.{Finds, Found, Holds}
use Rattle.dap_flat.specs.Pieces.{pieces, piece_of}
use Rattle.dap_flat.specs.Placing.{size}
use Rattle.dap_flat.specs.declared.node.Node.{Node}
use Rattle.dap_flat.specs.declared.node.Node.TheVariants as node
use Rattle.dap_flat_message.specs.{Heads.text_in, Marking.{Edits, Replaced}}
use Rattle.dap_flat_message.proofs.Replacing.{child_replaced, no_child, same_again, first_rest}
use Rattle.dap_flat_message.proofs.Replacing.{list_inside, list_replaced, none_so_far, all_ended}
use Rattle.dap_flat_message.proofs.Replacing.{one_more}
use Rattle.dap_mask.specs.RuleSteps.{change_at_place, change_called}
use Rattle.dap_mask.specs.Rules.{of_verb, place_of}
use Rattle.dap_mask.proofs.FlatChanges.{called, not_called}
use Rattle.dap_mask.proofs.flat_places.+mask_path.Goals as goal

pub mask_below-returns-in-Some : goal.mask_below-returns-in-Some
mask_below-returns-in-Some t c =
    let ns = c.args.nodes.now in
    let at = c.args.at in
    let k = c.args.name.now in
    on_ok_weaker c.mask_path.result
    (λ ok d holds.
    let h : Found ns at c.in-Some.place (pieces d) (λ g. pieces (change_child k g d)) (get k d) =
    subst (λ r. Finds ns at (pieces d) (λ g. pieces (change_child k g d)) r (get k d)) c.in-Some.is
    (c.in_ok-place.ensures d holds) in
    child_replaced ns c.mask_path.new.nodes at c.in-Some.place k d
    (change_at_place (place_of c.args.path.now) (of_verb c.args.verb)) holds h
    (ok h.part h.holds))
    c.mask_path.ensures

pub mask_below-returns-in-None : goal.mask_below-returns-in-None
mask_below-returns-in-None t c =
    let ns = c.args.nodes.now in
    let at = c.args.at in
    let k = c.args.name.now in
    (λ d holds.
    let none : get k d ≡ None =
    subst (λ r. Finds ns at (pieces d) (λ g. pieces (change_child k g d)) r (get k d)) c.in-None.is
    (c.in_ok-place.ensures d holds) in
    subst (λ e. Replaced ns ns at (pieces d) (pieces e))
    (sym (no_child k (change_at_place (place_of c.args.path.now) (of_verb c.args.verb)) d none))
    (same_again ns at (pieces d) holds))

pub mask_path-returns-in-len1-up : goal.mask_path-returns-in-len1-up
mask_path-returns-in-len1-up t c =
    let path = c.args.path.now in
    let whole_path = ap (λ s. s ∷ take (length path - 1) (drop 1 path)) c.step-item.is
    ∙ first_rest path c.step-item.result c.in-len1-up.len_at_least in
    subst (λ p. OnOk c.mask_step.result (Edits c.args.nodes.now c.mask_step.new.nodes c.args.at
    (change_at_place (place_of p) (of_verb c.args.verb)))) whole_path c.mask_step.ensures

pub mask_step-returns-in-Member : goal.mask_step-returns-in-Member
mask_step-returns-in-Member t c =
    rw (c.in-Member.is, ← c.as_str.ensures.value) c.mask_below.ensures

pub mask_step-returns-in-Element : goal.mask_step-returns-in-Element
mask_step-returns-in-Element t c =
    rw (c.in-Element.is, ← c.as_str-in-Element.ensures.value) c.mask_list-in-Element.ensures

pub mask_list-returns-in-List : goal.mask_list-returns-in-List
mask_list-returns-in-List t c =
    let ns = c.args.nodes.now in
    let new = c.mask_each.new.nodes in
    let at = c.args.at in
    let f = change_called (text_in c.args.name)
    (change_at_place (place_of c.args.path.now) (of_verb c.args.verb)) in
    on_ok_weaker c.mask_each.result
    (λ ok d holds.
    let inside = list_inside ns at d (node.List c.in-List.field-0) node.Null c.in-List.field-0 holds
    c.in-List.is refl in
    subst (λ e. Replaced ns new at (pieces e) (pieces (change_items f e))) (sym inside.1)
    (list_replaced ns new at inside.0 f (subst (Holds ns at) inside.1 holds)
    (ok inside.0 inside.2)))
    c.mask_each.ensures

pub mask_each-loop-p-init : goal.mask_each-loop-p-init
mask_each-loop-p-init t c =
    (λ ds s. none_so_far c.args.nodes.now c.args.from (change_called (text_in c.args.name)
    (change_at_place (place_of c.args.path.now) (of_verb c.args.verb))) ds s)

pub mask_each-returns-then-is_end : goal.mask_each-returns-then-is_end
mask_each-returns-then-is_end t c =
    (λ ds s. all_ended c.args.nodes.now c.loop-p.nodes c.args.from c.loop-p.p
    (change_called (text_in c.args.name)
    (change_at_place (place_of c.args.path.now) (of_verb c.args.verb))) ds node.Null
    (c.loop-p.invariant ds s) c.if-is_end.ensures)

pub mask_each-loop-p-preserved : goal.mask_each-loop-p-preserved
mask_each-loop-p-preserved t c =
    let now = c.loop-p.nodes in
    let p = c.loop-p.p in
    let found = c.in_ok-end.ensures.ok_part in
    let width : c.in_ok-end.end ≡ p + size (piece_of (get_or now p node.Null)) =
    subst (λ r. IfSome r (λ end. (x : Node) → end ≡ p + size (piece_of (get_or now p x)))) found
    c.value_end.ensures.size node.Null in
    let within : p < length now = omega arith in
    (λ ds s. one_more c.args.nodes.now now c.mask_element.new.nodes c.args.from p c.in_ok-end.end
    (change_called (text_in c.args.name)
    (change_at_place (place_of c.args.path.now) (of_verb c.args.verb))) ds node.Null
    (c.loop-p.invariant ds s) c.if-is_end.ensures within width c.in_ok-mask_element.ensures)

pub mask_element-returns-then-called : goal.mask_element-returns-then-called
mask_element-returns-then-called t c =
    on_ok_weaker c.mask_path.result
    (λ edits. called c.args.nodes.now c.mask_path.new.nodes c.args.at (text_in c.args.name)
    (change_at_place (place_of c.args.path.now) (of_verb c.args.verb)) c.in_ok-called.called
    c.in_ok-called.ensures c.if-called.true edits)
    c.mask_path.ensures

pub mask_element-returns-else-called : goal.mask_element-returns-else-called
mask_element-returns-else-called t c =
    not_called c.args.nodes.now c.args.at (text_in c.args.name)
    (change_at_place (place_of c.args.path.now) (of_verb c.args.verb)) c.in_ok-called.called
    c.in_ok-called.ensures c.if-called.false
