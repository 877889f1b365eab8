use Rattle.std.proofs.Common.{◌≡◌, ◌+◌, ◌-◌, ◌<◌, ◌∷◌, ◌∙◌, None, IfSome, length, take, drop}
use Rattle.std.proofs.Common.{get_or, ap, sym, subst}
use Rattle.std.proofs.Common.{refl, arith}
use Rattle.std.specs.Prelude.{OnOk}
use Rattle.std.proofs.lemmas.Result.{on_ok_weaker}
use Rattle.dap_tree.specs.Doc.{get, change_child, change_items}
use Rattle.dap_message.specs.Marks.{edit, marked}
use Rattle.dap_flat.specs.Finding.{Finds, Found, Holds}
use Rattle.dap_flat.specs.Placing.{size}
use Rattle.dap_flat.specs.declared.node.Node.{Node}
use Rattle.dap_flat.specs.declared.node.Node.TheVariants as node
use Rattle.dap_flat.specs.Pieces.{pieces, piece_of}
use Rattle.dap_flat_message.specs.Marking.{Edits, Replaced, steps}
use Rattle.dap_flat_message.proofs.Replacing.{child_replaced, no_child, same_again, first_rest}
use Rattle.dap_flat_message.proofs.Replacing.{list_inside, list_replaced, none_so_far, all_ended}
use Rattle.dap_flat_message.proofs.Replacing.{one_more}
use Rattle.dap_flat_message.proofs.marks.+mark_path.Goals as goal

pub mark_below-returns-in-Some : goal.mark_below-returns-in-Some
mark_below-returns-in-Some t c =
    let ns = c.args.nodes.now in
    let at = c.args.at in
    let k = c.args.name.now in
    on_ok_weaker c.mark_path.result
    (λ ok d holds.
    let h : Found ns at c.in-Some.place (pieces d) (λ g. pieces (change_child k g d)) (get k d) =
    subst (λ r. Finds ns at (pieces d) (λ g. pieces (change_child k g d)) r (get k d)) c.in-Some.is
    (c.in_ok-place.ensures d holds) in
    child_replaced ns c.mark_path.new.nodes at c.in-Some.place k d
    (edit (steps c.args.path.now) (marked c.args.sort)) holds h (ok h.part h.holds))
    c.mark_path.ensures

pub mark_below-returns-in-None : goal.mark_below-returns-in-None
mark_below-returns-in-None t c =
    let ns = c.args.nodes.now in
    let at = c.args.at in
    let k = c.args.name.now in
    (λ d holds.
    let none : get k d ≡ None =
    subst (λ r. Finds ns at (pieces d) (λ g. pieces (change_child k g d)) r (get k d)) c.in-None.is
    (c.in_ok-place.ensures d holds) in
    subst (λ e. Replaced ns ns at (pieces d) (pieces e))
    (sym (no_child k (edit (steps c.args.path.now) (marked c.args.sort)) d none))
    (same_again ns at (pieces d) holds))

pub mark_path-returns-in-Name : goal.mark_path-returns-in-Name
mark_path-returns-in-Name t c =
    let ns = c.args.nodes.now in
    let path = c.args.path.now in
    let whole_path = ap (λ s. s ∷ take (length path - 1) (drop 1 path)) (sym c.in-Name.is)
    ∙ first_rest path _ c.in-len1-up.len_at_least in
    subst (λ p. OnOk c.mark_below.result (Edits ns c.mark_below.new.nodes c.args.at
    (edit (steps p) (marked c.args.sort)))) whole_path c.mark_below.ensures

pub mark_path-returns-in-Each : goal.mark_path-returns-in-Each
mark_path-returns-in-Each t c =
    let ns = c.args.nodes.now in
    let path = c.args.path.now in
    let whole_path = ap (λ s. s ∷ take (length path - 1) (drop 1 path)) (sym c.in-Each.is)
    ∙ first_rest path _ c.in-len1-up.len_at_least in
    subst (λ p. OnOk c.mark_each.result (Edits ns c.mark_each.new.nodes c.args.at
    (edit (steps p) (marked c.args.sort)))) whole_path c.mark_each.ensures

pub mark_each-returns-in-List : goal.mark_each-returns-in-List
mark_each-returns-in-List t c =
    let ns = c.args.nodes.now in
    let new = c.mark_items.new.nodes in
    let at = c.args.at in
    let f = edit (steps c.args.path.now) (marked c.args.sort) in
    on_ok_weaker c.mark_items.result
    (λ ok d holds.
    let inside = list_inside ns at d (node.List c.in-List.field-0) node.Null c.in-List.field-0 holds
    c.in-List.is refl in
    subst (λ e. Replaced ns new at (pieces e) (pieces (change_items f e))) (sym inside.1)
    (list_replaced ns new at inside.0 f (subst (Holds ns at) inside.1 holds)
    (ok inside.0 inside.2)))
    c.mark_items.ensures

pub mark_items-loop-p-init : goal.mark_items-loop-p-init
mark_items-loop-p-init t c =
    (λ ds s. none_so_far c.args.nodes.now c.args.from
    (edit (steps c.args.path.now) (marked c.args.sort)) ds s)

pub mark_items-returns-then-is_end : goal.mark_items-returns-then-is_end
mark_items-returns-then-is_end t c =
    (λ ds s. all_ended c.args.nodes.now c.loop-p.nodes c.args.from c.loop-p.p
    (edit (steps c.args.path.now) (marked c.args.sort)) ds node.Null (c.loop-p.invariant ds s)
    c.if-is_end.ensures)

pub mark_items-loop-p-preserved : goal.mark_items-loop-p-preserved
mark_items-loop-p-preserved t c =
    let now = c.loop-p.nodes in
    let p = c.loop-p.p in
    let found = c.in_ok-end.ensures.ok_part in
    let width : c.in_ok-end.end ≡ p + size (piece_of (get_or now p node.Null)) =
    subst (λ r. IfSome r (λ end. (x : Node) → end ≡ p + size (piece_of (get_or now p x)))) found
    c.value_end.ensures.size node.Null in
    let within : p < length now = omega arith in
    (λ ds s. one_more c.args.nodes.now now c.mark_path.new.nodes c.args.from p c.in_ok-end.end
    (edit (steps c.args.path.now) (marked c.args.sort)) ds node.Null (c.loop-p.invariant ds s)
    c.if-is_end.ensures within width c.in_ok-mark_path.ensures)
