use Rattle.std.proofs.Common.{◌≡◌, ◌+◌, ◌<◌, sym, ◌∙◌, subst, IfSome, option_map, length, get_or}
use Rattle.std.proofs.Common.{arith}
use Rattle.dap_flat.specs.Placing.{size}
use Rattle.dap_flat.specs.Pieces.{piece_of}
use Rattle.dap_flat.specs.declared.node.Node.TheVariants as node
use Rattle.dap_flat_message.specs.Judging.{part_steps}
use Rattle.dap_flat_message.proofs.Judged.{items_ended, item_breaks, item_passed}
use Rattle.dap_flat_message.proofs.rows.judge_items.Goals as goal

pub returns-then-is_end : goal.returns-then-is_end
returns-then-is_end c n ds s =
    items_ended c.args.nodes.now c.loop-p.p node.Null
    (part_steps (option_map (λ s. s.now) c.args.part))
    c.args.want c.args.needed n ds (c.loop-p.invariant ds s) c.if-is_end.ensures

pub returns-then-is_some : goal.returns-then-is_some
returns-then-is_some c n ds s =
    item_breaks c.args.nodes.now c.loop-p.p node.Null
    (part_steps (option_map (λ s. s.now) c.args.part))
    c.args.want c.args.needed c.in_ok-cause.cause n ds (c.loop-p.invariant ds s) c.if-is_end.ensures
    c.in_ok-cause.ensures (sym c.is_some.ensures ∙ c.if-is_some.true)

pub loop-p-preserved : goal.loop-p-preserved
loop-p-preserved c ds s =
    let ns = c.args.nodes.now in
    let p = c.loop-p.p in
    let found = c.in_ok-end.ensures.ok_part in
    let width : c.in_ok-end.end ≡ p + size (piece_of (get_or ns p node.Null)) =
    subst (λ r. IfSome r (λ end. (x : _) → end ≡ p + size (piece_of (get_or ns p x)))) found
    c.value_end.ensures.size node.Null in
    let within : p < length ns = omega arith in
    item_passed ns p c.in_ok-end.end node.Null (part_steps (option_map (λ s. s.now) c.args.part))
    c.args.want c.args.needed c.in_ok-cause.cause ds (c.loop-p.invariant ds s) c.if-is_end.ensures
    within width c.in_ok-cause.ensures (sym c.is_some.ensures ∙ c.if-is_some.false)
