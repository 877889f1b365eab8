use Rattle.std.proofs.Common.{◌≡◌, drop}
use Rattle.dap_tree.specs.Doc.{items_have_id, members_have_id}
use Rattle.dap_tree.specs.View.{items_view, members_view}
use Rattle.dap_tree.proofs.plain.+has_id.Given as goal

abbrev pub invariant-items_have_id-loop-item : goal.invariant-items_have_id-loop-item
invariant-items_have_id-loop-item l =
    items_have_id (items_view (drop l.item-index l.item-items))
    ≡ items_have_id (items_view l.item-items)

abbrev pub invariant-members_have_id-loop-member : goal.invariant-members_have_id-loop-member
invariant-members_have_id-loop-member l =
    members_have_id (members_view l.member-iterator)
    ≡ members_have_id (members_view l.members.entries)
