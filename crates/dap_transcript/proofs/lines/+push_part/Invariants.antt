use Rattle.std.proofs.Common.{◌+◌, ◌*◌, ◌≤◌, length}
use Rattle.dap_transcript.specs.Walk.{CompletesItems, CompletesMembers}
use Rattle.dap_transcript.proofs.lines.+push_part.Given as goal

abbrev pub decreases-push_part : goal.decreases-push_part
decreases-push_part l = 5 * length l.text.now

abbrev pub decreases-push_item : goal.decreases-push_item
decreases-push_item l = 5 * length l.text.now + 1

abbrev pub decreases-push_named : goal.decreases-push_named
decreases-push_named l = 5 * length l.value.now + 1

abbrev pub decreases-push_member : goal.decreases-push_member
decreases-push_member l = 5 * length l.text.now + 2

abbrev pub decreases-push_items : goal.decreases-push_items
decreases-push_items l = 5 * length l.text.now + 3

abbrev pub decreases-push_members : goal.decreases-push_members
decreases-push_members l = 5 * length l.text.now + 3

abbrev pub decreases-push_list : goal.decreases-push_list
decreases-push_list l = 5 * length l.text.now + 4

abbrev pub decreases-push_object : goal.decreases-push_object
decreases-push_object l = 5 * length l.text.now + 4

-- The lines of the items before what is left were appended.
abbrev pub invariant-push_items-loop-after : goal.invariant-push_items-loop-after
invariant-push_items-loop-after l = record {
  lines : CompletesItems l.margin l.text l.initial.out.items l.left l.out.items;
  shorter : length l.left ≤ length l.text;
}

abbrev pub decreases-push_items-loop-after : goal.decreases-push_items-loop-after
decreases-push_items-loop-after l = length l.left

abbrev pub invariant-push_members-loop-after : goal.invariant-push_members-loop-after
invariant-push_members-loop-after l = record {
  lines : CompletesMembers l.first l.margin l.next l.text l.initial.out.items l.left l.out.items;
  shorter : length l.left ≤ length l.text;
}

abbrev pub decreases-push_members-loop-after : goal.decreases-push_members-loop-after
decreases-push_members-loop-after l = length l.left
