use Rattle.std.proofs.Common.{◌≡◌, ◌+◌, ◌*◌, ◌-◌, ◌≤◌, length}
use Rattle.dap_show.specs.LeafWalk.{ArePartsLeft}
use Rattle.dap_show.proofs.leaves.Buffers.+push_leaves.Given as goal

abbrev pub decreases-push_document : goal.decreases-push_document
decreases-push_document l = 2 * (length l.nodes.now - l.at)

abbrev pub decreases-push_parts : goal.decreases-push_parts
decreases-push_parts l = 2 * (length l.nodes.now - l.from) + 1

-- The lines of the parts before p were appended.
abbrev pub invariant-push_parts-loop-p : goal.invariant-push_parts-loop-p
invariant-push_parts-loop-p l = record {
  lines : ArePartsLeft l.limit l.nodes l.from l.p l.index l.initial.self.path.items
      l.initial.self.lines.items l.self.lines.items;
  path : l.self.path.items ≡ l.initial.self.path.items;
  index : l.from + l.index ≤ l.p;
}

abbrev pub decreases-push_parts-loop-p : goal.decreases-push_parts-loop-p
decreases-push_parts-loop-p l = length l.nodes - l.p
