use Rattle.std.proofs.Common.{subst, sym}
use Rattle.std.proofs.lemmas.Result.{on_ok_weaker}
use Rattle.dap_flat.specs.Pieces.{Represents}
use Rattle.dap_tree.proofs.Outcomes.{read_once, whole_or_fraction}
use Rattle.dap_tree.specs.Json.{HasFraction}
use Rattle.dap_tree.specs.View.{view}
use Rattle.dap_show.proofs.LeafLines.{all_appended}
use Rattle.dap_show.proofs.leaves.Buffers.read_leaves.Goals as goal

pub unreachable-requires-in-Err-Fraction : goal.unreachable-requires-in-Err-Fraction
unreachable-requires-in-Err-Fraction c =
    let reported : HasFraction c.args.content.now =
    rw c.in-Err-Fraction.field-0-is at c.in-Err-Fraction.ensures.err in
    whole_or_fraction c.args.content.now c.requires.0 c.requires.1 reported

pub returns-in_ok-nodes_of-in-Ok : goal.returns-in_ok-nodes_of-in-Ok
returns-in_ok-nodes_of-in-Ok c =
    on_ok_weaker c.write_leaves.result
    (λ written d reads.
    let same = read_once c.args.content.now (view c.in-Ok.tree) d c.in-Ok.ensures.ok reads in
    written d (subst (λ ns. Represents ns d) (sym c.deref.ensures.value)
    (subst (Represents c.nodes_of.new.nodes.items) same
    (all_appended c.new-nodes.result.items c.nodes_of.new.nodes.items (view c.in-Ok.tree)
    c.new-nodes.ensures.items c.in_ok-nodes_of-in-Ok.ensures))))
    c.write_leaves.ensures
