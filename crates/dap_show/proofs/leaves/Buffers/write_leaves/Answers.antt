use Rattle.std.proofs.Common.{[], subst, sym}
use Rattle.dap_flat_message.proofs.Heads.{holds_whole}
use Rattle.dap_show.specs.Leaves.{Lengthens, leaf_lines}
use Rattle.dap_show.proofs.leaves.Buffers.write_leaves.Goals as goal

pub returns : goal.returns
returns c d shows =
    let pushed = c.in_ok-push_document.ensures.lines d []
    (holds_whole c.args.nodes.now d shows) (sym c.clear.ensures.items) in
    subst (λ old. Lengthens c.args.limit old c.push_document.new.self.lines.items
    (leaf_lines [] d)) c.clear-2.ensures.items pushed.0
