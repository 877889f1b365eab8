use Rattle.std.proofs.Common.{inl, arith}
use Rattle.std.proofs.lemmas.Result.{on_ok_weaker}
use Rattle.dap_flat.specs.Pieces.{piece_of}
use Rattle.dap_flat_message.specs.Judging.{top_of}
use Rattle.dap_show.specs.Leaves.{line_of}
use Rattle.dap_show.proofs.LeafLines.{stays_long}
use Rattle.dap_show.proofs.leaves.Buffers.push_leaf.Goals as goal

pub returns-then-limit-len-clause-lines : goal.returns-then-limit-len-clause-lines
returns-then-limit-len-clause-lines c =
    stays_long c.args.limit c.args.self.now.lines.items
    (line_of c.args.self.now.path.items (top_of (piece_of c.args.node.now))) (omega arith)

pub returns-clause-lines : goal.returns-clause-lines
returns-clause-lines c = on_ok_weaker c.push_line.result (λ is. inl is) c.push_line.ensures.lines
