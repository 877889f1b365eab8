use Rattle.std.proofs.Common.{◌≡◌, ◌+◌, ◌++◌, ◌∙◌, Some, ap, arith, get_or, length, refl, sym}
use Rattle.std.proofs.lemmas.Result.{IfOk-weaker}
use Rattle.dap_difference.specs.{Lines.step_text, Shown.step_of}
use Rattle.dap_flat.specs.Pieces.{piece_of}
use Rattle.dap_flat.specs.declared.node.Node.TheVariants as node
use Rattle.dap_show.specs.LeafWalk.{PushesDocument, PushesParts, part_from}
use Rattle.dap_show.proofs.LeafLines.{a_part, all_parts, empty_pushed, leaf_pushed, no_part}
use Rattle.dap_show.proofs.LeafLines.{part_moves, part_passed, part_starts, parts_ended}
use Rattle.dap_show.proofs.LeafLines.{parts_pushed, parts_within, step_cut}
use Rattle.dap_show.proofs.leaves.Buffers.+push_leaves.Goals as goal

pub push_document-returns-in_ok-push_leaf-in-None-clause-lines :
    goal.push_document-returns-in_ok-push_leaf-in-None-clause-lines
push_document-returns-in_ok-push_leaf-in-None-clause-lines t c =
    leaf_pushed c.args.limit c.args.nodes.now c.args.at node.Null c.args.self.now.path.items
    c.args.self.now.lines.items c.push_leaf.new.self.lines.items
    (sym c.in-None.is ∙ c.inside_of.ensures) c.in_ok-push_leaf-in-None.ensures.lines

pub push_document-returns-in_ok-push_leaf-in-Some-eq0-clause-lines :
    goal.push_document-returns-in_ok-push_leaf-in-Some-eq0-clause-lines
push_document-returns-in_ok-push_leaf-in-Some-eq0-clause-lines t c =
    let none : 0 ≡ c.in-Some-eq0.field-0 = omega arith in
    empty_pushed c.args.limit c.args.nodes.now c.args.at node.Null c.args.self.now.path.items
    c.args.self.now.lines.items c.push_leaf-in-Some-eq0.new.self.lines.items
    (ap (λ n. Some n) none ∙ sym c.in-Some-eq0.is ∙ c.inside_of.ensures)
    c.in_ok-push_leaf-in-Some-eq0.ensures.lines

pub push_document-returns-in-Some-clause-lines : goal.push_document-returns-in-Some-clause-lines
push_document-returns-in-Some-clause-lines t c =
    let ns = c.args.nodes.now in
    let path = c.args.self.now.path.items in
    let old = c.args.self.now.lines.items in
    let new = c.push_parts.new.self.lines.items in
    IfOk-weaker c.push_parts.result (PushesParts c.args.limit ns (c.args.at + 1) path old new)
    (PushesDocument c.args.limit ns c.args.at path old new)
    (λ end pushed. parts_pushed c.args.limit ns c.args.at node.Null path old new c.in-Some.field-0
    end (sym c.in-Some.is ∙ c.inside_of.ensures) (omega arith) pushed)
    c.push_parts.ensures.lines

pub push_parts-loop-p-init : goal.push_parts-loop-p-init
push_parts-loop-p-init t c = record {
  lines = λ ps p s same. all_parts c.args.limit c.args.nodes.now c.args.from
      c.args.self.now.path.items c.args.self.now.lines.items ps p s;
  path = refl;
  index = omega arith;
}

pub push_parts-returns-in_default-clause-lines : goal.push_parts-returns-in_default-clause-lines
push_parts-returns-in_default-clause-lines t c ps p s same =
    let l = c.loop-p in
    let q = part_from l.p l.index (piece_of (get_or c.args.nodes.now l.p node.Null)) in
    parts_ended c.args.limit c.args.nodes.now c.args.from c.args.self.now.path.items
    c.args.self.now.lines.items ps p l.p l.index l.self.lines.items
    (l.invariant.lines ps p s same) node.Null
    (no_part c.part_at.result q c.part_at.ensures c.in_default.is)

pub push_parts-loop-p-preserved : goal.push_parts-loop-p-preserved
push_parts-loop-p-preserved t c =
    let l = c.loop-p in
    let ns = c.args.nodes.now in
    let path = c.args.self.now.path.items in
    let step = step_of c.in-Some.step in
    let start = c.in-Some.start in
    let piece = piece_of (get_or ns l.p node.Null) in
    let part = a_part c.part_at.result (part_from l.p l.index piece) c.in-Some.step start
    c.part_at.ensures c.in-Some.is in
    let grown = c.in_ok-push_step.ensures ∙ ap (λ t. t ++ step_text step) l.invariant.path in
    let pushed = c.in_ok-end.ensures in
    let past = part_moves l.p start c.in_ok-end.end (length ns) c.loop-p-test.true
    (part_starts l.p l.index piece step start part) pushed.end in
    record {
      lines = λ ps p s same.
          part_passed c.args.limit ns c.args.from path c.args.self.now.lines.items ps p l.p
          l.index l.self.lines.items (l.invariant.lines ps p s same) node.Null step start
          (l.index + 1) c.in_ok-end.end c.push_step.new.path.items
          c.push_document.new.self.lines.items part same (omega arith) grown pushed.lines;
      path = step_cut path c.push_step.new.path.items c.push_document.new.self.path.items
          c.truncate.new.self.items (step_text step) c.len-len.result grown pushed.path
          (c.len-len.ensures ∙ c.args.self.now.path.ok.0) c.truncate.ensures.items;
      index = omega (arith, l.invariant.index, past);
    }

pub push_parts-returns-clause-lines : goal.push_parts-returns-clause-lines
push_parts-returns-clause-lines t c ps p s same =
    let l = c.loop-p in
    let within = parts_within c.args.limit c.args.nodes.now c.args.from
    c.args.self.now.path.items c.args.self.now.lines.items ps p l.p l.index
    l.self.lines.items (l.invariant.lines ps p s same) in
    absurd (omega (arith, within, c.loop-p-test.false))
