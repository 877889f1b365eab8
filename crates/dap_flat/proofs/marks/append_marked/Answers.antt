use Rattle.std.proofs.Common.{false}
use Rattle.std.proofs.lemmas.Result.{on_ok_weaker}
use Rattle.dap_tree.specs.Json.{text_of}
use Rattle.dap_flat.specs.Marks.{nodes_marks}
use Rattle.dap_flat.proofs.Marked.{marked_text}
use Rattle.dap_flat.proofs.marks.append_marked.Goals as goal

pub returns-clause-ok : goal.returns-clause-ok
returns-clause-ok c =
    let ns = c.args.nodes.now in
    on_ok_weaker c.write_flat.result
    (λ ok d shows. record {
      text = text_of d;
      marks = nodes_marks 0 false ns;
      text_added = ok d shows;
      marks_added = c.in_ok-mark_nodes.ensures.ok;
      marked = marked_text ns d shows;
    })
    c.write_flat.ensures.text
