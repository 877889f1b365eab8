use Rattle.std.proofs.lemmas.Result.{on_ok_weaker}
use Rattle.dap_flat_message.specs.Marking.{steps}
use Rattle.dap_flat_message.proofs.Shown.{top_marked, no_top}
use Rattle.dap_flat_message.proofs.row_marks.mark_top.Goals as goal

pub returns-in-Some : goal.returns-in-Some
returns-in-Some c =
    on_ok_weaker c.mark_path.result
    (λ edits. top_marked c.args.nodes.now c.mark_path.new.nodes c.args.found.now c.in-Some.place
    c.args.name.now (steps c.args.path.now) c.args.sort c.in_ok-place.field-0
    c.in_ok-place.ensures c.in-Some.is edits)
    c.mark_path.ensures

pub returns-in-None : goal.returns-in-None
returns-in-None c =
    no_top c.args.nodes.now c.args.found.now c.args.name.now (steps c.args.path.now) c.args.sort
    c.in_ok-place.field-0 c.in_ok-place.ensures c.in-None.is
