use Rattle.std.proofs.lemmas.Result.{on_ok_weaker}
use Rattle.dap_profile.specs.RowRanges.{rows_in}
use Rattle.dap_flat_message.proofs.Shown.{asked_marks}
use Rattle.dap_flat_message.proofs.row_marks.mark_message.Goals as goal

pub returns : goal.returns
returns c =
    on_ok_weaker c.mark_stretches.result
    (λ makes. asked_marks c.args.found.now c.args.nodes.now c.mark_stretches.new.nodes c.args.side
    (rows_in c.args.stretches.now) c.requires makes)
    c.mark_stretches.ensures
