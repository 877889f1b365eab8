use Rattle.dap_tree.specs.View.{view}
use Rattle.std.proofs.Common.{◌∙◌, ◌+◌, ap, sym, map, drop, ◌≡◌, []}
use Rattle.std.proofs.Math.ListN.{drop_of_length-le}
use Rattle.dap_profile.specs.RowRanges.{rows_in}
use Rattle.dap_profile.specs.ProfileRows.{row_of}
use Rattle.dap_message.specs.AskedRows.{marks_by}
use Rattle.dap_message.proofs.AskedRows.{marks-drop, mark-asked}
use Rattle.dap_message.proofs.marks.mark.Goals as goal

pub loop-rows-preserved : goal.loop-rows-preserved
loop-rows-preserved c =
    let i = c.loop-rows.rows-index in
    ap (marks_by (rows_in (drop (i + 1) c.args.stretches.now)) c.args.side) c.mark_rows.ensures
    ∙ sym (marks-drop (λ rs. map row_of rs.now) c.args.stretches.now i _ c.args.side
    (view c.loop-rows.tree) c.loop-rows-test.true)
    ∙ c.loop-rows.invariant

pub returns : goal.returns
returns c =
    let d = view c.args.tree.now in
    let all : drop c.loop-rows.rows-index c.args.stretches.now ≡ [] =
    drop_of_length-le c.args.stretches.now c.loop-rows-test.false in
    (rw all at c.loop-rows.invariant) ∙ ap (λ rs. marks_by rs c.args.side d) c.requires
    ∙ sym (mark-asked c.args.side d)
