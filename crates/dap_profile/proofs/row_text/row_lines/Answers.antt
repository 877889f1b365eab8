use Rattle.std.proofs.Common.{arith, ◌<◌, length, option_map, string_bytes, sym, true≢false}
use Rattle.dap_profile.specs.RowLines.{lines_of}
use Rattle.dap_profile.proofs.EmptyLines.{not_asked}
use Rattle.dap_profile.proofs.row_text.row_lines.Goals as goal

pub returns-in_err-push_asked-clause-none : goal.returns-in_err-push_asked-clause-none
returns-in_err-push_asked-clause-none c none =
    let text = option_map (λ s. s.now) c.args.number in
    let rows = c.profile_rows.result.now in
    let within : c.loop-row.row-index < length rows = omega (arith, c.loop-row-test.true) in
    absurd (true≢false (sym (c.in_err-push_asked.ensures.skipped (not_asked text rows
    c.loop-row.row-index _ (string_bytes c.loop-row.out) (lines_of text) within
    c.loop-row.invariant none))))
