use Rattle.std.proofs.Common.{◌∙◌, Err, ap, sym}
use Rattle.dap_join.specs.Joined.{Numbered}
use Rattle.dap_join.proofs.Written.{not_grown, too_long}
use Rattle.dap_join.proofs.writing.Writing.push.Goals as goal

pub returns-in-Err-ContentTooLong : goal.returns-in-Err-ContentTooLong
returns-in-Err-ContentTooLong c records was =
    let self = c.args.self.now in
    let one : Numbered =
    record { number = c.args.number; held = (c.args.side, c.args.content.now) } in
    too_long c.args.limits records self.recording.items self.numbers.items one
    (not_grown c.args.limits self.grown self.recording.items self.numbers.items records
    (sym c.is_some.ensures ∙ c.if-is_some.false) was)
    (c.write_record.ensures.too_long.0
    (c.in-Err-ContentTooLong.is ∙ ap Err c.in-Err-ContentTooLong.field-0-is))
