use Rattle.std.proofs.Common.{◌≡◌, ◌+◌, ℕ, List, take, drop, get_or, ap, subst, arith}
use Rattle.std.proofs.lemmas.Bool.{eqb-true}
use Rattle.std.proofs.lemmas.List.{take_rest}
use Rattle.dap_frame.specs.Frame.{IsFrame}
use Rattle.dap_recording.specs.RecordReading.{RecordReading, record_limits}
use Rattle.dap_recording.proofs.RecordSteps.{record_in}
use Rattle.dap_recording.proofs.record_reader.RecordReader.has_record.Goals as goal

pub returns-then-used-piece : goal.returns-then-used-piece
returns-then-used-piece c = λ lf.
    let used : ℕ = c.in-Some-frame_in.used in
    let limits = ap (λ (r : RecordReading). record_limits r) c.self.view_is in
    let frame = c.in-Some-frame_in.ensures.frame in
    record_in (record_limits c.args.self.now) c.args.piece.now frame.0 c.in-Some.field-0 used
    c.in-Some.ensures
    (subst (λ l. IsFrame l (take used (drop 1 c.args.piece.now)) frame.0) limits
    (subst (λ t. IsFrame c.self.inside.framer.limits (take used t) frame.0)
    (take_rest c.args.piece.now 1) frame.1))
    c.if-used-piece.true (eqb-true _ _ lf)
