use Rattle.std.proofs.Common.{◌≡◌, [], sym, ap, ◌∙◌, subst}
use Rattle.std.proofs.lemmas.List.{append-nil}
use Rattle.dap_frame.specs.Frame.{IsFrame}
use Rattle.dap_frame.specs.Reading.{Represents, limits_of}
use Rattle.dap_recording.specs.declared.record_state.RecordState.TheVariants.{LineEnd, Frame}
use Rattle.dap_recording.specs.RecordReading.{RecordReading}
use Rattle.dap_recording.specs.RecordReading.{GivesRecord}
use Rattle.dap_recording.proofs.RecordSteps.{at_state}
use Rattle.dap_recording.proofs.record_reader.RecordReader.feed.Goals as goal

pub returns-in-LineEnd-clause-gives : goal.returns-in-LineEnd-clause-gives
returns-in-LineEnd-clause-gives c = λ number bytes was.
    let same : c.self.inside.framer ≡ c.args.self.now.framer =
    ap (λ (reader : RecordReading). reader.framer) c.self.view_is in
    let count : c.self.inside.number ≡ number =
    ap (λ (reader : RecordReading). reader.number) c.self.view_is ∙ was.number_is in
    let state : c.args.self.now.state ≡ LineEnd c.in-LineEnd.whole =
    sym (c.in-LineEnd.ensures.value
    ∙ ap (λ (reader : RecordReading). reader.state) c.self.view_is) in
    let at = at_state c.args.self.now number bytes (LineEnd c.in-LineEnd.whole) state was in
    subst (λ framer. GivesRecord (limits_of framer) number bytes c.args.piece.now
    c.read_line_end.result c.read_line_end.new.self) same
    (c.read_line_end.ensures.gives number bytes at.0 count
    (subst (λ framer. Represents framer []) (sym same) at.3) (append-nil bytes ∙ at.1)
    (subst (λ framer. IsFrame (limits_of framer) at.0 c.in-LineEnd.whole.content) (sym same) at.2))

pub returns-in-Frame-clause-gives : goal.returns-in-Frame-clause-gives
returns-in-Frame-clause-gives c = λ number bytes was.
    let same : c.self.inside.framer ≡ c.args.self.now.framer =
    ap (λ (reader : RecordReading). reader.framer) c.self.view_is in
    let count : c.self.inside.number ≡ number =
    ap (λ (reader : RecordReading). reader.number) c.self.view_is ∙ was.number_is in
    let state : c.args.self.now.state ≡ Frame c.in-Frame.side =
    sym (c.in-Frame.ensures.value
    ∙ ap (λ (reader : RecordReading). reader.state) c.self.view_is) in
    let at = at_state c.args.self.now number bytes (Frame c.in-Frame.side) state was in
    let represents = subst (λ framer. Represents framer at.0) (sym same) at.2 in
    subst (λ framer. GivesRecord (limits_of framer) number bytes c.args.piece.now
    c.read_frame.result c.read_frame.new.self) same
    (c.read_frame.ensures.gives number bytes at.0 count represents (append-nil bytes ∙ at.1)
    (record { number_is = count; kept = (at.0, at.1, represents) }))
