use Rattle.std.proofs.Common.{◌≡◌, ◌+◌, ◌<◌, [], ◌∷◌, ◌++◌, length, min, refl, sym, ap, ◌∙◌, subst}
use Rattle.std.proofs.Common.{arith}
use Rattle.std.proofs.lemmas.List.{take_all}
use Rattle.dap_frame.specs.Frame.{IsFrame}
use Rattle.dap_frame.specs.Reading.{Represents, limits_of}
use Rattle.dap_recording.specs.Marker.{marker}
use Rattle.dap_recording.specs.RecordReading.{RecordReading}
use Rattle.dap_recording.specs.RecordReading.{record_limits}
use Rattle.dap_recording.proofs.RecordSteps.{bad_line_end, good_line_end, line_end_no_memory}
use Rattle.dap_recording.proofs.record_reader.RecordReader.read_line_end.Goals as goal

pub returns-then-from-piece-clause-gives : goal.returns-then-from-piece-clause-gives
returns-then-from-piece-clause-gives c = λ number bytes frame num represents front is.
    let same : c.args.self.now.framer ≡ c.self.inside.framer =
    ap (λ (reader : RecordReading). reader.framer) (sym c.self.view_is) in
    let all : bytes ++ c.args.piece.now ≡ marker c.args.whole.side ∷ frame =
    ap (λ xs. bytes ++ xs) (sym (take_all c.args.from c.args.piece.now (omega arith)))
    ∙ front in (
      omega arith,
      (
        omega arith,
        record {
          number_is = ap (λ (reader : RecordReading). reader.number) c.self.view_is ∙ num;
          kept = (
            frame,
            all,
            subst (λ framer. IsFrame (limits_of framer) frame c.args.whole.content) same is,
            subst (λ framer. Represents framer []) same represents,
          );
        },
      ),
    )

pub returns-then-piece-from-ne10-clause-gives : goal.returns-then-piece-from-ne10-clause-gives
returns-then-piece-from-ne10-clause-gives c = λ number bytes frame num represents front is.
    let inside : c.args.from < length c.args.piece.now = omega arith in
    record {
      number_is = ap (λ (reader : RecordReading). reader.number) c.self.view_is ∙ num;
      memory = λ e. absurd (line_end_no_memory _ refl e);
      for_content = λ e. absurd (line_end_no_memory _ refl e);
      for_bytes = λ e. absurd (line_end_no_memory _ refl e);
      shown = λ _. bad_line_end (record_limits c.args.self.now) bytes c.args.piece.now frame
          c.args.whole.content c.args.whole.side c.args.from inside front is
          c.if-piece-from-ne10.true;
      failed = λ _. record { state = refl; number = refl };
    }

pub returns-clause-gives : goal.returns-clause-gives
returns-clause-gives c = λ number bytes frame num represents front is.
    let inside : c.args.from < length c.args.piece.now = omega arith in
    let same : c.self.inside.framer ≡ c.args.self.now.framer =
    ap (λ (reader : RecordReading). reader.framer) c.self.view_is in
    let count : c.self.inside.number ≡ number =
    ap (λ (reader : RecordReading). reader.number) c.self.view_is ∙ num in (
      omega arith,
      (
        good_line_end (record_limits c.args.self.now) bytes c.args.piece.now frame
            c.args.whole.content c.args.whole.side c.args.from inside front is
            c.if-piece-from-ne10.false,
        record {
          number_is =
              c.saturating_add-self-inside.ensures
              ∙ ap (λ n. min (n + 1) 18446744073709551615) count;
          kept = (refl, subst (λ framer. Represents framer []) (sym same) represents);
        },
      ),
    )
