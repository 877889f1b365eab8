use Rattle.std.proofs.Common.{◌≡◌, ◌<◌, ◌∷◌, ◌++◌, Err, length, take, drop, refl, sym, ap, ◌∙◌}
use Rattle.std.proofs.Common.{subst, arith}
use Rattle.std.proofs.lemmas.List.{length-drop, take_rest}
use Rattle.dap_frame.specs.Frame.{IsFrame, HasContentByte}
use Rattle.dap_frame.specs.declared.fault.FrameFault.TheVariants.{Memory}
use Rattle.dap_frame.specs.Reading.{Represents, GivesFault, limits_of}
use Rattle.dap_recording.specs.Marker.{marker}
use Rattle.dap_recording.specs.RecordReading.{RecordReading}
use Rattle.dap_recording.specs.RecordReading.{RepresentsRecords, GivesRecord, record_limits}
use Rattle.dap_recording.proofs.RecordSteps.{reader_at, frame_faults}
use Rattle.dap_recording.proofs.FramerSteps.{fed_frame, fed_all}
use Rattle.dap_recording.proofs.Fronts.{split_at, taken_more}
use Rattle.dap_recording.proofs.record_reader.RecordReader.read_frame.Goals as goal

pub returns-in-Err-clause-gives : goal.returns-in-Err-clause-gives
returns-in-Err-clause-gives c = λ number bytes rest num represents front was.
    let same : c.self.inside.framer ≡ c.args.self.now.framer =
    ap (λ (reader : RecordReading). reader.framer) c.self.view_is in
    let count : c.self.inside.number ≡ number =
    ap (λ (reader : RecordReading). reader.number) c.self.view_is ∙ num in
    let gives =
    rw (take_rest c.args.piece.now c.args.from) at
    (c.in-Err.ensures.gives rest (subst (λ framer. Represents framer rest) (sym same) represents))
    in
    let its = subst
    (λ framer. GivesFault (limits_of framer) rest (drop c.args.from c.args.piece.now)
    c.in-Err.fault c.feed.new.self) same gives in
    let content : c.in-Err.fault ≡ Memory
    → HasContentByte (record_limits c.args.self.now) (rest ++ drop c.args.from c.args.piece.now) =
    λ e. subst
    (λ framer. HasContentByte (limits_of framer) (rest ++ drop c.args.from c.args.piece.now)) same
    (rw (take_rest c.args.piece.now c.args.from) at (c.in-Err.ensures.memory_for_content (ap Err e)
    rest (subst (λ framer. Represents framer rest) (sym same) represents))) in
    let some : c.in-Err.fault ≡ Memory → 0 < length c.args.piece.now =
    λ e. (let behind = rw (take_rest c.args.piece.now c.args.from) at
    (c.in-Err.ensures.memory_for_bytes (ap Err e) rest
    (subst (λ framer. Represents framer rest) (sym same) represents)) in
    omega (arith, behind, length-drop c.args.from c.args.piece.now)) in
    frame_faults (record_limits c.args.self.now) number bytes c.args.piece.now rest c.args.side
    c.args.from c.in-Err.fault c.frame_fault.result
    (reader_at c.feed.new.self c.self.inside.state c.self.inside.number) c.frame_fault.new.self
    c.feed.new.self
    front its content some (c.frame_fault.ensures.number ∙ count) c.frame_fault.ensures.memory
    (λ e. subst (λ reader. RepresentsRecords reader number bytes)
    (sym (ap (λ framer. reader_at framer c.self.inside.state c.self.inside.number)
    (c.in-Err.ensures.memory (ap Err e)) ∙ c.self.view_is)) was)
    c.frame_fault.ensures.other

pub returns-in-Some-clause-gives : goal.returns-in-Some-clause-gives
returns-in-Some-clause-gives c = λ number bytes rest num represents front was.
    let same : c.self.inside.framer ≡ c.args.self.now.framer =
    ap (λ (reader : RecordReading). reader.framer) c.self.view_is in
    let count : c.self.inside.number ≡ number =
    ap (λ (reader : RecordReading). reader.number) c.self.view_is ∙ num in
    let gives =
    rw (take_rest c.args.piece.now c.args.from) at
    (c.in-Ok.ensures.gives rest (subst (λ framer. Represents framer rest) (sym same) represents)) in
    let limits : limits_of c.feed.new.self ≡ record_limits c.args.self.now =
    c.in-Ok.ensures.limits ∙ ap limits_of same in
    let frame = rest ++ take c.in-Ok.fed.used (drop c.args.from c.args.piece.now) in
    let got = fed_frame (limits_of c.self.inside.framer) rest (drop c.args.from c.args.piece.now)
    c.in-Ok.fed c.feed.new.self gives c.in-Some.content c.in-Some.is in
    subst (λ l. GivesRecord l number bytes c.args.piece.now c.read_line_end.result
    c.read_line_end.new.self) limits
    (c.read_line_end.ensures.gives number bytes frame count got.1
    (taken_more bytes c.args.piece.now (marker c.args.side ∷ rest) c.args.from c.in-Ok.fed.used
    front)
    (subst (IsFrame (limits_of c.feed.new.self) frame) (sym c.in-Some.content-is)
    (subst (λ l. IsFrame l frame c.in-Some.content) (sym c.in-Ok.ensures.limits) got.0)))

pub returns-in-None-clause-gives : goal.returns-in-None-clause-gives
returns-in-None-clause-gives c = λ number bytes rest num represents front was.
    let same : c.self.inside.framer ≡ c.args.self.now.framer =
    ap (λ (reader : RecordReading). reader.framer) c.self.view_is in
    let count : c.self.inside.number ≡ number =
    ap (λ (reader : RecordReading). reader.number) c.self.view_is ∙ num in
    let gives =
    rw (take_rest c.args.piece.now c.args.from) at
    (c.in-Ok.ensures.gives rest (subst (λ framer. Represents framer rest) (sym same) represents)) in
    let still =
    (fed_all (limits_of c.self.inside.framer) rest (drop c.args.from c.args.piece.now)
    c.in-Ok.fed c.feed.new.self gives c.in-None.is).1 in (
      omega arith,
      (
        refl,
        record {
          number_is = count;
          kept = (
            rest
                ++ drop c.args.from c.args.piece.now,
            split_at bytes c.args.piece.now (marker c.args.side ∷ rest) c.args.from front,
            still,
          );
        },
      ),
    )
