use Rattle.std.proofs.Common.{◌≡◌, ◌<◌, length, refl, ap, ◌∙◌, arith}
use Rattle.dap_recording.specs.RecordReading.{RecordReading}
use Rattle.dap_recording.specs.declared.record_state.RecordState.TheVariants.{Marker}
use Rattle.dap_recording.specs.RecordReading.{record_limits}
use Rattle.dap_recording.proofs.RecordSteps.{at_state, bad_marker, marker_no_memory}
use Rattle.dap_recording.proofs.record_reader.RecordReader.read_marker.Goals as goal

pub returns-in-None-clause-gives : goal.returns-in-None-clause-gives
returns-in-None-clause-gives c = λ number bytes was.
    let count : c.self.inside.number ≡ number =
    ap (λ (reader : RecordReading). reader.number) c.self.view_is ∙ was.number_is in
    let some : 0 < length c.args.piece.now = grind arith in
    record {
      number_is = count;
      memory = λ e. absurd (marker_no_memory _ refl e);
      for_content = λ e. absurd (marker_no_memory _ refl e);
      for_bytes = λ e. absurd (marker_no_memory _ refl e);
      shown = λ _. (
        1,
        bad_marker (record_limits c.args.self.now) bytes c.args.piece.now
            (at_state c.args.self.now number bytes Marker c.requires was).0 some c.in-None.ensures,
      );
      failed = λ _. record { state = refl; number = refl };
    }
