use Rattle.std.proofs.Common.{◌≡◌, ◌<◌, length, refl, ap, ◌∙◌, arith}
use Rattle.dap_recording.specs.declared.trace_state.TraceState.TheVariants.{Marker}
use Rattle.dap_recording.specs.TraceReading.{TraceReading}
use Rattle.dap_recording.proofs.TraceSteps.{at_trace_state, bad_piece_marker}
use Rattle.dap_recording.proofs.trace_reader.TraceReader.read_marker.Goals as goal

pub returns-in-None-clause-gives : goal.returns-in-None-clause-gives
returns-in-None-clause-gives c = λ piece bytes raw was.
    let count : c.self.inside.piece ≡ piece =
    ap (λ (reader : TraceReading). reader.piece) c.self.view_is ∙ was.piece_is in
    let some : 0 < length c.args.input.now = grind arith in
    record {
      piece_is = count;
      shown = (
        1,
        bad_piece_marker bytes c.args.input.now
            (at_trace_state c.args.self.now piece bytes raw Marker c.requires was).0 some
            c.in-None.ensures,
      );
      failed = record { state = refl; piece = refl };
    }
