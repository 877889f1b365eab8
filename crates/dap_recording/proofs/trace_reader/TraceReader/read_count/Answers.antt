use Rattle.std.proofs.Common.{◌≡◌, ◌+◌, [], ◌∷◌, ◌++◌, drop, refl, ap, ◌∙◌, arith}
use Rattle.std.proofs.lemmas.List.{take_rest}
use Rattle.dap_frame.specs.Lines.{number_of}
use Rattle.dap_recording.specs.Marker.{marker}
use Rattle.dap_recording.specs.TraceReading.{TraceReading}
use Rattle.dap_recording.proofs.Fronts.{split_at, taken_more}
use Rattle.dap_recording.proofs.TraceSteps.{bad_count}
use Rattle.dap_recording.proofs.trace_reader.TraceReader.read_count.Goals as goal

pub returns-in-More-clause-gives : goal.returns-in-More-clause-gives
returns-in-More-clause-gives c = λ piece bytes text num front was.
    let count : c.self.inside.piece ≡ piece =
    ap (λ (reader : TraceReading). reader.piece) c.self.view_is ∙ num in
    let got = rw (take_rest c.args.input.now c.args.from) at (c.in-More.ensures.ends text was) in (
      omega arith,
      (
        refl,
        record {
          piece_is = count;
          kept = (
            text
                ++ drop c.args.from c.args.input.now,
            split_at bytes c.args.input.now (marker c.args.side ∷ text) c.args.from front,
            got,
            refl,
          );
        },
      ),
    )

pub returns-in-Bad-clause-gives : goal.returns-in-Bad-clause-gives
returns-in-Bad-clause-gives c = λ piece bytes text num front was.
    let count : c.self-in-Bad.inside.piece ≡ piece =
    ap (λ (reader : TraceReading). reader.piece) c.self-in-Bad.view_is ∙ num in
    let got = rw (take_rest c.args.input.now c.args.from) at (c.in-Bad.ensures.ends text was) in
    record {
      piece_is = count;
      shown = bad_count bytes c.args.input.now text c.args.side c.args.from got.0 front got.1 got.2;
      failed = record { state = refl; piece = refl };
    }

pub returns-in-Ended-clause-gives : goal.returns-in-Ended-clause-gives
returns-in-Ended-clause-gives c = λ piece bytes text num front was.
    let got = rw (take_rest c.args.input.now c.args.from) at (c.in-Ended.ensures.ends text was) in
    c.read_raw.ensures.gives piece bytes [] got.0 num got.2
    (taken_more bytes c.args.input.now (marker c.args.side ∷ text) c.args.from c.in-Ended.used front
    ∙ ap (λ xs. marker c.args.side ∷ xs) got.1)
    (let says : number_of got.0 ≡ 0 + c.in-Ended.number = omega (arith, got.3) in says) (λ _. refl)
