use Rattle.std.proofs.Common.{◌≡◌, ◌+◌, ◌-◌, ◌<◌, ◌≤◌, ◌∷◌, ◌++◌, length, take, drop, inl, inr, min}
use Rattle.std.proofs.Common.{refl, ap, ◌∙◌, arith}
use Rattle.std.proofs.lemmas.List.{take_rest, length-drop, length-take}
use Rattle.dap_recording.specs.Marker.{marker}
use Rattle.dap_recording.specs.TraceReading.{TraceReading}
use Rattle.dap_recording.proofs.Fronts.{split_at}
use Rattle.dap_recording.proofs.TraceSteps.{run_on, run_left, run_ends, run_none, run_some}
use Rattle.dap_recording.proofs.trace_reader.TraceReader.read_raw.Goals as goal

pub returns-then-run-left-clause-gives : goal.returns-then-run-left-clause-gives
returns-then-run-left-clause-gives c = λ piece bytes raw text num is_count front says only.
    let input = c.args.input.now in
    let from = c.args.from in
    let count : c.self.inside.piece ≡ piece =
    ap (λ (reader : TraceReading). reader.piece) c.self.view_is ∙ num in
    let some : 0 < length (take (length input - from) (drop from input)) = grind arith in
    let inside : from < length input =
    omega (
      arith,
      some,
      length-take (length input - from) (drop from input),
      length-drop from input,
    ) in
    let short : length (drop from input) < c.args.left =
    omega (
      arith,
      c.if-run-left.true,
      length-take (length input - from) (drop from input),
      length-drop from input,
    ) in
    let at = run_on bytes input raw text c.args.side from c.args.left c.requires is_count front says
    in
    rw (take_rest c.args.input.now c.args.from) (
      omega arith,
      (
        count,
        record {
          begins = (_, split_at bytes input (marker c.args.side ∷ (text ++ 10 ∷ raw)) from front);
          some = λ e. absurd (run_some input from inside e);
          next = inr (
            refl,
            (let left : 0
                < length (drop from input) = omega (arith, length-drop from input) in left),
            record {
              piece_is = count;
              kept = (
                text,
                at,
                is_count,
                run_left bytes input raw text c.args.side from c.args.left c.requires is_count
                    front says short,
                omega arith,
              );
            },
          );
        },
      ),
    )

pub returns-clause-gives : goal.returns-clause-gives
returns-clause-gives c = λ piece bytes raw text num is_count front says only.
    let input = c.args.input.now in
    let from = c.args.from in
    let count : c.self.inside.piece ≡ piece =
    ap (λ (reader : TraceReading). reader.piece) c.self.view_is ∙ num in
    let long : c.args.left ≤ length input - from =
    omega (
      arith,
      c.if-run-left.false,
      length-take (length input - from) (drop from input),
      length-drop from input,
    ) in
    rw (take_rest c.args.input.now c.args.from) (
      omega arith,
      (
        count,
        record {
          begins = (_, split_at bytes input (marker c.args.side ∷ (text ++ 10 ∷ raw)) from front);
          some = λ e. only
              (run_none bytes input raw text c.args.side from c.args.left c.requires is_count front
              says long e);
          next = inl (
            run_ends bytes input raw text c.args.side from c.args.left c.requires is_count front
                says long,
            record {
              piece_is = c.saturating_add-self-inside.ensures
                  ∙ ap (λ n. min (n + 1) 18446744073709551615) count;
              kept = (refl, refl);
            },
          );
        },
      ),
    )
