use Rattle.std.proofs.Common.{◌≡◌, ◌+◌, Some, None, ap, arith, sym, ◌∙◌}
use Rattle.std.proofs.lemmas.Grind.{common_steps}
use Rattle.std.specs.Option.{option_and_then}
use Rattle.dap_transcript.specs.Canonical.{rest_from}
use Rattle.dap_transcript.proofs.Nests.{nest_at_quote, nest_rest}
use Rattle.dap_transcript.proofs.ValueEnds.{nest_ends}
use Rattle.dap_transcript.proofs.canonical.nest_end.Goals as goal

pub returns-in_err-at-in-34-clause-value : goal.returns-in_err-at-in-34-clause-value
returns-in_err-at-in-34-clause-value c =
    let l = c.loop-at in
    let s = c.args.text.now in
    nest_ends s c.from_residual.result
    (ap (rest_from s) c.from_residual.ensures
    ∙ sym (l.invariant.rest ∙ nest_at_quote s l.at l.depth c.loop-at-test.true c.in-34.is
    ∙ ap (option_and_then (nest_rest None l.depth)) (sym c.in_err-at-in-34.ensures.rest)))

pub loop-at-preserved-in-34 : goal.loop-at-preserved-in-34
loop-at-preserved-in-34 c =
    let l = c.loop-at in
    let s = c.args.text.now in
    record {
      rest = l.invariant.rest ∙ nest_at_quote s l.at l.depth c.loop-at-test.true c.in-34.is
          ∙ ap (option_and_then (nest_rest None l.depth)) (sym c.in_ok-at-in-34.ensures.rest);
      depth = omega (arith, l.invariant.depth, c.in_ok-at-in-34.ensures.within);
    }

pub returns-then-depth-le1-clause-value : goal.returns-then-depth-le1-clause-value
returns-then-depth-le1-clause-value c =
    let s = c.args.text.now in
    let rest : rest_from s (Some (c.loop-at.at + 1)) ≡ nest_rest None 0 s =
    grind (arith, common_steps) in
    nest_ends s (Some (c.loop-at.at + 1)) rest

pub returns-clause-value : goal.returns-clause-value
returns-clause-value c =
    let s = c.args.text.now in
    let rest : rest_from s None ≡ nest_rest None 0 s = grind (arith, common_steps) in
    nest_ends s None rest
