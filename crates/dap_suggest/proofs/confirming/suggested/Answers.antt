use Rattle.std.proofs.Common.{◌≡◌, ◌++◌, ◌∙◌, ap, subst, rules}
use Rattle.dap_message.specs.SwapRules.{swaps_of}
use Rattle.dap_suggest.specs.{Exchanges.HasSwapsAmong, Suggested.IsConfirmed}
use Rattle.dap_suggest.proofs.NeededSwaps.{adds_needed}
use Rattle.dap_suggest.proofs.confirming.suggested.Goals as goal

pub returns-clause-confirmed : goal.returns-clause-confirmed
returns-clause-confirmed c =
    let inputs = c.args.inputs.now in
    let items = c.in_ok-rules.rules.items in
    let found_mode = c.in_ok-same_by.field-0 in
    let same_mode : found_mode ≡ c.args.mode = search rules in
    let confirmed : IsConfirmed inputs (inputs.given.now ++ items) c.args.mode c.args.to_check =
    subst (λ m. IsConfirmed inputs (inputs.given.now ++ items) m c.args.to_check) same_mode
    (subst (λ xs. IsConfirmed inputs (inputs.given.now ++ xs) found_mode c.args.to_check)
    c.as_slice-2.ensures.value c.in_ok-same_by.ensures.confirmed) in
    let among : HasSwapsAmong (swaps_of inputs.swaps.now) (inputs.given.now ++ items) =
    subst (λ xs. HasSwapsAmong (swaps_of inputs.swaps.now) (inputs.given.now ++ xs))
    c.as_slice-2.ensures.value c.in_ok-same_by.ensures.swaps in
    record {
      added = c.args.to_check;
      confirmed = confirmed;
      ends = (
        c.args.found.now,
        c.in_ok-rules.ensures
            ∙ ap (λ xs. c.args.found.now ++ xs) (c.as_slice.ensures.value ∙ c.in_ok-end.ensures),
      );
      strict = c.requires.strict;
      swaps = adds_needed inputs (inputs.given.now ++ items) c.requires.swaps among;
    }
