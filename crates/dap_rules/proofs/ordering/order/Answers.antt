use Rattle.std.proofs.Common.{inl, inr, sym, ◌∙◌}
use Rattle.std.proofs.lemmas.Result.{IfErr-weaker, err_from_is_err_and}
use Rattle.dap_message.specs.SwapRules.{swaps_of}
use Rattle.dap_rules.specs.Ordering.{IsNotOrdered, Orders}
use Rattle.dap_rules.proofs.{InputTexts.returns_error, OrderAnswers.{bounded, refused_order}}
use Rattle.dap_rules.proofs.ordering.order.Goals as goal

pub returns-in_err-text-clause-outcome : goal.returns-in_err-text-clause-outcome
returns-in_err-text-clause-outcome g c =
    let because = err_from_is_err_and c.from_residual.result c.from_residual.ensures.1 in
    let limits = c.args.limits in
    let mode = c.args.mode in
    let rules = swaps_of c.args.rules.now in
    let bytes = c.in-Ok.input.bytes.items in
    rw (because.1, because.2)
    (returns_error limits.input (Orders limits mode rules) (IsNotOrdered limits mode rules) bytes
    (bounded limits mode rules bytes) g.R.Source c.args.reader.now c.read_all.new.reader g.W.Sink
    c.args.writer.now c.order_recording.result c.in-Ok.input.stop c.in-Ok.ensures.came
    c.order_recording.ensures.ok
    (IfErr-weaker c.order_recording.result _ _ (refused_order limits mode rules bytes)
    c.order_recording.ensures.err)
    c.in_err-text.field-0.0 (sym c.text_of_input.ensures ∙ c.in_err-text.was))

pub returns-in_err-text-clause-memory : goal.returns-in_err-text-clause-memory
returns-in_err-text-clause-memory g c = λ _.
    inr (c.in-Ok.input.bytes.items, c.in-Ok.input.stop, c.in-Ok.ensures.came)

pub returns-in-Err-clause-memory : goal.returns-in-Err-clause-memory
returns-in-Err-clause-memory g c = λ _. inl c.in-Err.ensures.partly
