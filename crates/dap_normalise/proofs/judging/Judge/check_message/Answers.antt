use Rattle.std.proofs.Common.{◌≡◌, ◌<◌, [], length, ◌∙◌, ap, sym, refl, inl, subst}
use Rattle.std.proofs.lemmas.Result.{err_from_is_err_and}
use Rattle.dap_tree.specs.Ids.{with_ids}
use Rattle.dap_tree.specs.Json.{text_of}
use Rattle.dap_rename.specs.Messages.{with_numbers}
use Rattle.dap_input.specs.declared.refused.Refused.TheVariants.{Grew}
use Rattle.dap_normalise.specs.JudgingSteps.{record_of}
use Rattle.dap_normalise.proofs.JudgedRecords.{refused_to_write, taken}
use Rattle.dap_normalise.proofs.judging.Judge.check_message.Goals as goal

pub returns-in_default-clause-checks : goal.returns-in_default-clause-checks
returns-in_default-clause-checks g c = λ messages normal held represents is.
    let m = g.M.AnyMessage.sent c.args.message.now in
    let names = c.in-Ok-name_message.names.items in
    let says = c.in-Ok.ensures.says messages represents.session in
    let long : c.args.self.now.limits.frame.content < length (text_of (with_ids m.doc names)) =
    subst (λ ns. c.args.self.now.limits.frame.content < length (text_of (with_ids m.doc ns)))
    c.as_slice.ensures.value c.in_default.ensures in
    refused_to_write c.args.self.now messages normal represents held m is says.0
    (c.in-Ok-name_message.ensures.few messages represents.names) (with_numbers m names)
    (c.in-Ok-name_message.ensures.renamed messages represents.names)
    (Grew c.args.number) c.args.number [] [] (refl, inl long)

pub returns-in_err-self-clause-checks : goal.returns-in_err-self-clause-checks
returns-in_err-self-clause-checks g c = λ messages normal held represents is.
    let m = g.M.AnyMessage.sent c.args.message.now in
    let names = c.in-Ok-name_message.names.items in
    let named = with_numbers m names in
    let says = c.in-Ok.ensures.says messages represents.session in
    let because = err_from_is_err_and c.from_residual.result c.from_residual.ensures.1 in
    let long : length (text_of named.doc) ≡ c.in-Some.content_len =
    sym (c.in-Some.ensures.0
    ∙ ap (λ ns. length (text_of (with_ids m.doc ns))) c.as_slice.ensures.value) in
    rw (because.1, because.2)
    (refused_to_write c.args.self.now messages normal represents held m is says.0
    (c.in-Ok-name_message.ensures.few messages represents.names) named
    (c.in-Ok-name_message.ensures.renamed messages represents.names)
    _ c.args.number [] (record_of named) (c.in_err-self.ensures.counts named long))

pub returns-clause-checks : goal.returns-clause-checks
returns-clause-checks g c = λ messages normal held represents is.
    let m = g.M.AnyMessage.sent c.args.message.now in
    let names = c.in-Ok-name_message.names.items in
    let named = with_numbers m names in
    let says = c.in-Ok.ensures.says messages represents.session in
    let long : length (text_of named.doc) ≡ c.in-Some.content_len =
    sym (c.in-Some.ensures.0
    ∙ ap (λ ns. length (text_of (with_ids m.doc ns))) c.as_slice.ensures.value) in
    let wrote = c.in_ok-self.ensures.counts named long in (
      record_of named,
      taken c.args.self.now messages normal represents held m is says.0
          (c.in-Ok-name_message.ensures.few messages represents.names) named
          (c.in-Ok-name_message.ensures.renamed messages represents.names)
          _ [] (record_of named) wrote.0 wrote.1 wrote.2 wrote.3 refl says.1
          (c.in-Ok-name_message.ensures.represents messages represents.names)
          c.in-Ok-name_message.ensures.mode
          c.in-Ok-name_message.ensures.limits,
    )
