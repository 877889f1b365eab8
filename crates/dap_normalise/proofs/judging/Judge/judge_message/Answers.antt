use Rattle.std.proofs.Common.{◌≡◌, ◌++◌, ◌∙◌, ap, sym, refl, length}
use Rattle.std.proofs.lemmas.Result.{err_from_is_err_and}
use Rattle.dap_tree.specs.Ids.{with_ids}
use Rattle.dap_tree.specs.Json.{text_of}
use Rattle.dap_rename.specs.Messages.{with_numbers}
use Rattle.dap_normalise.proofs.JudgedRecords.{refused_to_write, taken}
use Rattle.dap_normalise.proofs.judging.Judge.judge_message.Goals as goal

pub write_with_ids-requires : goal.write_with_ids-requires
write_with_ids-requires g c =
    ap length c.as_slice.ensures.value ∙ c.in-Ok-name_message.ensures.count

pub returns-in_err-self-clause-judges : goal.returns-in_err-self-clause-judges
returns-in_err-self-clause-judges g c = λ messages normal held represents is.
    let m = g.M.AnyMessage.sent c.args.message in
    let names = c.in-Ok-name_message.names.items in
    let content : text_of (with_ids m.doc names) ≡ c.as_slice-content.result.now =
    sym (c.as_slice-content.ensures.value ∙ c.in-Ok-write_with_ids.ensures.text
    ∙ ap (λ xs. xs ++ text_of (with_ids m.doc c.as_slice.result.now)) c.clear.ensures.items
    ∙ ap (λ ns. text_of (with_ids m.doc ns)) c.as_slice.ensures.value) in
    let because = err_from_is_err_and c.from_residual.result c.from_residual.ensures.1 in
    let says = c.in-Ok.ensures.says messages represents.session in
    rw (because.1, because.2)
    (refused_to_write c.args.self.now messages normal represents held m is says.0
    (c.in-Ok-name_message.ensures.few messages represents.names) (with_numbers m names)
    (c.in-Ok-name_message.ensures.renamed messages represents.names)
    _ c.args.number c.args.out.now.items c.append_record.new.out.items
    (c.in_err-self.ensures.writes (with_numbers m names) (sym c.side-side.ensures) content))

pub returns-clause-judges : goal.returns-clause-judges
returns-clause-judges g c = λ messages normal held represents is.
    let m = g.M.AnyMessage.sent c.args.message in
    let names = c.in-Ok-name_message.names.items in
    let content : text_of (with_ids m.doc names) ≡ c.as_slice-content.result.now =
    sym (c.as_slice-content.ensures.value ∙ c.in-Ok-write_with_ids.ensures.text
    ∙ ap (λ xs. xs ++ text_of (with_ids m.doc c.as_slice.result.now)) c.clear.ensures.items
    ∙ ap (λ ns. text_of (with_ids m.doc ns)) c.as_slice.ensures.value) in
    let says = c.in-Ok.ensures.says messages represents.session in
    let wrote = c.in_ok-self.ensures.writes (with_numbers m names) (sym c.side-side.ensures) content
    in
    taken c.args.self.now messages normal represents held m is says.0
    (c.in-Ok-name_message.ensures.few messages represents.names) (with_numbers m names)
    (c.in-Ok-name_message.ensures.renamed messages represents.names)
    _ c.args.out.now.items c.append_record.new.out.items wrote.0 wrote.1 wrote.2 wrote.3 refl says.1
    (c.in-Ok-name_message.ensures.represents messages represents.names)
    c.in-Ok-name_message.ensures.mode
    c.in-Ok-name_message.ensures.limits
