use Rattle.std.proofs.Common.{◌≡◌, ◌∙◌, ap, subst, sym, length, Err}
use Rattle.std.proofs.lemmas.Result.{err_from_is_err_and}
use Rattle.dap_tree.specs.Ids.{with_ids}
use Rattle.dap_message.specs.Message.{Sent, sent, doc_of, side_of}
use Rattle.dap_message.specs.Numbers.{are_proper, renumbered}
use Rattle.dap_rename.specs.declared.name_table.NameFault.TheVariants.{Full}
use Rattle.dap_rename.specs.Messages.{IsRenamed, with_numbers}
use Rattle.dap_rename.specs.Modes.{stop_in}
use Rattle.dap_rename.specs.Names.{mode_of}
use Rattle.dap_rename.proofs.Occurrences.{same_sent}
use Rattle.dap_rename.proofs.names.Names.rename.Goals as goal

pub replace_ids-requires-clause-count : goal.replace_ids-requires-clause-count
replace_ids-requires-clause-count g c =
    ap length c.as_slice.ensures.value ∙ c.in_ok-names.ensures.count

pub replace_ids-requires-clause-proper : goal.replace_ids-requires-clause-proper
replace_ids-requires-clause-proper g c =
    ap (λ ns. are_proper (renumbered (doc_of c.args.message) ns)) c.as_slice.ensures.value
    ∙ c.in_ok-names.ensures.proper

pub returns-clause-renamed : goal.returns-clause-renamed
returns-clause-renamed g c ms h =
    let old = c.args.message in
    let new = c.replace_ids.result in
    let names = c.in_ok-names.names.items in
    let is : with_numbers (sent old) names ≡ sent new =
    same_sent (side_of old) (side_of new) (with_ids (doc_of old) names) (doc_of new)
    (sym c.replace_ids.ensures.side)
    (sym (c.replace_ids.ensures.doc ∙ ap (with_ids (doc_of old)) c.as_slice.ensures.value)) in
    subst (λ (m : Sent). IsRenamed (stop_in (mode_of c.args.self.now)) ms (sent old) m) is
    (c.in_ok-names.ensures.renamed ms h)

pub returns-in_err-names-clause-full : goal.returns-in_err-names-clause-full
returns-in_err-names-clause-full g c e ms h =
    let p = err_from_is_err_and c.from_residual.result c.from_residual.ensures.1 in
    let is_full : c.in_err-names.field-0.0 ≡ Full = cc (p.1, p.2, e) in
    c.in_err-names.ensures.full (ap Err is_full) ms h
