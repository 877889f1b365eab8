use Rattle.std.proofs.Common.{◌≡◌, ◌+◌, ◌∙◌, ap, length, sym, subst, vec_len}
use Rattle.std.specs.Prelude.{IfErr}
use Rattle.std.proofs.lemmas.List.{length-map}
use Rattle.std.proofs.lemmas.Result.{err_from_is_err_and}
use Rattle.dap_stored.specs.Sessions.{messages_of, stored_sent}
use Rattle.dap_recording.specs.Recording.{recording_text}
use Rattle.dap_normalise.specs.{Accepting.IsAccepted, Normalising.RefusesBytes}
use Rattle.dap_normalise.specs.RecordTexts.{BeginWith, Contain}
use Rattle.dap_rules.proofs.CheckedSessions.{all_read, begin, ends_refused}
use Rattle.dap_rules.proofs.masked_session.normalise_masked.Goals as goal

pub returns-in_err-normal-clause-err : goal.returns-in_err-normal-clause-err
returns-in_err-normal-clause-err c records fit holds =
    let because = err_from_is_err_and c.from_residual.result c.from_residual.ensures.1 in
    let ms = messages_of c.args.session.now.messages in
    rw (because.1, because.2)
    (c.in_err-normal.ensures.err records
    (subst (λ all. BeginWith c.args.limits all records) (sym c.in-Ok.ensures.ok)
    (begin c.args.limits records ms fit c.args.session.now.fault holds)))

pub returns-in_err-end-clause-err : goal.returns-in_err-end-clause-err
returns-in_err-end-clause-err c records fit holds =
    let because = err_from_is_err_and c.from_residual-in_err-end.result
    c.from_residual-in_err-end.ensures.1 in
    let ms = messages_of c.args.session.now.messages in
    let same = c.in-Ok.ensures.ok in
    let len : vec_len c.in-Ok.messages ≡ length c.in-Ok.messages.items = search in
    let number : c.len.result + 1 ≡ length ms + 1 =
    ap (λ n. n + 1) (c.len.ensures ∙ len ∙ sym (length-map c.in-Ok.messages.items stored_sent)
    ∙ ap length same) in
    rw (because.1, because.2)
    (subst (λ r. IfErr r (RefusesBytes c.args.limits c.args.mode (recording_text records)))
    (sym c.end.ensures ∙ c.in_err-end.was)
    (ends_refused c.args.limits records ms fit c.args.mode c.requires.limits _ number
    (λ front contain.
    subst (λ all. IsAccepted c.args.limits c.args.mode (recording_text front) all) same
    (c.in_ok-normal.ensures.accepted front
    (subst (λ all. Contain c.args.limits all front) (sym same) contain)))
    c.args.session.now.fault holds))

pub returns-clause-ok : goal.returns-clause-ok
returns-clause-ok c records fit holds =
    c.in_ok-normal.ensures.ok records
    (subst (λ all. Contain c.args.limits all records) (sym c.in-Ok.ensures.ok) (record {
      read = all_read records (messages_of c.args.session.now.messages) _
          c.args.session.now.fault _ (sym c.end.ensures ∙ c.in_ok-end.was) holds;
      fits = fit;
    }))
