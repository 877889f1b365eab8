use Rattle.std.proofs.Common.{◌≡◌, ◌+◌, ◌∙◌, ap, length, sym, subst, vec_len}
use Rattle.std.proofs.lemmas.List.{length-map}
use Rattle.std.proofs.lemmas.Result.{err_from_is_err_and}
use Rattle.dap_stored.specs.Sessions.{messages_of, stored_sent}
use Rattle.dap_normalise.specs.{Accepting.IsAccepted}
use Rattle.dap_normalise.specs.RecordTexts.{BeginWith, Contain}
use Rattle.dap_recording.specs.Recording.{recording_text}
use Rattle.dap_rules.proofs.CheckedSessions.{begin, ends_accepted, ends_refused}
use Rattle.dap_rules.proofs.masked_session.check_masked.Goals as goal

pub returns-in_err-check_messages-clause-err : goal.returns-in_err-check_messages-clause-err
returns-in_err-check_messages-clause-err c records fit holds =
    let because = err_from_is_err_and c.from_residual.result c.from_residual.ensures.1 in
    let ms = messages_of c.args.session.now.messages in
    rw (because.1, because.2)
    (c.in_err-check_messages.ensures.err records
    (subst (λ all. BeginWith c.args.limits all records) (sym c.in-Ok.ensures.ok)
    (begin c.args.limits records ms fit c.args.session.now.fault holds)))

pub returns-clause-ok : goal.returns-clause-ok
returns-clause-ok c records fit holds =
    let ms = messages_of c.args.session.now.messages in
    let same = c.in-Ok.ensures.ok in
    let len : vec_len c.in-Ok.messages ≡ length c.in-Ok.messages.items = search in
    let number : c.len.result + 1 ≡ length ms + 1 =
    ap (λ n. n + 1) (c.len.ensures ∙ len ∙ sym (length-map c.in-Ok.messages.items stored_sent)
    ∙ ap length same) in
    rw c.end.ensures
    (ends_accepted c.args.limits records ms fit c.args.mode c.requires.limits _ number
    (λ front contain.
    subst (λ all. IsAccepted c.args.limits c.args.mode (recording_text front) all) same
    (c.in_ok-check_messages.ensures.ok front
    (subst (λ all. Contain c.args.limits all front) (sym same) contain)))
    c.args.session.now.fault holds)

pub returns-clause-err : goal.returns-clause-err
returns-clause-err c records fit holds =
    let ms = messages_of c.args.session.now.messages in
    let same = c.in-Ok.ensures.ok in
    let len : vec_len c.in-Ok.messages ≡ length c.in-Ok.messages.items = search in
    let number : c.len.result + 1 ≡ length ms + 1 =
    ap (λ n. n + 1) (c.len.ensures ∙ len ∙ sym (length-map c.in-Ok.messages.items stored_sent)
    ∙ ap length same) in
    rw c.end.ensures
    (ends_refused c.args.limits records ms fit c.args.mode c.requires.limits _ number
    (λ front contain.
    subst (λ all. IsAccepted c.args.limits c.args.mode (recording_text front) all) same
    (c.in_ok-check_messages.ensures.ok front
    (subst (λ all. Contain c.args.limits all front) (sym same) contain)))
    c.args.session.now.fault holds)
