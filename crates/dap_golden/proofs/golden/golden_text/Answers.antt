use Rattle.std.proofs.Common.{subst}
use Rattle.std.specs.Prelude.{IfErr, IfOk}
use Rattle.std.proofs.lemmas.Result.{IfErr-weaker, IfOk-weaker, err_from_is_err_and}
use Rattle.dap_golden.specs.Golden.{IsGolden, IsRefusedGolden, mask_given}
use Rattle.dap_golden.specs.GoldenFiles.{IsNormalText}
use Rattle.dap_rename.specs.declared.mode.Mode.{Mode}
use Rattle.dap_golden.proofs.GoldenTexts.{golden_of_input, no_session, session_refused}
use Rattle.dap_golden.proofs.golden.golden_text.Goals as goal

pub returns-in_err-session-clause-err : goal.returns-in_err-session-clause-err
returns-in_err-session-clause-err c =
    let because = err_from_is_err_and c.from_residual-in_err-session.result
    c.from_residual-in_err-session.ensures.1 in
    rw (because.1, because.2)
    (subst (λ (mode : Mode). IsRefusedGolden c.args.limits mode (mask_given c.args.rules)
    c.args.allow_open c.args.input.items c.in_err-session.field-0.0) c.mode_given-wanted.ensures
    (no_session c.args.limits c.mode_given-wanted.result (mask_given c.args.rules)
    c.args.allow_open c.args.input.items c.in_ok-recording.recording.items
    c.in_ok-recording.ensures.ok c.in_err-session.field-0.0
    c.in_err-session.ensures.err))

pub returns-clause-ok : goal.returns-clause-ok
returns-clause-ok c =
    let wanted = c.mode_given-wanted.result in
    let made = c.in_ok-session.ensures.ok in
    subst (λ (mode : Mode). IfOk c.golden_of.result (IsGolden c.args.limits mode
    (mask_given c.args.rules) c.args.allow_open c.args.input.items)) c.mode_given-wanted.ensures
    (IfOk-weaker c.golden_of.result _ _
    (λ text is. golden_of_input c.args.limits wanted (mask_given c.args.rules) c.args.allow_open
    c.args.input.items c.in_ok-recording.recording.items c.in_ok-recording.ensures.ok text
    made.0 made.1 (is c.args.limits wanted made.0 made.2)) c.golden_of.ensures.ok)

pub returns-clause-err : goal.returns-clause-err
returns-clause-err c =
    let wanted = c.mode_given-wanted.result in
    let made = c.in_ok-session.ensures.ok in
    subst (λ (mode : Mode). IfErr c.golden_of.result (IsRefusedGolden c.args.limits mode
    (mask_given c.args.rules) c.args.allow_open c.args.input.items)) c.mode_given-wanted.ensures
    (IfErr-weaker c.golden_of.result _ _
    (λ refused is. session_refused c.args.limits wanted (mask_given c.args.rules) c.args.allow_open
    c.args.input.items made.0 (record {
      recording = c.in_ok-recording.recording.items;
      of_input = c.in_ok-recording.ensures.ok;
      applies = made.1;
    }) refused (is c.args.limits wanted made.0 made.2)) c.golden_of.ensures.err)

pub returns-clause-normal : goal.returns-clause-normal
returns-clause-normal c =
    let wanted = c.mode_given-wanted.result in
    let made = c.in_ok-session.ensures.ok in
    subst (λ (mode : Mode). IfOk c.golden_of.result
    (λ text. IsNormalText c.args.limits mode text.bytes.items)) c.mode_given-wanted.ensures
    (IfOk-weaker c.golden_of.result _ _
    (λ text is. (is c.args.limits wanted made.0 made.2).canonical.again) c.golden_of.ensures.ok)
