use Rattle.std.proofs.Common.{None, Some, List, refl, subst, ℕ}
use Rattle.std.specs.Prelude.{IfErr, IfOk}
use Rattle.std.proofs.lemmas.Result.{IfOk-weaker}
use Rattle.dap_normalise.specs.{NormalSession.IsNormalSession, Normalising.RefusesBytes}
use Rattle.dap_golden.specs.GoldenSteps.{IsNormalBy}
use Rattle.dap_golden.proofs.GoldenTexts.{plain_refused, step_done, step_refused}
use Rattle.dap_golden.proofs.golden.normalise_recording.Goals as goal

pub returns-in_default-clause-ok : goal.returns-in_default-clause-ok
returns-in_default-clause-ok c =
    let recording = c.args.recording.items in
    rw (c.session_of.ensures, c.in_default.is)
    (step_done (IsNormalBy c.args.limits c.args.mode None recording) c.normalise_session.result
    (IfOk-weaker c.normalise_session.result _ _ (λ session is. (recording, refl, is))
    (subst (λ (bytes : List ℕ). IfOk c.normalise_session.result
    (IsNormalSession c.args.limits c.args.mode bytes)) c.as_slice.ensures.value
    c.normalise_session.ensures.ok)))

pub returns-in_default-clause-err : goal.returns-in_default-clause-err
returns-in_default-clause-err c =
    let recording = c.args.recording.items in
    rw (c.session_of.ensures, c.in_default.is)
    (step_refused c.args.limits c.args.mode None recording
    (RefusesBytes c.args.limits c.args.mode recording)
    (plain_refused c.args.limits c.args.mode recording) c.normalise_session.result
    (subst (λ (bytes : List ℕ). IfErr c.normalise_session.result
    (RefusesBytes c.args.limits c.args.mode bytes)) c.as_slice.ensures.value
    c.normalise_session.ensures.err))
