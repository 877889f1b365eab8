use Rattle.std.proofs.Common.{arith, ◌+◌, [], ap, refl, sym, subst, Ok, Err}
use Rattle.std.proofs.lemmas.Bool.{false≢true}
use Rattle.dap_device.specs.Reading.{FitsStop}
use Rattle.dap_input.specs.declared.refused.Refused.TheVariants.{TraceTooLong, Trace, Recorder}
use Rattle.dap_input.specs.declared.refused.Refused.TheVariants.{ReadFault}
use Rattle.dap_record.specs.TracingSteps.{HasTraced}
use Rattle.dap_record.proofs.TracingLoop.{all_recorded, cut_in_frame, cut_in_piece, failed}
use Rattle.dap_record.proofs.TracingLoop.{last_small, too_long}
use Rattle.dap_record.proofs.tracing.end_trace.Goals as goal

pub overflow_add-result : goal.overflow_add-result
overflow_add-result c =
    let was = c.requires.represents.1 in
    let over = (c.in-Ok.ensures.ok _ _ _ was.reads).0 refl in
    let small =
    last_small c.args.limits c.requires.sound _ [] c.args.trace.now
    c.args.recorder.now c.args.last was over in
    omega (arith, small)

pub returns-in-Ok : goal.returns-in-Ok
returns-in-Ok c = λ whole bytes was is fits.
    let long = subst (FitsStop c.args.limits.input bytes) c.in-Full.is fits in
    let over = (c.in-Ok.ensures.ok _ _ _ was.reads).0 refl in
    subst (λ s. HasTraced {U = Unit {0}} c.args.limits bytes s
    (Err (TraceTooLong (c.args.last + 1))) c.args.recorder.now) (sym c.in-Full.is)
    (too_long c.args.limits c.requires.sound _ [] c.args.trace.now
    c.args.recorder.now c.args.last was bytes is
    refl (c.args.last + 1)
    (ap (λ n. n + 1) (was.last_is over)) long)

pub returns-in-Err : goal.returns-in-Err
returns-in-Err c = λ whole bytes was is fits.
    let long = subst (FitsStop c.args.limits.input bytes) c.in-Full.is fits in
    subst (λ s. HasTraced {U = Unit {0}} c.args.limits bytes s
    (Err (TraceTooLong c.in-Err.fault.piece)) c.args.recorder.now) (sym c.in-Full.is)
    (too_long c.args.limits c.requires.sound _ [] c.args.trace.now
    c.args.recorder.now c.args.last was bytes is
    refl c.in-Err.fault.piece
    (c.in-Err.ensures.cut _ _ _ was.reads).0 long)

pub returns-in-Failed : goal.returns-in-Failed
returns-in-Failed c = λ whole bytes was is fits.
    let short =
    subst (FitsStop c.args.limits.input bytes) c.in-Failed.is fits in
    subst (λ s. HasTraced {U = Unit {0}} c.args.limits bytes s (Err ReadFault)
    c.args.recorder.now) (sym c.in-Failed.is)
    (failed c.args.limits c.requires.sound _ [] c.args.trace.now
    c.args.recorder.now c.args.last was bytes is
    refl short)

pub returns-in-Ok-finish : goal.returns-in-Ok-finish
returns-in-Ok-finish c = λ whole bytes was is fits.
    let short = subst (FitsStop c.args.limits.input bytes) c.in-End.is fits in
    let over = (c.in-Ok-ended.ensures.ok _ _ _ was.reads).0 refl in
    subst (λ s. HasTraced {U = Unit {0}} c.args.limits bytes s (Ok tt)
    c.args.recorder.now) (sym c.in-End.is)
    (all_recorded c.args.limits c.requires.sound _ [] c.args.trace.now
    c.args.recorder.now c.args.last was bytes is
    refl short over tt
    ((c.in-Ok-finish.ensures.ok _ was.represents).0 refl))

pub returns-in-Err-finish : goal.returns-in-Err-finish
returns-in-Err-finish c = λ whole bytes was is fits.
    let short = subst (FitsStop c.args.limits.input bytes) c.in-End.is fits in
    let over = (c.in-Ok-ended.ensures.ok _ _ _ was.reads).0 refl in
    let represents = was.represents in
    subst (λ s. HasTraced {U = Unit {0}} c.args.limits bytes s
    (Err (Recorder c.args.last c.in-Err-finish.fault)) c.args.recorder.now)
    (sym c.in-End.is)
    (cut_in_frame c.args.limits c.requires.sound _ [] c.args.trace.now
    c.args.recorder.now c.args.last was bytes is
    refl short over (Unit {0}) c.finish.result
    c.in-Err-finish.fault c.in-Err-finish.is
    (λ both. false≢true ((c.in-Err-finish.ensures.ok _ represents).1 both))
    (λ some. c.finish.ensures.client _ represents some)
    (λ none some. c.finish.ensures.adapter _ represents none some))

pub returns-in-Err-ended : goal.returns-in-Err-ended
returns-in-Err-ended c = λ whole bytes was is fits.
    let short = subst (FitsStop c.args.limits.input bytes) c.in-End.is fits in
    let cut = c.in-Err-ended.ensures.cut _ _ _ was.reads in
    subst (λ s. HasTraced {U = Unit {0}} c.args.limits bytes s
    (Err (Trace c.in-Err-ended.fault.piece c.in-Err-ended.fault.cause))
    c.args.recorder.now) (sym c.in-End.is)
    (cut_in_piece c.args.limits c.requires.sound _ [] c.args.trace.now
    c.args.recorder.now c.args.last was bytes is
    refl short c.in-Err-ended.fault.piece
    c.in-Err-ended.fault.cause cut.0 cut.1
    (λ none. false≢true ((c.in-Err-ended.ensures.ok _ _ _ was.reads).1 none)))
