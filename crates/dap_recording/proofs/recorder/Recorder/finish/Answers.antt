use Rattle.std.proofs.Common.{◌≡◌, refl, sym, ap, ◌∙◌, subst}
use Rattle.std.specs.Result.{IsOk}
use Rattle.dap_frame.specs.declared.fault.FrameFault.{FrameFault}
use Rattle.dap_frame.specs.Reading.{Represents}
use Rattle.dap_tree.specs.declared.side.Side.TheVariants.{Client, Adapter}
use Rattle.dap_recording.specs.RecorderReading.{RecorderReading}
use Rattle.dap_recording.proofs.RecorderSteps.{is_ok}
use Rattle.dap_recording.proofs.recorder.Recorder.finish.Goals as goal

pub returns-then-is_err-2-clause-client : goal.returns-then-is_err-2-clause-client
returns-then-is_err-2-clause-client c = λ rests was some.
    let same : c.self.inside.client ≡ c.args.self.now.client =
    ap (λ (r : RecorderReading). r.client) c.self.view_is in
    let fine : IsOk c.finish.result =
    is_ok FrameFault c.finish.result (sym c.is_err.ensures.value ∙ c.if-is_err.false) in
    absurd (some
    ((c.finish.ensures.ok (rests Client)
    (subst (λ f. Represents f (rests Client)) (sym same) (was.each Client))).0 fine))

pub returns-clause-ok : goal.returns-clause-ok
returns-clause-ok c = λ rests was.
    let same : c.self.inside.client ≡ c.args.self.now.client =
    ap (λ (r : RecorderReading). r.client) c.self.view_is in
    let same-2 : c.self.inside.adapter ≡ c.args.self.now.adapter =
    ap (λ (r : RecorderReading). r.adapter) c.self.view_is in
    let fine : IsOk c.finish.result =
    is_ok FrameFault c.finish.result (sym c.is_err.ensures.value ∙ c.if-is_err.false) in
    let fine-2 : IsOk c.finish-2.result =
    is_ok FrameFault c.finish-2.result (sym c.is_err-2.ensures.value ∙ c.if-is_err-2.false) in
    let none = (c.finish.ensures.ok (rests Client)
    (subst (λ f. Represents f (rests Client)) (sym same) (was.each Client))).0 fine in
    let none-2 =
    (c.finish-2.ensures.ok (rests Adapter)
    (subst (λ f. Represents f (rests Adapter)) (sym same-2) (was.each Adapter))).0 fine-2 in
    (λ _. (none, none-2), λ _. refl)

pub returns-clause-client : goal.returns-clause-client
returns-clause-client c = λ rests was some.
    let same : c.self.inside.client ≡ c.args.self.now.client =
    ap (λ (r : RecorderReading). r.client) c.self.view_is in
    let fine : IsOk c.finish.result =
    is_ok FrameFault c.finish.result (sym c.is_err.ensures.value ∙ c.if-is_err.false) in
    absurd (some
    ((c.finish.ensures.ok (rests Client)
    (subst (λ f. Represents f (rests Client)) (sym same) (was.each Client))).0 fine))

pub returns-clause-adapter : goal.returns-clause-adapter
returns-clause-adapter c = λ rests was none some.
    let same-2 : c.self.inside.adapter ≡ c.args.self.now.adapter =
    ap (λ (r : RecorderReading). r.adapter) c.self.view_is in
    let fine-2 : IsOk c.finish-2.result =
    is_ok FrameFault c.finish-2.result (sym c.is_err-2.ensures.value ∙ c.if-is_err-2.false) in
    absurd (some
    ((c.finish-2.ensures.ok (rests Adapter)
    (subst (λ f. Represents f (rests Adapter)) (sym same-2) (was.each Adapter))).0 fine-2))
