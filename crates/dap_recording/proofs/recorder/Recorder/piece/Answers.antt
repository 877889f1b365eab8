use Rattle.std.proofs.Common.{◌≡◌, inl, inr, Ok, refl, sym, ap, ◌∙◌, subst}
use Rattle.dap_tree.specs.declared.side.Side.TheVariants.{Client, Adapter}
use Rattle.dap_recording.specs.declared.recorder_fault.RecorderFault.TheVariants.{Frame}
use Rattle.dap_recording.specs.OneSide.{WantsMemory}
use Rattle.dap_recording.specs.RecorderReading.{RecorderReading, RepresentsRests, GivesPiece}
use Rattle.dap_recording.specs.RecorderReading.{HasNotRecorded, text_of}
use Rattle.dap_recording.specs.Recorder.{reading, IsConsistent}
use Rattle.dap_recording.proofs.RecorderSteps.{Took, took_by, failed_with, gives_used, gives_fault}
use Rattle.dap_recording.proofs.RecorderSteps.{used_consistent, text_kept, unchanged, wants}
use Rattle.dap_recording.proofs.recorder.Recorder.piece.Goals.{in-Client, in-Adapter}
use Rattle.dap_recording.proofs.recorder.Recorder.piece.Goals as goal

took_used : (c : goal.In-Ok)
    → Took c.args.side c.args.piece.now (reading c.self.inside) (reading c.match-side.self-inside)
    c.match-side.recorded
took_used c = elim c.match-side.branch [
  | in-Client w ↦ (let call = w.record_frame-recorded in
      took_by Client c.args.side c.args.piece.now call.new.text.items (reading c.self.inside)
      (reading c.match-side.self-inside) call.new.framer call.result c.match-side.recorded
      w.in-Client.is (ap reading w.self-inside-is) w.recorded-is call.ensures.used
      call.ensures.limits call.ensures.takes)
  | in-Adapter w ↦ (let call = w.record_frame-recorded-in-Adapter in
      took_by Adapter c.args.side c.args.piece.now call.new.text.items (reading c.self.inside)
      (reading c.match-side.self-inside) call.new.framer call.result c.match-side.recorded
      w.in-Adapter.is (ap reading w.self-inside-is) w.recorded-is call.ensures.used
      call.ensures.limits call.ensures.takes)
]

took_none : (c : goal.In-Memory)
    → Took c.args.side c.args.piece.now (reading c.self.inside) (reading c.match-side.self-inside)
    c.match-side.recorded
took_none c = elim c.match-side.branch [
  | in-Client w ↦ (let call = w.record_frame-recorded in
      took_by Client c.args.side c.args.piece.now call.new.text.items (reading c.self.inside)
      (reading c.match-side.self-inside) call.new.framer call.result c.match-side.recorded
      w.in-Client.is (ap reading w.self-inside-is) w.recorded-is call.ensures.used
      call.ensures.limits call.ensures.takes)
  | in-Adapter w ↦ (let call = w.record_frame-recorded-in-Adapter in
      took_by Adapter c.args.side c.args.piece.now call.new.text.items (reading c.self.inside)
      (reading c.match-side.self-inside) call.new.framer call.result c.match-side.recorded
      w.in-Adapter.is (ap reading w.self-inside-is) w.recorded-is call.ensures.used
      call.ensures.limits call.ensures.takes)
]

took_fault : (c : goal.After-self-1)
    → Took c.args.side c.args.piece.now (reading c.self.inside) (reading c.match-side.self-inside)
    c.match-side.recorded
took_fault c = elim c.match-side.branch [
  | in-Client w ↦ (let call = w.record_frame-recorded in
      took_by Client c.args.side c.args.piece.now call.new.text.items (reading c.self.inside)
      (reading c.match-side.self-inside) call.new.framer call.result c.match-side.recorded
      w.in-Client.is (ap reading w.self-inside-is) w.recorded-is call.ensures.used
      call.ensures.limits call.ensures.takes)
  | in-Adapter w ↦ (let call = w.record_frame-recorded-in-Adapter in
      took_by Adapter c.args.side c.args.piece.now call.new.text.items (reading c.self.inside)
      (reading c.match-side.self-inside) call.new.framer call.result c.match-side.recorded
      w.in-Adapter.is (ap reading w.self-inside-is) w.recorded-is call.ensures.used
      call.ensures.limits call.ensures.takes)
]

pub invariant_of-self : goal.invariant_of-self
invariant_of-self c =
    used_consistent c.args.side c.args.piece.now (reading c.self.inside)
    (reading c.match-side.self-inside) c.match-side.recorded (took_used c) c.self.invariant
    c.in-Ok.used c.in-Ok.is

pub returns-in-Ok-clause-gives : goal.returns-in-Ok-clause-gives
returns-in-Ok-clause-gives c = λ rests was.
    subst (λ old. GivesPiece c.args.side rests c.args.piece.now old
    (reading c.match-side.self-inside) (Ok c.in-Ok.used)) c.self.view_is
    (gives_used c.args.side c.args.piece.now (reading c.self.inside)
    (reading c.match-side.self-inside) c.match-side.recorded (took_used c) c.in-Ok.used
    c.in-Ok.is
    rests (subst (λ old. RepresentsRests old rests) (sym c.self.view_is) was))

is_unchanged : (c : goal.In-Memory) → reading c.match-side.self-inside ≡ reading c.self.inside
is_unchanged c =
    unchanged c.args.side c.args.piece.now (reading c.self.inside)
    (reading c.match-side.self-inside) c.match-side.recorded (took_none c) c.self.invariant
    c.in_default.is c.in-Err.cause c.in-Err.is c.in-Memory.is

pub invariant_of-self-in-Memory : goal.invariant_of-self-in-Memory
invariant_of-self-in-Memory c = subst IsConsistent (sym (is_unchanged c)) c.self.invariant

pub returns-in-Memory-clause-gives : goal.returns-in-Memory-clause-gives
returns-in-Memory-clause-gives c = λ rests was. inl (refl, is_unchanged c ∙ c.self.view_is)

pub returns-in-Memory-clause-memory : goal.returns-in-Memory-clause-memory
returns-in-Memory-clause-memory c = λ _. is_unchanged c ∙ c.self.view_is

pub returns-in-Memory-clause-kept : goal.returns-in-Memory-clause-kept
returns-in-Memory-clause-kept c = ap text_of (is_unchanged c ∙ c.self.view_is)

pub returns-in-Memory-clause-memory_for_record : goal.returns-in-Memory-clause-memory_for_record
returns-in-Memory-clause-memory_for_record c = λ _ rests was.
    subst (λ (r : RecorderReading). WantsMemory r.limits (rests c.args.side) c.args.piece.now)
    c.self.view_is
    (wants c.args.side c.args.piece.now (reading c.self.inside) (reading c.match-side.self-inside)
    c.match-side.recorded (took_none c) c.in-Err.cause c.in-Err.is c.in-Memory.is rests
    (subst (λ old. RepresentsRests old rests) (sym c.self.view_is) was))

pub returns-in_default-cause-clause-gives : goal.returns-in_default-cause-clause-gives
returns-in_default-cause-clause-gives c = λ rests was.
    inr (subst (λ old. HasNotRecorded c.args.side rests c.args.piece.now old
    (failed_with (Frame c.args.side c.in-Err.cause) (reading c.match-side.self-inside))
    (Frame c.args.side c.in-Err.cause)) c.self.view_is
    (gives_fault c.args.side c.args.piece.now (reading c.self.inside)
    (reading c.match-side.self-inside) c.match-side.recorded (took_fault c) c.in-Err.cause
    c.in-Err.is c.in_default-cause.not-Memory
    rests (subst (λ old. RepresentsRests old rests) (sym c.self.view_is) was)))

pub returns-in_default-cause-clause-kept : goal.returns-in_default-cause-clause-kept
returns-in_default-cause-clause-kept c =
    text_kept c.args.side c.args.piece.now (reading c.self.inside)
    (reading c.match-side.self-inside) c.match-side.recorded (took_fault c) c.self.invariant
    c.in_default.is c.in-Err.cause c.in-Err.is ∙ ap text_of c.self.view_is
