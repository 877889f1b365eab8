-- The rests that a recorder represents after it has consumed a piece.
use Rattle.std.proofs.Common.{◌≡◌, ◌≢◌, ℕ, ◌+◌, ◌≤◌, inl, inr, true, false, List, [], ◌++◌, length}
use Rattle.std.proofs.Common.{take, Option, Some, None, Result, Ok, Err, refl, sym, ap, ◌∙◌, subst}
use Rattle.std.proofs.Common.{arith}
use Rattle.std.specs.Result.{is_err, IsOk, IfOk, OnErr, OnOk}
use Rattle.std.proofs.lemmas.List.{length-append, length-take-le}
use Rattle.dap_frame.specs.declared.limits.FrameLimits.{FrameLimits}
use Rattle.dap_frame.specs.declared.fault.FrameFault.{FrameFault}
use Rattle.dap_frame.specs.declared.fault.FrameFault.TheVariants.{Memory}
use Rattle.dap_frame.specs.declared.fed.Fed.{Fed}
use Rattle.dap_frame.specs.Frame.{IsFrame, FailsAt}
use Rattle.dap_frame.specs.Reading.{Reading, Represents, GivesFed, GivesFault, limits_of}
use Rattle.dap_frame.proofs.Frames.{content_small}
use Rattle.dap_tree.specs.declared.side.Side.{Side}
use Rattle.dap_tree.specs.declared.side.Side.TheVariants.{Client, Adapter}
use Rattle.dap_recording.specs.declared.recorder_fault.RecorderFault.{RecorderFault}
use Rattle.dap_recording.specs.declared.recorder_fault.RecorderFault.TheVariants.{Frame}
use Rattle.dap_recording.specs.OneSide.{Takes, TakesAll, TakesFault, WantsMemory}
use Rattle.dap_recording.specs.RecorderReading.{RecorderReading, RepresentsRests, HasNotRecorded}
use Rattle.dap_recording.specs.RecorderReading.{GivesPiece, framer_of, with_rest, text_of}
use Rattle.dap_recording.specs.Recorder.{IsConsistent}
use Rattle.dap_recording.proofs.FramerSteps.{fed_all}

pub from_ok : (E : Type 0) (r : Result (Unit {0}) E) (P : Type 0) → is_err r ≡ false → OnOk r P → P
from_ok E (Ok x) P e h = h
from_ok E (Err x) P e h = absurd (let f : ⊥ = cc in f)

pub from_err : (E : Type 0) (r : Result (Unit {0}) E) (P : Type 0) → is_err r ≡ true → OnErr r P
    → P
from_err E (Ok x) P e h = absurd (let f : ⊥ = cc in f)
from_err E (Err x) P e h = h

pub on_ok : (E : Type 0) (r : Result (Unit {0}) E) (P Q : Type 0) → (P → Q) → OnOk r P → OnOk r Q
on_ok E (Ok x) P Q then h = then h
on_ok E (Err x) P Q then h = tt

pub on_err : (E : Type 0) (r : Result (Unit {0}) E) (P : Type 0) → P → OnErr r P
on_err E (Ok x) P h = tt
on_err E (Err x) P h = h

pub not_both : (E : Type 0) (r : Result (Unit {0}) E) → is_err r ≡ true → IsOk r → ⊥
not_both E (Ok x) e h = cc
not_both E (Err x) e h = cc

pub is_ok : (E : Type 0) (r : Result (Unit {0}) E) → is_err r ≡ false → IsOk r
is_ok E (Ok x) e = refl
is_ok E (Err x) e = absurd (let f : ⊥ = cc in f)

-- a content is no longer than the received bytes
pub frame_short : (limits : FrameLimits) (rest piece content : List ℕ) (used : ℕ)
    → used ≤ length piece
    → IsFrame limits (rest ++ take used piece) content → length content ≤ length rest + length piece
frame_short limits rest piece content used fits is =
    omega (
      arith,
      fits,
      (content_small limits (rest ++ take used piece) content is).1,
      length-append rest (take used piece),
      length-take-le used piece fits,
    )

pub takes_all : (limits : FrameLimits) (rest piece before after : List ℕ) (fed : Fed)
    (new : Reading) → fed.content ≡ None
    → GivesFed limits rest piece fed new → after ≡ before
    → TakesAll rest piece before after new fed.used
takes_all limits rest piece before after fed new e gives same =
    let got = fed_all limits rest piece fed new gives e in
    record { all = got.0; text = same; represents = got.1 }

pub takes_fault : (limits its : FrameLimits) (rest piece before after : List ℕ) (old new : Reading)
    (fault : FrameFault)
    → its ≡ limits → GivesFault its rest piece fault new → after ≡ before
    → (fault ≡ Memory → new ≡ old)
    → (fault ≡ Memory → WantsMemory its rest piece)
    → TakesFault limits rest piece before after old new fault
takes_fault limits its rest piece before after old new fault e gives same memory wanted = record {
  text = same;
  memory = memory;
  wanted = λ is. subst (λ l. WantsMemory l rest piece) e (wanted is);
  shown = λ d. (
    (gives.shown d).0,
    subst (λ l. FailsAt l (rest ++ piece) fault (gives.shown d).0) e (gives.shown d).1,
  );
}

-- the recorder with another framer for this side and another text
abbrev pub with_framer : Side → Reading → List ℕ → RecorderReading → RecorderReading
with_framer Client framer text recorder =
    record {
      limits = recorder.limits;
      client = framer;
      adapter = recorder.adapter;
      text = text;
      fault = recorder.fault;
    }
with_framer Adapter framer text recorder =
    record {
      limits = recorder.limits;
      client = recorder.client;
      adapter = framer;
      text = text;
      fault = recorder.fault;
    }

some_fault : (fault : RecorderFault) → ◌≡◌ {A = Option RecorderFault} (Some fault) None → ⊥
some_fault fault e = cc

-- the recorder after an error
abbrev pub failed_with : RecorderFault → RecorderReading → RecorderReading
failed_with fault recorder =
    record {
      limits = recorder.limits;
      client = recorder.client;
      adapter = recorder.adapter;
      text = recorder.text;
      fault = Some fault;
    }

stands_with : (side : Side) (rests : Side
    → List ℕ) (rest text : List ℕ) (framer : Reading) (old : RecorderReading)
    → RepresentsRests old rests → limits_of framer ≡ limits_of (framer_of old side)
    → Represents framer rest
    → RepresentsRests (with_framer side framer text old) (with_rest side rest rests)
stands_with Client rests rest text framer old was limits represents =
    record { going = was.going; limits = same; each = each }
  where
    same : (side : Side)
        → limits_of (framer_of (with_framer Client framer text old) side) ≡ old.limits
    same Client = limits ∙ was.limits Client
    same Adapter = was.limits Adapter

    each : (side : Side)
        → Represents (framer_of (with_framer Client framer text old) side)
        (with_rest Client rest rests side)
    each Client = represents
    each Adapter = was.each Adapter
stands_with Adapter rests rest text framer old was limits represents =
    record { going = was.going; limits = same; each = each }
  where
    same : (side : Side)
        → limits_of (framer_of (with_framer Adapter framer text old) side) ≡ old.limits
    same Client = was.limits Client
    same Adapter = limits ∙ was.limits Adapter

    each : (side : Side)
        → Represents (framer_of (with_framer Adapter framer text old) side)
        (with_rest Adapter rest rests side)
    each Client = was.each Client
    each Adapter = represents

text_with : (side : Side) (text : List ℕ) (framer : Reading) (old : RecorderReading)
    → text_of (with_framer side framer text old) ≡ text
text_with Client text framer old = refl
text_with Adapter text framer old = refl

with_same : (side : Side) (text : List ℕ) (framer : Reading) (old : RecorderReading)
    → framer ≡ framer_of old side
    → text ≡ old.text → with_framer side framer text old ≡ old
with_same Client text framer old p q =
    ap (λ f. with_framer Client f text old) p ∙ ap (λ t. with_framer Client old.client t old) q
with_same Adapter text framer old p q =
    ap (λ f. with_framer Adapter f text old) p ∙ ap (λ t. with_framer Adapter old.adapter t old) q

-- if no error occurred, each framer represents a rest
some_rest : (side : Side) (recorder : RecorderReading) → IsConsistent recorder
    → recorder.fault ≡ None
    → (rest : List ℕ) × Represents (framer_of recorder side) rest
some_rest Client recorder is none = (is.going none).0
some_rest Adapter recorder is none = (is.going none).1

consistent_with : (side : Side) (text : List ℕ) (framer : Reading) (old : RecorderReading)
    → IsConsistent old
    → limits_of framer ≡ limits_of (framer_of old side)
    → (old.fault ≡ None → (rest : List ℕ) × Represents framer rest)
    → IsConsistent (with_framer side framer text old)
consistent_with Client text framer old is limits some = record {
  sound = is.sound;
  client_limits = limits ∙ is.client_limits;
  adapter_limits = is.adapter_limits;
  going = λ none. (some none, (is.going none).1);
}
consistent_with Adapter text framer old is limits some = record {
  sound = is.sound;
  client_limits = is.client_limits;
  adapter_limits = limits ∙ is.adapter_limits;
  going = λ none. ((is.going none).0, some none);
}

failed_consistent_with : (side : Side) (text : List ℕ) (framer : Reading) (fault : RecorderFault)
    (old : RecorderReading) → IsConsistent old
    → limits_of framer ≡ limits_of (framer_of old side)
    → IsConsistent (failed_with fault (with_framer side framer text old))
failed_consistent_with Client text framer fault old is limits =
    record {
      sound = is.sound;
      client_limits = limits
          ∙ is.client_limits;
      adapter_limits = is.adapter_limits;
      going =
          λ none. absurd (some_fault fault none);
    }
failed_consistent_with Adapter text framer fault old is limits =
    record {
      sound = is.sound;
      client_limits = is.client_limits;
      adapter_limits = limits
          ∙ is.adapter_limits;
      going = λ none. absurd (some_fault fault none);
    }

-- The effect of a call for this side: its framer and the text may change; the other framer is
-- unchanged.
pub record Took (side : Side) (piece : List ℕ) (old new : RecorderReading)
    (recorded : Result ℕ FrameFault) : Type 0 where
  pub framer : Reading
  pub text : List ℕ
  pub new_is : new ≡ with_framer side framer text old
  pub used : IfOk recorded (λ used. used ≤ length piece)
  pub limits : limits_of framer ≡ limits_of (framer_of old side)
  pub takes : (rest : List ℕ) → Represents (framer_of old side) rest
      → Takes old.limits side rest piece old.text text (framer_of old side) framer recorded

pub took_by : (s side : Side) (piece text : List ℕ) (old new : RecorderReading) (framer : Reading)
    (result recorded : Result ℕ FrameFault)
    → side ≡ s → new ≡ with_framer s framer text old → recorded ≡ result
    → IfOk result (λ used. used ≤ length piece)
    → limits_of framer ≡ limits_of (framer_of old s)
    → ((rest : List ℕ) → Represents (framer_of old s) rest
    → Takes old.limits side rest piece old.text text (framer_of old s) framer result)
    → Took side piece old new recorded
took_by s side piece text old new framer result recorded is new_is same used limits takes =
    subst (Took side piece old new) (sym same) (subst (λ u. Took u piece old new result) (sym is)
    (record {
      framer = framer;
      text = text;
      new_is = new_is;
      used = used;
      limits = limits;
      takes = subst (λ u. (rest : List ℕ) → Represents (framer_of old s) rest
          → Takes old.limits u rest piece old.text text (framer_of old s) framer result) is takes;
    }))

module _ (side : Side) (piece : List ℕ) (old new : RecorderReading) (recorded : Result ℕ FrameFault)
    (took : Took side piece old new recorded) where
  -- bytes were consumed: the piece is inside the frame, or ends it
  pub gives_used : (used : ℕ) → recorded ≡ Ok used → (rests : Side → List ℕ)
      → RepresentsRests old rests
      → GivesPiece side rests piece old new (Ok used)
  gives_used used is rests was =
      let framer = took.framer in
      let fits : used ≤ length piece = subst (λ r. IfOk r (λ n. n ≤ length piece)) is took.used in
      let takes =
      subst (Takes old.limits side (rests side) piece old.text took.text (framer_of old side)
      framer) is (took.takes (rests side) (was.each side)) in
      let text = ap text_of took.new_is ∙ text_with side took.text framer old in
      elim takes [
        | inl all ↦ inl (record {
          all = all.all;
          text = text ∙ all.text;
          represents = subst (λ r. RepresentsRests r (with_rest side (rests side ++ piece) rests))
              (sym took.new_is)
              (stands_with side rests (rests side ++ piece) took.text framer old was took.limits
              all.represents);
        })
        | inr one ↦ inr (record {
          within = fits;
          content = one.content;
          is_frame = one.is_frame;
          text = text ∙ one.text;
          represents = subst (λ r. RepresentsRests r (with_rest side [] rests)) (sym took.new_is)
              (stands_with side rests [] took.text framer old was took.limits one.represents);
        })
      ]

  pub gives_fault : (cause : FrameFault) → recorded ≡ Err cause → cause ≢ Memory
      → (rests : Side → List ℕ) → RepresentsRests old rests
      → HasNotRecorded side rests piece old (failed_with (Frame side cause) new) (Frame side cause)
  gives_fault cause is apart rests was =
      let takes =
      subst (Takes old.limits side (rests side) piece old.text took.text (framer_of old side)
      took.framer) is (took.takes (rests side) (was.each side)) in
      record {
        cause = cause;
        fault_is = refl;
        shown = takes.shown apart;
        failed = refl;
        text = ap text_of took.new_is ∙ text_with side took.text took.framer old ∙ takes.text;
      }

  -- an allocation failed
  pub wants : (cause : FrameFault) → recorded ≡ Err cause → cause ≡ Memory
      → (rests : Side → List ℕ) → RepresentsRests old rests
      → WantsMemory old.limits (rests side) piece
  wants cause is memory rests was =
      let takes =
      subst (Takes old.limits side (rests side) piece old.text took.text (framer_of old side)
      took.framer) is (took.takes (rests side) (was.each side)) in
      takes.wanted memory

  module _ (consistent : IsConsistent old) where
    pub used_consistent : (used : ℕ) → recorded ≡ Ok used → IsConsistent new
    used_consistent used is =
        subst IsConsistent (sym took.new_is)
        (consistent_with side took.text took.framer old consistent took.limits (λ none.
        let rest = some_rest side old consistent none in
        let takes =
        subst (Takes old.limits side rest.0 piece old.text took.text (framer_of old side)
        took.framer) is (took.takes rest.0 rest.1) in
        elim takes [
          | inl all ↦ (rest.0 ++ piece, all.represents)
          | inr one ↦ ([], one.represents)
        ]))

    pub failed_consistent : (fault : RecorderFault) → IsConsistent (failed_with fault new)
    failed_consistent fault =
        subst (λ r. IsConsistent (failed_with fault r)) (sym took.new_is)
        (failed_consistent_with side took.text took.framer fault old consistent took.limits)

    module _ (going : old.fault ≡ None) (cause : FrameFault) (is : recorded ≡ Err cause) where
      takes_err : (rest : List ℕ)
          × TakesFault old.limits rest piece old.text took.text (framer_of old side) took.framer
          cause
      takes_err =
          let rest = some_rest side old consistent going in (
            rest.0,
            subst
                (Takes old.limits side rest.0 piece old.text took.text (framer_of old side)
                took.framer) is (took.takes rest.0 rest.1),
          )

      pub text_kept : text_of new ≡ text_of old
      text_kept =
          ap text_of took.new_is ∙ text_with side took.text took.framer old ∙ takes_err.1.text

      pub unchanged : cause ≡ Memory → new ≡ old
      unchanged memory =
          took.new_is
          ∙ with_same side took.text took.framer old (takes_err.1.memory memory) takes_err.1.text
