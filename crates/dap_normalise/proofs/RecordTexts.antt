-- The text of records that contain messages, and checking these messages one by one.
use Rattle.std.proofs.Common.{◌≡◌, ℕ, ℤ, ◌+◌, ◌≤◌, List, [], ◌∷◌, ◌++◌, length}
use Rattle.std.proofs.Common.{refl, sym, ◌∙◌, ap, subst, arith, append-nil, append_assoc}
use Rattle.std.proofs.Common.{length-append}
use Rattle.std.proofs.lemmas.List.Concat.{flat_map-append}
use Rattle.std.specs.List.{AllByRecursion}
use Rattle.dap_frame.specs.Grammar.{IsItem}
use Rattle.dap_tree.specs.Json.{text_of}
use Rattle.dap_message.specs.Message.{Sent, IsTypedContent}
use Rattle.dap_recording.specs.Recording.{record_text, recording_text, records}
use Rattle.dap_recording.proofs.Records.{readable}
use Rattle.dap_recording.proofs.RecordsWritten.{written_is_record}
use Rattle.dap_rename.specs.{Messages.IsNormal, Modes.stop_in, declared.mode.Mode.Mode}
use Rattle.dap_rename.proofs.Lists.{each_left, each_right}
use Rattle.dap_input.specs.Limits.{AreSound}
use Rattle.dap_input.specs.Refusals.{RejectsPayload, reason_of}
use Rattle.dap_input.specs.Validation.{objected}
use Rattle.dap_input.specs.declared.limits.Limits.{Limits}
use Rattle.dap_input.specs.declared.refused.Refused.{Refused}
use Rattle.dap_input.specs.declared.refused.Refused.TheVariants.{Memory}
use Rattle.dap_input.proofs.InputLoop.{ReadsAs, first_objected, next_accepted}
use Rattle.dap_input.proofs.Refusals.{objection_told, refused_as}
use Rattle.dap_input.proofs.Runs.{none_accepted}
use Rattle.dap_normalise.specs.declared.judging.Judge.{Judge}
use Rattle.dap_normalise.specs.declared.normal_session.NormalSession.{NormalSession}
use Rattle.dap_normalise.specs.Accepting.{Payload, AreMessages, Fits, IsAccepted, IsMessage, IsNext}
use Rattle.dap_normalise.specs.Accepting.{Rejects, accepting, text}
use Rattle.dap_normalise.specs.JudgingSteps.{IsTaken, RepresentsMessages, judge_limits, judge_mode}
use Rattle.dap_normalise.specs.JudgingSteps.{record_of}
use Rattle.dap_normalise.specs.{Checking.AreCounted, NormalSession.IsNormalSession}
use Rattle.dap_normalise.specs.Normalising.{RefusesBytes}
use Rattle.dap_normalise.specs.RecordTexts.{BeginWith, Contain, FitRecords, contents_of}
use Rattle.dap_normalise.proofs.AcceptingFacts.{accepted_facts, message_once, value_laws}
use Rattle.dap_normalise.proofs.JudgedRecords.{text_push}
use Rattle.dap_normalise.proofs.NormalFormLaws.{normal_session}

-- ---- the text of records

pub recorded-append : (first others : List Payload)
    → recording_text (first ++ others) ≡ recording_text first ++ recording_text others
recorded-append first others =
    flat_map-append (λ (held : Payload). record_text held.0 held.1) first others

-- The text of messages is that of the records of their canonical contents.
pub recorded_contents : (messages : List Sent) → recording_text (contents_of messages) ≡ text messages
recorded_contents [] = refl
recorded_contents (m ∷ messages) = ap (λ t. record_of m ++ t) (recorded_contents messages)

pub read_contents : (messages : List Sent)
    → AllByRecursion (λ m. IsTypedContent m.side (text_of m.doc) m.doc) messages
    → AreMessages (contents_of messages) messages
read_contents [] typed = tt
read_contents (m ∷ messages) typed = ((refl, typed.0), read_contents messages typed.1)

module _ (limits : Limits) where
  abbrev pub IsShort : Payload → Type 0
  IsShort held = length held.1 ≤ limits.frame.content

  pub fit_front : (front back : List Payload) → FitRecords limits (front ++ back)
      → FitRecords limits front
  fit_front front back fits =
      let whole = fits.whole in
      record {
        each = each_left IsShort front back fits.each;
        whole = omega (
          arith,
          whole,
          ap length (recorded-append front back),
          length-append (recording_text front) (recording_text back),
        );
      }

  pub short_contents : (messages : List Sent)
      → AllByRecursion (λ m. length (text_of m.doc) ≤ limits.frame.content) messages
      → AllByRecursion IsShort (contents_of messages)
  short_contents [] short = tt
  short_contents (m ∷ messages) short = (short.0, short_contents messages short.1)

  -- If each canonical content is that of its message, the records of the canonical contents contain
  -- the messages.
  pub own_contents : (messages : List Sent) → Fits limits messages
      → AllByRecursion (λ m. IsTypedContent m.side (text_of m.doc) m.doc) messages
      → Contain limits messages (contents_of messages)
  own_contents messages fits typed = record {
    read = read_contents messages typed;
    fits = record {
      each = short_contents messages fits.each;
      whole = subst (λ t. length t ≤ limits.input) (sym (recorded_contents messages)) fits.whole;
    };
  }

-- ---- the record of one of the messages

pub begin_all : {limits : Limits} {messages : List Sent} {all : List Payload}
    → Contain limits messages all → BeginWith limits messages all
begin_all {all = all} contain = record {
  front = all;
  rest = [];
  split = sym (append-nil all);
  read = contain.read;
  fits = contain.fits;
}

none_left : (all : List Payload) → AreMessages all [] → all ≡ []
none_left [] read = refl
none_left (held ∷ all) read = absurd read

-- The record of a message among records that contain it after the messages before.
record MessageAt (before : List Sent) (m : Sent) (after : List Sent) (all : List Payload) : Type 0
  where
    front : List Payload
    held : Payload
    back : List Payload
    split : all ≡ front ++ held ∷ back
    read_front : AreMessages front before
    is_message : IsMessage held m
    read_back : AreMessages back after

message_at : (all : List Payload) (before : List Sent) (m : Sent) (after : List Sent)
    → AreMessages all (before ++ m ∷ after) → MessageAt before m after all
message_at [] [] m after read = absurd read
message_at [] (n ∷ before) m after read = absurd read
message_at (held ∷ all) [] m after read = record {
  front = [];
  held = held;
  back = all;
  split = refl;
  read_front = tt;
  is_message = read.0;
  read_back = read.1;
}
message_at (held ∷ all) (n ∷ before) m after read =
    let later = message_at all before m after read.1 in
    record {
      front = held ∷ later.front;
      held = later.held;
      back = later.back;
      split = ap (λ rs. held ∷ rs) later.split;
      read_front = (read.0, later.read_front);
      is_message = later.is_message;
      read_back = later.read_back;
    }

-- The same, and the text of all the records is within the limits.
pub record RecordAt (limits : Limits) (before : List Sent) (m : Sent) (all : List Payload) : Type 0
  where
    pub front : List Payload
    pub held : Payload
    pub back : List Payload
    pub split : all ≡ front ++ held ∷ back
    pub contain : Contain limits before front
    pub is_message : IsMessage held m
    pub fits : FitRecords limits all

-- The message is contained in one of the first records.
pub begin_at : (limits : Limits) (before : List Sent) (m : Sent) (after : List Sent)
    (all : List Payload) → BeginWith limits (before ++ m ∷ after) all
    → RecordAt limits before m all
begin_at limits before m after all begins =
    let here = message_at begins.front before m after begins.read in
    let split : all ≡ here.front ++ here.held ∷ (here.back ++ begins.rest) =
    begins.split ∙ ap (λ rs. rs ++ begins.rest) here.split
    ∙ append_assoc here.front (here.held ∷ here.back) begins.rest in
    record {
      front = here.front;
      held = here.held;
      back = here.back ++ begins.rest;
      split = split;
      contain = record {
        read = here.read_front;
        fits = fit_front limits here.front (here.held ∷ (here.back ++ begins.rest))
            (subst (FitRecords limits) split begins.fits);
      };
      is_message = here.is_message;
      fits = begins.fits;
    }

-- The message is contained in the last record.
pub last_at : (limits : Limits) (before : List Sent) (m : Sent) (all : List Payload)
    → Contain limits (before ++ m ∷ []) all
    → (here : RecordAt limits before m all) × (here.back ≡ [])
last_at limits before m all contain =
    let here = message_at all before m [] contain.read in (
      record {
        front = here.front;
        held = here.held;
        back = here.back;
        split = here.split;
        contain = record {
          read = here.read_front;
          fits = fit_front limits here.front (here.held ∷ here.back)
              (subst (FitRecords limits) here.split contain.fits);
        };
        is_message = here.is_message;
        fits = contain.fits;
      },
      none_left here.back here.read_back,
    )

-- ---- messages that were checked

-- The state represents the messages, and the text of these records of them is accepted.
pub record HasJudged {T : Type 0} (numbers : T → List ℤ) (table_limit : T → ℕ) (limits : Limits)
    (mode : Mode) (judge : Judge T) (all : List Payload) (messages : List Sent) : Type 0 where
  pub accepted : IsAccepted limits mode (recording_text all) messages
  pub normal : List Sent
  pub represents : RepresentsMessages numbers table_limit judge messages normal
  pub limits_are : judge_limits judge ≡ limits
  pub mode_is : judge_mode judge ≡ mode

pub none_judged : {T : Type 0} {numbers : T → List ℤ} {table_limit : T → ℕ} {limits : Limits}
    {mode : Mode} {judge : Judge T} {all : List Payload}
    → RepresentsMessages numbers table_limit judge [] []
    → judge_limits judge ≡ limits → judge_mode judge ≡ mode → Contain limits [] all
    → HasJudged numbers table_limit limits mode judge all []
none_judged {limits = limits} {mode = mode} {all = all} represents limits_are mode_is contain =
    record {
      accepted = subst (λ held. IsAccepted limits mode (recording_text held) [])
          (sym (none_left all contain.read))
          (none_accepted (accepting limits mode) (accepted_facts limits mode));
      normal = [];
      represents = represents;
      limits_are = limits_are;
      mode_is = mode_is;
    }

-- The same, and these bytes are the text of their normal form.
pub record HasWritten {T : Type 0} (numbers : T → List ℤ) (table_limit : T → ℕ) (limits : Limits)
    (mode : Mode) (judge : Judge T) (all : List Payload) (messages : List Sent) (bytes : List ℕ)
    : Type 0 where
  pub judged : HasJudged numbers table_limit limits mode judge all messages
  pub text_is : bytes ≡ text judged.normal

pub none_written : {T : Type 0} {numbers : T → List ℤ} {table_limit : T → ℕ} {limits : Limits}
    {mode : Mode} {judge : Judge T} {all : List Payload} {bytes : List ℕ}
    → RepresentsMessages numbers table_limit judge [] [] → judge_limits judge ≡ limits
    → judge_mode judge ≡ mode → bytes ≡ [] → Contain limits [] all
    → HasWritten numbers table_limit limits mode judge all [] bytes
unfolding none_judged
none_written represents limits_are mode_is none contain =
    record { judged = none_judged represents limits_are mode_is contain; text_is = none }

pub written_session : {T : Type 0} {numbers : T → List ℤ} {table_limit : T → ℕ} {limits : Limits}
    {mode : Mode} {judge : Judge T} {all : List Payload} {messages : List Sent} → AreSound limits
    → (session : NormalSession)
    → HasWritten numbers table_limit limits mode judge all messages session.bytes.items
    → AreCounted session.counts messages → IsNormalSession limits mode (recording_text all) session
written_session {limits = limits} {mode = mode} {all = all} {messages = messages} sound session is
    counted =
    let judged = is.judged in
    normal_session limits mode sound (recording_text all) session
    (record {
      messages = messages;
      accepts = judged.accepted;
      normal = judged.normal;
      is_normal = subst (λ k. IsNormal (stop_in k) messages judged.normal) judged.mode_is
          judged.represents.is_normal;
      text_is = is.text_is;
    })
    counted

-- ---- one more message

-- The records of a text are checked by their contents.
abbrev pub payloads : (limits : Limits) (mode : Mode)
    → ReadsAs (accepting limits mode) (records limits.frame) (λ (held : Payload). held)
payloads limits mode = record {
  records = readable limits.frame;
  judged = value_laws limits mode;
  accepted = accepted_facts limits mode;
  item_of = λ bytes held is. is;
  fault_of = λ bytes cause ends. ends;
  open_of = λ bytes is_open. is_open;
}

module _ (limits : Limits) (mode : Mode) (sound : AreSound limits) (before : List Sent) (m : Sent)
    (all : List Payload) (here : RecordAt limits before m all) where
  abbrev own_record : List ℕ
  own_record = record_text here.held.0 here.held.1

  is_record : IsItem (records limits.frame) own_record here.held
  is_record =
      written_is_record limits.frame here.held.0 here.held.1 sound.frame
      (each_right (IsShort limits) here.front (here.held ∷ here.back)
      (subst (AllByRecursion (IsShort limits)) here.split here.fits.each)).0

  text_split : recording_text all ≡ recording_text here.front ++ (own_record ++ recording_text here.back)
  text_split = ap recording_text here.split ∙ recorded-append here.front (here.held ∷ here.back)

  text_of_all : here.back ≡ [] → recording_text here.front ++ own_record ≡ recording_text all
  text_of_all last =
      sym (text_split
      ∙ ap (λ (rs : List Payload). recording_text here.front ++ (own_record ++ recording_text rs)) last
      ∙ ap (λ t. recording_text here.front ++ t) (append-nil own_record))

  module _ {T : Type 0} {numbers : T → List ℤ} {table_limit : T → ℕ} {old : Judge T}
      (was : HasJudged numbers table_limit limits mode old here.front before) where
    pub judged_on : {new : Judge T} {first longer : List ℕ} → here.back ≡ []
        → judge_limits new ≡ judge_limits old → judge_mode new ≡ judge_mode old
        → IsTaken numbers table_limit before was.normal here.held new first longer
        → HasJudged numbers table_limit limits mode new all (before ++ m ∷ [])
    judged_on {new = new} last same_limits same_mode taken =
        let limits_are = same_limits ∙ was.limits_are in
        let mode_is = same_mode ∙ was.mode_is in
        let same : taken.message ≡ m =
        message_once here.held taken.message m taken.is_next.is_message here.is_message in
        let is_next : IsNext limits mode before here.held m =
        subst (IsNext limits mode before here.held) same
        (subst (λ l. IsNext l mode before here.held taken.message) limits_are
        (subst (λ k. IsNext (judge_limits new) k before here.held taken.message) mode_is
        taken.is_next)) in
        record {
          accepted = subst (λ t. IsAccepted limits mode t (before ++ m ∷ [])) (text_of_all last)
              (next_accepted (accepting limits mode) (records limits.frame)
              (λ (h : Payload). h) (payloads limits mode) (recording_text all) (recording_text here.front)
              (own_record ++ recording_text here.back) before (length before + 1) text_split was.accepted
              refl here.held own_record (recording_text here.back) refl is_record here.fits.whole m
              is_next);
          normal = was.normal ++ taken.named ∷ [];
          represents =
              subst (λ k. RepresentsMessages numbers table_limit new (before ++ k ∷ [])
              (was.normal ++ taken.named ∷ [])) same taken.represents;
          limits_are = limits_are;
          mode_is = mode_is;
        }

    pub written_on : {new : Judge T} {first longer : List ℕ} → here.back ≡ []
        → judge_limits new ≡ judge_limits old → judge_mode new ≡ judge_mode old
        → first ≡ text was.normal
        → IsTaken numbers table_limit before was.normal here.held new first longer
        → HasWritten numbers table_limit limits mode new all (before ++ m ∷ []) longer
    unfolding judged_on
    written_on last same_limits same_mode first_is taken = record {
      judged = judged_on last same_limits same_mode taken;
      text_is = taken.appended ∙ ap (λ t. t ++ record_of taken.named) first_is
          ∙ sym (text_push was.normal taken.named);
    }

    module _ (number : ℕ) (is_number : number ≡ length before + 1) where
      told : (because : Refused)
          → RejectsPayload (Rejects limits mode before here.held) number because
          → RefusesBytes limits mode (recording_text all) because
      told Memory rejects = tt
      told because rejects =
          let reported = objection_told (Rejects limits mode before here.held) number
          (reason_of because) rejects in
          refused_as (accepting limits mode) (recording_text all) because number (objected reported.0)
          reported.1
          (first_objected (accepting limits mode) (records limits.frame) (λ (h : Payload). h)
          (payloads limits mode) (recording_text all) (recording_text here.front)
          (own_record ++ recording_text here.back) before number text_split was.accepted is_number
          here.held own_record (recording_text here.back) refl is_record here.fits.whole reported.0
          reported.2)

      pub judge_refuses : (because : Refused)
          → RejectsPayload (Rejects (judge_limits old) (judge_mode old) before here.held) number
          because → RefusesBytes limits mode (recording_text all) because
      judge_refuses because rejects =
          told because
          (subst (λ l. RejectsPayload (Rejects l mode before here.held) number because)
          was.limits_are
          (subst (λ k. RejectsPayload (Rejects (judge_limits old) k before here.held) number
          because) was.mode_is rejects))
