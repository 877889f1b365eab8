-- The golden text of a session, decided by its counts.
use Rattle.std.proofs.Common.{◌≡◌, ◌≢◌, Bool, false, List, [], ◌∷◌, ℕ, ◌∙◌, length, ap, refl}
use Rattle.std.proofs.Common.{sym, subst, Option, Some, None, Result, Ok, Err, inl, inr}
use Rattle.std.specs.Prelude.{IfErr, IfOk}
use Rattle.dap_mask.specs.Mask.{Mask}
use Rattle.dap_tree.specs.declared.side.Side.TheVariants.{Client, Adapter}
use Rattle.dap_message.specs.Message.{Sent}
use Rattle.dap_rename.specs.declared.mode.Mode.{Mode}
use Rattle.dap_input.specs.declared.limits.Limits.{Limits}
use Rattle.dap_input.specs.declared.refused.Refused.{Refused}
use Rattle.dap_input.specs.declared.refused.Refused.TheVariants.{Incomplete, Memory}
use Rattle.dap_input.specs.Refusals.{IsRefused}
use Rattle.dap_normalise.specs.declared.checked.Checked.{Checked}
use Rattle.dap_normalise.specs.declared.normal_session.NormalSession.{NormalSession}
use Rattle.dap_normalise.specs.{Accepting.accepting, Checking.AreCounted, Normalising.RefusesBytes}
use Rattle.dap_normalise.specs.NormalSession.{IsNormalSession}
use Rattle.dap_rules.specs.declared.fault.ApplyRefused.{ApplyRefused}
use Rattle.dap_rules.specs.declared.fault.ApplyRefused.TheVariants as step
use Rattle.dap_golden.specs.Golden.{AppliesBy, AreAnswered, HasNoSession, IsGolden, IsGoldenOf}
use Rattle.dap_golden.specs.Golden.{IsRecordingOf, IsRefusedGolden, IsSessionOf, RefusesSession}
use Rattle.dap_golden.specs.GoldenSteps.{HasNoSessionBy, RefusesGolden, RefusesNormal, session_of}
use Rattle.dap_golden.specs.declared.golden.GoldenText.{GoldenText}
use Rattle.dap_golden.specs.declared.fault.GoldenRefused.{GoldenRefused}
use Rattle.dap_golden.specs.declared.fault.GoldenRefused.TheVariants as because

-- The counts show that each request has a response.
abbrev pub AreZero : Checked → Type 0
AreZero counts = (counts.client_open ≡ 0) × (counts.adapter_open ≡ 0)

answered : (counts : Checked) (messages : List Sent) → AreCounted counts messages → AreZero counts
    → AreAnswered messages
answered counts messages counted none Client = sym counted.client ∙ none.0
answered counts messages counted none Adapter = sym counted.adapter ∙ none.1

pub golden : (allow_open : Bool) (session : NormalSession) → session.counts.records ≢ 0
    → (allow_open ≡ false → AreZero session.counts)
    → (limits : Limits) (mode : Mode) (recording : List ℕ)
    → IsNormalSession limits mode recording session
    → IsGoldenOf limits mode allow_open recording
    record { bytes = session.bytes; records = session.counts.records }
golden allow_open session some zero limits mode recording is = record {
  canonical = is.canonical;
  some = λ none. some (is.counted.records ∙ ap (λ (messages : List Sent). length messages) none);
  answered = λ not_allowed. answered session.counts is.canonical.normalises.messages is.counted
      (zero not_allowed);
  count = is.counted.records;
}

-- ---- the rules

module _ (limits : Limits) (mode : Mode) where
  pub no_normal : (session : List ℕ) (why : Refused) → (why ≡ Memory → ⊥)
      → RefusesBytes limits mode session why → IsRefused (accepting limits mode) session why
  no_normal session Memory some is = absurd (some refl)
  no_normal session why some is = is

  -- Without rules, a recording that is rejected is not normalised.
  pub plain_refused : (recording : List ℕ) (why : Refused) → (why ≡ Memory → ⊥)
      → RefusesBytes limits mode recording why
      → RefusesNormal limits mode None recording (because.Session why)
  plain_refused recording why some is = inr (recording, refl, no_normal recording why some is)

  -- An error of normalising is reported as `Session`.
  pub step_refused : (mask : Option Mask) (recording : List ℕ) (Refuses : Refused → Type 0)
      → ((why : Refused) → (why ≡ Memory → ⊥) → Refuses why
      → RefusesNormal limits mode mask recording (because.Session why))
      → (normal : Result NormalSession Refused) → IfErr normal Refuses
      → IfErr (session_of normal) (RefusesNormal limits mode mask recording)
  step_refused mask recording Refuses named (Ok session) is = tt
  step_refused mask recording Refuses named (Err Memory) is = tt
  step_refused mask recording Refuses named (Err why) is =
      named why (λ memory. absurd (let same = memory in cc)) is

pub step_done : (P : NormalSession → Type 0) (normal : Result NormalSession Refused) → IfOk normal P
    → IfOk (session_of normal) P
step_done P (Ok session) is = is
step_done P (Err Memory) is = tt
step_done P (Err why) is = tt

module _ (limits : Limits) (mode : Mode) (mask : Option Mask) (allow_open : Bool)
    (input : List ℕ) where
  module _ (recording : List ℕ) (of_input : IsRecordingOf limits input recording) where
    has : (given : Option Mask) → mask ≡ given → (why : ApplyRefused)
        → HasNoSessionBy limits mode given recording why → HasNoSession limits mode mask input why
    has None same why is = absurd is
    has (Some rules) same why is = record {
      recording = recording;
      of_input = of_input;
      rules = rules;
      are_given = same;
      is_refused = is;
    }

    refused_session : (session : List ℕ) (why : Refused)
        → IsRefused (accepting limits mode) session why
        → RefusesSession limits mode allow_open session why
    refused_session session (Incomplete client adapter) is = absurd is
    refused_session session why is = is

    -- If the recording is not normalised by the rules, its input does not have a golden text.
    pub no_session : (refused : GoldenRefused) → RefusesNormal limits mode mask recording refused
        → IsRefusedGolden limits mode mask allow_open input refused
    no_session (because.Mask why) is = has mask refl (step.Mask why) is
    no_session (because.Session why) (inl is) = inl (has mask refl (step.Order why) is)
    no_session (because.Session why) (inr (session, applies, is)) = inr (
      session,
      record { recording = recording; of_input = of_input; applies = applies },
      refused_session session why is,
    )
    no_session because.Memory is = tt
    no_session refused is = absurd is

    -- The golden text of a session is that of its input.
    pub golden_of_input : (text : GoldenText) (session : List ℕ)
        → AppliesBy limits mode mask recording session
        → IsGoldenOf limits mode allow_open session text
        → IsGolden limits mode mask allow_open input text
    golden_of_input text session applies is = record {
      session = session;
      of_input = record { recording = recording; of_input = of_input; applies = applies };
      of_session = is;
    }

  -- If a session lacks a golden text, so does its input.
  pub session_refused : (session : List ℕ) → IsSessionOf limits mode mask input session
      → (refused : GoldenRefused) → RefusesGolden limits mode allow_open session refused
      → IsRefusedGolden limits mode mask allow_open input refused
  session_refused session of_input (because.Session refused) is = inr (session, of_input, is)
  session_refused session of_input because.NoRecords is = (session, of_input, is)
  session_refused session of_input because.Memory is = tt
  session_refused session of_input refused is = absurd is
