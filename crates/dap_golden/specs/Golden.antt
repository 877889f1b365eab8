-- The text of a golden file: how it is created from an input, and why an input has none. Source:
-- own, over traces, recordings, the rules of a file and normal forms.
use Rattle.std.specs.Prelude.{◌≡◌, ◌≢◌, ◌⊎◌, ℕ, Bool, false, List, [], length, Option, Some, None}
use Rattle.std.specs.{Borrow.Bor, Option.option_map}
use Rattle.dap_recording.specs.Recording.{recording_text}
use Rattle.dap_tree.specs.declared.side.Side.{Side}
use Rattle.dap_tree.specs.declared.side.Side.TheVariants.{Client, Adapter}
use Rattle.dap_message.specs.Message.{Sent}
use Rattle.dap_session.specs.Rules.{open_requests}
use Rattle.dap_rename.specs.declared.mode.Mode.{Mode}
use Rattle.dap_mask.specs.{KeptRules.mask_of, Mask.Mask, declared.mask_rules.MaskRules.MaskRules}
use Rattle.dap_input.specs.{declared.limits.Limits.Limits, declared.refused.Refused.Refused}
use Rattle.dap_input.specs.{declared.refused.Refused.TheVariants.Incomplete, Refusals.IsRefused}
use Rattle.dap_record.specs.Tracing.{IsRecordedAs, IsTraceRefused}
use Rattle.dap_rules.specs.{Applying.{AppliesRules, IsRefusedByRules}, Modes.mode_by}
use Rattle.dap_rules.specs.MaskedMessages.{AreMaskedMessages}
use Rattle.dap_rules.specs.declared.fault.ApplyRefused.{ApplyRefused}
use Rattle.dap_rules.specs.declared.fault.ApplyRefused.TheVariants as step
use Rattle.dap_normalise.specs.{Accepting.{IsAccepted, accepting}, Normalising.IsCanonical}
use Rattle.dap_golden.specs.declared.fault.GoldenRefused.{GoldenRefused}
use Rattle.dap_golden.specs.declared.fault.GoldenRefused.TheVariants as because
use Rattle.dap_golden.specs.{declared.golden.GoldenText.GoldenText, TraceHead.IsTraceHead}

-- ---- the recording of an input, and the session that the rules make of it

-- The mask of the rules, if there are any.
abbrev pub mask_given : Option (Bor MaskRules) → Option Mask
mask_given rules = option_map (λ r. mask_of r.now) rules

-- The mode in which the ids of the session are numbered: that of the caller, unless there are rules
-- that want another.
abbrev pub mode_given : Option Mask → Mode → Mode
mode_given None mode = mode
mode_given (Some mask) mode = mode_by mask mode

-- The recording of an input (own): that of the trace if the input starts like a trace, and
-- otherwise the input itself.
pub data IsRecordingOf (limits : Limits) (input recording : List ℕ) : Type 0 where
  of_trace : IsTraceHead input → (messages : List (Side × List ℕ))
      → IsRecordedAs limits input messages → recording ≡ recording_text messages
      → IsRecordingOf limits input recording
  unchanged : (IsTraceHead input → ⊥) → recording ≡ input → IsRecordingOf limits input recording

-- The rules turn the recording into this session: it is masked, put in order if some of the rules
-- are for the order, and names replace the ids that the rules declare. Without rules it is
-- unchanged.
abbrev pub AppliesBy : Limits → Mode → Option Mask → List ℕ → List ℕ → Type 0
AppliesBy limits mode None recording session = session ≡ recording
AppliesBy limits mode (Some mask) recording session =
    AppliesRules limits mode mask recording session

-- The input has a recording, which the rules turn into this session.
pub record IsSessionOf (limits : Limits) (mode : Mode) (mask : Option Mask)
    (input session : List ℕ) : Type 0 where
  pub recording : List ℕ
  pub of_input : IsRecordingOf limits input recording
  pub applies : AppliesBy limits mode mask recording session

-- The recording of the input has these masked messages: its messages after all rules but those for
-- the order and for declared ids.
pub record AreMaskedMessagesOf (limits : Limits) (mask : Mask) (input : List ℕ)
    (messages : List Sent) : Type 0 where
  pub recording : List ℕ
  pub of_input : IsRecordingOf limits input recording
  pub are_masked : AreMaskedMessages limits mask recording messages

-- ---- the golden text

-- Each request of both sides has a response.
abbrev pub AreAnswered : List Sent → Type 0
AreAnswered messages = (side : Side) → open_requests side messages ≡ 0

-- The text is the normal text of a recording with at least one record. If `allow_open` is not set,
-- each request in the recording has a response.
pub record IsGoldenOf (limits : Limits) (mode : Mode) (allow_open : Bool) (recording : List ℕ)
    (text : GoldenText) : Type 0 where
  pub canonical : IsCanonical limits mode recording text.bytes.items
  pub some : canonical.normalises.messages ≢ []
  pub answered : allow_open ≡ false → AreAnswered canonical.normalises.messages
  pub count : text.records ≡ length canonical.normalises.messages

-- The text is the golden text of the input: that of its session.
pub record IsGolden (limits : Limits) (mode : Mode) (mask : Option Mask) (allow_open : Bool)
    (input : List ℕ) (text : GoldenText) : Type 0 where
  pub session : List ℕ
  pub of_input : IsSessionOf limits mode mask input session
  pub of_session : IsGoldenOf limits mode allow_open session text

-- The messages of the session.
abbrev pub messages_of : {limits : Limits} {mode : Mode} {mask : Option Mask} {allow_open : Bool}
    {input : List ℕ} {text : GoldenText} → IsGolden limits mode mask allow_open input text
    → List Sent
messages_of is = is.of_session.canonical.normalises.messages

-- ---- rejections

-- The recording is accepted, but `client` requests of the client and `adapter` requests of the
-- adapter have no response, and that is not allowed.
pub record LeavesOpen (limits : Limits) (mode : Mode) (allow_open : Bool) (recording : List ℕ)
    (client adapter : ℕ) : Type 0 where
  pub not_allowed : allow_open ≡ false
  pub messages : List Sent
  pub accepted : IsAccepted limits mode recording messages
  pub client_is : client ≡ open_requests Client messages
  pub adapter_is : adapter ≡ open_requests Adapter messages
  pub some : client ≡ 0 → adapter ≡ 0 → ⊥

-- The recording is rejected for this reason, or has requests without a response.
abbrev pub RefusesSession : Limits → Mode → Bool → List ℕ → Refused → Type 0
RefusesSession limits mode allow_open recording (Incomplete client adapter) =
    LeavesOpen limits mode allow_open recording client adapter
RefusesSession limits mode allow_open recording refused =
    IsRefused (accepting limits mode) recording refused

-- The rules cannot turn the input's recording into a session, for this reason.
pub record HasNoSession (limits : Limits) (mode : Mode) (mask : Option Mask) (input : List ℕ)
    (refused : ApplyRefused) : Type 0 where
  pub recording : List ℕ
  pub of_input : IsRecordingOf limits input recording
  pub rules : Mask
  pub are_given : mask ≡ Some rules
  pub is_refused : IsRefusedByRules limits mode rules recording refused

-- Why an input does not have a golden text. Each step was reached only if all steps before it
-- succeeded. `Session` is an error of putting the masked recording in order, of naming its declared
-- ids, or of the resulting session.
abbrev pub IsRefusedGolden : Limits → Mode → Option Mask → Bool → List ℕ → GoldenRefused → Type 0
IsRefusedGolden limits mode mask allow_open input (because.Trace refused) =
    IsTraceHead input
    × ((messages : List (Side × List ℕ)) × IsTraceRefused limits input refused messages)
IsRefusedGolden limits mode mask allow_open input (because.Mask refused) =
    HasNoSession limits mode mask input (step.Mask refused)
IsRefusedGolden limits mode mask allow_open input (because.Session refused) =
    HasNoSession limits mode mask input (step.Order refused)
    ⊎ ((session : List ℕ) × IsSessionOf limits mode mask input session
    × RefusesSession limits mode allow_open session refused)
IsRefusedGolden limits mode mask allow_open input because.NoRecords =
    (session : List ℕ) × IsSessionOf limits mode mask input session
    × IsAccepted limits mode session []
IsRefusedGolden limits mode mask allow_open input because.Memory = Unit {0}
