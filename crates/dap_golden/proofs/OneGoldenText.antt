-- An input has at most one recording, one session and one golden text. An input with a golden text
-- is not rejected.
use Rattle.std.proofs.Common.{◌≡◌, ℕ, Bool, List, [], Option, Some, None, refl, sym, ◌∙◌, ap, subst}
use Rattle.std.proofs.Common.{inl, inr, length}
use Rattle.dap_message.specs.Message.{Sent}
use Rattle.dap_session.specs.Rules.{open_requests}
use Rattle.dap_tree.specs.declared.side.Side.TheVariants.{Client, Adapter}
use Rattle.dap_recording.proofs.Records.{readable}
use Rattle.dap_recording.specs.Recording.{recording_text}
use Rattle.dap_mask.specs.Mask.{Mask}
use Rattle.dap_input.specs.declared.limits.Limits.{Limits}
use Rattle.dap_input.specs.Limits.{AreSound}
use Rattle.dap_rename.specs.declared.mode.Mode.{Mode}
use Rattle.dap_input.specs.declared.refused.Refused.{Refused}
use Rattle.dap_input.specs.declared.refused.Refused.TheVariants.{Incomplete}
use Rattle.dap_input.proofs.ItemReaders.{shown_cause}
use Rattle.dap_input.proofs.OneOutcome.{has_one_outcome}
use Rattle.dap_record.proofs.TraceOutcomes.{traces_have_one_outcome}
use Rattle.dap_normalise.specs.Accepting.{IsAccepted, accepting}
use Rattle.dap_normalise.specs.Normalising.{Normalises}
use Rattle.dap_normalise.proofs.AcceptingFacts as normal
use Rattle.dap_normalise.proofs.NormalFormLaws.{one_normal_text}
use Rattle.dap_rules.proofs.OrderedTexts.{one_accepted}
use Rattle.dap_rules.specs.Applying.{IsRefusedByRules}
use Rattle.dap_rules.specs.declared.fault.ApplyRefused.{ApplyRefused}
use Rattle.dap_rules.specs.declared.fault.ApplyRefused.TheVariants as step
use Rattle.dap_rules.proofs.OneOutcome.{applied_has_no_error, one_text_by_rules}
use Rattle.dap_golden.specs.Golden.{AppliesBy, HasNoSession, IsGoldenOf, IsRecordingOf}
use Rattle.dap_golden.specs.Golden.{IsSessionOf, LeavesOpen, RefusesSession, of_trace}
use Rattle.dap_golden.specs.Golden.{unchanged}
use Rattle.dap_golden.specs.Laws.{GoldenIsNotRefused, OneGoldenText}
use Rattle.dap_golden.specs.declared.fault.GoldenRefused.TheVariants as because
use Rattle.dap_golden.specs.declared.golden.GoldenText.{GoldenText}

module _ (limits : Limits) (sound : AreSound limits) where
  pub one_recording : (input recording other : List ℕ) → IsRecordingOf limits input recording
      → IsRecordingOf limits input other → recording ≡ other
  one_recording input recording other (of_trace head messages one is)
      (of_trace again others two also) =
      is ∙ ap recording_text
      ((traces_have_one_outcome limits sound).one_list input messages others one two) ∙ sym also
  one_recording input recording other (of_trace head messages one is) (unchanged no_head also) =
      absurd (no_head head)
  one_recording input recording other (unchanged no_head is) (of_trace head messages one also) =
      absurd (no_head head)
  one_recording input recording other (unchanged no_head is) (unchanged also_none also) =
      is ∙ sym also

  one_by_rules : (mode : Mode) (mask : Option Mask) (recording session other : List ℕ)
      → AppliesBy limits mode mask recording session
      → AppliesBy limits mode mask recording other → session ≡ other
  one_by_rules mode None recording session other one two = one ∙ sym two
  one_by_rules mode (Some mask) recording session other one two =
      one_text_by_rules limits mode mask recording session other one two

  one_session : (mode : Mode) (mask : Option Mask) (input session other : List ℕ)
      → IsSessionOf limits mode mask input session → IsSessionOf limits mode mask input other
      → session ≡ other
  one_session mode mask input session other one two =
      one_by_rules mode mask two.recording session other
      (subst (λ recording. AppliesBy limits mode mask recording session)
      (one_recording input one.recording two.recording one.of_input two.of_input) one.applies)
      two.applies

pub one_golden_text : OneGoldenText
one_golden_text limits mode mask sound allow_open either input a b one two =
    let same = one_session limits sound mode mask input one.session two.session one.of_input
    two.of_input in
    let first = one.of_session.canonical.normalises in
    let second = two.of_session.canonical.normalises in
    let messages = one_accepted limits mode one.session first.messages second.messages first.accepts
    (subst (λ bytes. IsAccepted limits mode bytes second.messages) (sym same) second.accepts) in (
      one_normal_text limits mode sound one.session a.bytes.items b.bytes.items first
          (subst (λ bytes. Normalises limits mode bytes b.bytes.items) (sym same) second),
      one.of_session.count ∙ ap (λ (ms : List Sent). length ms) messages ∙ sym two.of_session.count,
    )

-- ---- not rejected

module _ (limits : Limits) (mode : Mode) (allow_open : Bool) (recording : List ℕ)
    (text : GoldenText) (golden : IsGoldenOf limits mode allow_open recording text) where
  -- The messages are those of the golden text.
  same_messages : (others : List Sent) → IsAccepted limits mode recording others
      → golden.canonical.normalises.messages ≡ others
  same_messages others accepted =
      one_accepted limits mode recording golden.canonical.normalises.messages others
      golden.canonical.normalises.accepts accepted

  none_open : (client adapter : ℕ)
      → LeavesOpen limits mode allow_open recording client adapter → ⊥
  none_open client adapter leaves =
      let same = same_messages leaves.messages leaves.accepted in
      let answered = golden.answered leaves.not_allowed in
      leaves.some
      (leaves.client_is ∙ ap (open_requests Client) (sym same) ∙ answered Client)
      (leaves.adapter_is ∙ ap (open_requests Adapter) (sym same) ∙ answered Adapter)

  session_not_refused : (refused : Refused)
      → RefusesSession limits mode allow_open recording refused → ⊥
  session_not_refused (Incomplete client adapter) is = none_open client adapter is
  session_not_refused refused is =
      (has_one_outcome (accepting limits mode) (shown_cause limits.frame) (readable limits.frame)
      (normal.value_facts limits mode) (normal.accepted_facts limits mode)).not_both recording
      golden.canonical.normalises.messages refused golden.canonical.normalises.accepts is

module _ (limits : Limits) (mode : Mode) (sound : AreSound limits) (input session : List ℕ)
    (mask : Option Mask) (of_input : IsSessionOf limits mode mask input session) where
  has_session : (refused : ApplyRefused) → HasNoSession limits mode mask input refused
      → refused ≡ step.Memory
  has_session refused is =
      let applies : AppliesBy limits mode (Some is.rules) of_input.recording session =
      subst (λ m. AppliesBy limits mode m of_input.recording session) is.are_given
      of_input.applies in
      let same = one_recording limits sound input is.recording of_input.recording is.of_input
      of_input.of_input in
      applied_has_no_error limits mode is.rules of_input.recording session refused applies
      (subst (λ recording. IsRefusedByRules limits mode is.rules recording refused) same
      is.is_refused)

pub golden_is_not_refused : GoldenIsNotRefused
golden_is_not_refused limits mode mask sound allow_open input text (because.Trace refused) golden
    (head, (messages, is)) = trace golden.of_input.of_input
  where
    trace : IsRecordingOf limits input golden.of_input.recording → because.Trace refused
        ≡ because.Memory
    trace (of_trace also others recorded same) =
        absurd ((traces_have_one_outcome limits sound).not_both input others messages refused
        recorded is)
    trace (unchanged no_head same) = absurd (no_head head)
golden_is_not_refused limits mode mask sound allow_open input text (because.Mask refused) golden
    is =
    let no = has_session limits mode sound input golden.session mask golden.of_input
    (step.Mask refused) is in
    absurd (let e = no in cc)
golden_is_not_refused limits mode mask sound allow_open input text (because.Session refused) golden
    (inl is) =
    let no = has_session limits mode sound input golden.session mask golden.of_input
    (step.Order refused) is in
    absurd (let e = no in cc)
golden_is_not_refused limits mode mask sound allow_open input text (because.Session refused) golden
    (inr (session, of_input, is)) =
    let same = one_session limits sound mode mask input session golden.session of_input
    golden.of_input in
    absurd (session_not_refused limits mode allow_open golden.session text golden.of_session
    refused
    (subst (λ recording. RefusesSession limits mode allow_open recording refused) same is))
golden_is_not_refused limits mode mask sound allow_open input text because.NoRecords golden
    (session, of_input, is) =
    let same = one_session limits sound mode mask input session golden.session of_input
    golden.of_input in
    absurd (golden.of_session.some
    (same_messages limits mode allow_open golden.session text golden.of_session []
    (subst (λ recording. IsAccepted limits mode recording []) same is)))
golden_is_not_refused limits mode mask sound allow_open input text because.Memory golden is = refl
