-- The named messages of a masked recording in order are those of the text that the rules make.
use Rattle.std.proofs.Common.{◌≡◌, ℕ, true, List, [], None, sym, ◌∙◌, ap, subst}
use Rattle.dap_mask.specs.{Declarations.{Declaration, are_declared}, KeptRules.mask_of, Mask.Mask}
use Rattle.dap_mask.specs.declared.mask_rules.MaskRules.{MaskRules}
use Rattle.dap_message.specs.{Message.Sent, SwapRules.SwapRule}
use Rattle.dap_naming.specs.Sessions.{AreFew, declared_ids, named_sents}
use Rattle.dap_order.specs.MessageOrder.{ordered}
use Rattle.dap_recording.specs.Recording.{recording_text}
use Rattle.dap_rename.specs.declared.mode.Mode.{Mode}
use Rattle.dap_input.specs.{Limits.AreSound, declared.limits.Limits.Limits}
use Rattle.dap_normalise.specs.Accepting.{Fits, IsAccepted, Payload}
use Rattle.dap_normalise.specs.NormalSession.{IsNormalSession}
use Rattle.dap_normalise.specs.RecordTexts.{Contain, contents_of}
use Rattle.dap_normalise.specs.declared.normal_session.NormalSession.{NormalSession}
use Rattle.dap_stored.specs.Sessions.{messages_of}
use Rattle.dap_rules.specs.Applying.{AppliesRules, IsNamedByRules, MakesSession, NormalisesByRules}
use Rattle.dap_rules.specs.ApplyingSteps.{IsMaskedSessionByRules, MakesNamed, MakesNamedIf}
use Rattle.dap_rules.specs.ApplyingSteps.{RecordsAreAccepted}
use Rattle.dap_rules.specs.MaskedSessions.{AreRuled, HoldUpTo}
use Rattle.dap_rules.specs.{NamedRecordings.IsNamedTo, OrderingSteps.{Arranges, AreWithin}}
use Rattle.dap_rules.specs.declared.masked_session.MaskedSession.{MaskedSession}
use Rattle.dap_rules.proofs.Applied.{orders, unchanged}
use Rattle.dap_rules.proofs.MaskedNames.{OfRecords, masked_recording, named_by_rules, named_to}
use Rattle.dap_rules.proofs.MaskedNames.{of_own, own_records}
use Rattle.dap_rules.proofs.NamedDirectly.{HasNamedText, named_text_of}
use Rattle.dap_rules.proofs.NamedStay.{few_named, named_stay, order_stays}
use Rattle.dap_rules.proofs.NamesApplied.{applies_named}
use Rattle.dap_rules.proofs.OrderAnswers.{orders as orders_own, own_records as own_contain}

-- The messages are checked.
module _ (limits : Limits) (sound : AreSound limits) (mode : Mode) (mask : Mask)
    (are : are_declared mask.declared ≡ true) (some : mask.declared ≡ [] → ⊥) (recording : List ℕ)
    (messages : List Sent) (made_if : MakesNamedIf limits mode mask recording messages)
    (fits : Fits limits messages) (accepts : RecordsAreAccepted limits mode messages) where
  made : MakesNamed limits mode mask recording messages
  made = made_if fits accepts

  has_text : HasNamedText limits mask.declared made.ordered messages
  has_text =
      subst (HasNamedText limits mask.declared made.ordered) (sym made.named)
      (named_text_of limits sound mode mask.declared are made.ordered made.unnamed made.accepted
      made.few (subst (Fits limits) made.named fits))

  applied : AppliesRules limits mode mask recording has_text.written
  applied =
      applies_named limits mode mask recording some made.ordered made.made has_text.written
      has_text.is_named

  pub session_made : MakesSession limits mode mask recording messages
  session_made = record {
    written = has_text.written;
    applies = applied;
    accepted = subst (λ text. IsAccepted limits mode text messages) has_text.text_is
        (accepts has_text.records has_text.contain);
  }

  -- Each list of records that contain the messages is normalised as this.
  pub normal_made : (session : NormalSession)
      → ((records : List Payload) → Contain limits messages records
      → IsNormalSession limits mode (recording_text records) session)
      → NormalisesByRules limits mode mask recording session
  normal_made session normal = (
    has_text.written,
    applied,
    subst (λ text. IsNormalSession limits mode text session) has_text.text_is
        (normal has_text.records has_text.contain),
  )

-- A masked session, whose records are accepted.
module _ (limits : Limits) (sound : AreSound limits) (mode : Mode) (rules : MaskRules)
    (recording : List ℕ) (masked : MaskedSession)
    (is : IsMaskedSessionByRules limits (mask_of rules) recording masked)
    (checked : OfRecords limits masked
    (λ text. IsAccepted limits mode text (messages_of masked.messages))) where
  abbrev declared : List Declaration
  declared = (mask_of rules).declared

  abbrev swaps : List SwapRule
  swaps = (mask_of rules).swaps

  abbrev messages : List Sent
  messages = messages_of masked.messages

  -- The masked recording, with names.
  abbrev named : List ℕ
  named = recording_text (own_records limits sound rules recording masked is)

  by_rules : IsNamedByRules limits (mask_of rules) recording named
  by_rules = named_by_rules limits sound rules recording masked is

  accepted : IsAccepted limits mode named messages
  accepted =
      of_own limits sound rules recording masked is
      (λ text. IsAccepted limits mode text messages) checked

  -- Without names.
  abbrev plain : List ℕ
  plain = masked_recording limits sound rules is.joined masked is.is_masked

  is_named : IsNamedTo limits declared plain named
  is_named = named_to limits sound rules is.joined masked is.is_masked

  stay : named_sents declared messages ≡ messages
  stay =
      named_stay declared rules.list.labelled limits sound mode plain named is_named
      messages accepted

  few : AreFew limits.ids (declared_ids declared messages)
  few =
      few_named declared rules.list.labelled limits sound mode plain named is_named
      messages accepted

  unordered : swaps ≡ [] → MakesNamed limits mode (mask_of rules) recording messages
  unordered none = record {
    ordered = named;
    made = (named, by_rules, unchanged limits mode named swaps none);
    unnamed = messages;
    accepted = accepted;
    few = few;
    named = sym stay;
  }

  -- The messages in order, which are checked.
  module _ (some : swaps ≡ [] → ⊥) (by : List SwapRule) (same : by ≡ swaps) (session : List Sent)
      (order : session ≡ ordered by messages) (fits : Fits limits session)
      (accepts : RecordsAreAccepted limits mode session) where
    in_order : session ≡ ordered swaps messages
    in_order = order ∙ ap (λ (all : List SwapRule). ordered all messages) same

    within : AreWithin limits (ordered swaps messages) session
    within = record { same = in_order; fits = subst (Fits limits) in_order fits }

    own : IsAccepted limits mode (recording_text (contents_of session)) session
    own =
        accepts (contents_of session)
        (own_contain limits mode swaps named messages accepted sound session within)

    arranges : Arranges limits mode swaps named session
    arranges = (
      recording_text (contents_of session),
      orders_own limits mode swaps named messages accepted sound session within own,
      own,
    )

    -- They are named again.
    pub made_again : (again : List Sent) → again ≡ named_sents declared session
        → AreFew limits.ids (declared_ids declared session)
        → MakesNamed limits mode (mask_of rules) recording again
    made_again again is_again few_ids = record {
      ordered = arranges.0;
      made = (named, by_rules, orders limits mode named swaps some arranges.0 arranges.1);
      unnamed = session;
      accepted = arranges.2;
      few = few_ids;
      named = is_again;
    }

    -- Their declared ids stay in their order, so that naming changes nothing.
    pub made_once : ((xs : List Declaration) → AreRuled xs messages masked.ruled.items
        → declared_ids xs session ≡ declared_ids xs messages)
        → MakesNamed limits mode (mask_of rules) recording session
    made_once keeps =
        let ids = keeps declared is.is_masked.ruled in
        made_again session
        (order_stays declared rules.list.labelled swaps messages session stay in_order ids)
        (subst (AreFew limits.ids) (sym ids) few)

-- Without rules for the order, the records of the session are not checked yet. Each is a message.
pub made_unordered : (limits : Limits) → AreSound limits → (mode : Mode) (rules : MaskRules)
    (recording : List ℕ) (masked : MaskedSession)
    → IsMaskedSessionByRules limits (mask_of rules) recording masked → masked.fault ≡ None
    → (mask_of rules).swaps ≡ []
    → MakesNamedIf limits mode (mask_of rules) recording (messages_of masked.messages)
made_unordered limits sound mode rules recording masked is read none fits accepts =
    unordered limits sound mode rules recording masked is
    (λ records fit holds. accepts records (record {
      read = subst (HoldUpTo records (messages_of masked.messages)) read holds;
      fits = fit;
    })) none
