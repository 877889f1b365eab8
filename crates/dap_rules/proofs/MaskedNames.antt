-- The text of a masked session is the masked recording with names in the place of its declared ids.
use Rattle.std.proofs.Common.{◌≡◌, ◌≤◌, ℕ, List, [], ◌∷◌, length, sym, ap, subst}
use Rattle.dap_mask.specs.{Declarations.Declaration, KeptRules.mask_of, Mask.Mask}
use Rattle.dap_mask.specs.declared.mask_rules.MaskRules.{MaskRules}
use Rattle.dap_message.specs.Message.{Sent}
use Rattle.dap_naming.specs.Sessions.{named_sents}
use Rattle.dap_naming.proofs.SessionsNamed.{no_declarations}
use Rattle.dap_input.specs.{Limits.AreSound, declared.limits.Limits.Limits}
use Rattle.dap_input.proofs.Outcomes.{one_list}
use Rattle.dap_normalise.specs.{Accepting.{Payload, text}, RecordTexts.{FitRecords, contents_of}}
use Rattle.dap_normalise.proofs.RecordTexts.{recorded_contents, short_contents}
use Rattle.dap_recording.specs.Recording.{recording_text}
use Rattle.dap_recording.proofs.Records.{readable}
use Rattle.dap_rules.specs.Applying.{IsNamedByRules, NamesBy}
use Rattle.dap_rules.specs.ApplyingSteps.{IsMaskedSessionByRules}
use Rattle.dap_rules.specs.{MaskedRecordings.IsMaskedTo, NamedRecordings.IsNamedTo}
use Rattle.dap_rules.specs.MaskedSessions.{Holds, IsMaskedSession, named_left}
use Rattle.dap_rules.specs.Masking.{left_of, masked_text, masking}
use Rattle.dap_rules.specs.Naming.{AreMessages, IsAccepted}
use Rattle.dap_rules.specs.declared.masked_session.MaskedSession.{MaskedSession}
use Rattle.dap_rules.specs.declared.passes.Pass.TheVariants as pass
use Rattle.dap_rules.proofs.{MaskingFacts.{accepted_facts, value_laws}, RewritingFacts.promised}

-- Without declarations the text of the named messages is the text of the messages.
names_by : (limits : Limits) (xs : List Declaration) (ms : List Sent)
    → IsNamedTo limits xs (text ms) (text (named_sents xs ms))
    → NamesBy limits xs (text ms) (text (named_sents xs ms))
names_by limits [] ms is = ap text (no_declarations ms)
names_by limits (x ∷ xs) ms is = is

module _ (limits : Limits) (sound : AreSound limits) (rules : MaskRules) (recording : List ℕ)
    (session : MaskedSession)
    (is : IsMaskedSession limits (mask_of rules) recording session) where
  abbrev mask : Mask
  mask = mask_of rules

  -- The records that the session contains. Their text is the masked recording with names.
  abbrev pub records : List Payload
  records = contents_of (named_left mask is.messages)

  text_is : recording_text records ≡ text (named_left mask is.messages)
  text_is = recorded_contents (named_left mask is.messages)

  pub fit : FitRecords limits records
  fit =
      let fits = is.fits in
      record {
        each = short_contents limits (named_left mask is.messages) fits.each;
        whole = subst (λ (t : List ℕ). length t ≤ limits.input) (sym text_is) fits.whole;
      }

  -- The masked recording, without names.
  abbrev pub masked_recording : List ℕ
  masked_recording = masked_text mask is.messages

  pub masks : IsMaskedTo limits mask recording masked_recording
  masks = promised pass.Mask limits sound rules recording is.messages is.accepted

  same_messages : masks.masks.messages ≡ is.messages
  same_messages =
      one_list (masking limits mask) (readable limits.frame) (value_laws limits mask)
      (accepted_facts limits mask) recording masks.masks.messages is.messages masks.masks.accepts
      is.accepted

  -- The masked recording is accepted before its ids are named.
  accepted : IsAccepted limits mask.declared masked_recording (left_of mask is.messages)
  accepted = record {
    short = let fits = is.accepted.fits in fits.whole;
    records = masks.records;
    recording = masks.recording;
    read = subst (λ ms. AreMessages masks.records (left_of mask ms)) same_messages masks.read;
    few = is.few;
    fits = is.fits;
  }

  named_text : IsNamedTo limits mask.declared masked_recording (text (named_left mask is.messages))
  named_text =
      promised pass.Name limits sound rules masked_recording (left_of mask is.messages) accepted

  pub named_to : IsNamedTo limits mask.declared masked_recording (recording_text records)
  named_to = subst (IsNamedTo limits mask.declared masked_recording) (sym text_is) named_text

  pub names : NamesBy limits mask.declared masked_recording (recording_text records)
  names =
      subst (NamesBy limits mask.declared masked_recording) (sym text_is)
      (names_by limits mask.declared (left_of mask is.messages) named_text)

-- ---- the rules of a file

-- A fact about the text of any records that the session contains.
abbrev pub OfRecords : Limits → MaskedSession → (List ℕ → Type 0) → Type 0
OfRecords limits session fact = (all : List Payload) → FitRecords limits all → Holds session all
    → fact (recording_text all)

module _ (limits : Limits) (sound : AreSound limits) (rules : MaskRules) (recording : List ℕ)
    (session : MaskedSession)
    (is : IsMaskedSessionByRules limits (mask_of rules) recording session) where
  abbrev pub own_records : List Payload
  own_records = records limits sound rules is.joined session is.is_masked

  pub named_by_rules : IsNamedByRules limits (mask_of rules) recording (recording_text own_records)
  named_by_rules = (
    masked_recording limits sound rules is.joined session is.is_masked,
    (is.joined, is.numbers, is.joins, masks limits sound rules is.joined session is.is_masked),
    names limits sound rules is.joined session is.is_masked,
  )

  -- The same fact about the named recording.
  pub of_own : (fact : List ℕ → Type 0) → OfRecords limits session fact
      → fact (recording_text own_records)
  of_own fact made =
      made own_records (fit limits sound rules is.joined session is.is_masked) is.is_masked.holds
