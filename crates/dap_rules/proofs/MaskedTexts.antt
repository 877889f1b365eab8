-- A masked text masks to itself, and determines the messages except for the values that the rules
-- remove.
use Rattle.std.proofs.Common.{◌≡◌, ℕ, Bool, true, false, not, List, [], ◌∷◌, map}
use Rattle.std.proofs.Common.{refl, sym, ◌∙◌, ap, ap₂, subst}
use Rattle.std.specs.List.{AllByRecursion, AllZip}
use Rattle.dap_tree.specs.Doc.{Doc, is_ordered}
use Rattle.dap_frame.proofs.Ends.{not_empty}
use Rattle.dap_frame.proofs.ItemStreams as items
use Rattle.dap_message.specs.Message.{Sent, IsTyped}
use Rattle.dap_recording.proofs.Records.{readable, record_grammar}
use Rattle.dap_input.specs.declared.limits.Limits.{Limits}
use Rattle.dap_input.specs.Limits.{AreSound}
use Rattle.dap_input.proofs.Outcomes.{one_list}
use Rattle.dap_normalise.specs.Accepting.{Payload, Fits, text, AreMessages as AreTypedMessages}
use Rattle.dap_rename.specs.declared.mode.Mode.{Mode}
use Rattle.dap_normalise.specs.Normalising.{Normalises}
use Rattle.dap_normalise.specs.RecordTexts.{contents_of}
use Rattle.dap_normalise.proofs.NormalFormLaws.{equal_texts_tell, recording_of}
use Rattle.dap_mask.specs.Ids.{leave_ids}
use Rattle.dap_mask.specs.Categories.{keep_categories}
use Rattle.dap_mask.specs.Fills.{filled, keep_fills, AreFillsUtf8}
use Rattle.dap_mask.specs.Loose.{IsReadBy, IsReadLoosely}
use Rattle.dap_mask.specs.Mask.{Mask, leaves_out}
use Rattle.dap_mask.specs.Masked.{AgreeBut, masked}
use Rattle.dap_mask.specs.Omissions.{omitted}
use Rattle.dap_mask.specs.Redacted.{AgreeOutside, redacted}
use Rattle.dap_mask.specs.Rules.{are_safe, are_idempotent}
use Rattle.dap_mask.proofs.ByPath.{agree_from_equal, equal_from_agree}
use Rattle.dap_mask.proofs.LooseReading.{content_redacted, filled_again, left_is_read, ordered_by}
use Rattle.dap_mask.proofs.OmittedKeeps.{redacted_stays_in, agree_from_redacted}
use Rattle.dap_mask.proofs.OmittedKeeps.{redacted_from_agree}
use Rattle.dap_words.specs.Words.{AreUtf8}
use Rattle.dap_words.proofs.WordedDocs.{worded_none}
use Rattle.dap_mask.proofs.LooseReading.{one_loose_reading}
use Rattle.dap_mask.proofs.Loosening.{read_loose}
use Rattle.dap_mask.proofs.OmittedOnce.{redacted_once}
use Rattle.dap_rules.specs.Masking.{AreMessages, AreWhole, IsAccepted, is_kept, kept, left_of}
use Rattle.dap_rules.specs.Masking.{mask_message, masking}
use Rattle.dap_rules.specs.Naming.{AreMessages as AreReadMessages}
use Rattle.dap_rules.specs.MaskedRecordings.{HaveNoText, IsMasked, IsMaskedTo}
use Rattle.dap_rules.specs.MaskedRecordings.{IsTypedAs, Masks, with_words}
use Rattle.dap_rules.proofs.LeftLists.{by_bool}
use Rattle.dap_rules.proofs.MaskingFacts.{accepted_facts, value_laws}

-- ---- messages that were read

-- Some content is read as the message.
abbrev IsSomeRead : Mask → Sent → Type 0
IsSomeRead mask m = (content : List ℕ) × IsReadBy mask content m.doc

all_read : (mask : Mask) (records : List Payload) (messages : List Sent)
    → AreMessages mask records messages → AllByRecursion (IsSomeRead mask) messages
all_read mask [] [] read = tt
all_read mask [] (m ∷ messages) read = absurd read
all_read mask (held ∷ records) [] read = absurd read
all_read mask (held ∷ records) (m ∷ messages) read =
    ((held.1, read.0.1), all_read mask records messages read.1)

ordered : (mask : Mask) (m : Sent) → IsSomeRead mask m → is_ordered m.doc ≡ true
ordered mask m read = ordered_by mask read.0 m.doc read.1

kept_read : (mask : Mask) (messages : List Sent) → AllByRecursion (IsSomeRead mask) messages
    → AllByRecursion (IsSomeRead mask) (kept mask messages)
kept_read mask [] read = tt
kept_read mask (m ∷ messages) read =
    by_bool (is_kept mask m) (λ yes. rw yes (read.0, kept_read mask messages read.1))
    (λ no. rw no (kept_read mask messages read.1))

-- The contents are read as these documents, without words and before members are set.
abbrev AreReadLoosely : List Payload → List Sent → Type 0
AreReadLoosely [] [] = Unit {0}
AreReadLoosely [] (m ∷ ms) = ⊥
AreReadLoosely (held ∷ records) [] = ⊥
AreReadLoosely (held ∷ records) (m ∷ ms) = (m.side ≡ held.0) × IsReadLoosely held.1 m.doc
    × AreReadLoosely records ms

loosely : (records : List Payload) (ms : List Sent) → AreReadMessages records ms
    → AreReadLoosely records ms
loosely [] [] read = tt
loosely [] (m ∷ ms) read = absurd read
loosely (held ∷ records) [] read = absurd read
loosely (held ∷ records) (m ∷ ms) read =
    (read.0.0, read_loose held.1 m.doc read.0.1, loosely records ms read.1)

-- The rules set no member of the messages.
abbrev AreFilled : Mask → List Sent → Type 0
AreFilled mask ms = AllByRecursion (λ m. filled mask.fills m.doc ≡ m.doc) ms

not_true : (b : Bool) → not b ≡ true → b ≡ false
not_true true h = cc
not_true false h = refl

module _ (mask : Mask) (safe : are_safe mask.changes ≡ true)
    (settled : are_idempotent mask.changes ≡ true)
    (keep : keep_categories mask.changes mask.categories ≡ true) where
  -- ---- masking masked messages

  kept_again : (m : Sent) → is_kept mask m ≡ true → is_kept mask (mask_message mask m) ≡ true
  kept_again m is =
      ap not (redacted_stays_in mask m.doc safe keep (not_true (leaves_out mask m.doc) is))

  masked_again : (m : Sent) → IsSomeRead mask m
      → mask_message mask (mask_message mask m) ≡ mask_message mask m
  masked_again m read =
      ap (λ d. record { side = m.side; doc = d })
      (redacted_once mask m.doc safe settled (ordered mask m read))

  left_again : (messages : List Sent) → AllByRecursion (IsSomeRead mask) messages
      → left_of mask (left_of mask messages) ≡ left_of mask messages
  left_again [] read = refl
  left_again (m ∷ messages) read =
      by_bool (is_kept mask m)
      (λ yes. rw (yes, kept_again m yes)
      (ap₂ (λ k ks. k ∷ ks) (masked_again m read.0) (left_again messages read.1)))
      (λ no. rw no (left_again messages read.1))

  -- ---- messages that agree

  -- Two read messages agree in the sense of R if and only if their redacted forms are equal.
  module _ (R : Doc → Doc → Type 0)
      (from : (m n : Sent) → IsSomeRead mask m → IsSomeRead mask n
      → redacted mask m.doc ≡ redacted mask n.doc → R m.doc n.doc)
      (to : (m n : Sent) → IsSomeRead mask m → IsSomeRead mask n → R m.doc n.doc
      → redacted mask m.doc ≡ redacted mask n.doc) where
    abbrev Alike : Sent → Sent → Type 0
    Alike m n = (m.side ≡ n.side) × R m.doc n.doc

    some_agree : (ms ns : List Sent) → AllByRecursion (IsSomeRead mask) ms
        → AllByRecursion (IsSomeRead mask) ns
        → map (mask_message mask) ms ≡ map (mask_message mask) ns → AllZip Alike ms ns
    some_agree [] [] read also same = tt
    some_agree [] (n ∷ ns) read also same = absurd cc
    some_agree (m ∷ ms) [] read also same = absurd cc
    some_agree (m ∷ ms) (n ∷ ns) read also same =
        let first : mask_message mask m ≡ mask_message mask n = cc in
        let rest : map (mask_message mask) ms ≡ map (mask_message mask) ns = cc in (
          (
            ap (λ (k : Sent). k.side) first,
            from m n read.0 also.0 (ap (λ (k : Sent). k.doc) first),
          ),
          some_agree ms ns read.1 also.1 rest,
        )

    all_equal : (ms ns : List Sent) → AllByRecursion (IsSomeRead mask) ms
        → AllByRecursion (IsSomeRead mask) ns → AllZip Alike ms ns
        → map (mask_message mask) ms ≡ map (mask_message mask) ns
    all_equal [] [] read also agree = refl
    all_equal [] (n ∷ ns) read also agree = absurd agree
    all_equal (m ∷ ms) [] read also agree = absurd agree
    all_equal (m ∷ ms) (n ∷ ns) read also agree =
        ap₂ (λ k ks. k ∷ ks)
        (ap₂ (λ s d. record { side = s; doc = d }) agree.0.0
        (to m n read.0 also.0 agree.0.1))
        (all_equal ms ns read.1 also.1 agree.1)

  -- The masked messages are read from their own text.
  left_read : AreUtf8 mask.words → AreFillsUtf8 mask.fills → (messages : List Sent)
      → AllByRecursion (IsSomeRead mask) messages → AreWhole (left_of mask messages)
      → AreReadMessages (contents_of (left_of mask messages)) (left_of mask messages)
  left_read utf8 fills [] read whole = tt
  left_read utf8 fills (m ∷ messages) read whole =
      by_bool (leaves_out mask m.doc)
      (λ yes. rw yes (left_read utf8 fills messages read.1 (rw yes at whole)))
      (λ no.
      let sound = rw no at whole in
      let e = redacted mask m.doc in
      rw no (
        (
          refl,
          left_is_read mask read.0.0 e utf8 fills (m.doc, read.0.1, (no, refl, sound.0)),
        ),
        left_read utf8 fills messages read.1 sound.1,
      ))

  read_again : AreUtf8 mask.words → AreFillsUtf8 mask.fills → (messages : List Sent)
      → AllByRecursion (IsSomeRead mask) messages → AreWhole (left_of mask messages)
      → AreReadLoosely (contents_of (left_of mask messages)) (left_of mask messages)
  read_again utf8 fills messages read whole =
      loosely (contents_of (left_of mask messages)) (left_of mask messages)
      (left_read utf8 fills messages read whole)

  -- No member of the masked messages is left to be set.
  all_filled : keep_fills mask.changes mask.fills ≡ true → (messages : List Sent)
      → AllByRecursion (IsSomeRead mask) messages → AreFilled mask (left_of mask messages)
  all_filled full [] read = tt
  all_filled full (m ∷ messages) read =
      by_bool (leaves_out mask m.doc)
      (λ yes. rw yes (all_filled full messages read.1))
      (λ no. rw no (
        filled_again mask read.0.0 m.doc safe full read.0.1,
        all_filled full messages read.1,
      ))

-- Messages without a text of the words, in which no member is left to be set, are read by the mask.
read_as : (mask : Mask) (records : List Payload) (ms : List Sent) → AreReadLoosely records ms
    → AreFilled mask ms → HaveNoText mask.words ms → AreMessages mask records ms
read_as mask [] [] read full none = tt
read_as mask [] (m ∷ ms) read full none = absurd read
read_as mask (held ∷ records) [] read full none = absurd read
read_as mask (held ∷ records) (m ∷ ms) (side, one, read) (full, fulls) (none, others) = (
  (side, (m.doc, one, sym (ap (filled mask.fills) none ∙ full))),
  read_as mask records ms read fulls others,
)

no_text : (ms : List Sent) → HaveNoText [] ms
no_text [] = tt
no_text (m ∷ ms) = (worded_none true m.doc, no_text ms)

-- A message typed from a content is typed from the document that is read from that content.
typed_as : (records : List Payload) (ms ts : List Sent) → AreReadLoosely records ms
    → AreTypedMessages records ts → AllZip IsTypedAs ms ts
typed_as [] [] [] read typed = tt
typed_as [] [] (t ∷ ts) read typed = absurd typed
typed_as [] (m ∷ ms) ts read typed = absurd read
typed_as (held ∷ records) [] ts read typed = absurd read
typed_as (held ∷ records) (m ∷ ms) [] read typed = absurd typed
typed_as (held ∷ records) (m ∷ ms) (t ∷ ts) (sided, one, read) (two, typed) =
    let side : held.0 ≡ m.side = sym sided in
    let doc : two.1.0 ≡ m.doc =
    one_loose_reading held.1 two.1.0 m.doc (read_loose held.1 two.1.0 two.1.1) one in (
      (
        two.0 ∙ side,
        subst (λ s. IsTyped s m.doc t.doc) side
            (subst (λ d. IsTyped held.0 d t.doc) doc two.1.2),
      ),
      typed_as records ms ts read typed,
    )

module _ (limits : Limits) (sound : AreSound limits) where
  module _ (mask : Mask) (safe : are_safe mask.changes ≡ true)
      (settled : are_idempotent mask.changes ≡ true)
      (keep : keep_categories mask.changes mask.categories ≡ true)
      (full : keep_fills mask.changes mask.fills ≡ true) (utf8 : AreUtf8 mask.words)
      (fills : AreFillsUtf8 mask.fills) where
    -- ---- masked output masks to itself

    -- The mask by its rules alone.
    abbrev rules_alone : Mask
    rules_alone = with_words [] mask

    left_accepted : (bytes : List ℕ) (messages : List Sent) → IsAccepted limits mask bytes messages
        → IsAccepted limits rules_alone (text (left_of mask messages)) (left_of mask messages)
    left_accepted bytes messages accepted =
        let read = all_read mask accepted.records messages accepted.read in
        let same = sym (left_again mask safe settled keep messages read) in
        record {
          short = let fits = accepted.fits in fits.whole;
          records = contents_of (left_of mask messages);
          recording =
              let fits = accepted.fits in
              recording_of limits sound (left_of mask messages) fits.each;
          read = read_as rules_alone (contents_of (left_of mask messages)) (left_of mask messages)
              (read_again mask safe settled keep utf8 fills messages read accepted.whole)
              (all_filled mask safe settled keep full messages read)
              (no_text (left_of mask messages));
          whole = subst AreWhole same accepted.whole;
          fits = subst (Fits limits) same accepted.fits;
        }

    left_with : (bytes : List ℕ) (messages : List Sent) → IsAccepted limits mask bytes messages
        → HaveNoText mask.words (left_of mask messages)
        → IsAccepted limits mask (text (left_of mask messages)) (left_of mask messages)
    unfolding left_accepted
    left_with bytes messages accepted none =
        let again = left_accepted bytes messages accepted in
        let read = all_read mask accepted.records messages accepted.read in
        record {
          short = again.short;
          records = again.records;
          recording = again.recording;
          read = read_as mask (contents_of (left_of mask messages)) (left_of mask messages)
              (read_again mask safe settled keep utf8 fills messages read accepted.whole)
              (all_filled mask safe settled keep full messages read) none;
          whole = again.whole;
          fits = again.fits;
        }

    text_again : (bytes written : List ℕ) (a : Masks limits mask bytes written)
        → written ≡ text (left_of mask (left_of mask a.messages))
    text_again bytes written a =
        a.text_is ∙ ap text (sym (left_again mask safe settled keep a.messages
        (all_read mask a.accepts.records a.messages a.accepts.read)))

    masks_again : (bytes written : List ℕ) → Masks limits mask bytes written
        → Masks limits rules_alone written written
    masks_again bytes written a = record {
      messages = left_of mask a.messages;
      accepts = subst (λ t. IsAccepted limits rules_alone t (left_of mask a.messages))
          (sym a.text_is) (left_accepted bytes a.messages a.accepts);
      text_is = text_again bytes written a;
    }

    masks_with : (bytes written : List ℕ) (a : Masks limits mask bytes written)
        → HaveNoText mask.words (left_of mask a.messages) → Masks limits mask written written
    masks_with bytes written a none = record {
      messages = left_of mask a.messages;
      accepts = subst (λ t. IsAccepted limits mask t (left_of mask a.messages)) (sym a.text_is)
          (left_with bytes a.messages a.accepts none);
      text_is = text_again bytes written a;
    }

    one_accepted : (bytes : List ℕ) (ms ns : List Sent) → IsAccepted limits rules_alone bytes ms
        → IsAccepted limits rules_alone bytes ns → ms ≡ ns
    one_accepted = one_list (masking limits rules_alone) (readable limits.frame)
        (value_laws limits rules_alone) (accepted_facts limits rules_alone)

    one_text : (bytes written other : List ℕ) → Masks limits rules_alone bytes written
        → Masks limits rules_alone bytes other → other ≡ written
    one_text bytes written other a b =
        b.text_is ∙ ap (λ ms. text (left_of mask ms))
        (one_accepted bytes b.messages a.messages b.accepts a.accepts) ∙ sym a.text_is

    -- ---- equal texts

    module _ (R : Doc → Doc → Type 0)
        (from : (m n : Sent) → IsSomeRead mask m → IsSomeRead mask n
        → redacted mask m.doc ≡ redacted mask n.doc → R m.doc n.doc)
        (to : (m n : Sent) → IsSomeRead mask m → IsSomeRead mask n → R m.doc n.doc
        → redacted mask m.doc ≡ redacted mask n.doc) where
      equal_texts : (bytes others written other : List ℕ) (a : Masks limits mask bytes written)
          (b : Masks limits mask others other) → written ≡ other
          → AllZip (Alike mask safe settled keep R from to) (kept mask a.messages)
          (kept mask b.messages)
      equal_texts bytes others written other a b same =
          let first = left_accepted bytes a.messages a.accepts in
          let second = left_accepted others b.messages b.accepts in
          let texts : text (left_of mask b.messages) ≡ text (left_of mask a.messages) =
          sym b.text_is ∙ sym same ∙ a.text_is in
          some_agree mask safe settled keep R from to (kept mask a.messages) (kept mask b.messages)
          (kept_read mask a.messages (all_read mask a.accepts.records a.messages a.accepts.read))
          (kept_read mask b.messages (all_read mask b.accepts.records b.messages b.accepts.read))
          (one_accepted (text (left_of mask a.messages)) (left_of mask a.messages)
          (left_of mask b.messages) first
          (subst (λ t. IsAccepted limits rules_alone t (left_of mask b.messages)) texts second))

      same_texts : (bytes others written other : List ℕ) (a : Masks limits mask bytes written)
          (b : Masks limits mask others other)
          → AllZip (Alike mask safe settled keep R from to) (kept mask a.messages)
          (kept mask b.messages) → written ≡ other
      same_texts bytes others written other a b agree =
          a.text_is
          ∙ ap text (all_equal mask safe settled keep R from to (kept mask a.messages)
          (kept mask b.messages)
          (kept_read mask a.messages (all_read mask a.accepts.records a.messages a.accepts.read))
          (kept_read mask b.messages (all_read mask b.accepts.records b.messages b.accepts.read))
          agree)
          ∙ sym b.text_is

    outside_from : (m n : Sent) → IsSomeRead mask m → IsSomeRead mask n
        → redacted mask m.doc ≡ redacted mask n.doc → AgreeOutside mask m.doc n.doc
    outside_from m n read also =
        agree_from_redacted mask m.doc n.doc safe (ordered mask m read) (ordered mask n also)

    outside_to : (m n : Sent) → IsSomeRead mask m → IsSomeRead mask n
        → AgreeOutside mask m.doc n.doc → redacted mask m.doc ≡ redacted mask n.doc
    outside_to m n read also =
        redacted_from_agree mask m.doc n.doc safe (ordered mask m read) (ordered mask n also)

    -- If the rules omit no elements, redacting a document is masking it.
    module _ (none : mask.omissions ≡ []) where
      only_masked : (d : Doc) → redacted mask d ≡ masked mask.changes d
      only_masked d = ap (λ os. omitted os (masked mask.changes d)) none

      values_from : (m n : Sent) → IsSomeRead mask m → IsSomeRead mask n
          → redacted mask m.doc ≡ redacted mask n.doc → AgreeBut mask.changes m.doc n.doc
      values_from m n read also same =
          agree_from_equal mask.changes m.doc n.doc safe
          (sym (only_masked m.doc) ∙ same ∙ only_masked n.doc)

      values_to : (m n : Sent) → IsSomeRead mask m → IsSomeRead mask n
          → AgreeBut mask.changes m.doc n.doc → redacted mask m.doc ≡ redacted mask n.doc
      values_to m n read also agree =
          only_masked m.doc
          ∙ equal_from_agree mask.changes m.doc n.doc safe (ordered mask n also) agree
          ∙ sym (only_masked n.doc)

    -- ---- the normal form

    left_typed : (bytes : List ℕ) (messages : List Sent) → IsAccepted limits mask bytes messages
        → (mode : Mode) (normal : List ℕ)
        (n : Normalises limits mode (text (left_of mask messages)) normal)
        → AllZip IsTypedAs (left_of mask messages) n.messages
    unfolding left_accepted
    left_typed bytes messages accepted mode normal n =
        let again = left_accepted bytes messages accepted in
        let typed = n.accepts in
        let same : typed.records ≡ again.records =
        items.one_list (record_grammar limits.frame) (not_empty (readable limits.frame))
        (text (left_of mask messages)) typed.records again.records typed.recording again.recording
        in
        typed_as again.records (left_of mask messages) n.messages
        (read_again mask safe settled keep utf8 fills messages
        (all_read mask accepted.records messages accepted.read) accepted.whole)
        (subst (λ records. AreTypedMessages records n.messages) same typed.typed)

    -- ---- all guarantees

    module _ (leave : leave_ids mask.changes ≡ true) where
      each_masked : (messages : List Sent) → AllByRecursion (IsSomeRead mask) messages
          → AllZip (IsMasked mask) messages (map (mask_message mask) messages)
      each_masked [] read = tt
      each_masked (m ∷ messages) read = (
        record {
          side = refl;
          doc = content_redacted mask read.0.0 m.doc safe settled leave read.0.1;
        },
        each_masked messages read.1,
      )

      pub masked_to : (bytes : List ℕ) (messages : List Sent)
          → IsAccepted limits mask bytes messages
          → IsMaskedTo limits mask bytes (text (left_of mask messages))
      masked_to bytes messages accepted =
          let written = text (left_of mask messages) in
          let masks : Masks limits mask bytes written =
          record { messages = messages; accepts = accepted; text_is = refl } in
          let again = masks_again bytes written masks in
          record {
            masks = masks;
            places = each_masked (kept mask messages)
                (kept_read mask messages (all_read mask accepted.records messages accepted.read));
            records = contents_of (left_of mask messages);
            recording = let fits = accepted.fits in
                recording_of limits sound (left_of mask messages) fits.each;
            read = left_read mask safe settled keep utf8 fills messages
                (all_read mask accepted.records messages accepted.read) accepted.whole;
            again = again;
            only = λ other is. one_text written written other again is;
            again_with_words = λ none. masks_with bytes written masks none;
            equal = λ others other b. (
              λ same. equal_texts (AgreeOutside mask) outside_from outside_to bytes others written
                  other masks b same,
              λ agree. same_texts (AgreeOutside mask) outside_from outside_to bytes others written
                  other masks b agree,
            );
            equal_values = λ none others other b. (
              λ same. equal_texts (AgreeBut mask.changes) (values_from none) (values_to none) bytes
                  others written other masks b same,
              λ agree. same_texts (AgreeBut mask.changes) (values_from none) (values_to none) bytes
                  others written other masks b agree,
            );
            typed = left_typed bytes messages accepted;
            forms = λ mode others other normal also b n k.
                equal_texts_tell limits mode sound written other normal also n k;
          }
