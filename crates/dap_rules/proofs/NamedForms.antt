-- A named text is named to itself, determines the messages except for their declared ids, and has
-- the named messages of the profile.
use Rattle.std.proofs.Common.{◌≡◌, ◌↔◌, ℕ, true, List, [], ◌∷◌, length, map}
use Rattle.std.proofs.Common.{refl, sym, ◌∙◌, ap, ap₂, subst, arith, decimal}
use Rattle.std.proofs.lemmas.List.{length-map}
use Rattle.std.specs.List.{AllZip}
use Rattle.dap_tree.proofs.Outcomes.{read_once}
use Rattle.dap_tokens.specs.Naming.{Id, Numbering}
use Rattle.dap_tokens.proofs.NamedStrings.{names_are_read, named_twice}
use Rattle.dap_tokens.proofs.EqualStrings.{equal_named}
use Rattle.dap_frame.proofs.Ends.{not_empty}
use Rattle.dap_frame.proofs.ItemStreams as items
use Rattle.dap_message.specs.Message.{Sent, IsTyped}
use Rattle.dap_recording.specs.Recording.{IsRecording}
use Rattle.dap_recording.proofs.Records.{readable, record_grammar}
use Rattle.dap_mask.specs.Declarations.{Declaration, are_declared}
use Rattle.dap_naming.specs.Messages.{all_sound, ids_of_all}
use Rattle.dap_naming.specs.Numbers.{AreCountable, distinct, number, renumbered}
use Rattle.dap_naming.specs.Sessions.{AreFew, declared_ids, name_sent, named_sents, rules_for}
use Rattle.dap_naming.specs.Sessions.{with_rules}
use Rattle.dap_naming.specs.SessionLaws.{typed_sent}
use Rattle.dap_naming.proofs.Lists.{each-more}
use Rattle.dap_naming.proofs.Messages.{ids_of_named}
use Rattle.dap_naming.proofs.Numbers.{each_among, from_decimal, from_decimal_of}
use Rattle.dap_naming.proofs.Numbers.{number-is_numbering}
use Rattle.dap_naming.proofs.Renamed.{distinct-renamed}
use Rattle.dap_naming.proofs.SessionsNamed.{equal_named_sessions}
use Rattle.dap_naming.proofs.SessionsNamed.{named_session_stays, rules-named}
use Rattle.dap_naming.proofs.SessionsPlaces.{sound_for}
use Rattle.dap_naming.proofs.TypedFaults.{names_keep_faults}
use Rattle.dap_naming.proofs.TypedNames.{typed_sessions_commute}
use Rattle.dap_rename.specs.declared.mode.Mode.{Mode}
use Rattle.dap_input.specs.{Limits.AreSound, declared.limits.Limits.Limits}
use Rattle.dap_normalise.specs.Accepting.{Fits, Payload, text, AreMessages as AreTypedMessages}
use Rattle.dap_normalise.specs.{Normalising.Normalises, RecordTexts.contents_of}
use Rattle.dap_normalise.proofs.NormalFormLaws.{recording_of}
use Rattle.dap_rules.specs.MaskedRecordings.{IsTypedAs}
use Rattle.dap_rules.specs.{NamedRecordings.IsNamedTo, NamedSessions.AreSameDeclared}
use Rattle.dap_rules.specs.Naming.{AreMessages, IsAccepted, Names, named_text}
use Rattle.dap_rules.proofs.FewValues.{few_are_small}
use Rattle.dap_rules.proofs.NamedSound.{AreSmall}
use Rattle.dap_rules.proofs.{NamedTexts.named_is_read, NamesInOrder.names_in_order}
use Rattle.dap_rules.proofs.NamingFacts.{message_once}

-- ---- messages that were read

pub one_reading : (records : List Payload) (ms ns : List Sent) → AreMessages records ms
    → AreMessages records ns → ms ≡ ns
one_reading [] [] [] one two = refl
one_reading [] [] (n ∷ ns) one two = absurd two
one_reading [] (m ∷ ms) ns one two = absurd one
one_reading (held ∷ records) [] ns one two = absurd one
one_reading (held ∷ records) (m ∷ ms) [] one two = absurd two
one_reading (held ∷ records) (m ∷ ms) (n ∷ ns) one two =
    ap₂ (λ k ks. k ∷ ks) (message_once held m n one.0 two.0)
    (one_reading records ms ns one.1 two.1)

-- A message typed from a content is typed from the document that is read from that content.
pub typed_from : (records : List Payload) (ms ts : List Sent) → AreMessages records ms
    → AreTypedMessages records ts → AllZip IsTypedAs ms ts
typed_from [] [] [] read typed = tt
typed_from [] [] (t ∷ ts) read typed = absurd typed
typed_from [] (m ∷ ms) ts read typed = absurd read
typed_from (held ∷ records) [] ts read typed = absurd read
typed_from (held ∷ records) (m ∷ ms) [] read typed = absurd typed
typed_from (held ∷ records) (m ∷ ms) (t ∷ ts) (one, read) (two, typed) =
    let side : held.0 ≡ m.side = sym one.0 in
    let doc : two.1.0 ≡ m.doc = read_once held.1 two.1.0 m.doc two.1.1 one.1 in (
      (
        two.0 ∙ side,
        subst (λ s. IsTyped s m.doc t.doc) side
            (subst (λ d. IsTyped held.0 d t.doc) doc two.1.2),
      ),
      typed_from records ms ts read typed,
    )

-- One recording has one list of records.
pub one_records : (limits : Limits) (bytes : List ℕ) (records others : List Payload)
    → IsRecording limits.frame bytes records → IsRecording limits.frame bytes others
    → records ≡ others
one_records limits =
    items.one_list (record_grammar limits.frame) (not_empty (readable limits.frame))

-- ---- the values of named ids

each_sound : (xs : List Declaration) (ms : List Sent) → are_declared xs ≡ true
    → all_sound (with_rules xs ms) ≡ true
each_sound xs [] h = refl
each_sound xs (m ∷ ms) h = rw (sound_for xs m.doc h, each_sound xs ms h) refl

module _ (limit : ℕ) (is : List Id) (small : AreCountable is) where
  few_again : AreFew limit is → AreFew limit (renumbered is)
  few_again few label =
      let to : (List ℕ → List ℕ → List ℕ) = λ l v. decimal (number is l v) in
      let e = distinct-renamed to (from_decimal is) label is
      (each-more _ _ is (λ i h. from_decimal_of is small i h) (each_among is)) in
      let most = few label in
      let same = length-map (distinct label is) (to label) in
      omega (arith, most, ap length e, same)

module _ (limits : Limits) (sound : AreSound limits) (declared : List Declaration)
    (are : are_declared declared ≡ true) where
  countable : (is : List Id) → AreFew limits.ids is → AreCountable is
  countable is few label =
      let most = few label in
      let limit = sound.ids in
      omega (arith, most, limit)

  -- ---- the text is read again

  pub read_each : (number : Numbering) → AreSmall number → (records : List Payload) (ms : List Sent)
      → AreMessages records ms
      → AreMessages (contents_of (map (name_sent declared number) ms))
      (map (name_sent declared number) ms)
  read_each number small [] [] read = tt
  read_each number small [] (m ∷ ms) read = absurd read
  read_each number small (held ∷ records) [] read = absurd read
  read_each number small (held ∷ records) (m ∷ ms) (one, read) = (
    (
      refl,
      named_is_read (rules_for declared m.doc) number held.1 m.doc (sound_for declared m.doc are)
          small one.1,
    ),
    read_each number small records ms read,
  )

  -- ---- types

  untyped : (number : Numbering) (ms ts : List Sent)
      → AllZip IsTypedAs (map (name_sent declared number) ms) ts
      → AllZip IsTypedAs ms (map typed_sent ms)
  untyped number [] ts typed = tt
  untyped number (m ∷ ms) [] typed = absurd typed
  untyped number (m ∷ ms) (t ∷ ts) (one, typed) = (
    (refl, (sym (names_keep_faults declared number m.doc are) ∙ one.1.0, refl)),
    untyped number ms ts typed,
  )

  are_typed : (ps ts : List Sent) → AllZip IsTypedAs ps ts → ts ≡ map typed_sent ps
  are_typed [] [] typed = refl
  are_typed [] (t ∷ ts) typed = absurd typed
  are_typed (p ∷ ps) [] typed = absurd typed
  are_typed (p ∷ ps) (t ∷ ts) (one, typed) =
      ap₂ (λ k ks. k ∷ ks) (ap₂ (λ s d. record { side = s; doc = d }) one.0 one.1.1)
      (are_typed ps ts typed)

  module _ (bytes : List ℕ) (ms : List Sent)
      (accepted : IsAccepted limits declared bytes ms) where
    abbrev numbers : Numbering
    numbers = number (declared_ids declared ms)

    abbrev named : List Sent
    named = named_sents declared ms

    small : AreSmall numbers
    small = few_are_small limits sound (declared_ids declared ms) accepted.few

    recorded : IsRecording limits.frame (text named) (contents_of named)
    recorded = let fits = accepted.fits in recording_of limits sound named fits.each

    read_named : AreMessages (contents_of named) named
    read_named = read_each numbers small accepted.records ms accepted.read

    typed : (mode : Mode) (normal : List ℕ) (n : Normalises limits mode (text named) normal)
        → (messages : List Sent) × AllZip IsTypedAs ms messages
        × (n.messages ≡ named_sents declared messages)
    typed mode normal n =
        let accepts = n.accepts in
        let same = one_records limits (text named) accepts.records (contents_of named)
        accepts.recording recorded in
        let all = typed_from (contents_of named) named n.messages read_named
        (subst (λ records. AreTypedMessages records n.messages) same accepts.typed) in (
          map typed_sent ms,
          untyped numbers ms n.messages all,
          are_typed named n.messages all ∙ typed_sessions_commute declared ms are,
        )

    -- ---- naming again

    ids_again : declared_ids declared named ≡ renumbered (declared_ids declared ms)
    ids_again =
        let few = countable (declared_ids declared ms) accepted.few in
        ap ids_of_all (rules-named declared numbers ms are)
        ∙ ids_of_named names_are_read named_twice equal_named numbers
        (number-is_numbering (declared_ids declared ms) few) (with_rules declared ms)
        (each_sound declared ms are)

    stays : named_sents declared named ≡ named
    stays =
        named_session_stays names_are_read named_twice equal_named declared ms are
        (countable (declared_ids declared ms) accepted.few)

    names_again : Names limits declared (text named) (text named)
    names_again = record {
      messages = named;
      accepts = record {
        short = let fits = accepted.fits in fits.whole;
        records = contents_of named;
        recording = recorded;
        read = read_named;
        few = subst (AreFew limits.ids) (sym ids_again)
            (few_again limits.ids (declared_ids declared ms)
            (countable (declared_ids declared ms) accepted.few) accepted.few);
        fits = subst (Fits limits) (sym stays) accepted.fits;
      };
      text_is = ap text (sym stays);
    }

  -- ---- equal texts

  module _ (bytes others : List ℕ) (ms ns : List Sent)
      (accepted : IsAccepted limits declared bytes ms)
      (also : IsAccepted limits declared others ns) where
    same_named : text (named_sents declared ms) ≡ text (named_sents declared ns)
        → named_sents declared ms ≡ named_sents declared ns
    same_named same =
        let one = named_sents declared ms in
        let two = named_sents declared ns in
        let records : contents_of two ≡ contents_of one =
        one_records limits (text one) (contents_of two) (contents_of one)
        (subst (λ t. IsRecording limits.frame t (contents_of two)) (sym same)
        (recorded others ns also)) (recorded bytes ms accepted) in
        one_reading (contents_of one) one two (read_named bytes ms accepted)
        (subst (λ rs. AreMessages rs two) records (read_named others ns also))

    equal : (text (named_sents declared ms) ≡ text (named_sents declared ns))
        ↔ AreSameDeclared declared ms ns
    equal =
        let law = equal_named_sessions names_are_read named_twice equal_named declared ms ns are
        (countable (declared_ids declared ms) accepted.few)
        (countable (declared_ids declared ns) also.few) in
        (λ same. law.0 (same_named same), λ same. ap text (law.1 same))

  -- ---- all guarantees

  pub named_to : (bytes : List ℕ) (ms : List Sent) → IsAccepted limits declared bytes ms
      → IsNamedTo limits declared bytes (named_text declared ms)
  named_to bytes ms accepted = record {
    names = record { messages = ms; accepts = accepted; text_is = refl };
    again = names_again bytes ms accepted;
    equal = λ others other b.
        let law = equal bytes others ms b.messages accepted b.accepts in
        (λ same. law.0 (same ∙ b.text_is), λ same. law.1 same ∙ sym b.text_is);
    typed = typed bytes ms accepted;
    in_order = λ rules ts. names_in_order declared are limits sound rules ms ts accepted.few;
  }
