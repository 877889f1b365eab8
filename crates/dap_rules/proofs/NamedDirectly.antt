-- The text of the named messages of an accepted recording, without reading the recording.
use Rattle.std.proofs.Common.{◌≡◌, ℕ, ◌≤◌, true, List, [], ◌∷◌, length, map, refl, ap, ap₂, sym}
use Rattle.std.proofs.Common.{◌∙◌, subst}
use Rattle.std.specs.List.{AllByRecursion}
use Rattle.dap_tree.specs.{Doc.{Doc, is_plain}}
use Rattle.dap_tree.proofs.Outcomes.{read_is_plain}
use Rattle.dap_message.specs.{Faults.{Fits as FitsProfile}, Message.{Sent, message_of}}
use Rattle.dap_recording.specs.Recording.{recording_text}
use Rattle.dap_tokens.specs.Naming.{Numbering}
use Rattle.dap_mask.specs.Declarations.{Declaration, are_declared}
use Rattle.dap_naming.specs.Numbers.{number}
use Rattle.dap_naming.specs.Sessions.{AreFew, declared_ids, name_sent, named_sents}
use Rattle.dap_naming.specs.SessionLaws.{typed_sent}
use Rattle.dap_naming.proofs.Lists.{same_append}
use Rattle.dap_naming.proofs.TypedFaults.{names_keep_faults}
use Rattle.dap_naming.proofs.TypedNames.{typed_ids_stay, typed_sessions_commute}
use Rattle.dap_rename.specs.declared.mode.Mode.{Mode}
use Rattle.dap_input.specs.{Limits.AreSound, declared.limits.Limits.Limits}
use Rattle.dap_normalise.specs.Accepting.{AreMessages as AreTypedMessages}
use Rattle.dap_normalise.specs.Accepting.{Fits, IsAccepted, Payload}
use Rattle.dap_normalise.specs.RecordTexts.{Contain, contents_of}
use Rattle.dap_normalise.proofs.RecordTexts.{recorded_contents, short_contents}
use Rattle.dap_rules.specs.Naming.{AreMessages, IsAccepted as IsNamingAccepted, named_text}
use Rattle.dap_rules.specs.NamedRecordings.{IsNamedTo}
use Rattle.dap_rules.proofs.FewValues.{few_are_small}
use Rattle.dap_rules.proofs.NamedForms.{named_to, read_each}
use Rattle.dap_rules.proofs.RecordLengths.{fits_untyped}

-- ---- documents and their messages

abbrev AreProper : List Sent → Type 0
AreProper ns = AllByRecursion (λ n. FitsProfile n.doc) ns

-- The documents in the records of messages.
record Untyped (records : List Payload) (ms : List Sent) : Type 0 where
  docs : List Sent
  read : AreMessages records docs
  typed : map typed_sent docs ≡ ms
  proper : AreProper docs

untyped : (records : List Payload) (ms : List Sent) → AreTypedMessages records ms
    → Untyped records ms
untyped [] [] typed = record { docs = []; read = tt; typed = refl; proper = tt }
untyped [] (m ∷ ms) typed = absurd typed
untyped (held ∷ records) [] typed = absurd typed
untyped (held ∷ records) (m ∷ ms) (one, typed) =
    let later = untyped records ms typed in
    let d = one.1.0 in
    let same : message_of m.side d ≡ m.doc =
    ap (λ s. message_of s d) one.0 ∙ sym one.1.2.1 in
    record {
      docs = record { side = m.side; doc = d } ∷ later.docs;
      read = ((one.0, one.1.1), later.read);
      typed = ap₂ (λ (k : Doc) (ks : List Sent). record { side = m.side; doc = k } ∷ ks) same
          later.typed;
      proper = (one.1.2.0, later.proper);
    }

are_plain : (records : List Payload) (ns : List Sent) → AreMessages records ns
    → AllByRecursion (λ n. is_plain n.doc ≡ true) ns
are_plain [] [] read = tt
are_plain [] (n ∷ ns) read = absurd read
are_plain (held ∷ records) [] read = absurd read
are_plain (held ∷ records) (n ∷ ns) (one, read) =
    (read_is_plain held.1 n.doc one.1, are_plain records ns read)

typed_of : (records : List Payload) (ns : List Sent) → AreMessages records ns → AreProper ns
    → AreTypedMessages records (map typed_sent ns)
typed_of [] [] read proper = tt
typed_of [] (n ∷ ns) read proper = absurd read
typed_of (held ∷ records) [] read proper = absurd read
typed_of (held ∷ records) (n ∷ ns) (one, read) (own, proper) = (
  (one.0, (n.doc, one.1, (own, ap (λ s. message_of s n.doc) one.0))),
  typed_of records ns read proper,
)

module _ (xs : List Declaration) (are : are_declared xs ≡ true) where
  ids_typed : (ns : List Sent) → declared_ids xs (map typed_sent ns) ≡ declared_ids xs ns
  ids_typed [] = refl
  ids_typed (n ∷ ns) =
      same_append _ _ _ _ (typed_ids_stay xs n.side n.doc are) (ids_typed ns)

  named_proper : (f : Numbering) (ns : List Sent) → AreProper ns
      → AreProper (map (name_sent xs f) ns)
  named_proper f [] proper = tt
  named_proper f (n ∷ ns) (own, proper) =
      (names_keep_faults xs f n.doc are ∙ own, named_proper f ns proper)

-- The text of the named messages of a recording, and its records, which contain the messages.
pub record HasNamedText (limits : Limits) (declared : List Declaration) (bytes : List ℕ)
    (named : List Sent) : Type 0 where
  pub written : List ℕ
  pub is_named : IsNamedTo limits declared bytes written
  pub records : List Payload
  pub contain : Contain limits named records
  pub text_is : recording_text records ≡ written

module _ (limits : Limits) (sound : AreSound limits) (mode : Mode) (xs : List Declaration)
    (are : are_declared xs ≡ true) (bytes : List ℕ) (ms : List Sent)
    (accepted : IsAccepted limits mode bytes ms)
    (few : AreFew limits.ids (declared_ids xs ms)) (fits : Fits limits (named_sents xs ms)) where
  abbrev plain : Untyped accepted.records ms
  plain = untyped accepted.records ms accepted.typed

  abbrev numbers : Numbering
  numbers = number (declared_ids xs plain.docs)

  abbrev named : List Sent
  named = named_sents xs plain.docs

  few_too : AreFew limits.ids (declared_ids xs plain.docs)
  few_too =
      subst (AreFew limits.ids)
      (ap (declared_ids xs) (sym plain.typed) ∙ ids_typed xs are plain.docs) few

  read_named : AreMessages (contents_of named) named
  read_named =
      read_each limits sound xs are numbers
      (few_are_small limits sound (declared_ids xs plain.docs) few_too) accepted.records plain.docs
      plain.read

  named_typed : map typed_sent named ≡ named_sents xs ms
  named_typed = typed_sessions_commute xs plain.docs are ∙ ap (named_sents xs) plain.typed

  fits_too : Fits limits named
  fits_too =
      fits_untyped limits sound named (are_plain (contents_of named) named read_named)
      (subst (Fits limits) (sym named_typed) fits)

  accepted_too : IsNamingAccepted limits xs bytes plain.docs
  accepted_too = record {
    short = accepted.short;
    records = accepted.records;
    recording = accepted.recording;
    read = plain.read;
    few = few_too;
    fits = fits_too;
  }

  pub named_text_of : HasNamedText limits xs bytes (named_sents xs ms)
  named_text_of = record {
    written = named_text xs plain.docs;
    is_named = named_to limits sound xs are bytes plain.docs accepted_too;
    records = contents_of named;
    contain = record {
      read = subst (AreTypedMessages (contents_of named)) named_typed
          (typed_of (contents_of named) named read_named
          (named_proper xs are numbers plain.docs plain.proper));
      fits = record {
        each = short_contents limits named fits_too.each;
        whole = subst (λ t. length t ≤ limits.input) (sym (recorded_contents named))
            fits_too.whole;
      };
    };
    text_is = recorded_contents named;
  }
