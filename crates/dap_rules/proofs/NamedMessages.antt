-- A stored message that is read as a tree, named and typed is its named message.
use Rattle.std.proofs.Common.{◌≡◌, ℕ, true, List, [], ◌∷◌, ◌++◌, refl, ap, ap₂, sym, ◌∙◌, subst}
use Rattle.dap_tree.specs.{Doc.{Doc, is_plain}, Json.{IsRead, text_of}}
use Rattle.dap_tree.specs.declared.side.Side.{Side}
use Rattle.dap_tree.proofs.Outcomes.{read_is_plain}
use Rattle.dap_message.specs.Faults.{Fits, fault}
use Rattle.dap_message.specs.Message.{Sent, message_of}
use Rattle.dap_tokens.specs.Naming.{Numbering}
use Rattle.dap_mask.specs.Declarations.{Declaration, are_declared}
use Rattle.dap_naming.specs.Documents.{named_doc}
use Rattle.dap_naming.specs.Known.{FitsLimit, Knows, NamesDoc, limit_of}
use Rattle.dap_naming.specs.Numbers.{number}
use Rattle.dap_naming.specs.Sessions.{AreFew, declared_ids, name_sent, rules_for}
use Rattle.dap_naming.specs.declared.value_numbers.ValueNumbers.{ValueNumbers}
use Rattle.dap_naming.proofs.SessionsPlaces.{sound_for}
use Rattle.dap_naming.proofs.TypedFaults.{names_keep_faults}
use Rattle.dap_naming.proofs.TypedNames.{typed_ids_stay, typed_names_commute}
use Rattle.dap_stored.specs.Contents.{IsOfContent, doc_in}
use Rattle.dap_stored.proofs.Contents.{doc_in-typed}
use Rattle.dap_input.specs.{Limits.AreSound, declared.limits.Limits.Limits}
use Rattle.dap_rules.specs.NamingSteps.{IsNamedAfter}
use Rattle.dap_rules.specs.RewritingSteps.{AreNumbered}
use Rattle.dap_rules.proofs.FewValues.{few_are_small}
use Rattle.dap_rules.proofs.NamedRecords.{few_on, ids_push, is_named, numbered_on, own_ids}
use Rattle.dap_rules.proofs.NamedTexts.{named_is_read}

-- Messages with the same ids are numbered alike.
numbered_alike : (limits : Limits) (declared : List Declaration) (ms ns : List Sent)
    (numbers : ValueNumbers) → declared_ids declared ms ≡ declared_ids declared ns
    → AreNumbered limits declared ms numbers → AreNumbered limits declared ns numbers
numbered_alike limits declared ms ns numbers same was = record {
  knows = subst (Knows numbers) same was.knows;
  few = subst (AreFew limits.ids) same was.few;
  limit = was.limit;
}

module _ (limits : Limits) (sound : AreSound limits) (xs : List Declaration)
    (are : are_declared xs ≡ true) (before : List Sent) where
  -- ---- a message that is read

  module _ (side : Side) (bytes : List ℕ) (d : Doc) (read : IsRead bytes d) (old new : ValueNumbers)
      (e : Doc) (was : AreNumbered limits xs before old)
      (names : NamesDoc old new (rules_for xs d) d e) (fit : FitsLimit old (own_ids xs d)) where
    -- The message before it is typed.
    abbrev untyped : Sent
    untyped = record { side = side; doc = d }

    abbrev numbers_on : Numbering
    numbers_on = number (declared_ids xs (before ++ untyped ∷ []))

    named : e ≡ named_doc (rules_for xs d) numbers_on d
    named = is_named limits xs before untyped old new e was names fit

    named_read : IsRead (text_of e) e
    named_read =
        let small = few_are_small limits sound (declared_ids xs (before ++ untyped ∷ []))
        (few_on limits xs before untyped old new e was names fit) in
        subst (λ k. IsRead (text_of k) k) (sym named)
        (named_is_read (rules_for xs d) numbers_on bytes d (sound_for xs d are) small read)

    pub named_plain : is_plain e ≡ true
    named_plain = read_is_plain (text_of e) e named_read

    module _ (fits : Fits e) where
      pub of_content : (n : Sent) → n.side ≡ side → n.doc ≡ message_of side e → IsOfContent n
      of_content n same is = (
        text_of e,
        (
          e,
          named_read,
          (fits, subst (λ s. n.doc ≡ message_of s e) (sym same) is),
        ),
      )

      fits_too : Fits d
      fits_too = sym (names_keep_faults xs numbers_on d are) ∙ ap fault (sym named) ∙ fits

      module _ (m : Sent) (same_side : m.side ≡ side) (is : m.doc ≡ doc_in side bytes) where
        typed : m.doc ≡ message_of side d
        typed = is ∙ doc_in-typed side bytes (message_of side d) (d, read, (fits_too, refl))

        own_same : own_ids xs d ≡ own_ids xs m.doc
        own_same = sym (ap (own_ids xs) typed ∙ typed_ids_stay xs side d are)

        ids_same : declared_ids xs (before ++ untyped ∷ []) ≡ declared_ids xs (before ++ m ∷ [])
        ids_same =
            ids_push xs before untyped ∙ ap (λ is. declared_ids xs before ++ is) own_same
            ∙ sym (ids_push xs before m)

        doc_same : message_of side e
            ≡ (name_sent xs (number (declared_ids xs (before ++ m ∷ []))) m).doc
        doc_same =
            ap (message_of side) named ∙ typed_names_commute xs numbers_on side d are
            ∙ ap (λ k. named_doc (rules_for xs k) numbers_on k) (sym typed)
            ∙ ap (λ ns. named_doc (rules_for xs m.doc) (number ns) m.doc) ids_same

        pub named_next : limit_of new ≡ limit_of old → (n : Sent) → n.side ≡ side
            → n.doc ≡ message_of side e → IsNamedAfter limits xs before m n new
        named_next same n n_side n_is = record {
          is = ap₂ (λ (s : Side) (k : Doc). record { side = s; doc = k })
              (n_side ∙ sym same_side) (n_is ∙ doc_same);
          numbered = numbered_alike limits xs (before ++ untyped ∷ []) (before ++ m ∷ []) new
              ids_same (numbered_on limits xs before untyped old new e was names fit same);
        }
