-- Naming one record after others: its output is appended, or the record is rejected.
use Rattle.std.proofs.Common.{◌≡◌, ◌⊎◌, inl, inr, ℕ, ◌+◌, ◌<◌, ◌≤◌, List, [], ◌∷◌, not}
use Rattle.std.proofs.Common.{◌++◌, true, length, Ok, Err, Result, refl, sym, ◌∙◌, ap, subst, arith}
use Rattle.std.proofs.Common.{append-nil, length-append}
use Rattle.std.specs.List.{AllByRecursion}
use Rattle.dap_tree.specs.Doc.{Doc, has_id, is_plain, is_sound}
use Rattle.dap_tree.specs.Json.{IsRead, text_of}
use Rattle.dap_tree.proofs.Booleans.{and_left}
use Rattle.dap_message.specs.Message.{Sent}
use Rattle.dap_tokens.specs.Naming.{Id}
use Rattle.dap_mask.specs.{Declarations.Declaration, Mask.Mask}
use Rattle.dap_naming.specs.Documents.{ids_of, named_doc}
use Rattle.dap_naming.specs.Known.{ExceedsLimit, FitsLimit, Knows, NamesDoc, limit_of}
use Rattle.dap_naming.specs.Numbers.{number}
use Rattle.dap_naming.specs.Sessions.{AreFew, HasTooMany, declared_ids, name_sent, named_sents}
use Rattle.dap_naming.specs.Sessions.{rules_for}
use Rattle.dap_naming.specs.declared.value_numbers.ValueNumbers.{ValueNumbers}
use Rattle.dap_naming.proofs.SessionsNamed.{declared-append, names_of_session_prefix}
use Rattle.dap_rename.proofs.Lists.{each-append, each_right}
use Rattle.dap_input.specs.{Limits.AreSound, declared.limits.Limits.Limits}
use Rattle.dap_input.specs.Refusals.{RejectsPayload}
use Rattle.dap_input.specs.declared.refused.Refused.{Refused}
use Rattle.dap_input.specs.declared.refused.Refused.TheVariants.{Grew, Memory, TooManyIds}
use Rattle.dap_normalise.specs.{Accepting.{Payload, Fits, text}, JudgingSteps.record_of}
use Rattle.dap_normalise.specs.JudgingSteps.{Writes as WritesRecord}
use Rattle.dap_normalise.proofs.NormalTexts.{text-append}
use Rattle.dap_rules.specs.Naming.{Rejects, named_text}
use Rattle.dap_rules.specs.RewritingSteps.{AreNumbered, Rewritten}
use Rattle.dap_rules.specs.declared.passes.Pass.TheVariants.{Name}
use Rattle.dap_rules.proofs.FewValues.{few_are_small}
use Rattle.dap_rules.proofs.NamedSound.{sound-named}

-- The declared ids of a message.
abbrev pub own_ids : List Declaration → Doc → List Id
own_ids declared d = ids_of (rules_for declared d) d

-- ---- the numbers after one more message

module _ (declared : List Declaration) (messages : List Sent) (m : Sent) where
  abbrev pub and_next : List Sent
  and_next = messages ++ m ∷ []

  pub ids_push : declared_ids declared and_next
      ≡ declared_ids declared messages ++ own_ids declared m.doc
  ids_push = declared-append declared messages (m ∷ [])
      ∙ ap (λ is. declared_ids declared messages ++ is) (append-nil (own_ids declared m.doc))

  abbrev pub named_next : Sent
  named_next = name_sent declared (number (declared_ids declared and_next)) m

  pub named_push : named_sents declared and_next
      ≡ named_sents declared messages ++ named_next ∷ []
  named_push = names_of_session_prefix declared messages (m ∷ [])

  pub named_text_push : named_text declared and_next
      ≡ named_text declared messages ++ record_of named_next
  named_text_push = ap text named_push
      ∙ text-append (named_sents declared messages) (named_next ∷ [])
      ∙ ap (λ t. named_text declared messages ++ t) (append-nil (record_of named_next))

-- A message with this document is named after other messages.
module _ (limits : Limits) (declared : List Declaration) (messages : List Sent) (m : Sent)
    (old new : ValueNumbers) (e : Doc) (was : AreNumbered limits declared messages old)
    (names : NamesDoc old new (rules_for declared m.doc) m.doc e)
    (fit : FitsLimit old (own_ids declared m.doc)) where
  -- The document after naming is that of the named message.
  pub is_named : e ≡ (named_next declared messages m).doc
  is_named =
      let all = declared_ids declared messages in
      let own = own_ids declared m.doc in
      (names all was.knows).1 []
      ∙ ap (λ is. named_doc (rules_for declared m.doc) (number is) m.doc)
      (ap (λ is. all ++ is) (append-nil own) ∙ sym (ids_push declared messages m))

  pub few_on : AreFew limits.ids (declared_ids declared (messages ++ m ∷ []))
  few_on =
      subst (AreFew limits.ids) (sym (ids_push declared messages m))
      (subst (λ most. AreFew most (declared_ids declared messages ++ own_ids declared m.doc))
      was.limit
      (fit (declared_ids declared messages) was.knows
      (subst (λ most. AreFew most (declared_ids declared messages)) (sym was.limit) was.few)))

  pub numbered_on : limit_of new ≡ limit_of old
      → AreNumbered limits declared (messages ++ m ∷ []) new
  numbered_on same = record {
    knows = subst (Knows new) (sym (ids_push declared messages m))
        (names (declared_ids declared messages) was.knows).0;
    few = few_on;
    limit = same ∙ was.limit;
  }

  -- The document can be written.
  pub can_be_written : AreSound limits → is_plain m.doc ≡ true → is_sound e ≡ true
  can_be_written sound plain =
      let is = declared_ids declared (messages ++ m ∷ []) in
      subst (λ d. is_sound d ≡ true) (sym is_named)
      (sound-named (number is) (few_are_small limits sound is few_on)
      (rules_for declared m.doc) m.doc
      (and_left (is_sound m.doc) (not (has_id m.doc)) plain))

-- ---- the record after other records

module _ (limits : Limits) (mask : Mask) (messages : List Sent) (held : Payload) (n written : ℕ)
    (fits : Fits limits (named_sents mask.declared messages))
    (count : written ≡ length (named_text mask.declared messages)) (d : Doc)
    (read : IsRead held.1 d) where
  abbrev declared : List Declaration
  declared = mask.declared

  abbrev pub message : Sent
  message = record { side = held.0; doc = d }

  abbrev pub named : Sent
  named = named_next declared messages message

  -- Some label has too many values.
  pub too_many : (numbers : ValueNumbers) → AreNumbered limits declared messages numbers
      → ExceedsLimit numbers (own_ids declared d)
      → RejectsPayload (Rejects limits declared messages held) n (TooManyIds n)
  too_many numbers was exceeds =
      let many = exceeds (declared_ids declared messages) was.knows in (
        refl,
        (
          message,
          (refl, read),
          subst (HasTooMany limits.ids) (sym (ids_push declared messages message))
              (subst (λ most. HasTooMany most
              (declared_ids declared messages ++ own_ids declared d)) was.limit many),
        ),
      )

  module _ (numbers : ValueNumbers)
      (numbered : AreNumbered limits declared (messages ++ message ∷ []) numbers) where
    next_length : length (named_text declared (messages ++ message ∷ []))
        ≡ written + length (record_of named)
    next_length =
        omega (
          arith,
          count,
          ap length (named_text_push declared messages message),
          length-append (named_text declared messages) (record_of named),
        )

    grown : (limits.frame.content < length (text_of named.doc))
        ⊎ (limits.input < written + length (record_of named))
        → Fits limits (named_sents declared (messages ++ message ∷ [])) → ⊥
    grown (inl content) next =
        let all = (subst (Fits limits) (named_push declared messages message) next).each in
        let last = each_right (λ (m : Sent). length (text_of m.doc) ≤ limits.frame.content)
        (named_sents declared messages) (named ∷ []) all in
        let short : length (text_of named.doc) ≤ limits.frame.content = last.0 in
        omega (arith, content, short)
    grown (inr long) next = let most = next.whole in omega (arith, long, most, next_length)

    not_written : (because : Refused) (old new : List ℕ)
        → WritesRecord limits named n written old new (Err because)
        → RejectsPayload (Rejects limits declared messages held) n because
    not_written (Grew k) old new reported = (
      reported.0,
      (message, (refl, read), numbered.few, grown reported.1),
    )
    not_written Memory old new reported = tt
    not_written because old new reported = absurd reported

    written_on : (old new : List ℕ) (after : ℕ)
        → WritesRecord limits named n written old new (Ok after)
        → Rewritten Name limits mask messages held n old new numbers (Ok after)
    written_on old new after (content, appended, long, most) = record {
      message = message;
      is_next = record {
        is_message = (refl, read);
        few = numbered.few;
        fits = record {
          each = subst (AllByRecursion (λ (m : Sent). length (text_of m.doc)
              ≤ limits.frame.content)) (sym (named_push declared messages message))
              (each-append (λ (m : Sent). length (text_of m.doc) ≤ limits.frame.content)
              (named_sents declared messages) (named ∷ []) fits.each (content, tt));
          whole = omega (arith, next_length, long, most);
        };
      };
      longer = record_of named;
      appended = appended;
      text_is = named_text_push declared messages message;
      count = long ∙ sym next_length;
      numbered = numbered;
    }

    pub recorded : (old new : List ℕ) (result : Result ℕ Refused)
        → WritesRecord limits named n written old new result
        → Rewritten Name limits mask messages held n old new numbers result
    recorded old new (Ok after) writes = written_on old new after writes
    recorded old new (Err because) writes = not_written because old new writes
