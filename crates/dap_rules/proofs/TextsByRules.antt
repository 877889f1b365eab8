-- Two recordings and the same rules: the masked messages, their order, and equal normal texts.
use Rattle.std.proofs.Common.{◌≡◌, ◌↔◌, ℕ, false, List, [], ◌∷◌, refl, sym, ◌∙◌, ap, ap₂, subst}
use Rattle.std.proofs.Common.{true≢false}
use Rattle.std.specs.List.{AllZip}
use Rattle.dap_recording.proofs.Records.{readable}
use Rattle.dap_message.specs.Message.{Sent}
use Rattle.dap_message.specs.SwapRules.{SwapRule}
use Rattle.dap_mask.specs.{Declarations.Declaration, Mask.Mask}
use Rattle.dap_naming.specs.Sessions.{named_sents}
use Rattle.dap_naming.proofs.SessionsNamed.{no_declarations}
use Rattle.dap_rename.specs.Messages.{AreSame, no_stop, normal_of}
use Rattle.dap_rename.specs.Modes.{stop_in}
use Rattle.dap_rename.specs.declared.mode.Mode.{Mode}
use Rattle.dap_rename.specs.declared.mode.Mode.TheVariants.{Whole}
use Rattle.dap_input.specs.declared.limits.Limits.{Limits}
use Rattle.dap_input.proofs.Outcomes.{one_list}
use Rattle.dap_normalise.specs.declared.normal_session.NormalSession.{NormalSession}
use Rattle.dap_normalise.specs.Accepting.{IsAccepted, text, AreMessages as AreTypedMessages}
use Rattle.dap_normalise.specs.Normalising.{Normalises}
use Rattle.dap_normalise.proofs.AcceptingFacts.{messages_proper}
use Rattle.dap_normalise.proofs.NormalFormLaws.{numbered}
use Rattle.dap_normalise.proofs.NormalTexts.{normal}
use Rattle.dap_order.specs.Free.{free}
use Rattle.dap_order.specs.Swaps.{Reordered, unmoved, swapped}
use Rattle.dap_order.specs.MessageOrder.{ordered as in_order}
use Rattle.dap_order.proofs.MessageOrder.{to_ordered}
use Rattle.dap_order.proofs.SameMessages.{same_orders, from_same_orders}
use Rattle.dap_rules.specs.Applying.{IsMaskedByRules, MakesSession, NamesBy, NormalisesByRules}
use Rattle.dap_rules.specs.Applying.{OrdersBy}
use Rattle.dap_rules.specs.Laws.{EqualTextsByRules, EqualTextsInEachMode, OneMaskedList}
use Rattle.dap_rules.specs.Laws.{SameNamedSessions, SameSessionsByRules, SessionIsOrdered}
use Rattle.dap_rules.specs.MaskedMessages.{AreMaskedMessages, named_by, ordered_by}
use Rattle.dap_rules.specs.MaskedRecordings.{IsTypedAs}
use Rattle.dap_rules.specs.Masking.{IsAccepted as IsAcceptedMasked, left_of, masking}
use Rattle.dap_rules.specs.{NamedRecordings.IsNamedTo, Naming.{AreMessages, Names}}
use Rattle.dap_rules.specs.Ordering.{Orders}
use Rattle.dap_rules.proofs.JoinOutcomes.{masks_of, one_joined_by}
use Rattle.dap_rules.proofs.MaskingFacts as mask_facts
use Rattle.dap_rules.proofs.NamedForms.{one_reading, one_records, typed_from}
use Rattle.dap_rules.proofs.{NamingFacts.one_named_text, OrderedTexts.one_accepted}

-- ---- one list of masked messages

one_typed : (old new other : Sent) → IsTypedAs old new → IsTypedAs old other → new ≡ other
one_typed old new other one two =
    ap₂ (λ side doc. record { side = side; doc = doc }) (one.0 ∙ sym two.0)
    (one.1.1 ∙ sym two.1.1)

all_typed : (olds news others : List Sent) → AllZip IsTypedAs olds news
    → AllZip IsTypedAs olds others → news ≡ others
all_typed [] [] [] one two = refl
all_typed [] [] (other ∷ others) one two = absurd two
all_typed [] (new ∷ news) others one two = absurd one
all_typed (old ∷ olds) [] others one two = absurd one
all_typed (old ∷ olds) (new ∷ news) [] one two = absurd two
all_typed (old ∷ olds) (new ∷ news) (other ∷ others) one two =
    ap₂ (λ m ms. m ∷ ms) (one_typed old new other one.0 two.0)
    (all_typed olds news others one.1 two.1)

pub one_masked_list : OneMaskedList
one_masked_list limits mask recording messages others one two =
    let joined = one_joined_by limits mask.joining recording one.joined one.numbers two.joined
    two.numbers one.joins two.joins in
    let same = one_list (masking limits mask) (readable limits.frame)
    (mask_facts.value_laws limits mask) (mask_facts.accepted_facts limits mask) two.joined two.read
    one.read two.accepts
    (subst (λ bytes. IsAcceptedMasked limits mask bytes one.read) joined one.accepts) in
    all_typed (left_of mask one.read) messages others one.typed
    (subst (λ read. AllZip IsTypedAs (left_of mask read) others) same two.typed)

-- ---- the messages of a session

-- Without rules no messages are free.
none_free : (x y : Sent) → free [] x y ≡ false
unfolding free
none_free x y = refl

unswapped : (ms ns : List Sent) → Reordered (free []) ms ns → ms ≡ ns
unswapped ms ns unmoved = refl
unswapped ms ns (swapped is one) =
    absurd (true≢false (sym one.are_free ∙ none_free one.x one.y))

-- The messages of a masked recording without declared ids, which the rules put in this order.
record FromMasked (limits : Limits) (mode : Mode) (swaps : List SwapRule) (masked : List ℕ)
    (session : List Sent) : Type 0 where
  messages : List Sent
  accepted : IsAccepted limits mode masked messages
  is_ordered : session ≡ in_order swaps messages

module _ (limits : Limits) (mode : Mode) where
  -- The accepted messages are those of a normal text.
  abbrev normalises_as : (bytes : List ℕ) (messages : List Sent)
      → IsAccepted limits mode bytes messages
      → Normalises limits mode bytes (text (normal_of (stop_in mode) messages))
  normalises_as bytes messages accepted = record {
    messages = messages;
    accepts = accepted;
    normal = normal_of (stop_in mode) messages;
    is_normal = normal mode messages (messages_proper accepted.records messages accepted.typed);
    text_is = refl;
  }

  unnamed : (declared : List Declaration) → declared ≡ [] → (bytes written : List ℕ)
      → NamesBy limits declared bytes written → written ≡ bytes
  unnamed [] none bytes written same = same
  unnamed (d ∷ declared) none bytes written names = absurd (let e = none in cc)

  from_masked : (swaps : List SwapRule) (masked written : List ℕ) (session : List Sent)
      → OrdersBy limits mode swaps masked written → IsAccepted limits mode written session
      → FromMasked limits mode swaps masked session
  from_masked [] masked written session same accepted = record {
    messages = session;
    accepted = subst (λ bytes. IsAccepted limits mode bytes session) same accepted;
    is_ordered = unswapped session (in_order [] session) (to_ordered [] session);
  }
  from_masked (rule ∷ rules) masked written session orders accepted = record {
    messages = orders.messages;
    accepted = orders.accepts;
    is_ordered = one_accepted limits mode written session
        (in_order (rule ∷ rules) orders.messages) accepted orders.accepted;
  }

  -- Without declarations the named texts are those before them.
  from_unnamed : (swaps : List SwapRule) (masked named ordered written : List ℕ)
      (session : List Sent) → named ≡ masked → OrdersBy limits mode swaps named ordered
      → written ≡ ordered → IsAccepted limits mode written session
      → FromMasked limits mode swaps masked session
  from_unnamed swaps masked named ordered written session same orders again accepted =
      from_masked swaps masked ordered session
      (subst (λ bytes. OrdersBy limits mode swaps bytes ordered) same orders)
      (subst (λ bytes. IsAccepted limits mode bytes session) again accepted)

  -- ---- with names

  module _ (mask : Mask) (recording masked : List ℕ)
      (masks : IsMaskedByRules limits mask recording masked) where
    are_masked : (messages : List Sent) → IsAccepted limits mode masked messages
        → AreMaskedMessages limits mask recording messages
    are_masked messages accepted = record {
      joined = masks.0;
      numbers = masks.1;
      joins = masks.2;
      read = masks.3.masks.messages;
      accepts = masks.3.masks.accepts;
      typed = masks.3.typed mode (text (normal_of (stop_in mode) messages))
          (normalises_as masked messages accepted);
    }

    -- The masked messages of which the rules make a session.
    pub record FromRules (swaps : List SwapRule) (declared : List Declaration)
        (session : List Sent) : Type 0 where
      messages : List Sent
      are : AreMaskedMessages limits mask recording messages
      named : session ≡ named_sents declared (in_order swaps messages)

    module _ (declared : List Declaration) (named : List ℕ)
        (names : IsNamedTo limits declared masked named) where
      abbrev plain : List Sent
      plain = names.names.messages

      -- The documents of the masked recording, typed, are its masked messages.
      are_typed : (messages : List Sent) → AllZip IsTypedAs plain messages
          → AreMaskedMessages limits mask recording messages
      are_typed messages typed =
          let is = masks.3 in
          let accepts = names.names.accepts in
          let records : accepts.records ≡ is.records =
          one_records limits masked accepts.records is.records accepts.recording is.recording in
          record {
            joined = masks.0;
            numbers = masks.1;
            joins = masks.2;
            read = is.masks.messages;
            accepts = is.masks.accepts;
            typed = subst (λ ms. AllZip IsTypedAs ms messages)
                (one_reading is.records plain (left_of mask is.masks.messages)
                (subst (λ rs. AreMessages rs plain) records accepts.read) is.read) typed;
          }

      -- The messages of the named recording.
      from_names : (session : List Sent) → IsAccepted limits mode named session
          → (messages : List Sent) × AllZip IsTypedAs plain messages
          × (session ≡ named_sents declared messages)
      from_names session accepted =
          names.typed mode (text (normal_of (stop_in mode) session))
          (normalises_as named session accepted)

      module _ (ordered written : List ℕ) (renames : IsNamedTo limits declared ordered written)
          (session : List Sent) (accepted : IsAccepted limits mode written session) where
        abbrev docs : List Sent
        docs = renames.names.messages

        typed : (messages : List Sent) × AllZip IsTypedAs docs messages
            × (session ≡ named_sents declared messages)
        typed = renames.typed mode (text (normal_of (stop_in mode) session))
            (normalises_as written session accepted)

        -- Without rules for the order, naming again changes nothing.
        stays : ordered ≡ named → written ≡ named
        stays same =
            one_named_text limits declared named written named
            (subst (λ bytes. Names limits declared bytes written) same renames.names) names.again

        -- With rules for the order.
        typed_in_order : (rules : List SwapRule) (orders : Orders limits mode rules named ordered)
            → typed.0 ≡ in_order rules orders.messages
        typed_in_order rules orders =
            let all = in_order rules orders.messages in
            let accepts = renames.names.accepts in
            let own = orders.accepted in
            let records : own.records ≡ accepts.records =
            one_records limits ordered own.records accepts.records own.recording accepts.recording
            in
            all_typed docs typed.0 all typed.1
            (typed_from accepts.records docs all accepts.read
            (subst (λ rs. AreTypedMessages rs all) records own.typed))

        from_named : (swaps : List SwapRule) → OrdersBy limits mode swaps named ordered
            → FromRules swaps declared session
        from_named [] same =
            let from = from_names session
            (subst (λ bytes. IsAccepted limits mode bytes session) (stays same) accepted) in
            record {
              messages = from.0;
              are = are_typed from.0 from.1;
              named = from.2 ∙ ap (named_sents declared)
                  (unswapped from.0 (in_order [] from.0) (to_ordered [] from.0));
            }
        from_named (rule ∷ rules) orders =
            let from = from_names orders.messages orders.accepts in
            record {
              messages = from.0;
              are = are_typed from.0 from.1;
              named = typed.2 ∙ ap (named_sents declared) (typed_in_order (rule ∷ rules) orders)
                  ∙ ap (λ (us : List Sent). named_sents declared (in_order (rule ∷ rules) us))
                  from.2 ∙ names.in_order (rule ∷ rules) from.0 from.1;
            }

    from_rules : (swaps : List SwapRule) (declared : List Declaration)
        (named ordered written : List ℕ) → NamesBy limits declared masked named
        → OrdersBy limits mode swaps named ordered → NamesBy limits declared ordered written
        → (session : List Sent) → IsAccepted limits mode written session
        → FromRules swaps declared session
    from_rules swaps [] named ordered written same orders again session accepted =
        let from =
        from_unnamed swaps masked named ordered written session same orders again accepted in
        record {
          messages = from.messages;
          are = are_masked from.messages from.accepted;
          named = from.is_ordered ∙ sym (no_declarations (in_order swaps from.messages));
        }
    from_rules swaps (d ∷ declared) named ordered written names orders renames session accepted =
        from_named (d ∷ declared) named names ordered written renames session accepted swaps orders

  module _ (mask : Mask) (recording : List ℕ) (session : List Sent)
      (makes : MakesSession limits mode mask recording session) where
    pub masked_by : IsMaskedByRules limits mask recording makes.applies.masked
    masked_by = masks_of limits mode mask recording makes.written makes.applies

    pub made_from : FromRules mask recording makes.applies.masked masked_by mask.swaps mask.declared
        session
    made_from =
        let is = makes.applies in
        from_rules mask recording is.masked masked_by mask.swaps mask.declared is.named is.ordered
        makes.written is.names is.orders is.renames session makes.accepted

    -- The session has the masked messages in order, with names.
    pub named_of : (ms : List Sent) → AreMaskedMessages limits mask recording ms
        → session ≡ named_by mask ms
    named_of ms are =
        let from = made_from in
        from.named ∙ ap (named_by mask)
        (one_masked_list limits mask recording from.messages ms from.are are)

    -- Without declarations, it has the masked messages in order, which are accepted as a recording.
    pub accepted_of : mask.declared ≡ [] → (ms : List Sent)
        → AreMaskedMessages limits mask recording ms
        → (bytes : List ℕ) × IsAccepted limits mode bytes ms × (session ≡ ordered_by mask ms)
    accepted_of none ms are =
        let is = makes.applies in
        let from = from_unnamed mask.swaps is.masked is.named is.ordered makes.written session
        (unnamed mask.declared none is.masked is.named is.names) is.orders
        (unnamed mask.declared none is.ordered makes.written is.renames) makes.accepted in
        let same = one_masked_list limits mask recording from.messages ms
        (are_masked mask recording is.masked masked_by from.messages from.accepted) are in (
          is.masked,
          subst (IsAccepted limits mode is.masked) same from.accepted,
          from.is_ordered ∙ ap (ordered_by mask) same,
        )

pub session_is_ordered : SessionIsOrdered
session_is_ordered limits mode mask recording session makes =
    let from = made_from limits mode mask recording session makes in
    (from.messages, from.are, from.named)

-- ---- two recordings

pub same_named_sessions : SameNamedSessions
same_named_sessions limits mode mask recording other first second ms ns makes also are_ms are_ns =
    let one = named_of limits mode mask recording first makes ms are_ms in
    let two = named_of limits mode mask other second also ns are_ns in
    subst (λ list. AreSame (stop_in mode) list second
    ↔ AreSame (stop_in mode) (named_by mask ms) (named_by mask ns)) (sym one)
    (subst (λ list. AreSame (stop_in mode) (named_by mask ms) list
    ↔ AreSame (stop_in mode) (named_by mask ms) (named_by mask ns)) (sym two)
    (λ same. same, λ same. same))

pub same_sessions : SameSessionsByRules
same_sessions limits mask none recording other first second ms ns makes also are_ms are_ns =
    let one = accepted_of limits Whole mask recording first makes none ms are_ms in
    let two = accepted_of limits Whole mask other second also none ns are_ns in
    let is = numbered one.1.records ms one.1.typed in (
      λ same. from_same_orders mask.swaps ms ns is
          (subst (λ list. AreSame no_stop list (ordered_by mask ns)) one.2
          (subst (λ list. AreSame no_stop first list) two.2 same)),
      λ same. subst (λ list. AreSame no_stop list second) (sym one.2)
          (subst (λ list. AreSame no_stop (ordered_by mask ms) list) (sym two.2)
          (same_orders mask.swaps ms ns is one.1.rules same)),
    )

-- The session whose normal text it is.
made : (limits : Limits) (mode : Mode) (mask : Mask) (recording : List ℕ) (a : NormalSession)
    (is : NormalisesByRules limits mode mask recording a)
    → MakesSession limits mode mask recording is.2.canonical.normalises.messages
made limits mode mask recording a is = record {
  written = is.0;
  applies = is.1;
  accepted = is.2.canonical.normalises.accepts;
}

pub equal_texts_in_each_mode : EqualTextsInEachMode
equal_texts_in_each_mode limits mode mask recording other a b ms ns is also are_ms are_ns =
    let first = is.2.canonical.normalises.messages in
    let second = also.2.canonical.normalises.messages in
    let tells = is.2.canonical.tells also.0 b.bytes.items also.2.canonical.normalises in
    let same = same_named_sessions limits mode mask recording other first second ms ns
    (made limits mode mask recording a is) (made limits mode mask other b also) are_ms are_ns in
    (λ equal. same.0 (tells.0 equal), λ renamed. tells.1 (same.1 renamed))

pub equal_texts_by_rules : EqualTextsByRules
equal_texts_by_rules limits mask none recording other a b ms ns is also are_ms are_ns =
    let first = is.2.canonical.normalises.messages in
    let second = also.2.canonical.normalises.messages in
    let tells = is.2.canonical.tells also.0 b.bytes.items also.2.canonical.normalises in
    let same = same_sessions limits mask none recording other first second ms ns
    (made limits Whole mask recording a is) (made limits Whole mask other b also) are_ms are_ns in
    (λ equal. same.0 (tells.0 equal), λ swapped. tells.1 (same.1 swapped))
