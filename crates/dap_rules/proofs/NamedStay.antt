-- Messages that are named stay named in another order, if their declared ids keep their order.
use Rattle.std.proofs.Common.{◌≡◌, ℕ, true, List, map, refl, ap, sym, ◌∙◌, subst}
use Rattle.std.specs.List.{AllZip}
use Rattle.dap_mask.specs.Declarations.{Declaration, are_declared}
use Rattle.dap_message.specs.{Message.Sent, SwapRules.SwapRule}
use Rattle.dap_tokens.proofs.NamedStrings.{names_are_read, named_twice}
use Rattle.dap_tokens.proofs.EqualStrings.{equal_named}
use Rattle.dap_naming.specs.Numbers.{AreCountable, number}
use Rattle.dap_naming.specs.Sessions.{AreFew, declared_ids, name_sent, named_sents}
use Rattle.dap_naming.proofs.SessionsNamed.{named_session_stays}
use Rattle.dap_order.specs.MessageOrder.{ordered}
use Rattle.dap_rename.specs.{Messages.normal_of, Modes.stop_in, declared.mode.Mode.Mode}
use Rattle.dap_input.specs.{Limits.AreSound, declared.limits.Limits.Limits}
use Rattle.dap_normalise.specs.Accepting.{AreMessages as AreTypedMessages, IsAccepted, text}
use Rattle.dap_normalise.specs.Normalising.{Normalises}
use Rattle.dap_normalise.proofs.{AcceptingFacts.messages_proper, NormalTexts.normal}
use Rattle.dap_rules.specs.{MaskedRecordings.IsTypedAs, NamedRecordings.IsNamedTo}
use Rattle.dap_rules.proofs.NamedForms.{one_records, typed_from}
use Rattle.dap_rules.proofs.{NamedOrder.order_of_named, NamesInOrder.{few_countable, typed_ids}}

module _ (xs : List Declaration) (are : are_declared xs ≡ true) where
  -- ---- the order

  -- The order of named messages is named, if their declared ids keep their order.
  pub order_stays : (swaps : List SwapRule) (ms ns : List Sent) → named_sents xs ms ≡ ms
      → ns ≡ ordered swaps ms → declared_ids xs ns ≡ declared_ids xs ms → ns ≡ named_sents xs ns
  order_stays swaps ms ns named is same =
      let f = number (declared_ids xs ms) in
      sym (ap (λ ids. map (name_sent xs (number ids)) ns) same
      ∙ ap (map (name_sent xs f)) is
      ∙ sym (order_of_named swaps xs f ms are)
      ∙ ap (ordered swaps) named
      ∙ sym is)

  -- ---- the messages of a named text

  module _ (limits : Limits) (sound : AreSound limits) where
    module _ (mode : Mode) (bytes written : List ℕ) (is : IsNamedTo limits xs bytes written)
        (ms : List Sent) (accepted : IsAccepted limits mode written ms) where
      abbrev normalises : Normalises limits mode written (text (normal_of (stop_in mode) ms))
      normalises = record {
        messages = ms;
        accepts = accepted;
        normal = normal_of (stop_in mode) ms;
        is_normal = normal mode ms (messages_proper accepted.records ms accepted.typed);
        text_is = refl;
      }

      typed : (before : List Sent) × AllZip IsTypedAs is.names.messages before
          × (ms ≡ named_sents xs before)
      typed = is.typed mode (text (normal_of (stop_in mode) ms)) normalises

      countable : AreCountable (declared_ids xs typed.0)
      countable =
          subst AreCountable (sym (typed_ids xs are is.names.messages typed.0 typed.1))
          (few_countable xs are limits sound (declared_ids xs is.names.messages)
          is.names.accepts.few)

      -- The messages are named.
      pub named_stay : named_sents xs ms ≡ ms
      named_stay =
          subst (λ ns. named_sents xs ns ≡ ns) (sym typed.2)
          (named_session_stays names_are_read named_twice equal_named xs typed.0 are countable)

      -- No label has more values than the limit.
      pub few_named : AreFew limits.ids (declared_ids xs ms)
      few_named =
          let again = is.again.accepts in
          let records : accepted.records ≡ again.records =
          one_records limits written accepted.records again.records accepted.recording
          again.recording in
          subst (AreFew limits.ids)
          (sym (typed_ids xs are is.again.messages ms
          (typed_from again.records is.again.messages ms again.read
          (subst (λ rs. AreTypedMessages rs ms) records accepted.typed)))) again.few
