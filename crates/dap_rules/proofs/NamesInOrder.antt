-- The messages of a recording can be named before they are put in order and again after it, or only
-- after it.
use Rattle.std.proofs.Common.{◌≡◌, true, List, [], ◌∷◌, refl, ap, subst, sym, ◌∙◌, arith}
use Rattle.std.specs.List.{AllZip}
use Rattle.dap_message.specs.{Message.Sent, SwapRules.SwapRule}
use Rattle.dap_tokens.specs.Naming.{Id}
use Rattle.dap_mask.specs.Declarations.{Declaration, are_declared}
use Rattle.dap_naming.specs.Documents.{ids_of}
use Rattle.dap_naming.specs.Numbers.{AreCountable}
use Rattle.dap_naming.specs.Sessions.{AreFew, declared_ids, named_sents, rules_for}
use Rattle.dap_naming.proofs.Lists.{same_append}
use Rattle.dap_naming.proofs.TypedNames.{typed_ids_stay}
use Rattle.dap_input.specs.{Limits.AreSound, declared.limits.Limits.Limits}
use Rattle.dap_order.specs.MessageOrder.{ordered}
use Rattle.dap_rules.specs.MaskedRecordings.{IsTypedAs}
use Rattle.dap_rules.proofs.NamedOrdered.{names_after_order}

module _ (declared : List Declaration) (are : are_declared declared ≡ true) where
  -- Typed messages have the declared ids of their documents.
  pub typed_ids : (ms ts : List Sent) → AllZip IsTypedAs ms ts
      → declared_ids declared ts ≡ declared_ids declared ms
  typed_ids [] [] typed = refl
  typed_ids [] (t ∷ ts) typed = absurd typed
  typed_ids (m ∷ ms) [] typed = absurd typed
  typed_ids (m ∷ ms) (t ∷ ts) (one, typed) =
      same_append _ _ _ _
      (ap (λ d. ids_of (rules_for declared d) d) one.1.1
      ∙ typed_ids_stay declared m.side m.doc are) (typed_ids ms ts typed)

  module _ (limits : Limits) (sound : AreSound limits) where
    pub few_countable : (is : List Id) → AreFew limits.ids is → AreCountable is
    few_countable is few label =
        let most = few label in
        let limit = sound.ids in
        omega (arith, most, limit)

    pub names_in_order : (rules : List SwapRule) (ms ts : List Sent)
        → AreFew limits.ids (declared_ids declared ms) → AllZip IsTypedAs ms ts
        → named_sents declared (ordered rules (named_sents declared ts))
        ≡ named_sents declared (ordered rules ts)
    names_in_order rules ms ts few typed =
        names_after_order rules declared ts are
        (few_countable (declared_ids declared ts)
        (subst (AreFew limits.ids) (sym (typed_ids ms ts typed)) few))
