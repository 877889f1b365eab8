-- The length of the text of messages, counted record by record, and the messages that its records
-- contain.
use Rattle.std.proofs.Common.{◌≡◌, ◌⊎◌, inl, inr, ℕ, ◌+◌, ◌<◌, ◌≤◌, List, [], ◌∷◌, ◌++◌, length}
use Rattle.std.proofs.Common.{Ok, Err, refl, sym, ◌∙◌, ap, subst, arith, length-append}
use Rattle.std.specs.List.{AllByRecursion}
use Rattle.std.proofs.lemmas.List.Elements.{All-from_recursion, recursion_from_All}
use Rattle.std.proofs.lemmas.List.Sorted.{All-permutation}
use Rattle.dap_tree.specs.Json.{text_of}
use Rattle.dap_message.specs.Message.{Sent, IsTypedContent}
use Rattle.dap_message.specs.SwapRules.{SwapRule}
use Rattle.dap_stored.proofs.Contents.{own_content}
use Rattle.dap_rename.proofs.Lists.{each-append}
use Rattle.dap_input.specs.declared.limits.Limits.{Limits}
use Rattle.dap_input.specs.declared.refused.Refused.{Refused}
use Rattle.dap_input.specs.declared.refused.Refused.TheVariants.{Grew, Memory}
use Rattle.dap_normalise.specs.Accepting.{Payload, AreMessages, Fits, text}
use Rattle.dap_normalise.specs.JudgingSteps.{Writes as WritesRecord, record_of}
use Rattle.dap_normalise.proofs.JudgedRecords.{text_push}
use Rattle.dap_normalise.specs.RecordTexts.{contents_of}
use Rattle.dap_normalise.proofs.RecordTexts.{read_contents}
use Rattle.dap_order.proofs.Kept.{reordered_permutation}
use Rattle.dap_order.specs.Free.{free}
use Rattle.dap_order.specs.MessageOrder.{ordered}
use Rattle.dap_order.proofs.MessageOrder.{to_ordered}
use Rattle.dap_rules.specs.Ordering.{PassesLimit}
use Rattle.dap_rules.specs.OrderingSteps.{IsLengthOf, Measures}

-- ---- one more record

module _ (limits : Limits) (before : List Sent) (m : Sent) (len : ℕ)
    (was : IsLengthOf limits before len) where
  long : length (text (before ++ m ∷ [])) ≡ len + length (record_of m)
  long =
      let is = was.length_is in
      omega (arith, is, ap length (text_push before m), length-append (text before) (record_of m))

  pub one_more : (number after : ℕ)
      → WritesRecord limits m number len [] (record_of m) (Ok after)
      → IsLengthOf limits (before ++ m ∷ []) after
  one_more number after one = record {
    length_is = omega (arith, one.2, long);
    fits = record {
      each = each-append (λ n. length (text_of n.doc) ≤ limits.frame.content) before (m ∷ [])
          was.fits.each (one.0, tt);
      whole = omega (arith, one.2, one.3, long);
    };
  }

  last : (ns : List Sent)
      → AllByRecursion (λ n. length (text_of n.doc) ≤ limits.frame.content) (ns ++ m ∷ [])
      → length (text_of m.doc) ≤ limits.frame.content
  last [] all = all.0
  last (n ∷ ns) all = last ns all.1

  passes : (limits.frame.content < length (text_of m.doc))
      ⊎ (limits.input < len + length (record_of m)) → Fits limits (before ++ m ∷ []) → ⊥
  passes (inl content) fits = let short = last before fits.each in omega (arith, content, short)
  passes (inr whole) fits = let short = fits.whole in omega (arith, whole, short, long)

  module _ (messages after : List Sent) (split : messages ≡ before ++ m ∷ after) (number : ℕ)
      (is : number ≡ length before + 1) where
    -- The record exceeds a limit.
    pub too_long : (n : ℕ) → n ≡ number → (limits.frame.content < length (text_of m.doc))
        ⊎ (limits.input < len + length (record_of m)) → PassesLimit limits messages n
    too_long n same long = record {
      before = before;
      message = m;
      after = after;
      split = split;
      number_is = same ∙ is;
      fits = was.fits;
      too_long = passes long;
    }

    pub not_counted : (because : Refused)
        → WritesRecord limits m number len [] (record_of m) (Err because)
        → Measures limits messages (Err because)
    not_counted (Grew k) reported = too_long k reported.0 reported.1
    not_counted Memory reported = tt
    not_counted because reported = absurd reported

-- No record has been counted.
pub none_counted : (limits : Limits) → IsLengthOf limits [] 0
none_counted limits = record {
  length_is = refl;
  fits = record { each = tt; whole = omega arith };
}

-- ---- the messages that the records contain

-- The canonical content of the message is that of the message.
abbrev IsOwn : Sent → Type 0
IsOwn message = IsTypedContent message.side (text_of message.doc) message.doc

all_own : (records : List Payload) (ms : List Sent) → AreMessages records ms
    → AllByRecursion IsOwn ms
all_own [] [] typed = tt
all_own [] (m ∷ ms) typed = absurd typed
all_own (held ∷ records) [] typed = absurd typed
all_own (held ∷ records) (m ∷ ms) (is, typed) = (
  own_content m.side held.1 m.doc
      (subst (λ side. IsTypedContent side held.1 m.doc) (sym is.0) is.1),
  all_own records ms typed,
)

module _ (rules : List SwapRule) (ms : List Sent) (records : List Payload)
    (typed : AreMessages records ms) where
  -- The content of each message is that of the message, in any order.
  pub ordered_own : AllByRecursion IsOwn (ordered rules ms)
  ordered_own =
      recursion_from_All IsOwn (ordered rules ms)
      (All-permutation IsOwn ms (ordered rules ms)
      (reordered_permutation (free rules) ms (ordered rules ms) (to_ordered rules ms))
      (All-from_recursion IsOwn ms (all_own records ms typed)))

  -- The records of the text contain the messages in order.
  pub ordered_typed : AreMessages (contents_of (ordered rules ms)) (ordered rules ms)
  ordered_typed = read_contents (ordered rules ms) ordered_own
