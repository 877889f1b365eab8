-- A recording is either ordered to exactly one text, or not ordered for exactly one error, never
-- both.
use Rattle.std.proofs.Common.{◌≡◌, inl, inr, ⊎_elim, ℕ, ◌<◌, ◌≤◌, List, [], ◌∷◌, ◌++◌, length}
use Rattle.std.proofs.Common.{refl, sym, ◌∙◌, ap, subst, arith, append_assoc, length-append}
use Rattle.std.proofs.lemmas.Bool.{cases_lt}
use Rattle.dap_message.specs.Message.{Sent}
use Rattle.dap_recording.proofs.Records.{readable}
use Rattle.dap_rename.specs.declared.mode.Mode.{Mode}
use Rattle.dap_input.specs.Refusals.{HasOneOutcome}
use Rattle.dap_input.specs.declared.limits.Limits.{Limits}
use Rattle.dap_input.specs.declared.refused.Refused.{Refused}
use Rattle.dap_input.specs.declared.refused.Refused.TheVariants.{Grew}
use Rattle.dap_input.proofs.ItemReaders.{shown_cause}
use Rattle.dap_input.proofs.OneOutcome.{has_one_outcome}
use Rattle.dap_normalise.specs.Accepting.{Fits, accepting, text}
use Rattle.dap_normalise.proofs.AcceptingFacts.{accepted_facts, value_facts}
use Rattle.dap_normalise.proofs.NormalTexts.{fits_front}
use Rattle.dap_order.specs.MessageOrder.{ordered}
use Rattle.dap_rules.specs.OrderLaws.{OneOrderError, OrderedHasNoError}
use Rattle.dap_rules.specs.Ordering.{IsTextRefused, PassesLimit}
use Rattle.dap_rules.proofs.OrderedTexts.{one_accepted}

-- The shorter of two prefixes of a list is a prefix of the longer one.
front_of : {X : Type 0} (short long rest more : List X) → short ++ rest ≡ long ++ more
    → length short ≤ length long → (last : List X) × (long ≡ short ++ last)
front_of [] long rest more same le = (long, refl)
front_of (x ∷ short) [] rest more same le = absurd (omega (arith, le))
front_of (x ∷ short) (y ∷ long) rest more same le =
    let head : x ≡ y = cc in
    let tails : short ++ rest ≡ long ++ more = cc in
    let later = front_of short long rest more tails (omega (arith, le)) in
    (later.0, ap (λ z. z ∷ long) (sym head) ∙ ap (λ t. x ∷ t) later.1)

pub outcome : (limits : Limits) (mode : Mode) → HasOneOutcome (accepting limits mode)
outcome limits mode =
    has_one_outcome (accepting limits mode) (shown_cause limits.frame) (readable limits.frame)
    (value_facts limits mode) (accepted_facts limits mode)

module _ (limits : Limits) (ms : List Sent) where
  until : (n : ℕ) (p : PassesLimit limits ms n)
      → ms ≡ (p.before ++ p.message ∷ []) ++ p.after
  until n p = p.split ∙ sym (append_assoc p.before (p.message ∷ []) p.after)

  -- A text that exceeds a limit is not within the limits.
  not_allowed : (n : ℕ) → PassesLimit limits ms n → Fits limits ms → ⊥
  not_allowed n p fits =
      p.too_long
      (fits_front limits (p.before ++ p.message ∷ []) p.after
      (subst (Fits limits) (until n p) fits))

  not_before : (n k : ℕ) → PassesLimit limits ms n → PassesLimit limits ms k → n < k → ⊥
  not_before n k p q less =
      let first = p.number_is in
      let second = q.number_is in
      let front = front_of (p.before ++ p.message ∷ []) q.before p.after
      (q.message ∷ q.after) (sym (until n p) ∙ q.split)
      (omega (arith, first, second, less, length-append p.before (p.message ∷ []))) in
      p.too_long
      (fits_front limits (p.before ++ p.message ∷ []) front.0
      (subst (Fits limits) front.1 q.fits))

  one_place : (n k : ℕ) → PassesLimit limits ms n → PassesLimit limits ms k → n ≡ k
  one_place n k p q =
      ⊎_elim (λ less. absurd (not_before n k p q less))
      (λ le. ⊎_elim (λ less. absurd (not_before k n q p less)) (λ more. omega (arith, le, more))
      (cases_lt k n))
      (cases_lt n k)

  text_once : (mode : Mode) (because other : Refused) → IsTextRefused limits mode ms because
      → IsTextRefused limits mode ms other → because ≡ other
  text_once mode because other (inl (n, is, p)) (inl (k, also, q)) =
      is ∙ ap Grew (one_place n k p q) ∙ sym also
  text_once mode because other (inl (n, is, p)) (inr (fits, q, e)) = absurd (not_allowed n p fits)
  text_once mode because other (inr (fits, p, e)) (inl (k, also, q)) = absurd (not_allowed k q fits)
  text_once mode because other (inr (fits, p, e)) (inr (also, q, f)) =
      (outcome limits mode).one_refusal (text ms) because other p q

pub one_order_error : OneOrderError
one_order_error limits mode rules bytes because other (inl p) (inl q) =
    (outcome limits mode).one_refusal bytes because other p q
one_order_error limits mode rules bytes because other (inl p) (inr (ms, accepted, q)) =
    absurd ((outcome limits mode).not_both bytes ms because accepted p)
one_order_error limits mode rules bytes because other (inr (ms, accepted, p)) (inl q) =
    absurd ((outcome limits mode).not_both bytes ms other accepted q)
one_order_error limits mode rules bytes because other (inr (ms, accepted, p)) (inr (ns, also, q)) =
    text_once limits (ordered rules ms) mode because other p
    (subst (λ zs. IsTextRefused limits mode (ordered rules zs) other)
    (one_accepted limits mode bytes ns ms also accepted) q)

pub ordered_has_no_error : OrderedHasNoError
ordered_has_no_error limits mode rules bytes written because a (inl p) =
    (outcome limits mode).not_both bytes a.messages because a.accepts p
ordered_has_no_error limits mode rules bytes written because a (inr (ms, accepted, p)) =
    no_error
    (subst (λ zs. IsTextRefused limits mode (ordered rules zs) because)
    (one_accepted limits mode bytes ms a.messages accepted a.accepts) p)
  where
    no_error : IsTextRefused limits mode (ordered rules a.messages) because → ⊥
    no_error (inl (n, is, q)) = not_allowed limits (ordered rules a.messages) n q a.fits
    no_error (inr (fits, q, e)) =
        (outcome limits mode).not_both (text (ordered rules a.messages)) (ordered rules a.messages)
        because
        (subst (λ t. (accepting limits mode).IsAccepted t (ordered rules a.messages)) a.text_is
        a.accepted)
        q
