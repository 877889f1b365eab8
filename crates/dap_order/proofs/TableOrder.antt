-- Two places of a table are ordered in the same way as the messages at these places, and are free
-- if these are.
use Rattle.std.proofs.Common.{◌≡◌, ℕ, Bool, true, false, ◌&&◌, List, [], ◌∷◌, map, take, Option}
use Rattle.std.proofs.Common.{arith, zero, suc, inl, inr}
use Rattle.std.proofs.Common.{Some, None, refl, sym, ap, ◌∙◌, ◌⊎◌}
use Rattle.std.specs.Prelude.{◌||◌, slice_get, option_map, nat_lt}
use Rattle.std.proofs.lemmas.Bool.{and_parts, or_left, or_right, cases_Bool, cases_order, lt-ltb}
use Rattle.std.proofs.lemmas.Bool.{cond-true, cond-false, and_left}
use Rattle.dap_tree.specs.declared.side.Side.TheVariants.{Client}
use Rattle.dap_message.specs.Message.{Sent}
use Rattle.dap_message.specs.declared.any_message.AnyMessage.{Ghosts as Form}
use Rattle.dap_session.specs.Messages.{is_from}
use Rattle.dap_order.specs.Labels.{Labelled, label, by_label}
use Rattle.dap_order.specs.ByPlace.{passes_both, by_place, place_answered, places_answered}
use Rattle.dap_order.specs.ByPlace.{less_by_place}
use Rattle.dap_order.specs.ByPlace.{first_place}
use Rattle.dap_order.proofs.PlaceLabels.{label_at, place_at, less_at}
use Rattle.dap_message.specs.SwapRules.{SwapRule}
use Rattle.dap_order.specs.Free.{Class, free, class_of, answers, of_one_class, less_class}
use Rattle.dap_order.specs.MessageOrder.{is_client_request_of, message_answers, message_labels}
use Rattle.dap_order.specs.Entries.{sent_by, request_by}
use Rattle.dap_order.specs.declared.entries.Entry.{Entry}
use Rattle.dap_order.proofs.Independence.{client_class}
use Rattle.dap_order.proofs.MessageOrder.{are_message_classes, are_message_answers}
use Rattle.dap_order.proofs.Lists.{get_map, one_item}

-- ---- free messages have different keys

later : {X : Type 0} (x : X) (xs : List X) (p : X → Bool) (o : Option ℕ) (b : ℕ)
    → option_map suc o ≡ Some b
    → ((c : ℕ) → first_place p xs ≡ Some c → (y : X) × (slice_get xs c ≡ Some y) × (p y ≡ true))
    → first_place p xs ≡ o → (y : X) × (slice_get (x ∷ xs) b ≡ Some y) × (p y ≡ true)
later x xs p None b h rest is = absurd (cc)
later x xs p (Some c) zero h rest is = absurd (cc)
later x xs p (Some c) (suc b) h rest is =
    let same : suc c ≡ suc b = cc in
    let place : c ≡ b = omega (arith, same) in rest b (is ∙ ap (λ z. Some z) place)

-- The item at the first place that passes a test.
first_passes : {X : Type 0} (p : X → Bool) (xs : List X) (a : ℕ) → first_place p xs ≡ Some a
    → (x : X) × (slice_get xs a ≡ Some x) × (p x ≡ true)
first_passes p [] a e = absurd (cc)
first_passes p (x ∷ xs) a e = elim (cases_Bool (p x)) [
  | inl t ↦ (
      let zero_is : Some 0 ≡ Some a =
      sym (cond-true (p x) (Some 0) (option_map suc (first_place p xs)) t) ∙ e in
      let is : 0 ≡ a = cc in
      (x, ap (slice_get (x ∷ xs)) (sym is), t)
      )
  | inr f ↦ later x xs p (first_place p xs) a
      (sym (cond-false (p x) (Some 0) (option_map suc (first_place p xs)) f) ∙ e)
      (λ b h. first_passes p xs b h) refl
]

in_front : {X : Type 0} (n : ℕ) (xs : List X) (a : ℕ) (x : X) → slice_get (take n xs) a ≡ Some x
    → slice_get xs a ≡ Some x
in_front zero xs a x e = absurd (cc)
in_front (suc n) [] a x e = absurd (cc)
in_front (suc n) (y ∷ xs) zero x e = e
in_front (suc n) (y ∷ xs) (suc a) x e = in_front n xs a x e

less_one_way : (x y : Sent) (i j : ℕ) (o q : Option ℕ) → of_one_class x y ≡ false
    → ((a : ℕ) → o ≡ Some a → q ≡ Some a → ⊥)
    → (less_by_place (message_answers []) x i o y j q
    || less_by_place (message_answers []) y j q x i o) ≡ true
less_one_way x y i j None None apart none =
    elim ((are_message_classes []).some_less (class_of x) (class_of y) apart) [
      | inl l ↦ or_left _ _ (or_left (less_class (class_of x) (class_of y)) _ l)
      | inr l ↦ or_right _ _ (or_left (less_class (class_of y) (class_of x)) _ l)
    ]
less_one_way x y i j None (Some b) apart none = refl
less_one_way x y i j (Some a) None apart none = refl
less_one_way x y i j (Some a) (Some b) apart none = elim (cases_order a b) [
  | inl e ↦ absurd (none a refl (ap (λ z. Some z) (sym e)))
  | inr o ↦ elim o [
    | inl l ↦ or_left (nat_lt a b) (nat_lt b a) (lt-ltb a b l)
    | inr g ↦ or_right (nat_lt a b) (nat_lt b a) (lt-ltb b a g)
  ]
]

-- ---- places

one_class : (q r x y : Sent) → is_client_request_of q x ≡ true → is_client_request_of r y ≡ true
    → class_of q ≡ class_of r
one_class q r x y h k =
    client_class q (and_parts (is_from Client q) (answers x q) h).0
    ∙ sym (client_class r (and_parts (is_from Client r) (answers y r) k).0)

module _ {M : Type 0} {form : Form M} (rules : List SwapRule) (es : List (Entry M form)) where
  abbrev messages : List Sent
  messages = map sent_by es

  abbrev labelled : List (Labelled Sent ((Class × ℕ) ⊎ (Class × ℕ)))
  labelled = label (message_labels rules) messages

  abbrev labelled_at : ℕ → Entry M form → Labelled Sent ((Class × ℕ) ⊎ (Class × ℕ))
  labelled_at i e = record {
    item = sent_by e;
    label = (message_labels rules).label_of (take i messages) (sent_by e);
  }

  entry_at : (i : ℕ) (e : Entry M form) → slice_get es i ≡ Some e
      → slice_get labelled i ≡ Some (labelled_at i e)
  entry_at i e h =
      label_at (message_labels rules) [] messages i (sent_by e) (get_map sent_by es i e h)

  module _ (are : map request_by es ≡ places_answered (message_answers []) messages) where
    request_is : (i : ℕ) (e : Entry M form) → slice_get es i ≡ Some e
        → place_answered (message_answers rules) (take i messages) (sent_by e) ≡ request_by e
    request_is i e h =
        let there = place_at (message_answers []) [] messages i (sent_by e)
        (get_map sent_by es i e h) in
        let here = get_map request_by es i e h in
        let same = ap (λ zs. slice_get zs i) are in
        unwrapped _ _ (sym there ∙ sym same ∙ here)
      where
        unwrapped : (o p : Option ℕ) → Some o ≡ Some p → o ≡ p
        unwrapped o p e = cc

    abbrev less_there : ℕ → Entry M form → ℕ → Entry M form → Bool
    less_there i e j f =
        less_by_place (message_answers []) (sent_by e) i (request_by e) (sent_by f) j (request_by f)

    less_label : (i j : ℕ) (e f : Entry M form) → slice_get es i ≡ Some e → slice_get es j ≡ Some f
        → (message_labels rules).less (labelled_at i e).label (labelled_at j f).label
        ≡ less_there i e j f
    less_label i j e f h k =
        less_at (message_answers rules) (are_message_classes rules) one_class messages i j
        (sent_by e) (sent_by f) (get_map sent_by es i e h) (get_map sent_by es j f k)
        ∙ ap (λ o. less_by_place (message_answers []) (sent_by e) i o (sent_by f) j
        (place_answered (message_answers rules) (take j messages) (sent_by f))) (request_is i e h)
        ∙ ap (λ o. less_by_place (message_answers []) (sent_by e) i (request_by e) (sent_by f) j o)
        (request_is j f k)

    pub less_is : (i j : ℕ) (e f : Entry M form) → slice_get es i ≡ Some e → slice_get es j ≡ Some f
        → (by_place (by_label (message_labels rules)) labelled).less i j ≡ less_there i e j f
    less_is i j e f h k =
        ap (λ o. passes_both (by_label (message_labels rules)).less o (slice_get labelled j))
        (entry_at i e h)
        ∙ ap (passes_both (by_label (message_labels rules)).less (Some (labelled_at i e)))
        (entry_at j f k)
        ∙ less_label i j e f h k

    pub free_is : (i j : ℕ) (e f : Entry M form) → slice_get es i ≡ Some e → slice_get es j ≡ Some f
        → (by_place (by_label (message_labels rules)) labelled).free i j
        ≡ free rules (sent_by e) (sent_by f) && (less_there i e j f || less_there j f i e)
    free_is i j e f h k =
        ap (λ o. passes_both (by_label (message_labels rules)).free o (slice_get labelled j))
        (entry_at i e h)
        ∙ ap (passes_both (by_label (message_labels rules)).free (Some (labelled_at i e)))
        (entry_at j f k)
        ∙ ap (λ b. free rules (sent_by e) (sent_by f)
        && (b || (message_labels rules).less (labelled_at j f).label (labelled_at i e).label))
        (less_label i j e f h k)
        ∙ ap (λ b. free rules (sent_by e) (sent_by f) && (less_there i e j f || b))
        (less_label j i f e k h)

    -- Free messages do not answer the same request.
    other_request : (i j : ℕ) (e f : Entry M form) → slice_get es i ≡ Some e → slice_get es j ≡ Some f
        → free rules (sent_by e) (sent_by f) ≡ true → (a : ℕ) → request_by e ≡ Some a
        → request_by f ≡ Some a → ⊥
    other_request i j e f h k fr a one two =
        let q = first_passes (λ q. is_client_request_of q (sent_by e)) (take i messages) a
        (request_is i e h ∙ one) in
        let r = first_passes (λ q. is_client_request_of q (sent_by f)) (take j messages) a
        (request_is j f k ∙ two) in
        let same : r.0 ≡ q.0 =
        one_item messages a r.0 q.0 (in_front j messages a r.0 r.1)
        (in_front i messages a q.0 q.1) in
        (are_message_answers rules).one_answer (sent_by e) (sent_by f) q.0 fr q.2
        (ap (λ (z : Sent). is_client_request_of z (sent_by f)) (sym same) ∙ r.2)

    -- Two places are free if and only if the messages at these places are.
    pub free_at : (i j : ℕ) (e f : Entry M form) → slice_get es i ≡ Some e → slice_get es j ≡ Some f
        → (by_place (by_label (message_labels rules)) labelled).free i j
        ≡ free rules (sent_by e) (sent_by f)
    free_at i j e f h k =
        free_is i j e f h k ∙ elim (cases_Bool (free rules (sent_by e) (sent_by f))) [
          | inr n ↦ and_left _ _ n ∙ sym n
          | inl y ↦ ap (λ b. b && (less_there i e j f || less_there j f i e)) y
              ∙ less_one_way (sent_by e) (sent_by f) i j (request_by e) (request_by f)
              ((are_message_classes rules).two_classes (sent_by e) (sent_by f) y)
              (other_request i j e f h k y) ∙ sym y
        ]
