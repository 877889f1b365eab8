-- The earlier places that a place must follow.
use Rattle.std.proofs.Common.{◌≡◌, ℕ, ◌<◌, Bool, true, false, ◌⊎◌, inl, inr, List, [], ◌∷◌}
use Rattle.std.proofs.Common.{◌++◌, map, Option, Some, None, refl, sym, ap, ◌∙◌, arith, subst}
use Rattle.std.specs.Prelude.{slice_get, Contains}
use Rattle.std.proofs.lemmas.Bool.{or_cases, cases_order}
use Rattle.std.proofs.lemmas.List.Elements.{Contains-push, Contains-push_cases}
use Rattle.std.proofs.lemmas.List.Elements.{Contains-append_left}
use Rattle.dap_message.specs.Message.{Sent}
use Rattle.dap_order.specs.ByPlace.{passes_both}
use Rattle.dap_order.specs.Free.{of_one_class}
use Rattle.dap_order.specs.Keys.{Key, is_numbered_response, conversation_key, response_key}
use Rattle.dap_order.specs.Keys.{class_key, IsLastBelow, IsKeyAt}
use Rattle.dap_order.specs.Waits.{talk, are_tied, at_both, IsCovered, Covers, AreBack}
use Rattle.dap_order.proofs.Lists.{get_map, get_mapped, one_item}
use Rattle.dap_order.proofs.Conversations.{one_class_key, class_from_key, tied_class, tied_back}
use Rattle.dap_order.proofs.Conversations.{tied_response, talk_key, talk_response, response_key_is}
use Rattle.dap_order.proofs.Conversations.{response_found}

-- ---- messages at places

passed : (p : Sent → Sent → Bool) (o q : Option Sent) → passes_both p o q ≡ true
    → (x : Sent) × (y : Sent) × (o ≡ Some x) × (q ≡ Some y) × (p x y ≡ true)
passed p None q h = absurd (cc)
passed p (Some x) None h = absurd (cc)
passed p (Some x) (Some y) h = (x, y, refl, refl, h)

module _ (ms : List Sent) where
  pub both_at : (p : Sent → Sent → Bool) (i j : ℕ) (x y : Sent) → slice_get ms i ≡ Some x
      → slice_get ms j ≡ Some y → at_both p ms i j ≡ p x y
  both_at p i j x y e f =
      ap (λ o. passes_both p o (slice_get ms j)) e ∙ ap (passes_both p (Some x)) f

  pub passed_at : (p : Sent → Sent → Bool) (i j : ℕ) → at_both p ms i j ≡ true
      → (x : Sent) × (y : Sent) × (slice_get ms i ≡ Some x) × (slice_get ms j ≡ Some y)
      × (p x y ≡ true)
  passed_at p i j h = passed p (slice_get ms i) (slice_get ms j) h

  -- The message with this key at the place.
  keyed : (f : Sent → Key) (k : Key) (i : ℕ) → IsKeyAt (map f ms) k i
      → (x : Sent) × (slice_get ms i ≡ Some x) × (f x ≡ k)
  keyed f k i at = get_mapped f ms i k at

  key_at : (f : Sent → Key) (k : Key) (i : ℕ) (x : Sent) → slice_get ms i ≡ Some x → f x ≡ k
      → IsKeyAt (map f ms) k i
  key_at f k i x e same = get_map f ms i x e ∙ ap (λ z. Some z) same

  -- ---- conversations

  -- Two places of one conversation, of which the second one has a response.
  tied_at : (k : Key) (i a : ℕ) (x z : Sent) → slice_get ms i ≡ Some x → slice_get ms a ≡ Some z
      → conversation_key x ≡ k → conversation_key z ≡ k → is_numbered_response z ≡ true
      → at_both are_tied ms i a ≡ true
  tied_at k i a x z e f g h r =
      both_at are_tied i a x z e f ∙ tied_back z x (tied_response z x r (h ∙ sym g))

  -- A response follows its conversation, back to the last response.
  pub covers_back : (j : ℕ) (y : Sent) (waits : List ℕ) → slice_get ms j ≡ Some y
      → is_numbered_response y ≡ true → AreBack ms (conversation_key y) j waits
      → Covers talk ms j waits
  covers_back j y waits at r back = record {
    earlier = λ a w. (back.earlier a w).0;
    tied = λ a w.
        let v = keyed conversation_key (conversation_key y) a (back.earlier a w).1 in
        tied_at (conversation_key y) a j v.0 y v.1 at v.2 refl r;
    all = λ i below h.
        let v = passed_at talk i j h in
        let y_is : v.1 ≡ y = one_item ms j v.1 y v.3 at in
        let key : conversation_key v.0 ≡ conversation_key y =
        talk_key v.0 v.1 v.4 ∙ ap conversation_key y_is in
        elim (back.all i below (key_at conversation_key (conversation_key y) i v.0 v.2 key)) [
          | inl w ↦ inl w
          | inr w ↦ (
              let u = keyed conversation_key (conversation_key y) w.0 (back.earlier w.0 w.1).1 in
              let z_is : w.3.0 ≡ u.0 = one_item ms w.0 w.3.0 u.0 w.3.1 u.1 in
              inr (
                w.0,
                w.1,
                w.2,
                tied_at (conversation_key y) i w.0 v.0 u.0 v.2 u.1 key u.2
                    (ap is_numbered_response (sym z_is) ∙ w.3.2),
              )
              )
        ];
  }

  -- Any other message follows the last response of its conversation.
  pub covers_none : (j : ℕ) (y : Sent) → slice_get ms j ≡ Some y
      → is_numbered_response y ≡ false
      → IsLastBelow (IsKeyAt (map response_key ms) (conversation_key y)) j None
      → Covers talk ms j []
  covers_none j y at plain last = record {
    earlier = λ a w. absurd (omega (arith, w.1));
    tied = λ a w. absurd (omega (arith, w.1));
    all = λ i below h.
        let v = passed_at talk i j h in
        let y_is : v.1 ≡ y = one_item ms j v.1 y v.3 at in
        let r = talk_response v.0 v.1 v.4 (ap is_numbered_response y_is ∙ plain) in
        absurd (last i below (key_at response_key (conversation_key y) i v.0 v.2
        (response_key_is v.0 r ∙ talk_key v.0 v.1 v.4 ∙ ap conversation_key y_is)));
  }

  only : (p a : ℕ) → Contains (p ∷ []) a → p ≡ a
  only p a w = elim (Contains-push_cases [] p a w) [
    | inl none ↦ absurd (omega (arith, none.1))
    | inr e ↦ e
  ]

  pub covers_last : (j : ℕ) (y : Sent) (p : ℕ) → slice_get ms j ≡ Some y
      → is_numbered_response y ≡ false
      → IsLastBelow (IsKeyAt (map response_key ms) (conversation_key y)) j (Some p)
      → Covers talk ms j (p ∷ [])
  covers_last j y p at plain last =
      let u = keyed response_key (conversation_key y) p last.1 in
      let found = response_found u.0 y u.2 in
      record {
        earlier = λ a w. subst (λ (b : ℕ). b < j) (only p a w) last.0;
        tied = λ a w. subst (λ (b : ℕ). at_both are_tied ms b j ≡ true) (only p a w)
            (both_at are_tied p j u.0 y u.1 at ∙ tied_response u.0 y found.0 found.1);
        all = λ i below h.
            let v = passed_at talk i j h in
            let y_is : v.1 ≡ y = one_item ms j v.1 y v.3 at in
            let r = talk_response v.0 v.1 v.4 (ap is_numbered_response y_is ∙ plain) in
            let key : conversation_key v.0 ≡ conversation_key y =
            talk_key v.0 v.1 v.4 ∙ ap conversation_key y_is in
            elim (cases_order i p) [
              | inl e ↦ inl (subst (Contains (p ∷ [])) (sym e) (Contains-push [] p))
              | inr o ↦ elim o [
                | inl before ↦ inr (
                  p,
                  Contains-push [] p,
                  before,
                  tied_at (conversation_key y) i p v.0 u.0 v.2 u.1 key found.1 found.0,
                )
                | inr after ↦ absurd (last.2 i after below
                    (key_at response_key (conversation_key y) i v.0 v.2
                    (response_key_is v.0 r ∙ key)))
              ]
            ];
      }

  -- ---- classes

  tied_cases : (i j : ℕ) → at_both are_tied ms i j ≡ true
      → (at_both of_one_class ms i j ≡ true) ⊎ (at_both talk ms i j ≡ true)
  tied_cases i j h =
      let v = passed_at are_tied i j h in
      elim (or_cases (of_one_class v.0 v.1) (talk v.0 v.1) v.4) [
        | inl c ↦ inl (both_at of_one_class i j v.0 v.1 v.2 v.3 ∙ c)
        | inr t ↦ inr (both_at talk i j v.0 v.1 v.2 v.3 ∙ t)
      ]

  of_class : (i a : ℕ) (x z : Sent) → slice_get ms i ≡ Some x → slice_get ms a ≡ Some z
      → class_key x ≡ class_key z → at_both are_tied ms i a ≡ true
  of_class i a x z e f same =
      both_at are_tied i a x z e f ∙ tied_class x z (class_from_key x z same)

  -- With no earlier message of its class.
  pub covers_first : (j : ℕ) (y : Sent) (waits : List ℕ) → slice_get ms j ≡ Some y
      → Covers talk ms j waits → IsLastBelow (IsKeyAt (map class_key ms) (class_key y)) j None
      → Covers are_tied ms j waits
  covers_first j y waits at covers last = record {
    earlier = covers.earlier;
    tied = covers.tied;
    all = λ i below h. elim (tied_cases i j h) [
      | inr t ↦ covers.all i below t
      | inl c ↦ (
          let v = passed_at of_one_class i j c in
          let y_is : v.1 ≡ y = one_item ms j v.1 y v.3 at in
          absurd (last i below (key_at class_key (class_key y) i v.0 v.2
          (one_class_key v.0 v.1 v.4 ∙ ap class_key y_is)))
          )
    ];
  }

  more : (waits : List ℕ) (p i : ℕ) → IsCovered ms waits i → IsCovered ms (waits ++ p ∷ []) i
  more waits p i (inl w) = inl (Contains-append_left waits (p ∷ []) i w)
  more waits p i (inr w) =
      inr (w.0, Contains-append_left waits (p ∷ []) w.0 w.1, w.2, w.3)

  -- With the last earlier message of its class.
  pub covers_class : (j : ℕ) (y : Sent) (waits : List ℕ) (p : ℕ) → slice_get ms j ≡ Some y
      → Covers talk ms j waits → IsLastBelow (IsKeyAt (map class_key ms) (class_key y)) j (Some p)
      → Covers are_tied ms j (waits ++ p ∷ [])
  covers_class j y waits p at covers last =
      let u = keyed class_key (class_key y) p last.1 in
      record {
        earlier = λ a w. elim (Contains-push_cases waits p a w) [
          | inl old ↦ covers.earlier a old
          | inr new ↦ subst (λ (b : ℕ). b < j) new last.0
        ];
        tied = λ a w. elim (Contains-push_cases waits p a w) [
          | inl old ↦ covers.tied a old
          | inr new ↦ subst (λ (b : ℕ). at_both are_tied ms b j ≡ true) new
              (of_class p j u.0 y u.1 at u.2)
        ];
        all = λ i below h. elim (tied_cases i j h) [
          | inr t ↦ more waits p i (covers.all i below t)
          | inl c ↦ (
              let v = passed_at of_one_class i j c in
              let y_is : v.1 ≡ y = one_item ms j v.1 y v.3 at in
              let key : class_key v.0 ≡ class_key y =
              one_class_key v.0 v.1 v.4 ∙ ap class_key y_is in
              elim (cases_order i p) [
                | inl e ↦ inl (subst (Contains (waits ++ p ∷ [])) (sym e) (Contains-push waits p))
                | inr o ↦ elim o [
                  | inl before ↦ inr (
                    p,
                    Contains-push waits p,
                    before,
                    of_class i p v.0 u.0 v.2 u.1 (key ∙ sym u.2),
                  )
                  | inr after ↦ absurd (last.2 i after below
                      (key_at class_key (class_key y) i v.0 v.2 key))
                ]
              ]
              )
        ];
      }
