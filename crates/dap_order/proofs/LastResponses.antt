-- The last earlier response in the conversation of each message, while a list is read.
use Rattle.std.proofs.Common.{◌≡◌, ℕ, ◌+◌, ◌<◌, Bool, true, false, List, [], ◌∷◌, ◌++◌, map, length}
use Rattle.std.proofs.Common.{Option, Some, None, inl, inr, refl, sym, ap, ◌∙◌, arith, subst}
use Rattle.std.proofs.Common.{get_or, length-append}
use Rattle.std.specs.Prelude.{slice_get}
use Rattle.std.proofs.lemmas.Bool.{both_ways, cases_Bool, cases_order}
use Rattle.dap_message.specs.Message.{Sent}
use Rattle.dap_order.specs.Keys.{Key, is_numbered_response, conversation_key, response_key}
use Rattle.dap_order.specs.Keys.{IsLastBelow, IsKeyAt, ArePrevious}
use Rattle.dap_order.proofs.Conversations.{response_key_is, response_found}
use Rattle.dap_order.proofs.Lists.{get_at, get_below, get_cases, get_map, get_mapped, len_map}
use Rattle.dap_order.proofs.Lists.{one_item}

-- The last place below n at which Q holds, if Q holds only at places at which P holds.
module _ (P Q : ℕ → Type 0) (only : (i : ℕ) → Q i → P i) (n : ℕ) where
  last_none : IsLastBelow P n None → IsLastBelow Q n None
  last_none last = λ i below q. last i below (only i q)

  last_here : (p : ℕ) → IsLastBelow P n (Some p) → Q p → IsLastBelow Q n (Some p)
  last_here p last q = (last.0, q, λ i after below r. last.2 i after below (only i r))

  last_before : (p : ℕ) (o : Option ℕ) → IsLastBelow P n (Some p) → (Q p → ⊥)
      → IsLastBelow Q p o → IsLastBelow Q n o
  last_before p None last never low = λ i below q. elim (cases_order i p) [
    | inl e ↦ never (subst Q e q)
    | inr c ↦ elim c [
      | inl before ↦ low i before q
      | inr after ↦ last.2 i after below (only i q)
    ]
  ]
  last_before p (Some r) last never low =
      let high : p < n = last.0 in
      let lower : r < p = low.0 in (
        omega arith,
        low.1,
        λ i after below q. elim (cases_order i p) [
          | inl e ↦ never (subst Q e q)
          | inr c ↦ elim c [
            | inl before ↦ low.2 i after before q
            | inr beyond ↦ last.2 i beyond below (only i q)
          ]
        ],
      )

-- The responses of the conversation of y.
module _ (ms : List Sent) (y : Sent) where
  of_conversation : (i : ℕ) → IsKeyAt (map response_key ms) (conversation_key y) i
      → IsKeyAt (map conversation_key ms) (conversation_key y) i
  of_conversation i at =
      let x = get_mapped response_key ms i (conversation_key y) at in
      get_map conversation_key ms i x.0 x.1
      ∙ ap (λ (k : Key). Some k) (response_found x.0 y x.2).1

  -- The test of the message at a place.
  test_is : (i : ℕ) (x : Sent) (b : Bool) → slice_get ms i ≡ Some x
      → slice_get (map is_numbered_response ms) i ≡ Some b → is_numbered_response x ≡ b
  test_is i x b at test =
      one_item (map is_numbered_response ms) i (is_numbered_response x) b
      (get_map is_numbered_response ms i x at) test

  is_response : (i : ℕ) → IsKeyAt (map conversation_key ms) (conversation_key y) i
      → slice_get (map is_numbered_response ms) i ≡ Some true
      → IsKeyAt (map response_key ms) (conversation_key y) i
  is_response i at test =
      let x = get_mapped conversation_key ms i (conversation_key y) at in
      get_map response_key ms i x.0 x.1
      ∙ ap (λ (k : Key). Some k) (response_key_is x.0 (test_is i x.0 true x.1 test) ∙ x.2)

  no_response : (i : ℕ) → slice_get (map is_numbered_response ms) i ≡ Some false
      → IsKeyAt (map response_key ms) (conversation_key y) i → ⊥
  no_response i test at =
      let x = get_mapped response_key ms i (conversation_key y) at in
      both_ways (is_numbered_response x.0) (test_is i x.0 false x.1 test)
      (response_found x.0 y x.2).0

-- For each place below n, the last earlier response in its conversation.
pub record AreResponses (ms : List Sent) (n : ℕ) (found : List (Option ℕ)) : Type 0 where
  pub len : length found ≡ n
  pub each : (j : ℕ) (k : Key) (o : Option ℕ) → IsKeyAt (map conversation_key ms) k j
      → slice_get found j ≡ Some o → IsLastBelow (IsKeyAt (map response_key ms) k) j o

pub responses_none : (ms : List Sent) → AreResponses ms 0 []
responses_none ms = record { len = refl; each = λ j k o key there. absurd (cc) }

pub responses_all : (ms : List Sent) (n : ℕ) (found : List (Option ℕ)) → n ≡ length ms
    → AreResponses ms n found → ArePrevious (map response_key ms) (map conversation_key ms) found
responses_all ms n found all are = record {
  len = are.len ∙ all ∙ sym (len_map conversation_key ms);
  each = are.each;
}

responses_more : (ms : List Sent) (n : ℕ) (found : List (Option ℕ)) (y : Sent) (o : Option ℕ)
    → AreResponses ms n found → slice_get ms n ≡ Some y
    → IsLastBelow (IsKeyAt (map response_key ms) (conversation_key y)) n o
    → AreResponses ms (n + 1) (found ++ o ∷ [])
responses_more ms n found y o are at last = record {
  len = length-append found (o ∷ []) ∙ ap (λ z. z + 1) are.len;
  each = λ j k q key there. elim (get_cases found o j q there) [
    | inl old ↦ are.each j k q key old
    | inr new ↦ (
        let place : j ≡ n = new.0 ∙ are.len in
        let here : IsKeyAt (map conversation_key ms) (conversation_key y) j =
        ap (slice_get (map conversation_key ms)) place ∙ get_map conversation_key ms n y at in
        let is : conversation_key y ≡ k =
        one_item (map conversation_key ms) j (conversation_key y) k here key in
        subst (λ (l : Key). IsLastBelow (IsKeyAt (map response_key ms) l) j q) is
        (subst (λ (p : Option ℕ).
        IsLastBelow (IsKeyAt (map response_key ms) (conversation_key y)) j p) new.1
        (subst (λ (m : ℕ).
        IsLastBelow (IsKeyAt (map response_key ms) (conversation_key y)) m o) (sym place) last))
        )
  ];
}

-- The message y at the place n has no earlier message of its conversation.
pub responses_begin : (ms : List Sent) (n : ℕ) (found : List (Option ℕ)) (y : Sent)
    → AreResponses ms n found → slice_get ms n ≡ Some y
    → IsLastBelow (IsKeyAt (map conversation_key ms) (conversation_key y)) n None
    → AreResponses ms (n + 1) (found ++ None ∷ [])
responses_begin ms n found y are at last =
    responses_more ms n found y None are at
    (last_none (IsKeyAt (map conversation_key ms) (conversation_key y))
    (IsKeyAt (map response_key ms) (conversation_key y)) (of_conversation ms y) n last)

-- The message y at the place n follows that at p in its conversation.
pub responses_go_on : (ms : List Sent) (n : ℕ) (found : List (Option ℕ)) (y : Sent) (p : ℕ)
    (o : Option ℕ) (bs : List Bool) → AreResponses ms n found → slice_get ms n ≡ Some y
    → IsLastBelow (IsKeyAt (map conversation_key ms) (conversation_key y)) n (Some p)
    → bs ≡ map is_numbered_response ms → (get_or bs p false ≡ true → o ≡ Some p)
    → (get_or bs p false ≡ false → slice_get found p ≡ Some o)
    → AreResponses ms (n + 1) (found ++ o ∷ [])
responses_go_on ms n found y p o bs are at last tests itself earlier =
    let before : p < n = last.0 in
    let low : p < length bs = omega (
      arith,
      before,
      get_below ms n y at,
      ap length tests,
      len_map is_numbered_response ms,
    ) in
    let read : slice_get (map is_numbered_response ms) p ≡ Some (get_or bs p false) =
    ap (λ zs. slice_get zs p) (sym tests) ∙ get_at bs p false low in
    responses_more ms n found y o are at (elim (cases_Bool (get_or bs p false)) [
      | inl t ↦ subst
          (IsLastBelow (IsKeyAt (map response_key ms) (conversation_key y)) n) (sym (itself t))
          (last_here (IsKeyAt (map conversation_key ms) (conversation_key y))
          (IsKeyAt (map response_key ms) (conversation_key y)) (of_conversation ms y) n p last
          (is_response ms y p last.1 (read ∙ ap (λ (b : Bool). Some b) t)))
      | inr f ↦ last_before (IsKeyAt (map conversation_key ms) (conversation_key y))
          (IsKeyAt (map response_key ms) (conversation_key y)) (of_conversation ms y) n p o last
          (no_response ms y p (read ∙ ap (λ (b : Bool). Some b) f))
          (are.each p (conversation_key y) o last.1 (earlier f))
    ])
