-- The last place with a key, while a list grows.
use Rattle.std.proofs.Common.{◌≡◌, ℕ, ◌+◌, ◌<◌, ◌≤◌, Bool, true, false, cond, List, [], ◌∷◌}
use Rattle.std.proofs.Common.{◌++◌, map, length, Option, Some, None, inl, inr, refl, sym, ap, ◌∙◌}
use Rattle.std.proofs.Common.{arith, subst, length-append, get_or}
use Rattle.std.specs.Prelude.{slice_get}
use Rattle.dap_order.specs.Keys.{Key, IsLastBelow, IsKeyAt, ArePrevious}
use Rattle.std.specs.Ordering.{is_eq}
use Rattle.dap_order.specs.Keys.{key_of}
use Rattle.dap_order.specs.declared.keys.Key.{Key as ReadKey}
use Rattle.dap_order.proofs.KeyEquality.{key_cmp, one_key, equal_key}
use Rattle.dap_order.proofs.Lists.{there, get_below, get_old, get_new, get_cases, got, len_map}

-- Later keys do not matter.
pub last_kept : (own : List Key) (x k : Key) (n : ℕ) (o : Option ℕ) → n ≤ length own
    → IsLastBelow (IsKeyAt own k) n o → IsLastBelow (IsKeyAt (own ++ x ∷ []) k) n o
last_kept own x k n None low last =
    λ i below at. last i below (sym (get_old own x i (omega arith)) ∙ at)
last_kept own x k n (Some p) low last =
    let before : p < n = last.0 in (
      last.0,
      get_old own x p (omega arith) ∙ last.1,
      λ i after below at. last.2 i after below (sym (get_old own x i (omega arith)) ∙ at),
    )

-- One more key.
pub last_more : (own : List Key) (x k : Key) (b : Bool) (o : Option ℕ) (n : ℕ)
    → n ≡ length own → (b ≡ true → x ≡ k) → (x ≡ k → b ≡ true)
    → IsLastBelow (IsKeyAt own k) n o
    → IsLastBelow (IsKeyAt (own ++ x ∷ []) k) (n + 1) (cond b (Some n) o)
last_more own x k true o n long there back last = (
  omega arith,
  get_new own x n long ∙ ap (λ z. Some z) (there refl),
  λ i after below at. omega arith,
)
last_more own x k false None n long there back last =
    λ i below at. elim (get_cases own x i k at) [
      | inl old ↦ (let low = get_below own i k old in last i (omega arith) old)
      | inr new ↦ absurd (let h = back new.1 in cc)
    ]
last_more own x k false (Some p) n long there back last =
    let before : p < n = last.0 in (
      omega arith,
      get_old own x p (omega arith) ∙ last.1,
      λ i after below at. elim (get_cases own x i k at) [
        | inl old ↦ (let low = get_below own i k old in last.2 i after (omega arith) old)
        | inr new ↦ absurd (let h = back new.1 in cc)
      ],
    )

-- One more place.
pub previous_more : (ks : List Key) (previous : List (Option ℕ)) (k : Key) (o : Option ℕ)
    → ArePrevious ks ks previous → IsLastBelow (IsKeyAt ks k) (length ks) o
    → ArePrevious (ks ++ k ∷ []) (ks ++ k ∷ []) (previous ++ o ∷ [])
previous_more ks previous k o are last = record {
  len = length-append previous (o ∷ []) ∙ ap (λ z. z + 1) are.len
      ∙ sym (length-append ks (k ∷ []));
  each = λ j l p at found. elim (get_cases ks k j l at) [
    | inl old ↦ (
        let low = get_below ks j l old in
        let was : slice_get previous j ≡ Some p =
        sym (get_old previous o j (omega (arith, are.len))) ∙ found in
        last_kept ks k l j p (omega arith) (are.each j l p old was)
        )
    | inr new ↦ (
        let same : Some o ≡ Some p =
        sym (get_new previous o j (new.0 ∙ sym are.len)) ∙ found in
        let it : o ≡ p = cc in
        subst (λ (l : Key). IsLastBelow (IsKeyAt (ks ++ k ∷ []) l) j p) new.1
        (subst (λ (q : Option ℕ). IsLastBelow (IsKeyAt (ks ++ k ∷ []) k) j q) it
        (subst (λ (m : ℕ). IsLastBelow (IsKeyAt (ks ++ k ∷ []) k) m o) (sym new.0)
        (last_kept ks k k (length ks) o (omega arith) last)))
        )
  ];
}

module _ {A : Type 0} (own : List Key) (f : A → Key) (ms : List A) (previous : List (Option ℕ))
    (are : ArePrevious own (map f ms) previous) where
  pub previous_len : length previous ≡ length ms
  previous_len = are.len ∙ len_map f ms

  -- The value read at a place is the last place with its key.
  pub previous_at : (j : ℕ) (k : Key) (o : Option ℕ) → IsKeyAt (map f ms) k j
      → o ≡ get_or previous j o → IsLastBelow (IsKeyAt own k) j o
  previous_at j k o at read =
      let low : j < length (map f ms) = get_below (map f ms) j k at in
      are.each j k o at (got previous j o (omega (arith, are.len)) read)

-- The earlier place that was read has the same key.
pub earlier_is : {A : Type 0} (f : A → Key) (ms : List A) (previous : List (Option ℕ))
    → ArePrevious (map f ms) (map f ms) previous → (j : ℕ) (o : Option ℕ) (p : ℕ) → j < length ms
    → o ≡ get_or previous j o → o ≡ Some p
    → (p < j) × (slice_get (map f ms) p ≡ slice_get (map f ms) j)
earlier_is f ms previous are j o p low read e =
    let k = there (map f ms) j (omega (arith, len_map f ms)) in
    let last = subst (λ (q : Option ℕ). IsLastBelow (IsKeyAt (map f ms) k.0) j q) e
    (previous_at (map f ms) f ms previous are j k.0 o k.1 read) in
    (last.0, last.1 ∙ sym k.1)

-- The map finds for each key the last place below n with this key.
pub record HasLast (own : List Key) (n : ℕ) (find : ReadKey → Option ℕ) : Type 0 where
  pub last : (q : ReadKey) → IsLastBelow (IsKeyAt own (key_of q)) n (find q)

-- One more message, which has the key k.
pub one_more : (ks : List Key) (previous : List (Option ℕ)) (k : Key) (n place : ℕ)
    (read : ReadKey) (old new : ReadKey → Option ℕ) (o : Option ℕ)
    → length ks ≡ n → place ≡ n → key_of read ≡ k → o ≡ old read
    → ((q : ReadKey) → new q ≡ cond (is_eq (key_cmp read q)) (Some place) (old q))
    → ArePrevious ks ks previous → HasLast ks n old
    → ArePrevious (ks ++ k ∷ []) (ks ++ k ∷ []) (previous ++ o ∷ [])
    × HasLast (ks ++ k ∷ []) (n + 1) new
one_more ks previous k n place r old new o long at k_is found more are has = (
  previous_more ks previous k o are
      (subst (λ (m : ℕ). IsLastBelow (IsKeyAt ks k) m o) (sym long)
      (subst (λ (q : Option ℕ). IsLastBelow (IsKeyAt ks k) n q) (sym found)
      (subst (λ (l : Key). IsLastBelow (IsKeyAt ks l) n (old r)) k_is (has.last r)))),
  record {
    last = λ q.
        subst (IsLastBelow (IsKeyAt (ks ++ k ∷ []) (key_of q)) (n + 1))
        (sym (more q ∙ ap (λ p. cond (is_eq (key_cmp r q)) (Some p) (old q)) at))
        (last_more ks k (key_of q) (is_eq (key_cmp r q)) (old q) n (sym long)
        (λ h. sym k_is ∙ one_key r q h) (λ e. equal_key r q (k_is ∙ e)) (has.last q));
  },
)
