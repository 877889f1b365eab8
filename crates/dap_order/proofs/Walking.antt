-- The walk back through a conversation.
use Rattle.std.proofs.Common.{◌≡◌, ℕ, ◌+◌, ◌<◌, ◌≤◌, ◌⊎◌, inl, inr, List, [], ◌∷◌}
use Rattle.std.proofs.Common.{◌++◌, map, Option, Some, None, sym, arith, subst}
use Rattle.std.specs.Prelude.{Contains}
use Rattle.std.proofs.lemmas.Bool.{cases_order}
use Rattle.std.proofs.lemmas.List.Elements.{Contains-push, Contains-push_cases}
use Rattle.std.proofs.lemmas.List.Elements.{Contains-append_left}
use Rattle.dap_message.specs.Message.{Sent}
use Rattle.dap_order.specs.Keys.{Key, conversation_key, IsLastBelow, IsKeyAt}
use Rattle.dap_order.specs.Waits.{IsResponseAt, AreBack}

-- The walk has reached this place with the key, or the end.
abbrev pub IsNext : List Key → Key → ℕ → Option ℕ → Type 0
IsNext ks k j None = Unit {0}
IsNext ks k j (Some p) = (p < j) × IsKeyAt ks k p

-- The number of places up to this one, or 0 at the end.
abbrev pub steps : Option ℕ → ℕ
steps None = 0
steps (Some p) = p + 1

-- The place is not after the place that the walk has reached.
abbrev pub IsAhead : ℕ → Option ℕ → Type 0
IsAhead i None = ⊥
IsAhead i (Some p) = i ≤ p

-- The place is listed, or the list has a later response, or the walk has not reached the place yet.
pub data IsFound (ms : List Sent) (next : Option ℕ) (waits : List ℕ) (i : ℕ) : Type 0 where
  listed : Contains waits i → IsFound ms next waits i
  answered : (a : ℕ) → Contains waits a → i < a → IsResponseAt ms a → IsFound ms next waits i
  ahead : IsAhead i next → IsFound ms next waits i

-- The listed places have the key, and each earlier place with the key is listed, covered by a later
-- response, or not reached yet.
pub record AreBackTo (ms : List Sent) (k : Key) (j : ℕ) (next : Option ℕ) (waits : List ℕ)
    : Type 0 where
  pub earlier : (a : ℕ) → Contains waits a → (a < j) × IsKeyAt (map conversation_key ms) k a
  pub now : IsNext (map conversation_key ms) k j next
  pub all : (i : ℕ) → i < j → IsKeyAt (map conversation_key ms) k i → IsFound ms next waits i

pub next_is : (ks : List Key) (k : Key) (j : ℕ) (o : Option ℕ) (p : ℕ) → o ≡ Some p
    → IsNext ks k j o → (p < j) × IsKeyAt ks k p
next_is ks k j o p e now = subst (IsNext ks k j) e now

-- Each step of the walk reaches an earlier place.
pub walk_falls : (P : ℕ → Type 0) (p : ℕ) (o : Option ℕ) → IsLastBelow P p o
    → steps o < steps (Some p)
walk_falls P p None last = omega arith
walk_falls P p (Some r) last = let low : r < p = last.0 in omega arith

module _ (ms : List Sent) (k : Key) (j : ℕ) where
  abbrev ks : List Key
  ks = map conversation_key ms

  pub walk_begins : (o : Option ℕ) → IsLastBelow (IsKeyAt (map conversation_key ms) k) j o
      → AreBackTo ms k j o []
  walk_begins o last = record {
    earlier = λ a w. absurd (omega (arith, w.1));
    now = begun o last;
    all = λ i below at. ahead (not_after o i last below at);
  }
    where
      begun : (q : Option ℕ) → IsLastBelow (IsKeyAt ks k) j q → IsNext ks k j q
      begun None l = tt
      begun (Some p) l = (l.0, l.1)

      not_after : (q : Option ℕ) (i : ℕ) → IsLastBelow (IsKeyAt ks k) j q → i < j
          → IsKeyAt ks k i → IsAhead i q
      not_after None i l below at = l i below at
      not_after (Some p) i l below at = elim (cases_order i p) [
        | inl e ↦ omega (arith, e)
        | inr o ↦ elim o [
          | inl before ↦ omega (arith, before)
          | inr after ↦ absurd (l.2 i after below at)
        ]
      ]

  pub walk_ends : (waits : List ℕ) → AreBackTo ms k j None waits → AreBack ms k j waits
  walk_ends waits back = record {
    earlier = back.earlier;
    all = λ i below at. ended i (back.all i below at);
  }
    where
      ended : (i : ℕ) → IsFound ms None waits i
          → Contains waits i ⊎ ((a : ℕ) × Contains waits a × (i < a) × IsResponseAt ms a)
      ended i (listed w) = inl w
      ended i (answered a w before r) = inr (a, w, before, r)
      ended i (ahead never) = absurd never

  pushed : (waits : List ℕ) (p : ℕ) → IsNext ks k j (Some p)
      → ((a : ℕ) → Contains waits a → (a < j) × IsKeyAt ks k a)
      → (a : ℕ) → Contains (waits ++ p ∷ []) a → (a < j) × IsKeyAt ks k a
  pushed waits p here earlier a w = elim (Contains-push_cases waits p a w) [
    | inl old ↦ earlier a old
    | inr new ↦ subst (λ (b : ℕ). (b < j) × IsKeyAt ks k b) new here
  ]

  -- The walk ends at a response.
  pub walk_stops : (waits : List ℕ) (p : ℕ) → AreBackTo ms k j (Some p) waits
      → IsResponseAt ms p → AreBackTo ms k j None (waits ++ p ∷ [])
  walk_stops waits p back r = record {
    earlier = pushed waits p back.now back.earlier;
    now = tt;
    all = λ i below at. stopped i (back.all i below at);
  }
    where
      stopped : (i : ℕ) → IsFound ms (Some p) waits i → IsFound ms None (waits ++ p ∷ []) i
      stopped i (listed w) = listed (Contains-append_left waits (p ∷ []) i w)
      stopped i (answered a w before s) =
          answered a (Contains-append_left waits (p ∷ []) a w) before s
      stopped i (ahead low) = elim (cases_order i p) [
        | inl e ↦ listed (subst (Contains (waits ++ p ∷ [])) (sym e) (Contains-push waits p))
        | inr o ↦ elim o [
          | inl before ↦ answered p (Contains-push waits p) before r
          | inr after ↦ absurd (omega (arith, low, after))
        ]
      ]

  -- The walk continues from a message that is not a response.
  pub walk_goes_on : (waits : List ℕ) (p : ℕ) (o : Option ℕ) → AreBackTo ms k j (Some p) waits
      → IsLastBelow (IsKeyAt (map conversation_key ms) k) p o
      → AreBackTo ms k j o (waits ++ p ∷ [])
  walk_goes_on waits p o back last = record {
    earlier = pushed waits p back.now back.earlier;
    now = begun o last;
    all = λ i below at. goes_on i at (back.all i below at);
  }
    where
      begun : (q : Option ℕ) → IsLastBelow (IsKeyAt ks k) p q → IsNext ks k j q
      begun None l = tt
      begun (Some r) l =
          let low : r < p = l.0 in
          let high : p < j = back.now.0 in
          (omega arith, l.1)

      not_after : (q : Option ℕ) (i : ℕ) → IsLastBelow (IsKeyAt ks k) p q → i < p
          → IsKeyAt ks k i → IsAhead i q
      not_after None i l below at = l i below at
      not_after (Some r) i l below at = elim (cases_order i r) [
        | inl e ↦ omega (arith, e)
        | inr c ↦ elim c [
          | inl before ↦ omega (arith, before)
          | inr after ↦ absurd (l.2 i after below at)
        ]
      ]

      goes_on : (i : ℕ) → IsKeyAt ks k i → IsFound ms (Some p) waits i
          → IsFound ms o (waits ++ p ∷ []) i
      goes_on i at (listed w) = listed (Contains-append_left waits (p ∷ []) i w)
      goes_on i at (answered a w before s) =
          answered a (Contains-append_left waits (p ∷ []) a w) before s
      goes_on i at (ahead low) = elim (cases_order i p) [
        | inl e ↦ listed (subst (Contains (waits ++ p ∷ [])) (sym e) (Contains-push waits p))
        | inr c ↦ elim c [
          | inl before ↦ ahead (not_after o i last before at)
          | inr after ↦ absurd (omega (arith, low, after))
        ]
      ]
