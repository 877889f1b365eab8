-- The places that have not been written, in ascending order.
use Rattle.std.proofs.Common.{◌≡◌, ℕ, zero, suc, ◌+◌, ◌<◌, Bool, true, false, List, [], ◌∷◌, ◌++◌}
use Rattle.std.proofs.Common.{length, set, replicate, refl, arith, sym, ap, subst}
use Rattle.std.specs.List.{range_with_len}
use Rattle.std.proofs.lemmas.Bool.{and_parts, and_from, true≢false}
use Rattle.std.proofs.lemmas.List.{length-append}
use Rattle.dap_order.specs.Swaps.{Swaps}
use Rattle.dap_order.specs.Order.{all_free}
use Rattle.dap_order.specs.Progress.{is_written}

-- The places that have not been written, if the list starts with the place `at`.
abbrev pub pending_from : ℕ → List Bool → List ℕ
pending_from at [] = []
pending_from at (true ∷ w) = pending_from (at + 1) w
pending_from at (false ∷ w) = at ∷ pending_from (at + 1) w

abbrev pub pending : List Bool → List ℕ
pending w = pending_from 0 w

pub pending-none : (at n : ℕ) → pending_from at (replicate n false) ≡ range_with_len at n
pending-none at zero = refl
pending-none at (suc n) = ap (λ xs. at ∷ xs) (pending-none (at + 1) n)

module _ (s : Swaps ℕ) where
  -- A place that has not been written is pending between two parts. It is free with the first part,
  -- and without it both parts are pending.
  pub record Between (at : ℕ) (w : List Bool) (i place : ℕ) : Type 0 where
    pub front : List ℕ
    pub back : List ℕ
    pub was : pending_from at w ≡ front ++ place ∷ back
    pub after : pending_from at (set w i true) ≡ front ++ back
    pub are_free : all_free s place front ≡ true

  after_written : (w : List Bool) (at i place : ℕ) → Between (at + 1) w i place
      → Between at (true ∷ w) (suc i) place
  after_written w at i place rest = record {
    front = rest.front;
    back = rest.back;
    was = rest.was;
    after = rest.after;
    are_free = rest.are_free;
  }

  after_pending : (w : List Bool) (at i place : ℕ) → s.free place at ≡ true
      → Between (at + 1) w i place → Between at (false ∷ w) (suc i) place
  after_pending w at i place here rest = record {
    front = at ∷ rest.front;
    back = rest.back;
    was = ap (λ xs. at ∷ xs) rest.was;
    after = ap (λ xs. at ∷ xs) rest.after;
    are_free = and_from (s.free place at) (all_free s place rest.front) here rest.are_free;
  }

  pub between : (w : List Bool) (at i place : ℕ) → place ≡ at + i → i < length w
      → is_written w i ≡ false
      → ((k other : ℕ) → other ≡ at + k → k < i → is_written w k ≡ false
      → s.free place other ≡ true)
      → Between at w i place
  between [] at i place e low unwritten free = absurd (omega arith)
  between (true ∷ w) at zero place e low unwritten free = absurd (true≢false unwritten)
  between (false ∷ w) at zero place e low unwritten free =
      let same : at ≡ place = omega arith in
      record {
        front = [];
        back = pending_from (at + 1) w;
        was = subst (λ x. at ∷ pending_from (at + 1) w ≡ x ∷ pending_from (at + 1) w) same refl;
        after = refl;
        are_free = refl;
      }
  between (true ∷ w) at (suc i) place e low unwritten free =
      after_written w at i place
      (between w (at + 1) i place (omega arith) (omega arith) unwritten
      (λ k other f h u. free (suc k) other (omega arith) (omega arith) u))
  between (false ∷ w) at (suc i) place e low unwritten free =
      after_pending w at i place (free 0 at (omega arith) (omega arith) refl)
      (between w (at + 1) i place (omega arith) (omega arith) unwritten
      (λ k other f h u. free (suc k) other (omega arith) (omega arith) u))

  -- A place has not been written, and is free with all earlier places that have not been written.
  pub record IsNext (at : ℕ) (w : List Bool) (place : ℕ) : Type 0 where
    pub index : ℕ
    pub is : place ≡ at + index
    pub low : index < length w
    pub unwritten : is_written w index ≡ false
    pub free : (k other : ℕ) → other ≡ at + k → k < index → is_written w k ≡ false
        → s.free place other ≡ true

  pub next_from_pending : (w : List Bool) (at place : ℕ) (front back : List ℕ)
      → pending_from at w ≡ front ++ place ∷ back → all_free s place front ≡ true
      → IsNext at w place
  next_from_pending [] at place [] back e free = absurd (cc)
  next_from_pending [] at place (x ∷ front) back e free = absurd (cc)
  next_from_pending (true ∷ w) at place front back e free =
      let rest = next_from_pending w (at + 1) place front back e free in
      record {
        index = suc rest.index;
        is = omega (arith, rest.is);
        low = omega (arith, rest.low);
        unwritten = rest.unwritten;
        free = later rest;
      }
    where
      later : (rest : IsNext (at + 1) w place) → (k other : ℕ) → other ≡ at + k
          → k < suc rest.index → is_written (true ∷ w) k ≡ false → s.free place other ≡ true
      later rest zero other f h u = absurd (true≢false u)
      later rest (suc k) other f h u = rest.free k other (omega arith) (omega arith) u
  next_from_pending (false ∷ w) at place [] back e free =
      let same : at ≡ place = cc in
      record {
        index = 0;
        is = omega arith;
        low = omega arith;
        unwritten = refl;
        free = λ k other f h u. absurd (omega arith);
      }
  next_from_pending (false ∷ w) at place (x ∷ front) back e free =
      let same : at ≡ x = cc in
      let tail : pending_from (at + 1) w ≡ front ++ place ∷ back = cc in
      let parts = and_parts (s.free place x) (all_free s place front) free in
      let rest = next_from_pending w (at + 1) place front back tail parts.1 in
      record {
        index = suc rest.index;
        is = omega (arith, rest.is);
        low = omega (arith, rest.low);
        unwritten = rest.unwritten;
        free = later rest (subst (λ y. s.free place y ≡ true) (sym same) parts.0);
      }
    where
      later : (rest : IsNext (at + 1) w place) → s.free place at ≡ true → (k other : ℕ)
          → other ≡ at + k → k < suc rest.index → is_written (false ∷ w) k ≡ false
          → s.free place other ≡ true
      later rest here zero other f h u =
          let same : at ≡ other = omega arith in
          subst (λ y. s.free place y ≡ true) same here
      later rest here (suc k) other f h u = rest.free k other (omega arith) (omega arith) u

-- After a place is written, fewer places are pending.
pub pending_fewer : (w : List Bool) (place : ℕ) → place < length w → is_written w place ≡ false
    → length (pending (set w place true)) < length (pending w)
pending_fewer w place low unwritten =
    let cut =
    between (record { free = λ x y. true; less = λ x y. false }) w 0 place place (omega arith) low
    unwritten (λ k other e h u. refl) in
    omega (
      arith,
      ap length cut.was,
      ap length cut.after,
      length-append cut.front (place ∷ cut.back),
      length-append cut.front cut.back,
    )
