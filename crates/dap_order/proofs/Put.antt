-- Tests of an item against a list, and the place at which it is inserted.
use Rattle.std.proofs.Common.{◌≡◌, true, false, inl, inr, List, [], ◌∷◌, ◌++◌, refl}
use Rattle.std.proofs.Common.{sym, ap, ◌∙◌, subst}
use Rattle.std.specs.Prelude.{◌&&◌}
use Rattle.std.proofs.lemmas.Bool.{and_parts, and_from, cases_Bool, cond-true, cond-false}
use Rattle.std.proofs.lemmas.Bool.{false_from_ne_true}
use Rattle.dap_order.specs.Swaps.{Swaps, AreSwaps}
use Rattle.dap_order.specs.Order.{all_free, goes_before, put}

module _ {X : Type 0} (s : Swaps X) where
  -- No item is free with itself.
  pub not_free_itself : AreSwaps s → (x : X) → s.free x x ≡ false
  not_free_itself are x = false_from_ne_true (s.free x x) (λ f. elim (are.apart x x f) [
    | inl below ↦ are.less_itself x below
    | inr above ↦ are.less_itself x above
  ])

  pub free_parts : (x : X) (ys zs : List X) → all_free s x (ys ++ zs) ≡ true
      → (all_free s x ys ≡ true) × (all_free s x zs ≡ true)
  free_parts x [] zs h = (refl, h)
  free_parts x (y ∷ ys) zs h =
      let here = and_parts (s.free x y) (all_free s x (ys ++ zs)) h in
      let rest = free_parts x ys zs here.1 in
      (and_from (s.free x y) (all_free s x ys) here.0 rest.0, rest.1)

  pub free_joined : (x : X) (ys zs : List X) → all_free s x ys ≡ true → all_free s x zs ≡ true
      → all_free s x (ys ++ zs) ≡ true
  free_joined x [] zs f g = g
  free_joined x (y ∷ ys) zs f g =
      let here = and_parts (s.free x y) (all_free s x ys) f in
      and_from (s.free x y) (all_free s x (ys ++ zs)) here.0 (free_joined x ys zs here.1 g)

  pub put-here : (x y : X) (ys : List X) → goes_before s x y ys ≡ true
      → put s (y ∷ ys) x ≡ x ∷ y ∷ ys
  put-here x y ys h = cond-true (goes_before s x y ys) (x ∷ y ∷ ys) (y ∷ put s ys x) h

  pub put-later : (x y : X) (ys : List X) → goes_before s x y ys ≡ false
      → put s (y ∷ ys) x ≡ y ∷ put s ys x
  put-later x y ys h = cond-false (goes_before s x y ys) (x ∷ y ∷ ys) (y ∷ put s ys x) h

  pub goes_parts : (x y : X) (ys : List X) → goes_before s x y ys ≡ true
      → (s.free x y ≡ true) × (all_free s x ys ≡ true) × (s.less x y ≡ true)
  goes_parts x y ys h =
      let both = and_parts (all_free s x (y ∷ ys)) (s.less x y) h in
      let each = and_parts (s.free x y) (all_free s x ys) both.0 in (each.0, each.1, both.1)

  pub goes_from : (x y : X) (ys : List X) → s.free x y ≡ true → all_free s x ys ≡ true
      → s.less x y ≡ true → goes_before s x y ys ≡ true
  goes_from x y ys f g l =
      and_from (all_free s x (y ∷ ys)) (s.less x y) (and_from (s.free x y) (all_free s x ys) f g) l

  -- An item is inserted between two parts, and is free with the second one.
  pub record PutBetween (ys : List X) (x : X) : Type 0 where
    pub front : List X
    pub back : List X
    pub was : ys ≡ front ++ back
    pub is : put s ys x ≡ front ++ x ∷ back
    pub are_free : all_free s x back ≡ true

  pub put_between : (ys : List X) (x : X) → PutBetween ys x
  put_between [] x = record { front = []; back = []; was = refl; is = refl; are_free = refl }
  put_between (y ∷ ys) x = elim (cases_Bool (goes_before s x y ys)) [
    | inl here ↦ record {
      front = [];
      back = y ∷ ys;
      was = refl;
      is = put-here x y ys here;
      are_free = (and_parts (all_free s x (y ∷ ys)) (s.less x y) here).0;
    }
    | inr later ↦ (let rest = put_between ys x in record {
      front = y ∷ rest.front;
      back = rest.back;
      was = ap (λ zs. y ∷ zs) rest.was;
      is = put-later x y ys later ∙ ap (λ zs. y ∷ zs) rest.is;
      are_free = rest.are_free;
    })
  ]

  -- An item is free with a list after a free item is inserted if and only if it was before.
  pub free-put : (x y : X) (ys : List X) → s.free x y ≡ true
      → all_free s x (put s ys y) ≡ all_free s x ys
  free-put x y [] f = ap (λ b. b && true) f
  free-put x y (z ∷ zs) f = elim (cases_Bool (goes_before s y z zs)) [
    | inl here ↦ ap (all_free s x) (put-here y z zs here)
        ∙ ap (λ b. b && all_free s x (z ∷ zs)) f
    | inr later ↦ ap (all_free s x) (put-later y z zs later)
        ∙ ap (λ b. s.free x z && b) (free-put x y zs f)
  ]

-- Two occurrences in a list: the second one is earlier than the first, the same, or later.
pub data TwoCuts {X : Type 0} (a : List X) (x : X) (b c : List X) (y : X)
    (d : List X) : Type 0 where
  item_earlier : (m : List X) → a ≡ c ++ y ∷ m → d ≡ m ++ x ∷ b → TwoCuts a x b c y d
  item_same : a ≡ c → x ≡ y → b ≡ d → TwoCuts a x b c y d
  item_later : (m : List X) → c ≡ a ++ x ∷ m → b ≡ m ++ y ∷ d → TwoCuts a x b c y d

cut_after : {X : Type 0} (h x y : X) (a b c d : List X) → TwoCuts a x b c y d
    → TwoCuts (h ∷ a) x b (h ∷ c) y d
cut_after h x y a b c d (item_earlier m p q) = item_earlier m (ap (λ zs. h ∷ zs) p) q
cut_after h x y a b c d (item_same p e q) = item_same (ap (λ zs. h ∷ zs) p) e q
cut_after h x y a b c d (item_later m p q) = item_later m (ap (λ zs. h ∷ zs) p) q

pub two_cuts : {X : Type 0} (a : List X) (x : X) (b c : List X) (y : X) (d : List X)
    → a ++ x ∷ b ≡ c ++ y ∷ d → TwoCuts a x b c y d
two_cuts [] x b [] y d e =
    let head : x ≡ y = cc in
    let rest : b ≡ d = cc in item_same refl head rest
two_cuts [] x b (h ∷ c) y d e =
    let head : x ≡ h = cc in
    let rest : b ≡ c ++ y ∷ d = cc in item_later c (ap (λ z. z ∷ c) (sym head)) rest
two_cuts (g ∷ a) x b [] y d e =
    let head : g ≡ y = cc in
    let rest : a ++ x ∷ b ≡ d = cc in item_earlier a (ap (λ z. z ∷ a) head) (sym rest)
two_cuts (g ∷ a) x b (h ∷ c) y d e =
    let head : g ≡ h = cc in
    let rest : a ++ x ∷ b ≡ c ++ y ∷ d = cc in
    subst (λ z. TwoCuts (g ∷ a) x b (z ∷ c) y d) head
    (cut_after g x y a b c d (two_cuts a x b c y d rest))
