-- The bytes of a vector before the first one that a test stops at.
use Rattle.std.proofs.Common.{◌≡◌, ℕ, zero, suc, ◌+◌, ◌-◌, ◌%◌, ◌^◌, ◌<◌, ◌≤◌, Bool, true, false}
use Rattle.std.proofs.Common.{not, ◌||◌, List, [], ◌∷◌, map, length, get_or, take, drop}
use Rattle.std.proofs.Common.{replicate, Fits, w8, refl, sym, ap, ap₂, ◌∙◌, subst, arith, inl, inr}
use Rattle.std.proofs.lemmas.Bool.{agree_below, agree_below_at, and_from, cases_eq, cond_both}
use Rattle.std.proofs.lemmas.Bool.{cond-false, cond-true, eq-eqb, ne_eqb, not-true}
use Rattle.std.proofs.lemmas.Simd.{map-map, mask_l-mod, length-chunk, leading_from_mask_l}
use Rattle.std.proofs.lemmas.Simd.{trailing_mask_l}
use Rattle.std.proofs.lemmas.List.{get_or-drop, length-map}
use Rattle.std.proofs.lemmas.List.Sums.{prefix_len-le-length}
use Rattle.std.specs.Prelude.{slice_range}
use Rattle.std.specs.List.{list_all, prefix_len}
use lib.Lanes.{chunk, zip2, mask_l, top}
use Rattle.dap_transcript.specs.{Canonical.first_set, Scalars.is_simple}

-- ---- an operation on vectors, lane by lane

zip2-map : (h : ℕ → ℕ → ℕ) (f g : ℕ → ℕ) (xs : List ℕ)
    → zip2 h (map f xs) (map g xs) ≡ map (λ x. h (f x) (g x)) xs
zip2-map h f g [] = refl
zip2-map h f g (x ∷ xs) = ap (λ r. h (f x) (g x) ∷ r) (zip2-map h f g xs)

pub joined : (h : ℕ → ℕ → ℕ) (f g : ℕ → ℕ) (v : List ℕ) {a b : List ℕ} → a ≡ map f v
    → b ≡ map g v → zip2 h a b ≡ map (λ x. h (f x) (g x)) v
joined h f g v p q = ap₂ (zip2 h) p q ∙ zip2-map h f g v

pub splat_is : (v : List ℕ) (n y : ℕ) → length v ≡ n → replicate n y ≡ map (λ _. y) v
splat_is [] n y e = ap (λ k. replicate k y) (sym e)
splat_is (x ∷ xs) n y e =
    ap (λ k. replicate k y) (sym e) ∙ ap (λ r. y ∷ r) (splat_is xs (length xs) y refl)

-- ---- the first lane that stops

run_is : (p : ℕ → Bool) (v : List ℕ) (n : ℕ) → length v ≡ n → n ≤ 64
    → first_set (mask_l (map p v)) n ≡ prefix_len (λ x. not (p x)) v
run_is p v n long few = elim (cases_eq (mask_l (map p v)) 0) [
  | inl none ↦ cond-true _ _ _ (eq-eqb _ _ none) ∙ sym (leading_from_mask_l p v none ∙ long)
  | inr some ↦ cond-false _ _ _ (ne_eqb _ _ some)
      ∙ trailing_mask_l p 64 v (omega arith) (omega arith)
]

module _ (F : ℕ → ℕ)
    (all : agree_below (λ x. top 7 (F x) || is_simple x) (λ _. true) 256 ≡ true) where
  abbrev stops : ℕ → Bool
  stops x = top 7 (F x)

  is_simple_at : (x : ℕ) → x < 256 → stops x ≡ false → is_simple x ≡ true
  is_simple_at x small goes =
      sym (ap (λ b. b || is_simple x) goes)
      ∙ agree_below_at (λ y. stops y || is_simple y) (λ _. true) 256 x all small

  run_simple : (n : ℕ) (v : List ℕ) → ((k : ℕ) → get_or v k 0 < 256)
      → list_all is_simple (take (prefix_len (λ x. not (stops x)) (take n v)) v) ≡ true
  run_simple zero v fits = refl
  run_simple (suc n) [] fits = refl
  run_simple (suc n) (x ∷ v) fits =
      let left = prefix_len (λ y. not (stops y)) (take n v) in
      let next : 1 + left ≡ suc left = omega arith in
      cond_both (not (stops x)) (1 + left) 0
      (λ (k : ℕ). list_all is_simple (take k (x ∷ v)) ≡ true)
      (λ goes. ap (λ k. list_all is_simple (take k (x ∷ v))) next
      ∙ and_from _ _ (is_simple_at x (fits 0) (not-true _ goes))
      (run_simple n v (λ k. fits (suc k))))
      (λ _. refl)

  module _ (d : List ℕ) (i n r : ℕ) (z : List ℕ) (inside : i + n ≤ length d) (few : n ≤ 64)
      (fits : (k : ℕ) → Fits w8 (get_or d k 0))
      (found : r ≡ first_set (mask_l (map (top 7) z) % 2 ^ 64) n)
      (lanes : z ≡ map F (chunk i n d)) where
    counted : r ≡ prefix_len (λ x. not (stops x)) (chunk i n d)
    counted =
        let v = chunk i n d in
        let long = length-chunk i n d inside in
        let mask = ap (λ l. mask_l l % 2 ^ 64) (ap (map (top 7)) lanes ∙ map-map (top 7) F v)
        ∙ mask_l-mod (map stops v) 64 (omega (arith, length-map v stops, long)) in
        found ∙ ap (λ m. first_set m n) mask ∙ run_is stops v n long few

    -- The first r of the n lanes are simple.
    pub simple_lanes : (list_all is_simple (slice_range d i (i + r)) ≡ true) × (r ≤ n)
    simple_lanes =
        let len : i + r - i ≡ r = omega arith in
        let bytes = ap (λ k. list_all is_simple (take k (drop i d))) (len ∙ counted)
        ∙ run_simple n (drop i d)
        (λ k. subst (λ b. b < 256) (sym (get_or-drop i d k 0)) (fits (i + k)).fits) in
        let within : r ≤ n = omega (
          arith,
          counted,
          length-chunk i n d inside,
          prefix_len-le-length (λ x. not (stops x)) (chunk i n d),
        ) in
        (bytes, within)
