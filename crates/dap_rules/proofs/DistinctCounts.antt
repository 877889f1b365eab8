-- With `Mode::Whole`, a class has the same number of distinct ids in messages and in the same
-- messages in another order.
use Rattle.std.proofs.Common.{◌≡◌, ℕ, ℤ, Bool, true, false, ◌||◌, List, [], ◌∷◌, ◌++◌, length, map}
use Rattle.std.proofs.Common.{refl, sym, ◌∙◌, ap, subst, arith, append_assoc}
use Rattle.std.specs.List.{list_any}
use Rattle.std.specs.Ordering.{int_eq}
use Rattle.std.specs.Prelude.{IsPermutation}
use Rattle.std.proofs.lemmas.Bool.Decides.{Decides-int_eq}
use Rattle.std.proofs.lemmas.List.Sorted.{IsPermutation-append, IsPermutation-append_comm}
use Rattle.std.proofs.lemmas.List.Sorted.{IsPermutation-refl, IsPermutation-sym}
use Rattle.std.proofs.lemmas.List.Sorted.{IsPermutation-trans, length_permutation}
use Rattle.std.proofs.lemmas.List.Sorted.{list_any-IsPermutation}
use Rattle.dap_tree.specs.Ids.{ids}
use Rattle.dap_tree.specs.declared.sort.Sort.{Sort}
use Rattle.dap_message.specs.Message.{Sent}
use Rattle.dap_rename.specs.Numbering.{add, add_all, numbers, table}
use Rattle.dap_rename.proofs.Additions.{add_all-append, any-add, by_bool, numbers-append}
use Rattle.dap_rename.specs.Messages.{Class, HasFewIds, no_stop, numbers_of_class, occurrence}
use Rattle.dap_rename.specs.Messages.{occurrences, same_class}
use Rattle.dap_order.specs.Swaps.{Reordered, unmoved, swapped}

-- ---- numbers added to a list of distinct numbers

add_in : (t : List ℤ) (x : ℤ) → list_any (int_eq x) t ≡ true → add t x ≡ t
add_in t x there = rw there refl

add_new : (t : List ℤ) (x : ℤ) → list_any (int_eq x) t ≡ false → add t x ≡ t ++ x ∷ []
add_new t x none = rw none refl

-- Lists with the same elements still have the same elements if one number is added to both.
add_moved : (t s : List ℤ) (x : ℤ) → IsPermutation t s → IsPermutation (add t x) (add s x)
add_moved t s x p =
    let same = list_any-IsPermutation (int_eq x) t s p in
    by_bool (list_any (int_eq x) t)
    (λ there. subst (λ l. IsPermutation l (add s x)) (sym (add_in t x there))
    (subst (IsPermutation t) (sym (add_in s x (sym same ∙ there))) p))
    (λ none. subst (λ l. IsPermutation l (add s x)) (sym (add_new t x none))
    (subst (IsPermutation (t ++ x ∷ [])) (sym (add_new s x (sym same ∙ none)))
    (IsPermutation-append t s (x ∷ []) (x ∷ []) p (IsPermutation-refl (x ∷ [])))))

all_moved : (t s xs : List ℤ) → IsPermutation t s → IsPermutation (add_all t xs) (add_all s xs)
all_moved t s [] p = p
all_moved t s (x ∷ xs) p = all_moved (add t x) (add s x) xs (add_moved t s x p)

same_lists : (t s : List ℤ) → t ≡ s → IsPermutation t s
same_lists t s same = subst (IsPermutation t) same (IsPermutation-refl t)

-- A number in the list remains in it.
stays : (t : List ℤ) (x y : ℤ) → list_any (int_eq x) t ≡ true
    → list_any (int_eq x) (add t y) ≡ true
stays t x y there = any-add x y t ∙ ap (λ b. b || int_eq x y) there

-- A number that is not in the list is not in it after another number is added.
still_new : (t : List ℤ) (x y : ℤ) → list_any (int_eq x) t ≡ false → int_eq x y ≡ false
    → list_any (int_eq x) (add t y) ≡ false
still_new t x y none other = any-add x y t ∙ ap (λ b. b || int_eq x y) none ∙ other

-- Two numbers can be added in either order.
module _ (t : List ℤ) (x y : ℤ) where
  first_in : list_any (int_eq x) t ≡ true → IsPermutation (add (add t x) y) (add (add t y) x)
  first_in there =
      same_lists (add (add t x) y) (add (add t y) x)
      (ap (λ l. add l y) (add_in t x there) ∙ sym (add_in (add t y) x (stays t x y there)))

  second_in : list_any (int_eq y) t ≡ true → IsPermutation (add (add t x) y) (add (add t y) x)
  second_in there =
      same_lists (add (add t x) y) (add (add t y) x)
      (add_in (add t x) y (stays t y x there) ∙ ap (λ l. add l x) (sym (add_in t y there)))

  both_new : list_any (int_eq x) t ≡ false → list_any (int_eq y) t ≡ false
      → int_eq x y ≡ false → int_eq y x ≡ false
      → IsPermutation (add (add t x) y) (add (add t y) x)
  both_new no_x no_y apart turned =
      let one : add (add t x) y ≡ t ++ x ∷ y ∷ [] =
      add_new (add t x) y (still_new t y x no_y turned)
      ∙ ap (λ l. l ++ y ∷ []) (add_new t x no_x) ∙ append_assoc t (x ∷ []) (y ∷ []) in
      let other : add (add t y) x ≡ t ++ y ∷ x ∷ [] =
      add_new (add t y) x (still_new t x y no_x apart)
      ∙ ap (λ l. l ++ x ∷ []) (add_new t y no_y) ∙ append_assoc t (y ∷ []) (x ∷ []) in
      subst (λ l. IsPermutation l (add (add t y) x)) (sym one)
      (subst (IsPermutation (t ++ x ∷ y ∷ [])) (sym other)
      (IsPermutation-append t t (x ∷ y ∷ []) (y ∷ x ∷ []) (IsPermutation-refl t)
      (IsPermutation-append_comm (x ∷ []) (y ∷ []))))

  equal_numbers : x ≡ y → IsPermutation (add (add t x) y) (add (add t y) x)
  equal_numbers same =
      same_lists (add (add t x) y) (add (add t y) x)
      (ap (λ z. add (add t z) y) same ∙ ap (λ z. add (add t y) z) (sym same))

  two_added : IsPermutation (add (add t x) y) (add (add t y) x)
  two_added =
      by_bool (list_any (int_eq x) t) first_in
      (λ no_x. by_bool (list_any (int_eq y) t) second_in
      (λ no_y. by_bool (int_eq x y) (λ e. equal_numbers ((Decides-int_eq x y).0 e))
      (λ apart. by_bool (int_eq y x) (λ e. equal_numbers (sym ((Decides-int_eq y x).0 e)))
      (λ turned. both_new no_x no_y apart turned))))

-- A number can be added before or after other numbers.
one_passes : (t xs : List ℤ) (y : ℤ)
    → IsPermutation (add_all (add t y) xs) (add (add_all t xs) y)
one_passes t [] y = IsPermutation-refl (add t y)
one_passes t (x ∷ xs) y =
    IsPermutation-trans (add_all (add (add t y) x) xs) (add_all (add (add t x) y) xs)
    (add (add_all (add t x) xs) y)
    (all_moved (add (add t y) x) (add (add t x) y) xs (two_added t y x))
    (one_passes (add t x) xs y)

-- Numbers can be added before or after other numbers.
all_pass : (t xs ys : List ℤ)
    → IsPermutation (add_all (add_all t xs) ys) (add_all (add_all t ys) xs)
all_pass t xs [] = IsPermutation-refl (add_all t xs)
all_pass t xs (y ∷ ys) =
    IsPermutation-trans (add_all (add (add_all t xs) y) ys) (add_all (add_all (add t y) xs) ys)
    (add_all (add_all (add t y) ys) xs)
    (all_moved (add (add_all t xs) y) (add_all (add t y) xs) ys
    (IsPermutation-sym (add_all (add t y) xs) (add (add_all t xs) y) (one_passes t xs y)))
    (all_pass (add t y) xs ys)

-- ---- the numbers of messages

module _ (c : Class) where
  -- The numbers of the class in one message.
  abbrev own : Sent → List ℤ
  own m = numbers same_class c (map (occurrence 0) (ids m.doc))

  abbrev all : List Sent → List ℤ
  all ms = numbers same_class c (occurrences no_stop 0 ms)

  all-append : (ms ns : List Sent) → all (ms ++ ns) ≡ all ms ++ all ns
  all-append [] ns = refl
  all-append (m ∷ ms) ns =
      numbers-append same_class c (map (occurrence 0) (ids m.doc))
      (occurrences no_stop 0 (ms ++ ns))
      ∙ ap (λ l. own m ++ l) (all-append ms ns)
      ∙ sym (append_assoc (own m) (all ms) (all ns))
      ∙ ap (λ l. l ++ all ns)
      (sym (numbers-append same_class c (map (occurrence 0) (ids m.doc))
      (occurrences no_stop 0 ms)))

  -- The distinct numbers of the class, with two neighbours separated.
  two_apart : (front back : List Sent) (x y : Sent)
      → add_all [] (all (front ++ x ∷ y ∷ back))
      ≡ add_all (add_all (add_all (add_all [] (all front)) (own x)) (own y)) (all back)
  two_apart front back x y =
      ap (add_all []) (all-append front (x ∷ y ∷ back))
      ∙ add_all-append [] (all front) (all (x ∷ y ∷ back))
      ∙ ap (add_all (add_all [] (all front)))
      (numbers-append same_class c (map (occurrence 0) (ids x.doc))
      (occurrences no_stop 0 (y ∷ back)))
      ∙ add_all-append (add_all [] (all front)) (own x) (all (y ∷ back))
      ∙ ap (add_all (add_all (add_all [] (all front)) (own x)))
      (numbers-append same_class c (map (occurrence 0) (ids y.doc))
      (occurrences no_stop 0 back))
      ∙ add_all-append (add_all (add_all [] (all front)) (own x)) (own y) (all back)

  swapped_count : (front back : List Sent) (x y : Sent)
      → length (numbers_of_class no_stop c (front ++ y ∷ x ∷ back))
      ≡ length (numbers_of_class no_stop c (front ++ x ∷ y ∷ back))
  unfolding table
  swapped_count front back x y =
      let t = add_all [] (all front) in
      let moved : IsPermutation (add_all (add_all (add_all t (own x)) (own y)) (all back))
      (add_all (add_all (add_all t (own y)) (own x)) (all back)) =
      all_moved (add_all (add_all t (own x)) (own y)) (add_all (add_all t (own y)) (own x))
      (all back) (all_pass t (own x) (own y)) in
      ap length (two_apart front back y x)
      ∙ length_permutation
      (add_all (add_all (add_all t (own x)) (own y)) (all back))
      (add_all (add_all (add_all t (own y)) (own x)) (all back)) moved
      ∙ ap length (sym (two_apart front back x y))

  reordered_count : (free : Sent → Sent → Bool) (ms ns : List Sent) → Reordered free ms ns
      → length (numbers_of_class no_stop c ns) ≡ length (numbers_of_class no_stop c ms)
  reordered_count free ms ns unmoved = refl
  reordered_count free ms ns (swapped {ys = us} p one) =
      ap (λ l. length (numbers_of_class no_stop c l)) one.after
      ∙ swapped_count one.front one.back one.x one.y
      ∙ ap (λ l. length (numbers_of_class no_stop c l)) (sym one.before)
      ∙ reordered_count free ms us p

-- Messages in another order have few ids too.
pub reordered_few : (free : Sent → Sent → Bool) (limit : Sort → ℕ) (ms ns : List Sent)
    → Reordered free ms ns → HasFewIds no_stop limit ms → HasFewIds no_stop limit ns
reordered_few free limit ms ns p few c =
    let count = reordered_count c free ms ns p in
    let most = few c in
    omega (arith, count, most)
