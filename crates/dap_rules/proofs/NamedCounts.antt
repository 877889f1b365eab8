-- Messages in another order have as many distinct values of each label. Named messages have too.
use Rattle.std.proofs.Common.{◌≡◌, ℕ, Bool, true, false, ◌||◌, List, [], ◌∷◌, ◌++◌, length, map}
use Rattle.std.proofs.Common.{refl, sym, ◌∙◌, ap, subst, append_assoc, bytes_eq, ◌<◌, ◌^◌}
use Rattle.std.specs.List.{list_any}
use Rattle.std.specs.Prelude.{IsPermutation}
use Rattle.std.proofs.lemmas.List.Sorted.{IsPermutation-append, IsPermutation-append_comm}
use Rattle.std.proofs.lemmas.List.Sorted.{IsPermutation-refl, IsPermutation-sym}
use Rattle.std.proofs.lemmas.List.Sorted.{IsPermutation-trans, length_permutation}
use Rattle.std.proofs.lemmas.List.Sorted.{list_any-IsPermutation}
use Rattle.dap_message.specs.Message.{Sent}
use Rattle.dap_tokens.specs.Naming.{IsNumbering, Numbering, named_by}
use Rattle.dap_mask.specs.Declarations.{Declaration, are_declared}
use Rattle.dap_tokens.proofs.NamedStrings.{names_are_read, named_twice}
use Rattle.dap_tokens.proofs.EqualStrings.{equal_named}
use Rattle.dap_naming.specs.Documents.{ids_of}
use Rattle.dap_naming.specs.Numbers.{AreCountable, add, add_all, distinct}
use Rattle.dap_naming.specs.Numbers.{number, values}
use Rattle.dap_naming.specs.Sessions.{rules_for, declared_ids, name_sent, named_sents}
use Rattle.dap_naming.proofs.Additions.{add_all-append, any-add, same_bytes, values-append}
use Rattle.dap_naming.proofs.Lists.{by_bool, same_append}
use Rattle.dap_naming.proofs.NamedDocuments.{named-append, names_of_doc_are_read}
use Rattle.dap_naming.proofs.Numbers.{number-is_numbering, numbers-are_countable}
use Rattle.dap_naming.proofs.SessionsNamed.{declared-append}
use Rattle.dap_naming.proofs.SessionsPlaces.{names_keep_rules, sound_for}
use Rattle.dap_order.specs.Swaps.{Reordered, unmoved, swapped}

-- ---- values added to a list of distinct values

abbrev Texts : Type 0
Texts = List (List ℕ)

add_in : (t : Texts) (x : List ℕ) → list_any (bytes_eq x) t ≡ true → add t x ≡ t
add_in t x there = rw there refl

add_new : (t : Texts) (x : List ℕ) → list_any (bytes_eq x) t ≡ false → add t x ≡ t ++ x ∷ []
add_new t x none = rw none refl

-- Lists with the same elements still have the same elements if one value is added to both.
add_moved : (t s : Texts) (x : List ℕ) → IsPermutation t s → IsPermutation (add t x) (add s x)
add_moved t s x p =
    let same = list_any-IsPermutation (bytes_eq x) t s p in
    by_bool (list_any (bytes_eq x) t)
    (λ there. subst (λ l. IsPermutation l (add s x)) (sym (add_in t x there))
    (subst (IsPermutation t) (sym (add_in s x (sym same ∙ there))) p))
    (λ none. subst (λ l. IsPermutation l (add s x)) (sym (add_new t x none))
    (subst (IsPermutation (t ++ x ∷ [])) (sym (add_new s x (sym same ∙ none)))
    (IsPermutation-append t s (x ∷ []) (x ∷ []) p (IsPermutation-refl (x ∷ [])))))

all_moved : (t s xs : Texts) → IsPermutation t s → IsPermutation (add_all t xs) (add_all s xs)
all_moved t s [] p = p
all_moved t s (x ∷ xs) p = all_moved (add t x) (add s x) xs (add_moved t s x p)

same_lists : (t s : Texts) → t ≡ s → IsPermutation t s
same_lists t s same = subst (IsPermutation t) same (IsPermutation-refl t)

-- A value in the list remains in it.
stays : (t : Texts) (x y : List ℕ) → list_any (bytes_eq x) t ≡ true
    → list_any (bytes_eq x) (add t y) ≡ true
stays t x y there = any-add x y t ∙ ap (λ b. b || bytes_eq x y) there

-- A value that is not in the list is not in it after another value is added.
still_new : (t : Texts) (x y : List ℕ) → list_any (bytes_eq x) t ≡ false → bytes_eq x y ≡ false
    → list_any (bytes_eq x) (add t y) ≡ false
still_new t x y none other = any-add x y t ∙ ap (λ b. b || bytes_eq x y) none ∙ other

-- Two values can be added in either order.
module _ (t : Texts) (x y : List ℕ) where
  first_in : list_any (bytes_eq x) t ≡ true → IsPermutation (add (add t x) y) (add (add t y) x)
  first_in there =
      same_lists (add (add t x) y) (add (add t y) x)
      (ap (λ l. add l y) (add_in t x there) ∙ sym (add_in (add t y) x (stays t x y there)))

  second_in : list_any (bytes_eq y) t ≡ true → IsPermutation (add (add t x) y) (add (add t y) x)
  second_in there =
      same_lists (add (add t x) y) (add (add t y) x)
      (add_in (add t x) y (stays t y x there) ∙ ap (λ l. add l x) (sym (add_in t y there)))

  both_new : list_any (bytes_eq x) t ≡ false → list_any (bytes_eq y) t ≡ false
      → bytes_eq x y ≡ false → bytes_eq y x ≡ false
      → IsPermutation (add (add t x) y) (add (add t y) x)
  both_new no_x no_y apart turned =
      let one : add (add t x) y ≡ t ++ x ∷ y ∷ [] =
      add_new (add t x) y (still_new t y x no_y turned)
      ∙ ap (λ (l : Texts). l ++ y ∷ []) (add_new t x no_x) ∙ append_assoc t (x ∷ []) (y ∷ []) in
      let other : add (add t y) x ≡ t ++ y ∷ x ∷ [] =
      add_new (add t y) x (still_new t x y no_x apart)
      ∙ ap (λ (l : Texts). l ++ x ∷ []) (add_new t y no_y) ∙ append_assoc t (y ∷ []) (x ∷ []) in
      subst (λ l. IsPermutation l (add (add t y) x)) (sym one)
      (subst (IsPermutation (t ++ x ∷ y ∷ [])) (sym other)
      (IsPermutation-append t t (x ∷ y ∷ []) (y ∷ x ∷ []) (IsPermutation-refl t)
      (IsPermutation-append_comm (x ∷ []) (y ∷ []))))

  equal_values : x ≡ y → IsPermutation (add (add t x) y) (add (add t y) x)
  equal_values same =
      same_lists (add (add t x) y) (add (add t y) x)
      (ap (λ z. add (add t z) y) same ∙ ap (λ z. add (add t y) z) (sym same))

  two_added : IsPermutation (add (add t x) y) (add (add t y) x)
  two_added =
      by_bool (list_any (bytes_eq x) t) first_in
      (λ no_x. by_bool (list_any (bytes_eq y) t) second_in
      (λ no_y. by_bool (bytes_eq x y) (λ e. equal_values (same_bytes x y e))
      (λ apart. by_bool (bytes_eq y x) (λ e. equal_values (sym (same_bytes y x e)))
      (λ turned. both_new no_x no_y apart turned))))

-- A value can be added before or after other values.
one_passes : (t xs : Texts) (y : List ℕ)
    → IsPermutation (add_all (add t y) xs) (add (add_all t xs) y)
one_passes t [] y = IsPermutation-refl (add t y)
one_passes t (x ∷ xs) y =
    IsPermutation-trans (add_all (add (add t y) x) xs) (add_all (add (add t x) y) xs)
    (add (add_all (add t x) xs) y)
    (all_moved (add (add t y) x) (add (add t x) y) xs (two_added t y x))
    (one_passes (add t x) xs y)

-- Values can be added before or after other values.
all_pass : (t xs ys : Texts)
    → IsPermutation (add_all (add_all t xs) ys) (add_all (add_all t ys) xs)
all_pass t xs [] = IsPermutation-refl (add_all t xs)
all_pass t xs (y ∷ ys) =
    IsPermutation-trans (add_all (add (add_all t xs) y) ys) (add_all (add_all (add t y) xs) ys)
    (add_all (add_all (add t y) ys) xs)
    (all_moved (add (add_all t xs) y) (add_all (add t y) xs) ys
    (IsPermutation-sym (add_all (add t y) xs) (add (add_all t xs) y) (one_passes t xs y)))
    (all_pass (add t y) xs ys)

-- ---- the values of messages

module _ (xs : List Declaration) (label : List ℕ) where
  -- The values of the label in one message.
  abbrev own : Sent → Texts
  own m = values label (ids_of (rules_for xs m.doc) m.doc)

  abbrev all : List Sent → Texts
  all ms = values label (declared_ids xs ms)

  all-append : (ms ns : List Sent) → all (ms ++ ns) ≡ all ms ++ all ns
  all-append ms ns =
      ap (values label) (declared-append xs ms ns)
      ∙ values-append label (declared_ids xs ms) (declared_ids xs ns)

  all-first : (m : Sent) (ms : List Sent) → all (m ∷ ms) ≡ own m ++ all ms
  all-first m ms = values-append label (ids_of (rules_for xs m.doc) m.doc) (declared_ids xs ms)

  -- The distinct values of the label, with two neighbours separated.
  two_apart : (front back : List Sent) (x y : Sent)
      → add_all [] (all (front ++ x ∷ y ∷ back))
      ≡ add_all (add_all (add_all (add_all [] (all front)) (own x)) (own y)) (all back)
  two_apart front back x y =
      let t = add_all [] (all front) in
      ap (add_all []) (all-append front (x ∷ y ∷ back))
      ∙ add_all-append [] (all front) (all (x ∷ y ∷ back))
      ∙ ap (add_all t) (all-first x (y ∷ back))
      ∙ add_all-append t (own x) (all (y ∷ back))
      ∙ ap (add_all (add_all t (own x))) (all-first y back)
      ∙ add_all-append (add_all t (own x)) (own y) (all back)

  swapped_count : (front back : List Sent) (x y : Sent)
      → length (distinct label (declared_ids xs (front ++ y ∷ x ∷ back)))
      ≡ length (distinct label (declared_ids xs (front ++ x ∷ y ∷ back)))
  swapped_count front back x y =
      let t = add_all [] (all front) in
      let moved : IsPermutation (add_all (add_all (add_all t (own x)) (own y)) (all back))
      (add_all (add_all (add_all t (own y)) (own x)) (all back)) =
      all_moved (add_all (add_all t (own x)) (own y)) (add_all (add_all t (own y)) (own x))
      (all back) (all_pass t (own x) (own y)) in
      ap length (two_apart front back y x)
      ∙ length_permutation
      (add_all (add_all (add_all t (own x)) (own y)) (all back))
      (add_all (add_all (add_all t (own y)) (own x)) (all back)) moved
      ∙ ap length (sym (two_apart front back x y))

  reordered_count : (free : Sent → Sent → Bool) (ms ns : List Sent) → Reordered free ms ns
      → length (distinct label (declared_ids xs ns))
      ≡ length (distinct label (declared_ids xs ms))
  reordered_count free ms ns unmoved = refl
  reordered_count free ms ns (swapped {ys = us} p one) =
      ap (λ l. length (distinct label (declared_ids xs l))) one.after
      ∙ swapped_count one.front one.back one.x one.y
      ∙ ap (λ l. length (distinct label (declared_ids xs l))) (sym one.before)
      ∙ reordered_count free ms us p

-- Messages in another order have countable declared ids too.
pub countable_reordered : (free : Sent → Sent → Bool) (xs : List Declaration) (ms ns : List Sent)
    → Reordered free ms ns → AreCountable (declared_ids xs ms) → AreCountable (declared_ids xs ns)
countable_reordered free xs ms ns p c label =
    subst (λ n. n < 2 ^ 63) (sym (reordered_count xs label free ms ns p)) (c label)

-- ---- named messages

-- The declared ids of named messages are the numbers.
pub declared-named : (xs : List Declaration) (f : Numbering) (ms : List Sent)
    → are_declared xs ≡ true → IsNumbering f
    → declared_ids xs (map (name_sent xs f) ms) ≡ named_by f (declared_ids xs ms)
declared-named xs f [] h n = refl
declared-named xs f (m ∷ ms) h n =
    let rs = rules_for xs m.doc in
    let is = (name_sent xs f m).doc in
    same_append _ _ _ _
    (ap (λ qs. ids_of qs is) (names_keep_rules xs f m.doc h)
    ∙ names_of_doc_are_read names_are_read named_twice equal_named rs f m.doc
    (sound_for xs m.doc h) n)
    (declared-named xs f ms h n)
    ∙ sym (named-append f (ids_of rs m.doc) (declared_ids xs ms))

pub countable_named : (xs : List Declaration) (ms : List Sent) → are_declared xs ≡ true
    → AreCountable (declared_ids xs ms) → AreCountable (declared_ids xs (named_sents xs ms))
countable_named xs ms h c =
    let is = declared_ids xs ms in
    subst AreCountable
    (sym (declared-named xs (number is) ms h (number-is_numbering is c)))
    (numbers-are_countable is c)
