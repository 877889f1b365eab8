-- The values of the differences of two sound documents can be written.
use Rattle.std.proofs.Common.{◌≡◌, ℕ, suc, ◌-◌, ◌≤◌, List, [], ◌∷◌, ◌++◌, map, Bool, true, false}
use Rattle.std.proofs.Common.{◌&&◌, cond, Some}
use Rattle.std.proofs.Common.{nat_cmp}
use Rattle.std.proofs.Common.{refl, sym, ◌∙◌, arith, leb, ltb}
use Rattle.std.proofs.lemmas.Bool.Decides.{nat_tests}
use Rattle.std.specs.Cmp.Lexicographic.{slice_cmp}
use Rattle.dap_tree.specs.Doc.{Doc, list, object, Items, no_items}
use Rattle.dap_tree.specs.Doc.{item, Members, no_members, member, depth, all_in_range, is_sound}
use Rattle.dap_tree.specs.Doc.{fits}
use Rattle.dap_tree.specs.Doc.{items_fit, members_fit}
use Rattle.dap_tree.specs.Path.{Step, name, place}
use Rattle.dap_tree.proofs.Booleans.{and_left, and_right, and_both}
use Rattle.dap_tree.proofs.Depths.{fits_is}
use Rattle.dap_difference.specs.Differences.{Difference}
use Rattle.dap_difference.specs.Lines.{is_sound_difference, are_sound}
use Rattle.dap_difference.specs.Telling.{same_scalar, only_a, only_b, behind, items_of_b}
use Rattle.dap_difference.specs.Telling.{members_of_b, from_member, differences, items_differences}
use Rattle.dap_difference.specs.Telling.{members_differences}
use Rattle.dap_difference.proofs.Told.{by_order}

within : (n a : ℕ) (p : Bool) → n ≤ 127 → (leb a n && p) ≡ true → (leb a 127 && p) ≡ true
within n a p le h = grind (arith, nat_tests)

fits_sound : (n : ℕ) (d : Doc) → n ≤ 127 → fits n d ≡ true → is_sound d ≡ true
fits_sound n d le h = within n (depth d) (all_in_range d) le (sym (fits_is n d) ∙ h)

lower : (n : ℕ) → n ≤ 127 → n - 1 ≤ 127
lower n le = omega arith

one_sound : (a : Bool) → a ≡ true → (a && true) ≡ true
one_sound true h = refl
one_sound false h = absurd cc

append_sound : (xs ys : List Difference) → are_sound xs ≡ true → are_sound ys ≡ true
    → are_sound (xs ++ ys) ≡ true
append_sound [] ys h k = k
append_sound (x ∷ xs) ys h k =
    and_both (is_sound_difference x) (are_sound (xs ++ ys))
    (and_left (is_sound_difference x) (are_sound xs) h)
    (append_sound xs ys (and_right (is_sound_difference x) (are_sound xs) h) k)

behind_sound : (s : Step) (xs : List Difference) → are_sound xs ≡ true
    → are_sound (map (behind s) xs) ≡ true
behind_sound s [] h = refl
behind_sound s (x ∷ xs) h =
    and_both (is_sound_difference x) (are_sound (map (behind s) xs))
    (and_left (is_sound_difference x) (are_sound xs) h)
    (behind_sound s xs (and_right (is_sound_difference x) (are_sound xs) h))

both_at : (b : Bool) (d e : Doc) → is_sound d ≡ true → is_sound e ≡ true
    → are_sound (cond b [] (let x : Difference =
    record { path = []; of_a = Some d; of_b = Some e } in x ∷ [])) ≡ true
both_at true d e h k = refl
both_at false d e h k =
    one_sound (is_sound d && is_sound e) (and_both (is_sound d) (is_sound e) h k)

only_a_sound : (s : Step) (d : Doc) (xs : List Difference) → is_sound d ≡ true
    → are_sound xs ≡ true → are_sound (only_a s d ∷ xs) ≡ true
only_a_sound s d xs h k =
    and_both (is_sound d && true) (are_sound xs) (one_sound (is_sound d) h) k

only_b_sound : (s : Step) (e : Doc) (xs : List Difference) → is_sound e ≡ true
    → are_sound xs ≡ true → are_sound (only_b s e ∷ xs) ≡ true
only_b_sound s e xs h k = and_both (is_sound e) (are_sound xs) h k

items_of_b_sound : (n m : ℕ) (es : Items) → m ≤ 127 → items_fit m es ≡ true
    → are_sound (items_of_b n es) ≡ true
items_of_b_sound n m no_items le h = refl
items_of_b_sound n m (item e es) le h =
    only_b_sound (place n) e (items_of_b (suc n) es)
    (fits_sound m e le (and_left (fits m e) (items_fit m es) h))
    (items_of_b_sound (suc n) m es le (and_right (fits m e) (items_fit m es) h))

members_of_b_sound : (m : ℕ) (ns : Members) → m ≤ 127 → members_fit m ns ≡ true
    → are_sound (members_of_b ns) ≡ true
members_of_b_sound m no_members le h = refl
members_of_b_sound m (member l e ns) le h =
    only_b_sound (name l) e (members_of_b ns)
    (fits_sound m e le (and_left (fits m e) (members_fit m ns) h))
    (members_of_b_sound m ns le (and_right (fits m e) (members_fit m ns) h))

from_sound : (m : ℕ) (k : List ℕ) (d : Doc) (differ : Doc → List Difference)
    (rest : Members → List Difference) → m ≤ 127 → is_sound d ≡ true
    → ((e : Doc) → fits m e ≡ true → are_sound (differ e) ≡ true)
    → ((ns : Members) → members_fit m ns ≡ true → are_sound (rest ns) ≡ true)
    → (ns : Members) → members_fit m ns ≡ true
    → are_sound (from_member k d differ rest ns) ≡ true
from_sound m k d differ rest le h f g no_members hn =
    only_a_sound (name k) d (rest no_members) h (g no_members hn)
from_sound m k d differ rest le h f g (member l e ns) hn =
    let first = and_left (fits m e) (members_fit m ns) hn in
    let others = and_right (fits m e) (members_fit m ns) hn in
    by_order (λ xs. are_sound xs ≡ true) (slice_cmp nat_cmp k l)
    (only_a (name k) d ∷ rest (member l e ns))
    (map (behind (name k)) (differ e) ++ rest ns)
    (only_b (name l) e ∷ from_member k d differ rest ns)
    (λ less. only_a_sound (name k) d (rest (member l e ns)) h (g (member l e ns) hn))
    (λ equal. append_sound (map (behind (name k)) (differ e)) (rest ns)
    (behind_sound (name k) (differ e) (f e first)) (g ns others))
    (λ greater. only_b_sound (name l) e (from_member k d differ rest ns)
    (fits_sound m e le first) (from_sound m k d differ rest le h f g ns others))

mutual
  told_sound : (n : ℕ) (d e : Doc) → n ≤ 127 → fits n d ≡ true → fits n e ≡ true
      → are_sound (differences d e) ≡ true
  told_sound n (list ds) (list es) le h k =
      items_told_sound 0 (n - 1) ds es (lower n le)
      (and_right (ltb 0 n) (items_fit (n - 1) ds) h) (and_right (ltb 0 n) (items_fit (n - 1) es) k)
  told_sound n (object ms) (object ns) le h k =
      members_told_sound (n - 1) ms ns (lower n le)
      (and_right (ltb 0 n) (members_fit (n - 1) ms) h)
      (and_right (ltb 0 n) (members_fit (n - 1) ns) k)
  told_sound n d e le h k =
      both_at (same_scalar d e) d e (fits_sound n d le h) (fits_sound n e le k)

  items_told_sound : (i m : ℕ) (ds es : Items) → m ≤ 127 → items_fit m ds ≡ true
      → items_fit m es ≡ true → are_sound (items_differences i ds es) ≡ true
  items_told_sound i m no_items es le h k = items_of_b_sound i m es le k
  items_told_sound i m (item d ds) no_items le h k =
      only_a_sound (place i) d (items_differences (suc i) ds no_items)
      (fits_sound m d le (and_left (fits m d) (items_fit m ds) h))
      (items_told_sound (suc i) m ds no_items le (and_right (fits m d) (items_fit m ds) h) k)
  items_told_sound i m (item d ds) (item e es) le h k =
      append_sound (map (behind (place i)) (differences d e)) (items_differences (suc i) ds es)
      (behind_sound (place i) (differences d e)
      (told_sound m d e le (and_left (fits m d) (items_fit m ds) h)
      (and_left (fits m e) (items_fit m es) k)))
      (items_told_sound (suc i) m ds es le (and_right (fits m d) (items_fit m ds) h)
      (and_right (fits m e) (items_fit m es) k))

  members_told_sound : (m : ℕ) (ms ns : Members) → m ≤ 127 → members_fit m ms ≡ true
      → members_fit m ns ≡ true → are_sound (members_differences ms ns) ≡ true
  members_told_sound m no_members ns le h k = members_of_b_sound m ns le k
  members_told_sound m (member l d ms) ns le h hn =
      let first = and_left (fits m d) (members_fit m ms) h in
      let others = and_right (fits m d) (members_fit m ms) h in
      from_sound m l d (λ e. differences d e) (λ es. members_differences ms es) le
      (fits_sound m d le first) (λ e he. told_sound m d e le first he)
      (λ es hes. members_told_sound m ms es le others hes) ns hn

pub differences_sound : (d e : Doc) → is_sound d ≡ true → is_sound e ≡ true
    → are_sound (differences d e) ≡ true
differences_sound d e h k =
    told_sound 127 d e (omega arith) (fits_is 127 d ∙ h) (fits_is 127 e ∙ k)
