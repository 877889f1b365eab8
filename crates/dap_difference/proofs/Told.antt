-- Each difference in the list is a difference, with the values of the documents.
use Rattle.std.proofs.Common.{◌≡◌, ℕ, suc, ◌+◌, List, [], ◌∷◌, ◌++◌, map, Bool, true}
use Rattle.std.proofs.Common.{false, ◌&&◌, cond, Option, Some, None, option_and_then, Ordering}
use Rattle.std.proofs.Common.{Less}
use Rattle.std.proofs.Common.{Equal, Greater, nat_cmp, refl, sym, ap, ◌∙◌, subst, arith}
use Rattle.std.specs.Cmp.Lexicographic.{slice_cmp}
use Rattle.std.specs.List.{AllByRecursion}
use Rattle.std.specs.Ordering.{match_ordering}
use Rattle.dap_tree.specs.Doc.{Doc, list, object, Items, no_items}
use Rattle.dap_tree.specs.Doc.{item, Members, no_members, member, get_member, is_below_all}
use Rattle.dap_tree.specs.Doc.{is_ordered, items_ordered, members_ordered}
use Rattle.dap_tree.specs.Path.{Step, name, place, get_item, at}
use Rattle.dap_tree.proofs.Booleans.{and_left, and_right}
use Rattle.dap_tree.proofs.Paths.{skips}
use Rattle.dap_difference.specs.Differences.{have_parts, DifferAt, Difference}
use Rattle.dap_difference.specs.Telling.{same_scalar, only_a, only_b, both, behind, items_of_b}
use Rattle.dap_difference.specs.Telling.{members_of_b, from_member, differences, items_differences}
use Rattle.dap_difference.specs.Telling.{members_differences}
use Rattle.dap_difference.proofs.Members.{found_first, missing, below_first, turned, one_name}
use Rattle.dap_difference.proofs.Scalars.{apart_are}
use Rattle.dap_difference.proofs.Paths.{none_differ}

-- ---- each element of a list

abbrev pub Each : (Difference → Type 0) → List Difference → Type 0
Each P xs = AllByRecursion P xs

pub each_append : (P : Difference → Type 0) (xs ys : List Difference) → Each P xs → Each P ys
    → Each P (xs ++ ys)
each_append P [] ys h k = k
each_append P (x ∷ xs) ys h k = (h.0, each_append P xs ys h.1 k)

pub each_is : (P Q : Difference → Type 0) → ((x : Difference) → P x → Q x) → (xs : List Difference)
    → Each P xs → Each Q xs
each_is P Q f [] h = tt
each_is P Q f (x ∷ xs) h = (f x h.0, each_is P Q f xs h.1)

pub each_behind : (s : Step) (P Q : Difference → Type 0)
    → ((x : Difference) → P x → Q (behind s x)) → (xs : List Difference) → Each P xs
    → Each Q (map (behind s) xs)
each_behind s P Q f [] h = tt
each_behind s P Q f (x ∷ xs) h = (f x h.0, each_behind s P Q f xs h.1)

pub by_order : (P : List Difference → Type 0) (o : Ordering) (x y z : List Difference)
    → (o ≡ Less → P x) → (o ≡ Equal → P y) → (o ≡ Greater → P z) → P (match_ordering o x y z)
by_order P Less x y z f g h = f refl
by_order P Equal x y z f g h = g refl
by_order P Greater x y z f g h = h refl

-- ---- the differences in the list

-- A difference of the two, with their values.
abbrev pub Tells : Option Doc → Option Doc → Difference → Type 0
Tells o q x = DifferAt x.path o q × (x.of_a ≡ option_and_then (at x.path) o)
    × (x.of_b ≡ option_and_then (at x.path) q)

record TellsItem (n : ℕ) (ds es : Items) (x : Difference) : Type 0 where
  i : ℕ
  rest : Difference
  is : x ≡ behind (place (n + i)) rest
  tells : Tells (get_item i ds) (get_item i es) rest

record TellsMember (ms ns : Members) (x : Difference) : Type 0 where
  k : List ℕ
  rest : Difference
  is : x ≡ behind (name k) rest
  tells : Tells (get_member k ms) (get_member k ns) rest

abbrev root : Option Doc → Option Doc → Difference
root o q = record { path = []; of_a = o; of_b = q }

tells_a : (d : Doc) → Tells (Some d) None (root (Some d) None)
tells_a d = (((λ same. absurd cc), refl), refl, refl)

tells_b : (e : Doc) → Tells None (Some e) (root None (Some e))
tells_b e = (((λ same. absurd cc), refl), refl, refl)

-- ---- without parts

both_at : (b : Bool) (d e : Doc) → same_scalar d e ≡ b → have_parts (Some d) (Some e) ≡ false
    → Each (Tells (Some d) (Some e)) (cond b [] (root (Some d) (Some e) ∷ []))
both_at true d e h parts = tt
both_at false d e h parts =
    ((((λ same. let inner : d ≡ e = cc in apart_are d e parts h inner), parts), refl, refl), tt)

both_tell : (d e : Doc) → have_parts (Some d) (Some e) ≡ false
    → Each (Tells (Some d) (Some e)) (both d e)
both_tell d e parts = both_at (same_scalar d e) d e refl parts

-- ---- items

first_item : (n : ℕ) (d e : Option Doc) (ds es : Items) → get_item 0 ds ≡ d → get_item 0 es ≡ e
    → (x : Difference) → Tells d e x → TellsItem n ds es (behind (place n) x)
first_item n d e ds es a b x h =
    let here : n ≡ n + 0 = omega arith in
    record {
      i = 0;
      rest = x;
      is = ap (λ m. behind (place m) x) here;
      tells = subst (λ o. Tells o (get_item 0 es) x) (sym a) (subst (λ q. Tells d q x) (sym b) h);
    }

later_item : (n : ℕ) (ds es more_ds more_es : Items)
    → ((i : ℕ) → get_item (suc i) more_ds ≡ get_item i ds)
    → ((i : ℕ) → get_item (suc i) more_es ≡ get_item i es) → (x : Difference)
    → TellsItem (suc n) ds es x → TellsItem n more_ds more_es x
later_item n ds es more_ds more_es a b x h =
    let i = h.i in
    let here : suc n + i ≡ n + suc i = omega arith in
    record {
      i = suc i;
      rest = h.rest;
      is = h.is ∙ ap (λ m. behind (place m) h.rest) here;
      tells = subst (λ o. Tells o (get_item (suc i) more_es) h.rest) (sym (a i))
          (subst (λ q. Tells (get_item i ds) q h.rest) (sym (b i)) h.tells);
    }

items_of_b_tell : (n : ℕ) (es : Items) → Each (TellsItem n no_items es) (items_of_b n es)
items_of_b_tell n no_items = tt
items_of_b_tell n (item e es) = (
  first_item n None (Some e) no_items (item e es) refl refl (root None (Some e)) (tells_b e),
  each_is (TellsItem (suc n) no_items es) (TellsItem n no_items (item e es))
      (later_item n no_items es no_items (item e es) (λ i. refl) (λ i. refl))
      (items_of_b (suc n) es) (items_of_b_tell (suc n) es),
)

in_list : (ds es : Items) (x : Difference) → TellsItem 0 ds es x
    → Tells (Some (list ds)) (Some (list es)) x
in_list ds es x h =
    let i = h.i in
    let here : 0 + i ≡ i = omega arith in
    let is : x ≡ behind (place i) h.rest = h.is ∙ ap (λ m. behind (place m) h.rest) here in
    subst (Tells (Some (list ds)) (Some (list es))) (sym is)
    ((refl, h.tells.0), h.tells.1, h.tells.2)

-- ---- members

first_member : (k : List ℕ) (d e : Option Doc) (ms ns : Members) → get_member k ms ≡ d
    → get_member k ns ≡ e → (x : Difference) → Tells d e x → TellsMember ms ns (behind (name k) x)
first_member k d e ms ns a b x h = record {
  k = k;
  rest = x;
  is = refl;
  tells = subst (λ o. Tells o (get_member k ns) x) (sym a) (subst (λ q. Tells d q x) (sym b) h);
}

-- after a name that no member has
later_member : (k : List ℕ) (ms ns more_ms more_ns : Members) → get_member k ms ≡ None
    → get_member k ns ≡ None
    → ((q : List ℕ) → (q ≡ k → ⊥) → get_member q more_ms ≡ get_member q ms)
    → ((q : List ℕ) → (q ≡ k → ⊥) → get_member q more_ns ≡ get_member q ns) → (x : Difference)
    → TellsMember ms ns x → TellsMember more_ms more_ns x
later_member k ms ns more_ms more_ns a b f g x h =
    let q = h.k in
    let apart : q ≡ k → ⊥ = λ same.
    none_differ h.rest.path
    (subst (λ o. DifferAt h.rest.path o None) (ap (λ l. get_member l ms) same ∙ a)
    (subst (λ o. DifferAt h.rest.path (get_member q ms) o)
    (ap (λ l. get_member l ns) same ∙ b) h.tells.0)) in
    record {
      k = q;
      rest = h.rest;
      is = h.is;
      tells = subst (λ o. Tells o (get_member q more_ns) h.rest) (sym (f q apart))
          (subst (λ o. Tells (get_member q ms) o h.rest) (sym (g q apart)) h.tells);
    }

members_of_b_tell : (ns : Members) → members_ordered ns ≡ true
    → Each (TellsMember no_members ns) (members_of_b ns)
members_of_b_tell no_members h = tt
members_of_b_tell (member l e ns) h =
    let below = and_left (is_below_all l ns) (is_ordered e && members_ordered ns) h in
    let parts = and_right (is_below_all l ns) (is_ordered e && members_ordered ns) h in (
      first_member l None (Some e) no_members (member l e ns) refl (found_first l e ns)
          (root None (Some e)) (tells_b e),
      each_is (TellsMember no_members ns) (TellsMember no_members (member l e ns))
          (later_member l no_members ns no_members (member l e ns) refl (missing l ns below)
          (λ q apart. refl) (λ q apart. skips q l e ns apart))
          (members_of_b ns)
          (members_of_b_tell ns (and_right (is_ordered e) (members_ordered ns) parts)),
    )

in_object : (ms ns : Members) (x : Difference) → TellsMember ms ns x
    → Tells (Some (object ms)) (Some (object ns)) x
in_object ms ns x h =
    subst (Tells (Some (object ms)) (Some (object ns))) (sym h.is)
    ((refl, h.tells.0), h.tells.1, h.tells.2)

-- the differences after A's member k, if B has no member with that name among the remaining ones
only_a_tells : (k : List ℕ) (d : Doc) (ms ns : Members) (reported : List Difference)
    → get_member k ms ≡ None → get_member k ns ≡ None → Each (TellsMember ms ns) reported
    → Each (TellsMember (member k d ms) ns) (only_a (name k) d ∷ reported)
only_a_tells k d ms ns reported a b h = (
  first_member k (Some d) None (member k d ms) ns (found_first k d ms) b (root (Some d) None)
      (tells_a d),
  each_is (TellsMember ms ns) (TellsMember (member k d ms) ns)
      (later_member k ms ns (member k d ms) ns a b (λ q apart. skips q k d ms apart)
      (λ q apart. refl))
      reported h,
)

both_have : (k : List ℕ) (d e : Doc) (ms ns : Members) (here reported : List Difference)
    → get_member k ms ≡ None → get_member k ns ≡ None → Each (Tells (Some d) (Some e)) here
    → Each (TellsMember ms ns) reported
    → Each (TellsMember (member k d ms) (member k e ns)) (map (behind (name k)) here ++ reported)
both_have k d e ms ns here reported a b h more =
    each_append (TellsMember (member k d ms) (member k e ns)) (map (behind (name k)) here) reported
    (each_behind (name k) (Tells (Some d) (Some e)) (TellsMember (member k d ms) (member k e ns))
    (first_member k (Some d) (Some e) (member k d ms) (member k e ns) (found_first k d ms)
    (found_first k e ns)) here h)
    (each_is (TellsMember ms ns) (TellsMember (member k d ms) (member k e ns))
    (later_member k ms ns (member k d ms) (member k e ns) a b (λ q apart. skips q k d ms apart)
    (λ q apart. skips q k e ns apart)) reported more)

only_b_tells : (l : List ℕ) (e : Doc) (ms ns : Members) (reported : List Difference)
    → get_member l ms ≡ None → get_member l ns ≡ None → Each (TellsMember ms ns) reported
    → Each (TellsMember ms (member l e ns)) (only_b (name l) e ∷ reported)
only_b_tells l e ms ns reported a b h = (
  first_member l None (Some e) ms (member l e ns) a (found_first l e ns) (root None (Some e))
      (tells_b e),
  each_is (TellsMember ms ns) (TellsMember ms (member l e ns))
      (later_member l ms ns ms (member l e ns) a b (λ q apart. refl)
      (λ q apart. skips q l e ns apart))
      reported h,
)

from_tells : (k : List ℕ) (d : Doc) (ms : Members) (differ : Doc → List Difference)
    (rest : Members → List Difference) → is_below_all k ms ≡ true
    → ((e : Doc) → is_ordered e ≡ true → Each (Tells (Some d) (Some e)) (differ e))
    → ((ns : Members) → members_ordered ns ≡ true → Each (TellsMember ms ns) (rest ns))
    → (ns : Members) → members_ordered ns ≡ true
    → Each (TellsMember (member k d ms) ns) (from_member k d differ rest ns)
from_tells k d ms differ rest low f g no_members h =
    only_a_tells k d ms no_members (rest no_members) (missing k ms low) refl (g no_members h)
from_tells k d ms differ rest low f g (member l e ns) h =
    let below = and_left (is_below_all l ns) (is_ordered e && members_ordered ns) h in
    let parts = and_right (is_below_all l ns) (is_ordered e && members_ordered ns) h in
    let e_ordered = and_left (is_ordered e) (members_ordered ns) parts in
    let ns_ordered = and_right (is_ordered e) (members_ordered ns) parts in
    by_order (Each (TellsMember (member k d ms) (member l e ns))) (slice_cmp nat_cmp k l)
    (only_a (name k) d ∷ rest (member l e ns))
    (map (behind (name k)) (differ e) ++ rest ns)
    (only_b (name l) e ∷ from_member k d differ rest ns)
    (λ less. only_a_tells k d ms (member l e ns) (rest (member l e ns)) (missing k ms low)
    (missing k (member l e ns) (below_first k l e ns less below)) (g (member l e ns) h))
    (λ equal. subst
    (λ q. Each (TellsMember (member k d ms) (member q e ns))
    (map (behind (name k)) (differ e) ++ rest ns)) (one_name k l equal)
    (both_have k d e ms ns (differ e) (rest ns) (missing k ms low)
    (missing k ns (subst (λ q. is_below_all q ns ≡ true) (sym (one_name k l equal)) below))
    (f e e_ordered) (g ns ns_ordered)))
    (λ greater. only_b_tells l e (member k d ms) ns (from_member k d differ rest ns)
    (missing l (member k d ms) (below_first l k d ms (turned k l greater) low))
    (missing l ns below) (from_tells k d ms differ rest low f g ns ns_ordered))

mutual
  pub tells : (d e : Doc) → is_ordered d ≡ true → is_ordered e ≡ true
      → Each (Tells (Some d) (Some e)) (differences d e)
  tells (list ds) (list es) h k =
      each_is (TellsItem 0 ds es) (Tells (Some (list ds)) (Some (list es))) (in_list ds es)
      (items_differences 0 ds es) (items_tell 0 ds es h k)
  tells (object ms) (object ns) h k =
      each_is (TellsMember ms ns) (Tells (Some (object ms)) (Some (object ns))) (in_object ms ns)
      (members_differences ms ns) (members_tell ms ns h k)
  tells d e h k = both_tell d e refl

  items_tell : (n : ℕ) (ds es : Items) → items_ordered ds ≡ true → items_ordered es ≡ true
      → Each (TellsItem n ds es) (items_differences n ds es)
  items_tell n no_items es h k = items_of_b_tell n es
  items_tell n (item d ds) no_items h k = (
    first_item n (Some d) None (item d ds) no_items refl refl (root (Some d) None) (tells_a d),
    each_is (TellsItem (suc n) ds no_items) (TellsItem n (item d ds) no_items)
        (later_item n ds no_items (item d ds) no_items (λ i. refl) (λ i. refl))
        (items_differences (suc n) ds no_items)
        (items_tell (suc n) ds no_items (and_right (is_ordered d) (items_ordered ds) h) k),
  )
  items_tell n (item d ds) (item e es) h k =
      each_append (TellsItem n (item d ds) (item e es)) (map (behind (place n)) (differences d e))
      (items_differences (suc n) ds es)
      (each_behind (place n) (Tells (Some d) (Some e)) (TellsItem n (item d ds) (item e es))
      (first_item n (Some d) (Some e) (item d ds) (item e es) refl refl) (differences d e)
      (tells d e (and_left (is_ordered d) (items_ordered ds) h)
      (and_left (is_ordered e) (items_ordered es) k)))
      (each_is (TellsItem (suc n) ds es) (TellsItem n (item d ds) (item e es))
      (later_item n ds es (item d ds) (item e es) (λ i. refl) (λ i. refl))
      (items_differences (suc n) ds es)
      (items_tell (suc n) ds es (and_right (is_ordered d) (items_ordered ds) h)
      (and_right (is_ordered e) (items_ordered es) k)))

  members_tell : (ms ns : Members) → members_ordered ms ≡ true → members_ordered ns ≡ true
      → Each (TellsMember ms ns) (members_differences ms ns)
  members_tell no_members ns h k = members_of_b_tell ns k
  members_tell (member k d ms) ns h hn =
      let below = and_left (is_below_all k ms) (is_ordered d && members_ordered ms) h in
      let parts = and_right (is_below_all k ms) (is_ordered d && members_ordered ms) h in
      let d_ordered = and_left (is_ordered d) (members_ordered ms) parts in
      let ms_ordered = and_right (is_ordered d) (members_ordered ms) parts in
      from_tells k d ms (λ e. differences d e) (λ es. members_differences ms es) below
      (λ e he. tells d e d_ordered he) (λ es hes. members_tell ms es ms_ordered hes) ns hn
