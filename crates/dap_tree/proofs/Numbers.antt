-- The numbers that `serde_json` reads: an unsigned number below 2^64, a negative number of at least
-- -2^63, or a float.
use Rattle.std.proofs.Common.{◌≡◌, ℕ, zero, suc, ◌^◌, pos, negsuc, neg_ℤ, Float, List, Bool, true}
use Rattle.std.proofs.Common.{false, ◌&&◌, Option, Some, None, option_map, option_and_then}
use Rattle.std.proofs.Common.{Ordering, Less, Equal, Greater, nat_cmp, refl, subst, arith}
use Rattle.std.specs.Prelude.{nat_lt, nat_le, if◌then◌else◌}
use Rattle.std.specs.Cmp.Lexicographic.{slice_cmp}
use Rattle.std.specs.Ordering.{match_ordering}
use Rattle.std.proofs.lemmas.Bool.Decides.{nat_tests}
use Rattle.json.specs.Json as grammar
use Rattle.json.specs.Lex.{tokens}
use Rattle.serde_json.specs.Data.{Num, unsigned, negative, float, Data, null, boolean, number}
use Rattle.serde_json.specs.Data.{string, array, object, Items, no_items, item, Members, no_members}
use Rattle.serde_json.specs.Data.{member, put}
use Rattle.serde_json.specs.Read.{number_of, of_json, of_items, of_members, max_depth, read}
use Rattle.dap_tree.proofs.Booleans.{and_left, and_right, and_both}

abbrev pub is_kept : Num → Bool
is_kept (unsigned n) = nat_lt n (2 ^ 64)
is_kept (negative (pos n)) = false
is_kept (negative (negsuc n)) = nat_lt n (2 ^ 63)
is_kept (float x) = true

abbrev mutual
  pub all_kept : Data → Bool
  all_kept null = true
  all_kept (boolean b) = true
  all_kept (number n) = is_kept n
  all_kept (string s) = true
  all_kept (array ds) = items_kept ds
  all_kept (object ms) = members_kept ms

  pub items_kept : Items → Bool
  items_kept no_items = true
  items_kept (item d ds) = all_kept d && items_kept ds

  pub members_kept : Members → Bool
  members_kept no_members = true
  members_kept (member k d ms) = all_kept d && members_kept ms

-- the value, if there is one, passes the test
abbrev pub Passes : {A : Type 0} → (A → Bool) → Option A → Type 0
Passes p None = Unit {0}
Passes p (Some a) = p a ≡ true

pub Passes-map : {A B : Type 0} (p : A → Bool) (q : B → Bool) (f : A → B)
    → ((a : A) → p a ≡ true → q (f a) ≡ true) → (o : Option A) → Passes p o
    → Passes q (option_map f o)
Passes-map p q f keeps None h = tt
Passes-map p q f keeps (Some a) h = keeps a h

pub Passes-and_then : {A B : Type 0} (p : A → Bool) (q : B → Bool) (f : A → Option B)
    → ((a : A) → p a ≡ true → Passes q (f a)) → (o : Option A) → Passes p o
    → Passes q (option_and_then f o)
Passes-and_then p q f keeps None h = tt
Passes-and_then p q f keeps (Some a) h = keeps a h

Passes-if : {A : Type 0} (p : A → Bool) (b : Bool) (x y : Option A) → (b ≡ true → Passes p x)
    → Passes p y → Passes p (if b then x else y)
Passes-if p true x y h k = h refl
Passes-if p false x y h k = k

-- ---- numbers

kept_float : (finite : Bool) (x : Float) → Passes is_kept (if finite then Some (float x) else None)
kept_float finite x = Passes-if is_kept finite _ None (λ _. refl) tt

kept_unsigned : (whole : Bool) (n : ℕ) (other : Option Num) → Passes is_kept other
    → Passes is_kept (if whole && nat_lt n (2 ^ 64) then Some (unsigned n) else other)
kept_unsigned whole n other h =
    Passes-if is_kept (whole && nat_lt n (2 ^ 64)) (Some (unsigned n)) other
    (λ fits. and_right whole (nat_lt n (2 ^ 64)) fits) h

below_zero : (n : ℕ) → (nat_lt 0 n && nat_le n (2 ^ 63)) ≡ true
    → is_kept (negative (neg_ℤ (pos n))) ≡ true
below_zero zero h = absurd cc
below_zero (suc n) h = grind (arith, nat_tests)

kept_negative : (whole : Bool) (n : ℕ) (other : Option Num) → Passes is_kept other
    → Passes is_kept (if whole && nat_lt 0 n
    && nat_le n (2 ^ 63) then Some (negative (neg_ℤ (pos n))) else other)
kept_negative whole n other h =
    let low = nat_lt 0 n in
    let high = nat_le n (2 ^ 63) in
    Passes-if is_kept (whole && low && high) (Some (negative (neg_ℤ (pos n)))) other
    (λ fits. below_zero n
    (and_both low high (and_right whole low (and_left (whole && low) high fits))
    (and_right (whole && low) high fits))) h

kept_either : (b : Bool) (x y : Option Num) → Passes is_kept x → Passes is_kept y
    → Passes is_kept (if b then x else y)
kept_either b x y h k = Passes-if is_kept b x y (λ _. h) k

kept_number : (s : List ℕ) → Passes is_kept (number_of s)
unfolding number_of
kept_number s = search (kept_either, kept_negative, kept_unsigned, kept_float)

-- ---- values

members_kept-match_ordering : (o : Ordering) (a b c : Members) → members_kept a ≡ true
    → members_kept b ≡ true → members_kept c ≡ true → members_kept (match_ordering o a b c) ≡ true
members_kept-match_ordering Less a b c p q r = p
members_kept-match_ordering Equal a b c p q r = q
members_kept-match_ordering Greater a b c p q r = r

members_kept-put : (k : List ℕ) (d : Data) (ms : Members) → all_kept d ≡ true
    → members_kept ms ≡ true → members_kept (put k d ms) ≡ true
members_kept-put k d no_members h g = and_both _ _ h refl
members_kept-put k d (member l e ms) h g =
    let rest = and_right (all_kept e) (members_kept ms) g in
    let first = and_left (all_kept e) (members_kept ms) g in
    members_kept-match_ordering (slice_cmp nat_cmp k l) _ _ _ (and_both _ _ h g)
    (and_both _ _ h rest) (and_both _ _ first (members_kept-put k d ms h rest))

mutual
  kept_json : (j : grammar.Json) → Passes all_kept (of_json j)
  kept_json grammar.null = refl
  kept_json (grammar.boolean b) = refl
  kept_json (grammar.number s) =
      Passes-map is_kept all_kept number (λ n h. h) (number_of s) (kept_number s)
  kept_json (grammar.string s) = refl
  kept_json (grammar.array js) =
      Passes-map items_kept all_kept array (λ ds h. h) (of_items js) (kept_items js)
  kept_json (grammar.object ms) =
      Passes-map members_kept all_kept object (λ ds h. h) (of_members ms no_members)
      (kept_members ms no_members refl)

  kept_items : (js : grammar.Items) → Passes items_kept (of_items js)
  kept_items grammar.no_items = refl
  kept_items (grammar.item j js) =
      Passes-and_then all_kept items_kept _
      (λ d h. Passes-map items_kept items_kept (item d) (λ ds g. and_both _ _ h g) (of_items js)
      (kept_items js)) (of_json j) (kept_json j)

  kept_members : (ms : grammar.Members) (found : Members) → members_kept found ≡ true
      → Passes members_kept (of_members ms found)
  kept_members grammar.no_members found h = h
  kept_members (grammar.member k j ms) found h =
      Passes-and_then all_kept members_kept _
      (λ d g. kept_members ms (put k d found) (members_kept-put k d found g h)) (of_json j)
      (kept_json j)

kept_parsed : (parsed : Option grammar.Json) → Passes all_kept (option_and_then of_json parsed)
kept_parsed None = tt
kept_parsed (Some j) = kept_json j

pub kept_read : (bytes : List ℕ) (d : Data) → read bytes ≡ Some d → all_kept d ≡ true
kept_read bytes d h =
    subst (Passes all_kept) h
    (kept_parsed
    (option_and_then (λ p. grammar.if_last p.0 p.1) (grammar.value max_depth (tokens bytes))))
