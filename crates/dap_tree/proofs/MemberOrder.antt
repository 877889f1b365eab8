-- The members of a value that was read are in the byte order of their names.
use Rattle.std.proofs.Common.{◌≡◌, ℕ, List, Bool, true, ◌&&◌, Option, Some, None, option_map}
use Rattle.std.proofs.Common.{option_and_then, Ordering, Less, Equal, Greater, nat_cmp, refl, sym}
use Rattle.std.proofs.Common.{ap, ap₂, ◌∙◌, subst}
use Rattle.std.proofs.lemmas.Cmp.{nat_list_cmp_total}
use Rattle.std.specs.Cmp.Lexicographic.{slice_cmp}
use Rattle.std.specs.Ordering.{match_ordering, ordering_reverse, is_lt}
use Rattle.json.specs.Json as grammar
use Rattle.json.specs.Lex.{tokens}
use Rattle.serde_json.specs.Data as json
use Rattle.serde_json.specs.Read.{number_of, of_json, of_items, of_members, max_depth, read}
use Rattle.dap_tree.specs.Doc.{Doc, null, boolean, whole, text, list, object, id, Items, no_items}
use Rattle.dap_tree.specs.Doc.{item, Members, no_members, member, is_below_all, is_ordered}
use Rattle.dap_tree.specs.Doc.{items_ordered, members_ordered}
use Rattle.dap_tree.specs.Json.{data_of, items_data, members_data, IsRead}
use Rattle.dap_tree.proofs.Booleans.{and_left, and_right, and_both}
use Rattle.dap_tree.proofs.Numbers.{Passes, Passes-map, Passes-and_then}
use Rattle.dap_tree.proofs.Comparisons.{less}

abbrev pub data_below_all : List ℕ → json.Members → Bool
data_below_all k json.no_members = true
data_below_all k (json.member l e ms) = is_lt (slice_cmp nat_cmp k l) && data_below_all k ms

abbrev mutual
  pub data_ordered : json.Data → Bool
  data_ordered json.null = true
  data_ordered (json.boolean b) = true
  data_ordered (json.number n) = true
  data_ordered (json.string s) = true
  data_ordered (json.array ds) = items_data_ordered ds
  data_ordered (json.object ms) = members_data_ordered ms

  pub items_data_ordered : json.Items → Bool
  items_data_ordered json.no_items = true
  items_data_ordered (json.item d ds) = data_ordered d && items_data_ordered ds

  pub members_data_ordered : json.Members → Bool
  members_data_ordered json.no_members = true
  members_data_ordered (json.member k d ms) =
      data_below_all k ms && (data_ordered d && members_data_ordered ms)

-- ---- inserting a member

below_lower : (k l : List ℕ) (ms : json.Members) → slice_cmp nat_cmp k l ≡ Less
    → data_below_all l ms ≡ true → data_below_all k ms ≡ true
below_lower k l json.no_members low h = refl
below_lower k l (json.member m d ms) low h =
    let next = less (slice_cmp nat_cmp l m)
    (and_left (is_lt (slice_cmp nat_cmp l m)) (data_below_all l ms) h) in
    and_both _ _ (ap is_lt (nat_list_cmp_total.trans k l m low next))
    (below_lower k l ms low (and_right (is_lt (slice_cmp nat_cmp l m)) (data_below_all l ms) h))

below_at : (o : Ordering) (k : List ℕ) (a b c : json.Members) → data_below_all k a ≡ true
    → data_below_all k b ≡ true → data_below_all k c ≡ true
    → data_below_all k (match_ordering o a b c) ≡ true
below_at Less k a b c p q r = p
below_at Equal k a b c p q r = q
below_at Greater k a b c p q r = r

below_put : (j k : List ℕ) (d : json.Data) (ms : json.Members)
    → is_lt (slice_cmp nat_cmp j k) ≡ true → data_below_all j ms ≡ true
    → data_below_all j (json.put k d ms) ≡ true
below_put j k d json.no_members low h = and_both _ _ low refl
below_put j k d (json.member l e ms) low h =
    let first = and_left (is_lt (slice_cmp nat_cmp j l)) (data_below_all j ms) h in
    let rest = and_right (is_lt (slice_cmp nat_cmp j l)) (data_below_all j ms) h in
    below_at (slice_cmp nat_cmp k l) j _ _ _ (and_both _ _ low h) h
    (and_both _ _ first (below_put j k d ms low rest))

put_at : (o : Ordering) (k l : List ℕ) (d e : json.Data) (ms after : json.Members)
    → slice_cmp nat_cmp k l ≡ o → data_ordered d ≡ true
    → members_data_ordered (json.member l e ms) ≡ true
    → (is_lt (slice_cmp nat_cmp l k) ≡ true → data_below_all l after ≡ true)
    → members_data_ordered after ≡ true
    → members_data_ordered
    (match_ordering o (json.member k d (json.member l e ms)) (json.member l d ms)
    (json.member l e after)) ≡ true
put_at Less k l d e ms after is h g low rest =
    let below = and_left (data_below_all l ms) _ g in
    and_both _ _ (and_both _ _ (ap is_lt is) (below_lower k l ms is below)) (and_both _ _ h g)
put_at Equal k l d e ms after is h g low rest =
    let parts = and_right (data_below_all l ms) _ g in
    and_both _ _ (and_left (data_below_all l ms) _ g)
    (and_both _ _ h (and_right (data_ordered e) _ parts))
put_at Greater k l d e ms after is h g low rest =
    let parts = and_right (data_below_all l ms) _ g in
    let above = ap is_lt (nat_list_cmp_total.antisymm l k ∙ ap ordering_reverse is) in
    and_both _ _ (low above) (and_both _ _ (and_left (data_ordered e) _ parts) rest)

ordered_put : (k : List ℕ) (d : json.Data) (ms : json.Members) → data_ordered d ≡ true
    → members_data_ordered ms ≡ true → members_data_ordered (json.put k d ms) ≡ true
ordered_put k d json.no_members h g = and_both _ _ h refl
ordered_put k d (json.member l e ms) h g =
    let below = and_left (data_below_all l ms) _ g in
    let parts = and_right (data_below_all l ms) _ g in
    put_at (slice_cmp nat_cmp k l) k l d e ms (json.put k d ms) refl h g
    (λ low. below_put l k d ms low below)
    (ordered_put k d ms h (and_right (data_ordered e) _ parts))

-- ---- values that were read

some_number : (o : Option json.Num) → Passes data_ordered (option_map json.number o)
some_number None = tt
some_number (Some n) = refl

mutual
  ordered_json : (j : grammar.Json) → Passes data_ordered (of_json j)
  ordered_json grammar.null = refl
  ordered_json (grammar.boolean b) = refl
  ordered_json (grammar.number s) = some_number (number_of s)
  ordered_json (grammar.string s) = refl
  ordered_json (grammar.array js) =
      Passes-map items_data_ordered data_ordered json.array (λ ds h. h) (of_items js)
      (ordered_items js)
  ordered_json (grammar.object ms) =
      Passes-map members_data_ordered data_ordered json.object (λ ds h. h)
      (of_members ms json.no_members) (ordered_members ms json.no_members refl)

  ordered_items : (js : grammar.Items) → Passes items_data_ordered (of_items js)
  ordered_items grammar.no_items = refl
  ordered_items (grammar.item j js) =
      Passes-and_then data_ordered items_data_ordered _
      (λ d h. Passes-map items_data_ordered items_data_ordered (json.item d)
      (λ ds g. and_both _ _ h g) (of_items js) (ordered_items js)) (of_json j) (ordered_json j)

  ordered_members : (ms : grammar.Members) (found : json.Members)
      → members_data_ordered found ≡ true → Passes members_data_ordered (of_members ms found)
  ordered_members grammar.no_members found h = h
  ordered_members (grammar.member k j ms) found h =
      Passes-and_then data_ordered members_data_ordered _
      (λ d g. ordered_members ms (json.put k d found) (ordered_put k d found g h)) (of_json j)
      (ordered_json j)

ordered_parsed : (parsed : Option grammar.Json)
    → Passes data_ordered (option_and_then of_json parsed)
ordered_parsed None = tt
ordered_parsed (Some j) = ordered_json j

pub ordered_read : (bytes : List ℕ) (d : json.Data) → read bytes ≡ Some d → data_ordered d ≡ true
ordered_read bytes d h =
    subst (Passes data_ordered) h
    (ordered_parsed
    (option_and_then (λ p. grammar.if_last p.0 p.1) (grammar.value max_depth (tokens bytes))))

below_data : (k : List ℕ) (ms : Members) → data_below_all k (members_data ms) ≡ is_below_all k ms
below_data k no_members = refl
below_data k (member l d ms) = ap (λ b. is_lt (slice_cmp nat_cmp k l) && b) (below_data k ms)

mutual
  ordered_data : (d : Doc) → data_ordered (data_of d) ≡ is_ordered d
  ordered_data null = refl
  ordered_data (boolean b) = refl
  ordered_data (whole z) = refl
  ordered_data (text s) = refl
  ordered_data (list ds) = items_ordered_data ds
  ordered_data (object ms) = members_ordered_data ms
  ordered_data (id s z) = refl

  items_ordered_data : (ds : Items) → items_data_ordered (items_data ds) ≡ items_ordered ds
  items_ordered_data no_items = refl
  items_ordered_data (item d ds) = ap₂ (λ a b. a && b) (ordered_data d) (items_ordered_data ds)

  members_ordered_data : (ms : Members)
      → members_data_ordered (members_data ms) ≡ members_ordered ms
  members_ordered_data no_members = refl
  members_ordered_data (member k d ms) =
      ap₂ (λ a b. a && b) (below_data k ms)
      (ap₂ (λ a b. a && b) (ordered_data d) (members_ordered_data ms))

pub read_is_ordered : (bytes : List ℕ) (d : Doc) → IsRead bytes d → is_ordered d ≡ true
read_is_ordered bytes d h = sym (ordered_data d) ∙ ordered_read bytes (data_of d) h.0.1
