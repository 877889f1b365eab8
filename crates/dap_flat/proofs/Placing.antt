-- A member whose name is above all others goes last.
use Rattle.std.proofs.Common.{◌≡◌, ℕ, List, Option, Some, None, false, true, nat_cmp}
use Rattle.std.proofs.Common.{Ordering, Less, Equal, Greater, refl, sym, ap, ◌∙◌}
use Rattle.std.proofs.lemmas.Cmp.{nat_list_cmp_total}
use Rattle.std.specs.Cmp.Lexicographic.{slice_cmp}
use Rattle.std.specs.Ordering.{ordering_reverse, is_lt, match_ordering}
use Rattle.dap_tree.proofs.Comparisons.{less}
use Rattle.json.specs.Token.{Token}
use Rattle.json.specs.Json.{parse_map}
use Rattle.serde_json.specs.Data as json
use Rattle.dap_tree.specs.Doc.{Doc, Items, no_items, item, Members, no_members, member, put, has_id}
use Rattle.dap_tree.specs.Doc.{items_have_id, members_have_id}
use Rattle.dap_tree.specs.Json.{data_of, items_data, members_data}
use Rattle.dap_tree.proofs.Booleans.{or_left, or_right, or_both}
use Rattle.dap_tree.proofs.ReadTrees.{members_data-put, no_id_put}
use Rattle.dap_flat.specs.Order.{IsNotAbove, AreBelow, EndsAt, more_items, more_members}
use Rattle.dap_flat.specs.Order.{joined, IsBefore}

pub put_last : (ms : Members) (k : List ℕ) (d : Doc) → AreBelow ms k
    → put k d ms ≡ more_members ms k d
put_last no_members k d h = refl
put_last (member l e ms) k d h =
    let above : slice_cmp nat_cmp k l ≡ Greater =
    nat_list_cmp_total.antisymm k l ∙ ap ordering_reverse (less _ h.0) in
    rw above (ap (member l e) (put_last ms k d h.1))

below_more : (ms : Members) (k j : List ℕ) (d : Doc) → AreBelow ms k
    → is_lt (slice_cmp nat_cmp k j) ≡ true → AreBelow (more_members ms k d) j
below_more no_members k j d h low = (low, tt)
below_more (member l e ms) k j d h low = (
  ap is_lt (nat_list_cmp_total.trans l k j (less _ h.0) (less _ low)),
  below_more ms k j d h.1
      low,
)

pub ends_at_last : (ms : Members) (k : List ℕ) (d : Doc) → AreBelow ms k
    → EndsAt (Some k) (more_members ms k d)
ends_at_last ms k d h j low = below_more ms k j d h low

pub more_members-data : (ms : Members) (k : List ℕ) (d : Doc) → AreBelow ms k
    → members_data (more_members ms k d) ≡ json.put k (data_of d) (members_data ms)
more_members-data ms k d h = ap members_data (sym (put_last ms k d h)) ∙ members_data-put k d ms

pub more_members-no_id : (ms : Members) (k : List ℕ) (d : Doc) → AreBelow ms k
    → has_id d ≡ false → members_have_id ms ≡ false
    → members_have_id (more_members ms k d) ≡ false
more_members-no_id ms k d h g f =
    ap members_have_id (sym (put_last ms k d h)) ∙ no_id_put k d ms g f

-- ---- items

abbrev pub items_before : Items → json.Items → json.Items
items_before no_items rest = rest
items_before (item d ds) rest = json.item (data_of d) (items_before ds rest)

pub items_before-none : (ds : Items) → items_before ds json.no_items ≡ items_data ds
items_before-none no_items = refl
items_before-none (item d ds) = ap (json.item (data_of d)) (items_before-none ds)

items_push : (ds : Items) (d : Doc) (rest : json.Items)
    → items_before ds (json.item (data_of d) rest) ≡ items_before (more_items ds d) rest
items_push no_items d rest = refl
items_push (item e ds) d rest = ap (json.item (data_of e)) (items_push ds d rest)

pub one_more_item : (ds : Items) (d : Doc) (r : Option (json.Items × List Token))
    → parse_map (items_before ds) (parse_map (json.item (data_of d)) r)
    ≡ parse_map (items_before (more_items ds d)) r
one_more_item ds d None = refl
one_more_item ds d (Some p) = ap (λ vs. Some (vs, p.1)) (items_push ds d p.0)

pub more_items-no_id : (ds : Items) (d : Doc) → items_have_id ds ≡ false → has_id d ≡ false
    → items_have_id (more_items ds d) ≡ false
more_items-no_id no_items d h k = or_both _ false k refl
more_items-no_id (item e ds) d h k =
    or_both (has_id e) _ (or_left _ _ h) (more_items-no_id ds d (or_right (has_id e) _ h) k)

pub nothing_before : (r : Option (json.Items × List Token))
    → r ≡ parse_map (items_before no_items) r
nothing_before None = refl
nothing_before (Some p) = refl

-- ---- among the others

pub put_between : (done left : Members) (k : List ℕ) (d : Doc) → AreBelow done k
    → IsBefore k left → put k d (joined done left) ≡ joined done (member k d left)
put_between no_members no_members k d h b = refl
put_between no_members (member l e ms) k d h b = rw (less _ b) refl
put_between (member l e ms) left k d h b =
    let above : slice_cmp nat_cmp k l ≡ Greater =
    nat_list_cmp_total.antisymm k l ∙ ap ordering_reverse (less _ h.0) in
    rw above (ap (member l e) (put_between ms left k d h.1 b))

pub below_joined : (done left : Members) (k : List ℕ) → AreBelow done k → AreBelow left k
    → AreBelow (joined done left) k
below_joined no_members left k h g = g
below_joined (member l e ms) left k h g = (h.0, below_joined ms left k h.1 g)

pub joined_assoc : (a b c : Members) → joined (joined a b) c ≡ joined a (joined b c)
joined_assoc no_members b c = refl
joined_assoc (member l e ms) b c = ap (member l e) (joined_assoc ms b c)

-- a name that is not greater than the last one is less than each greater name
lower : (o : Ordering) (l k j : List ℕ) → slice_cmp nat_cmp l k ≡ o → is_lt o ≡ false
    → slice_cmp nat_cmp l j ≡ Less → slice_cmp nat_cmp k j ≡ Less
lower Less l k j e h g = cc
lower Equal l k j e h g = sym (nat_list_cmp_total.congr l k j e) ∙ g
lower Greater l k j e h g =
    nat_list_cmp_total.trans k l j (nat_list_cmp_total.antisymm k l ∙ ap ordering_reverse e) g

below_put : (o : Ordering) (ms : Members) (k j l : List ℕ) (d e : Doc) (rest : Members)
    → is_lt (slice_cmp nat_cmp k j) ≡ true → is_lt (slice_cmp nat_cmp l j) ≡ true → AreBelow ms j
    → AreBelow rest j
    → AreBelow (match_ordering o (member k d (member l e ms)) (member l d ms) (member l e rest)) j
below_put Less ms k j l d e rest low first h g = (low, (first, h))
below_put Equal ms k j l d e rest low first h g = (first, h)
below_put Greater ms k j l d e rest low first h g = (first, g)

pub put_below : (ms : Members) (k j : List ℕ) (d : Doc) → is_lt (slice_cmp nat_cmp k j) ≡ true
    → AreBelow ms j → AreBelow (put k d ms) j
put_below no_members k j d low h = (low, tt)
put_below (member l e ms) k j d low h =
    below_put (slice_cmp nat_cmp k l) ms k j l d e (put k d ms) low h.0 h.1
    (put_below ms k j d low h.1)

pub ends_still : (last : Option (List ℕ)) (ms : Members) (k : List ℕ) (d : Doc)
    → EndsAt last ms → IsNotAbove last k → EndsAt last (put k d ms)
ends_still None ms k d h above j low = absurd above
ends_still (Some l) ms k d h above j low =
    put_below ms k j d (ap is_lt (lower (slice_cmp nat_cmp l k) l k j refl above (less _ low)))
    (h j low)

-- the greatest name after a member
pub ends_then : (ms : Members) (k : List ℕ) (d : Doc) → AreBelow ms k → EndsAt (Some k) (put k d ms)
ends_then ms k d h j low = rw (put_last ms k d h) (below_more ms k j d h low)
