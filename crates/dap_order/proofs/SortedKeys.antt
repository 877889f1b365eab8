-- Places are sorted by keys that are ordered in the same way as the places.
use Rattle.std.proofs.Common.{◌≡◌, ℕ, ◌<◌, true, false, ◌&&◌, List}
use Rattle.std.proofs.Common.{[], ◌∷◌, map, length, Option, Some, None, refl, sym, ap, ◌∙◌, arith}
use Rattle.std.proofs.Common.{get_or}
use Rattle.std.specs.Prelude.{◌||◌, slice_get, nat_lt, is_none, unwrap_or}
use Rattle.std.specs.List.{All}
use Rattle.std.specs.List.Sorted.{IsSorted}
use Rattle.std.specs.Option.{option_cmp}
use Rattle.std.specs.Cmp.{IsTotalOrder, bool_cmp_total}
use Rattle.std.specs.Cmp.Lexicographic.{slice_cmp, options_total}
use Rattle.std.specs.declared.cmp.Ordering.{Ordering}
use Rattle.std.specs.declared.cmp.Ordering.TheVariants.{Less, Equal, Greater}
use Rattle.std.specs.Ordering.{is_eq, is_lt, ordering_then, nat_cmp, int_cmp, bool_cmp}
use Rattle.std.proofs.lemmas.Bool.{false_from_ne_true, both_ways, cond-true}
use Rattle.std.proofs.lemmas.Cmp.{nat_cmp_total, int_cmp_total, nat_list_cmp_total}
use Rattle.std.proofs.lemmas.Cmp.{on_total, then_total}
use Rattle.std.proofs.lemmas.List.Sorted.{sorted_far, ranks_by}
use Rattle.dap_message.specs.Message.{Sent}
use Rattle.dap_message.specs.declared.any_message.AnyMessage.{Ghosts as Form}
use Rattle.dap_order.specs.ByPlace.{less_by_place}
use Rattle.dap_order.specs.Free.{Class, class_of, class_cmp}
use Rattle.dap_order.specs.MessageOrder.{message_answers}
use Rattle.dap_order.specs.Entries.{sent_by, request_by}
use Rattle.dap_order.specs.PlacesByKey.{less_entry, AreByKey}
use Rattle.dap_order.specs.SortKeys.{SortKey, sort_key_of, entry_key}
use Rattle.dap_order.specs.declared.entries.Entry.{Entry}
use Rattle.dap_order.specs.declared.keys.Key.{Key as ReadKey}
use Rattle.dap_order.specs.declared.by_key.SortKey.{SortKey as ReadSortKey}
use Rattle.dap_order.proofs.KeyEquality.{key_cmp}
use Rattle.dap_order.proofs.Lists.{one_item}
use Rattle.dap_order.proofs.Planning.{index_map}

abbrev pub sort_cmp : ReadSortKey → ReadSortKey → Ordering
sort_cmp k l =
    ordering_then (bool_cmp k.answers_none l.answers_none)
    (ordering_then (nat_cmp k.request l.request)
    (ordering_then (key_cmp k.class l.class) (nat_cmp k.place l.place)))

key_total : IsTotalOrder key_cmp
key_total =
    then_total (on_total (λ (k : ReadKey). k.code) nat_cmp_total)
    (then_total (on_total (λ (k : ReadKey). k.number) (options_total int_cmp_total))
    (on_total (λ (k : ReadKey). k.name.now) nat_list_cmp_total))

sort_total : IsTotalOrder sort_cmp
sort_total =
    then_total (on_total (λ (k : ReadSortKey). k.answers_none) bool_cmp_total)
    (then_total (on_total (λ (k : ReadSortKey). k.request) nat_cmp_total)
    (then_total (on_total (λ (k : ReadSortKey). k.class) key_total)
    (on_total (λ (k : ReadSortKey). k.place) nat_cmp_total)))

-- The parts of a key, compared in the same way as those of a sort key.
abbrev parts_cmp : Option ℕ → Class → ℕ → Option ℕ → Class → ℕ → Ordering
parts_cmp o c i q d j =
    ordering_then (bool_cmp (is_none o) (is_none q))
    (ordering_then (nat_cmp (unwrap_or o 0) (unwrap_or q 0))
    (ordering_then (class_cmp c d) (nat_cmp i j)))

class_then : (o : Ordering) (i j : ℕ) → is_lt o || (is_eq o && nat_lt i j) ≡ true
    → is_lt (ordering_then o (nat_cmp i j)) ≡ true
class_then Less i j h = refl
class_then Equal i j h = less_there i j h
  where
    less_there : (a b : ℕ) → nat_lt a b ≡ true → is_lt (nat_cmp a b) ≡ true
    less_there a b g = ap is_lt (cond-true (nat_lt a b) Less _ g)
class_then Greater i j h = absurd (cc)

less_parts : (x y : Sent) (i j : ℕ) (o q : Option ℕ)
    → less_by_place (message_answers []) x i o y j q ≡ true
    → is_lt (parts_cmp o (class_of x) i q (class_of y) j) ≡ true
less_parts x y i j None None h = class_then (class_cmp (class_of x) (class_of y)) i j h
less_parts x y i j None (Some b) h = absurd (cc)
less_parts x y i j (Some a) None h = refl
less_parts x y i j (Some a) (Some b) h =
    ap (λ r. is_lt (ordering_then r (ordering_then (class_cmp (class_of x) (class_of y))
    (nat_cmp i j)))) (cond-true (nat_lt a b) Less _ h)

-- Sort keys are ordered in the same way as the parts of the keys of their entries.
sort_is : {M : Type 0} {form : Form M} (k l : ReadSortKey) (e f : Entry M form) (i j : ℕ) → sort_key_of k ≡ entry_key e i
    → sort_key_of l ≡ entry_key f j
    → sort_cmp k l
    ≡ parts_cmp (request_by e) (class_of (sent_by e)) i (request_by f) (class_of (sent_by f)) j
sort_is k l e f i j h g =
    ap (λ (m : SortKey). model_cmp m (sort_key_of l)) h
    ∙ ap (model_cmp (entry_key e i)) g
  where
    model_cmp : SortKey → SortKey → Ordering
    model_cmp m n =
        ordering_then (bool_cmp m.answers_none n.answers_none)
        (ordering_then (nat_cmp m.request n.request)
        (ordering_then (ordering_then (nat_cmp m.class.code n.class.code)
        (ordering_then (option_cmp int_cmp m.class.number n.class.number)
        (slice_cmp nat_cmp m.class.name n.class.name))) (nat_cmp m.place n.place)))

-- The key is that of an entry of the list, and has its place.
abbrev pub IsKeyOf : {M : Type 0} {form : Form M} → List (Entry M form) → ReadSortKey → Type 0
IsKeyOf es k =
    (e : _) × (slice_get es k.place ≡ Some e) × (sort_key_of k ≡ entry_key e k.place)

-- The places of sorted keys are in the order of the keys of their entries.
pub sorted_places : {M : Type 0} {form : Form M} (es : List (Entry M form)) (ks : List ReadSortKey) → All (IsKeyOf es) ks
    → IsSorted sort_cmp ks → AreByKey es (map (λ k. k.place) ks)
sorted_places es [] all sorted u v before high e f h g = absurd (omega arith)
sorted_places es (d ∷ ks) all sorted u v before high e f h g =
    let whole : List ReadSortKey = d ∷ ks in
    let long : length (map (λ (k : ReadSortKey). k.place) whole) ≡ length whole =
    length_of whole in
    let below : v < length whole = omega (arith, long, high) in
    let k = get_or whole u d in
    let l = get_or whole v d in
    let first : get_or (map (λ (k : ReadSortKey). k.place) whole) u 0 ≡ k.place =
    index_map (λ (k : ReadSortKey). k.place) whole u d 0 (omega arith) in
    let second : get_or (map (λ (k : ReadSortKey). k.place) whole) v 0 ≡ l.place =
    index_map (λ (k : ReadSortKey). k.place) whole v d 0 below in
    let a = all u d (omega arith) in
    let b = all v d below in
    let e_is : a.0 ≡ e = one_item es k.place a.0 e a.1 (ap (slice_get es) (sym first) ∙ h) in
    let f_is : b.0 ≡ f = one_item es l.place b.0 f b.1 (ap (slice_get es) (sym second) ∙ g) in
    let far : is_lt (sort_cmp l k) ≡ false =
    sorted_far (λ x y. is_lt (sort_cmp x y)) (ranks_by sort_total (λ x. x)) whole sorted u v d
    (omega arith) below in
    false_from_ne_true _ (λ less.
    both_ways (is_lt (sort_cmp l k)) far
    (ap is_lt (sort_is l k f e l.place k.place
    (b.2 ∙ ap (λ (z : Entry _ _). entry_key z l.place) f_is)
    (a.2 ∙ ap (λ (z : Entry _ _). entry_key z k.place) e_is))
    ∙ less_parts (sent_by f) (sent_by e) l.place k.place (request_by f) (request_by e)
    (ap (λ i. less_entry i f k.place e) (sym second)
    ∙ ap (λ i. less_entry (get_or (map (λ (k : ReadSortKey). k.place) whole) v 0) f i e) (sym first)
    ∙ less)))
  where
    length_of : (xs : List ReadSortKey)
        → length (map (λ (k : ReadSortKey). k.place) xs) ≡ length xs
    length_of [] = refl
    length_of (x ∷ xs) = omega (arith, length_of xs)
