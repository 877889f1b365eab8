-- Groups are in the strict byte order of their categories.
use Rattle.std.proofs.Common.{◌≡◌, ℕ, Bool, true, false, cond, List, [], ◌∷◌, ◌++◌, bytes_eq}
use Rattle.std.proofs.Common.{Ordering, Less, Equal, Greater, nat_cmp, refl, sym, ◌∙◌, ap}
use Rattle.std.proofs.lemmas.Cmp.{nat_list_cmp_total}
use Rattle.std.proofs.lemmas.Map.Text.{is_eq-slice_cmp}
use Rattle.std.specs.Cmp.Lexicographic.{slice_cmp}
use Rattle.std.specs.Ordering.{is_eq, match_ordering, ordering_reverse}
use Rattle.dap_join.specs.Outputs.{Item, Output, Part, output, stopped, other}
use Rattle.dap_join.specs.Joined.{Group, add_output, add_part, append_text, group_of, groups_after}
use Rattle.dap_join.specs.Joined.{has_category, insert_group}

-- The category is less than that of each group.
abbrev pub IsBelow : List ℕ → List Group → Type 0
IsBelow k [] = Unit {0}
IsBelow k (g ∷ gs) = (slice_cmp nat_cmp k g.category ≡ Less) × IsBelow k gs

abbrev pub AreSorted : List Group → Type 0
AreSorted [] = Unit {0}
AreSorted (g ∷ gs) = IsBelow g.category gs × AreSorted gs

-- Each of the first groups has a lower category than each later group.
abbrev pub AreBelow : List Group → List Group → Type 0
AreBelow [] hs = Unit {0}
AreBelow (g ∷ gs) hs = IsBelow g.category hs × AreBelow gs hs

later_is_greater : (k l : List ℕ) → slice_cmp nat_cmp k l ≡ Less → slice_cmp nat_cmp l k ≡ Greater
later_is_greater k l low = nat_list_cmp_total.antisymm l k ∙ ap ordering_reverse low

greater_is_later : (k l : List ℕ) → slice_cmp nat_cmp k l ≡ Greater → slice_cmp nat_cmp l k ≡ Less
greater_is_later k l high = nat_list_cmp_total.antisymm l k ∙ ap ordering_reverse high

below_lower : (k l : List ℕ) (gs : List Group) → slice_cmp nat_cmp k l ≡ Less → IsBelow l gs
    → IsBelow k gs
below_lower k l [] low below = tt
below_lower k l (g ∷ gs) low below = (
  nat_list_cmp_total.trans k l g.category low below.0,
  below_lower k l gs low below.1,
)

-- ---- after an output is joined

below_inserted_at : (k : List ℕ) (new g : Group) (gs after : List Group) (o : Ordering)
    → slice_cmp nat_cmp k new.category ≡ Less → IsBelow k (g ∷ gs) → IsBelow k after
    → IsBelow k (match_ordering o (new ∷ g ∷ gs) (g ∷ gs) (g ∷ after))
below_inserted_at k new g gs after Less low below rest = (low, below)
below_inserted_at k new g gs after Equal low below rest = below
below_inserted_at k new g gs after Greater low below rest = (below.0, rest)

below_inserted : (k : List ℕ) (new : Group) (gs : List Group)
    → slice_cmp nat_cmp k new.category ≡ Less → IsBelow k gs → IsBelow k (insert_group new gs)
below_inserted k new [] low below = (low, tt)
below_inserted k new (g ∷ gs) low below =
    below_inserted_at k new g gs (insert_group new gs)
    (slice_cmp nat_cmp new.category g.category) low below
    (below_inserted k new gs low below.1)

sorted_inserted_at : (new g : Group) (gs after : List Group) (o : Ordering)
    → slice_cmp nat_cmp new.category g.category ≡ o → AreSorted (g ∷ gs) → AreSorted after
    → (slice_cmp nat_cmp g.category new.category ≡ Less → IsBelow g.category after)
    → AreSorted (match_ordering o (new ∷ g ∷ gs) (g ∷ gs) (g ∷ after))
sorted_inserted_at new g gs after Less is was rest below =
    ((is, below_lower new.category g.category gs is was.0), was)
sorted_inserted_at new g gs after Equal is was rest below = was
sorted_inserted_at new g gs after Greater is was rest below =
    (below (greater_is_later new.category g.category is), rest)

sorted_inserted : (new : Group) (gs : List Group) → AreSorted gs → AreSorted (insert_group new gs)
sorted_inserted new [] was = (tt, tt)
sorted_inserted new (g ∷ gs) was =
    sorted_inserted_at new g gs (insert_group new gs)
    (slice_cmp nat_cmp new.category g.category) refl was (sorted_inserted new gs was.1)
    (λ low. below_inserted g.category new gs low was.0)

below_appended : (k category s : List ℕ) (gs : List Group) → IsBelow k gs
    → IsBelow k (append_text category s gs)
below_appended k category s [] below = tt
below_appended k category s (g ∷ gs) below =
    by_test (bytes_eq category g.category) (below_appended k category s gs below.1)
  where
    by_test : (b : Bool) → IsBelow k (append_text category s gs)
        → IsBelow k (cond b (record {
          number = g.number;
          seq = g.seq;
          category = g.category;
          text = g.text ++ s;
        } ∷ gs) (g ∷ append_text category s gs))
    by_test true rest = below
    by_test false rest = (below.0, rest)

sorted_appended : (category s : List ℕ) (gs : List Group) → AreSorted gs
    → AreSorted (append_text category s gs)
sorted_appended category s [] was = tt
sorted_appended category s (g ∷ gs) was =
    by_test (bytes_eq category g.category) (sorted_appended category s gs was.1)
  where
    by_test : (b : Bool) → AreSorted (append_text category s gs)
        → AreSorted (cond b (record {
          number = g.number;
          seq = g.seq;
          category = g.category;
          text = g.text ++ s;
        } ∷ gs) (g ∷ append_text category s gs))
    by_test true rest = was
    by_test false rest = (below_appended g.category category s gs was.0, rest)

sorted_added : (n : ℕ) (part : Part) (gs : List Group) → AreSorted gs
    → AreSorted (add_part n part gs)
sorted_added n (output o) gs was = by_test (has_category o.category gs)
  where
    by_test : (b : Bool) → AreSorted (cond b (append_text o.category o.text gs)
        (insert_group (group_of n o) gs))
    by_test true = sorted_appended o.category o.text gs was
    by_test false = sorted_inserted (group_of n o) gs was
sorted_added n stopped gs was = was
sorted_added n other gs was = was

pub sorted_after : (items : List Item) (gs : List Group) → AreSorted gs
    → AreSorted (groups_after gs items)
sorted_after [] gs was = was
sorted_after (item ∷ items) gs was =
    sorted_after items (add_part item.number item.part gs)
    (sorted_added item.number item.part gs was)

-- ---- output of a greater category

absent : (gs : List Group) (k : List ℕ) (h : Group) (hs : List Group) → AreBelow gs (h ∷ hs)
    → has_category h.category gs ≡ false
absent [] k h hs below = refl
absent (g ∷ gs) k h hs below =
    let apart : bytes_eq h.category g.category ≡ false =
    sym (is_eq-slice_cmp h.category g.category)
    ∙ ap is_eq (later_is_greater g.category h.category below.0.0) in
    rw apart (absent gs k h hs below.1)

inserted_last : (gs : List Group) (new h : Group) (hs : List Group) → new.category ≡ h.category
    → AreBelow gs (h ∷ hs) → insert_group new gs ≡ gs ++ new ∷ []
inserted_last [] new h hs same below = refl
inserted_last (g ∷ gs) new h hs same below =
    let high : slice_cmp nat_cmp new.category g.category ≡ Greater =
    ap (λ k. slice_cmp nat_cmp k g.category) same
    ∙ later_is_greater g.category h.category below.0.0 in
    rw high (ap (λ ks. g ∷ ks) (inserted_last gs new h hs same below.1))

pub added_last : (n : ℕ) (o : Output) (gs : List Group) (h : Group) (hs : List Group)
    → o.category ≡ h.category → AreBelow gs (h ∷ hs)
    → add_output n o gs ≡ gs ++ group_of n o ∷ []
added_last n o gs h hs same below =
    let none : has_category o.category gs ≡ false =
    ap (λ k. has_category k gs) same ∙ absent gs h.category h hs below in
    rw none (inserted_last gs (group_of n o) h hs same below)

-- The first groups and one more are below the rest.
pub below_one_more : (gs : List Group) (new h : Group) (hs : List Group)
    → new.category ≡ h.category → AreBelow gs (h ∷ hs) → IsBelow h.category hs
    → AreBelow (gs ++ new ∷ []) hs
below_one_more [] new h hs same below rest = (rw same rest, tt)
below_one_more (g ∷ gs) new h hs same below rest =
    (below.0.1, below_one_more gs new h hs same below.1 rest)
