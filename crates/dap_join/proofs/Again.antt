-- Joining a joined recording again does not change its text.
use Rattle.std.proofs.Common.{◌≡◌, ℕ, ◌+◌, Bool, true, false, cond, List, [], ◌∷◌, ◌++◌, map}
use Rattle.std.proofs.Common.{length, refl, sym, ◌∙◌, ap, ap₂, subst, append_assoc, append-nil}
use Rattle.std.proofs.Common.{arith}
use Rattle.std.proofs.Common.{true≢false}
use Rattle.std.proofs.lemmas.List.{map-append}
use Rattle.std.specs.List.{flat_map, AllByRecursion}
use Rattle.dap_normalise.specs.Accepting.{Payload}
use Rattle.dap_join.specs.Outputs.{AreItems, IsPart, Item, Output, Part, output, stopped, other}
use Rattle.dap_join.specs.Joined.{Group, add_part, first_segment, gathered, group_of}
use Rattle.dap_join.specs.Joined.{groups_after, groups_of, joined, joined_output, kept}
use Rattle.dap_join.specs.Joined.{later_segments, others, segments, starts}
use Rattle.dap_join.specs.Joining.{payloads}
use Rattle.dap_mask.specs.declared.joining.Joining.{Joining}
use Rattle.dap_mask.specs.declared.joining.Joining.TheVariants.{Whole, PerStop}
use Rattle.dap_join.proofs.JoiningFacts.{groups_after-append, others-append, starts_no_output}
use Rattle.dap_join.proofs.SortedGroups.{AreBelow, AreSorted, added_last, below_one_more}
use Rattle.dap_join.proofs.SortedGroups.{sorted_after}
use Rattle.dap_join.proofs.Written.{payloads-append}

-- ---- the items of a joined segment

abbrev pub helds : List Item → List Payload
helds items = map (λ (i : Item). i.held) items

abbrev pub output_in_group : Group → Output
output_in_group g = record { seq = g.seq; category = g.category; text = g.text }

-- The item of joined output.
abbrev pub group_item : Group → Item
group_item g = record {
  number = g.number;
  held = (joined_output g).held;
  part = output (output_in_group g);
}

abbrev pub kept_of : Item → Part → List Item
kept_of i (output o) = []
kept_of i stopped = i ∷ []
kept_of i other = i ∷ []

abbrev pub kept_items : List Item → List Item
kept_items items = flat_map (λ (i : Item). kept_of i i.part) items

abbrev pub again : List Item → List Item
again items = kept_items items ++ map group_item (groups_of items)

-- The items with other numbers.
abbrev pub renumber : ℕ → List Item → List Item
renumber n [] = []
renumber n (i ∷ items) = record { number = n; held = i.held; part = i.part }
    ∷ renumber (n + 1) items

helds-append : (is js : List Item) → helds (is ++ js) ≡ helds is ++ helds js
helds-append is js = map-append (λ (i : Item). i.held) is js

kept_one : (i : Item) (p : Part) → helds (kept_of i p) ≡ payloads (kept i.number i.held p)
kept_one i (output o) = refl
kept_one i stopped = refl
kept_one i other = refl

pub kept_held : (items : List Item) → helds (kept_items items) ≡ payloads (others items)
kept_held [] = refl
kept_held (i ∷ items) =
    helds-append (kept_of i i.part) (kept_items items)
    ∙ ap₂ (λ a b. a ++ b) (kept_one i i.part) (kept_held items)
    ∙ sym (payloads-append (kept i.number i.held i.part) (others items))

groups_held : (gs : List Group) → helds (map group_item gs) ≡ payloads (map joined_output gs)
groups_held [] = refl
groups_held (g ∷ gs) = ap (λ hs. (joined_output g).held ∷ hs) (groups_held gs)

pub held_again : (items : List Item) → helds (again items) ≡ payloads (gathered items)
held_again items =
    helds-append (kept_items items) (map group_item (groups_of items))
    ∙ ap₂ (λ a b. a ++ b) (kept_held items) (groups_held (groups_of items))
    ∙ sym (payloads-append (others items) (map joined_output (groups_of items)))

pub all_held : (segs : List (List Item))
    → helds (flat_map again segs) ≡ payloads (flat_map gathered segs)
all_held [] = refl
all_held (seg ∷ segs) =
    helds-append (again seg) (flat_map again segs)
    ∙ ap₂ (λ a b. a ++ b) (held_again seg) (all_held segs)
    ∙ sym (payloads-append (gathered seg) (flat_map gathered segs))

-- ---- other numbers

pub renumber-append : (n : ℕ) (is js : List Item)
    → renumber n (is ++ js) ≡ renumber n is ++ renumber (n + length is) js
renumber-append n [] js =
    let same : n ≡ n + 0 = omega arith in ap (λ m. renumber m js) same
renumber-append n (i ∷ is) js =
    let same : (n + 1) + length is ≡ n + length (i ∷ is) = omega arith in
    ap (λ ks. record { number = n; held = i.held; part = i.part } ∷ ks)
    (renumber-append (n + 1) is js ∙ ap (λ m. renumber (n + 1) is ++ renumber m js) same)

pub helds-renumber : (n : ℕ) (items : List Item) → helds (renumber n items) ≡ helds items
helds-renumber n [] = refl
helds-renumber n (i ∷ items) = ap (λ hs. i.held ∷ hs) (helds-renumber (n + 1) items)

pub renumbered : (n : ℕ) (items : List Item)
    → AllByRecursion (λ (i : Item). IsPart i.held i.part) items
    → AreItems n (helds items) (renumber n items)
renumbered n [] all = tt
renumbered n (i ∷ items) all = (refl, refl, all.0, renumbered (n + 1) items all.1)

-- ---- items that are not output

abbrev IsKept : Part → Type 0
IsKept (output o) = ⊥
IsKept stopped = Unit {0}
IsKept other = Unit {0}

abbrev AreKept : List Item → Type 0
AreKept items = AllByRecursion (λ (i : Item). IsKept i.part) items

kept_first : (i : Item) (p : Part) (items : List Item) → i.part ≡ p → AreKept items
    → AreKept (kept_of i p ++ items)
kept_first i (output o) items is all = all
kept_first i stopped items is all = (rw is tt, all)
kept_first i other items is all = (rw is tt, all)

all_kept : (items : List Item) → AreKept (kept_items items)
all_kept [] = tt
all_kept (i ∷ items) = kept_first i i.part (kept_items items) refl (all_kept items)

kept_renumbered : (n : ℕ) (items : List Item) → AreKept items → AreKept (renumber n items)
kept_renumbered n [] all = tt
kept_renumbered n (i ∷ items) all = (all.0, kept_renumbered (n + 1) items all.1)

no_group : (i : Item) (p : Part) (items : List Item) (gs : List Group) → IsKept p
    → groups_after gs items ≡ gs → groups_after (add_part i.number p gs) items ≡ gs
no_group i (output o) items gs is rest = absurd is
no_group i stopped items gs is rest = rest
no_group i other items gs is rest = rest

no_groups : (items : List Item) (gs : List Group) → AreKept items → groups_after gs items ≡ gs
no_groups [] gs all = refl
no_groups (i ∷ items) gs all = no_group i i.part items gs all.0 (no_groups items gs all.1)

one_other : (i : Item) (p : Part) → IsKept p → payloads (kept i.number i.held p) ≡ i.held ∷ []
one_other i (output o) is = absurd is
one_other i stopped is = refl
one_other i other is = refl

all_others : (items : List Item) → AreKept items → payloads (others items) ≡ helds items
all_others [] all = refl
all_others (i ∷ items) all =
    payloads-append (kept i.number i.held i.part) (others items)
    ∙ ap₂ (λ a b. a ++ b) (one_other i i.part all.0) (all_others items all.1)

-- ---- the items of groups

abbrev pub numbered : ℕ → List Group → List Group
numbered n [] = []
numbered n (g ∷ gs) = group_of n (output_in_group g) ∷ numbered (n + 1) gs

no_others : (n : ℕ) (gs : List Group) → others (renumber n (map group_item gs)) ≡ []
no_others n [] = refl
no_others n (g ∷ gs) = no_others (n + 1) gs

groups_again : (n : ℕ) (gs hs : List Group) → AreBelow gs hs → AreSorted hs
    → groups_after gs (renumber n (map group_item hs)) ≡ gs ++ numbered n hs
groups_again n gs [] below sorted = sym (append-nil gs)
groups_again n gs (h ∷ hs) below sorted =
    let new = group_of n (output_in_group h) in
    ap (λ ks. groups_after ks (renumber (n + 1) (map group_item hs)))
    (added_last n (output_in_group h) gs h hs refl below)
    ∙ groups_again (n + 1) (gs ++ new ∷ []) hs
    (below_one_more gs new h hs refl below sorted.0) sorted.1
    ∙ append_assoc gs (new ∷ []) (numbered (n + 1) hs)

same_outputs : (n : ℕ) (gs : List Group)
    → payloads (map joined_output (numbered n gs)) ≡ payloads (map joined_output gs)
same_outputs n [] = refl
same_outputs n (g ∷ gs) = ap (λ hs. (joined_output g).held ∷ hs) (same_outputs (n + 1) gs)

-- ---- a joined segment stays as it is

pub others_kept : (n : ℕ) (items : List Item)
    → payloads (others (renumber n (again items))) ≡ helds (kept_items items)
others_kept n items =
    let gs = groups_of items in
    let m = n + length (kept_items items) in
    let front = renumber n (kept_items items) in
    let back = renumber m (map group_item gs) in
    ap (λ is. payloads (others is)) (renumber-append n (kept_items items) (map group_item gs))
    ∙ ap payloads (others-append front back ∙ ap (λ ks. others front ++ ks) (no_others m gs)
    ∙ append-nil (others front))
    ∙ all_others front (kept_renumbered n (kept_items items) (all_kept items))
    ∙ helds-renumber n (kept_items items)

pub groups_numbered : (n : ℕ) (items : List Item) → groups_of (renumber n (again items))
    ≡ numbered (n + length (kept_items items)) (groups_of items)
groups_numbered n items =
    let gs = groups_of items in
    let m = n + length (kept_items items) in
    let front = renumber n (kept_items items) in
    let back = renumber m (map group_item gs) in
    ap groups_of (renumber-append n (kept_items items) (map group_item gs))
    ∙ groups_after-append [] front back
    ∙ ap (λ ks. groups_after ks back)
    (no_groups front [] (kept_renumbered n (kept_items items) (all_kept items)))
    ∙ groups_again m [] gs tt (sorted_after items [] tt)

gathered_again : (n : ℕ) (items : List Item)
    → payloads (gathered (renumber n (again items))) ≡ helds (again items)
gathered_again n items =
    let gs = groups_of items in
    let seg = renumber n (again items) in
    payloads-append (others seg) (map joined_output (groups_of seg))
    ∙ ap₂ (λ a b. a ++ b) (others_kept n items)
    (ap (λ ks. payloads (map joined_output ks)) (groups_numbered n items)
    ∙ same_outputs (n + length (kept_items items)) gs ∙ sym (groups_held gs))
    ∙ sym (helds-append (kept_items items) (map group_item gs))

-- ---- segments

module _ (joining : Joining) where
  abbrev pub NoStart : List Item → Type 0
  NoStart items = AllByRecursion (λ (i : Item). starts joining i.part ≡ false) items

  -- The first item starts a segment, and no other one.
  abbrev pub StartsOnce : List Item → Type 0
  StartsOnce [] = ⊥
  StartsOnce (i ∷ items) = (starts joining i.part ≡ true) × NoStart items

  abbrev pub AreLater : List (List Item) → Type 0
  AreLater segs = AllByRecursion StartsOnce segs

  first_at : (i : Item) (b : Bool) (rest : List Item) → starts joining i.part ≡ b → NoStart rest
      → NoStart (cond b [] (i ∷ rest))
  first_at i true rest is all = tt
  first_at i false rest is all = (is, all)

  pub first_is : (items : List Item) → NoStart (first_segment joining items)
  first_is [] = tt
  first_is (i ∷ items) =
      first_at i (starts joining i.part) (first_segment joining items) refl (first_is items)

  later_at : (i : Item) (b : Bool) (first : List Item) (later : List (List Item))
      → starts joining i.part ≡ b → NoStart first → AreLater later
      → AreLater (cond b ((i ∷ first) ∷ later) later)
  later_at i true first later is none all = ((is, none), all)
  later_at i false first later is none all = all

  pub later_are : (items : List Item) → AreLater (later_segments joining items)
  later_are [] = tt
  later_are (i ∷ items) =
      later_at i (starts joining i.part) (first_segment joining items)
      (later_segments joining items) refl (first_is items) (later_are items)

  none_both : (is js : List Item) → NoStart is → NoStart js → NoStart (is ++ js)
  none_both [] js one two = two
  none_both (i ∷ is) js one two = (one.0, none_both is js one.1 two)

  none_kept : (i : Item) (p : Part) (items : List Item) → starts joining i.part ≡ false
      → NoStart items → NoStart (kept_of i p ++ items)
  none_kept i (output o) items none all = all
  none_kept i stopped items none all = (none, all)
  none_kept i other items none all = (none, all)

  none_among : (items : List Item) → NoStart items → NoStart (kept_items items)
  none_among [] all = tt
  none_among (i ∷ items) all =
      none_kept i i.part (kept_items items) all.0 (none_among items all.1)

  none_in_groups : (gs : List Group) → NoStart (map group_item gs)
  none_in_groups [] = tt
  none_in_groups (g ∷ gs) =
      (starts_no_output joining (output_in_group g), none_in_groups gs)

  pub none_again : (items : List Item) → NoStart items → NoStart (again items)
  none_again items all =
      none_both (kept_items items) (map group_item (groups_of items)) (none_among items all)
      (none_in_groups (groups_of items))

  pub none_renumbered : (n : ℕ) (items : List Item) → NoStart items → NoStart (renumber n items)
  none_renumbered n [] all = tt
  none_renumbered n (i ∷ items) all = (all.0, none_renumbered (n + 1) items all.1)

  -- The items before others that start with a segment.
  pub first_before : (is js : List Item) → NoStart is
      → first_segment joining (is ++ js) ≡ is ++ first_segment joining js
  first_before [] js none = refl
  first_before (i ∷ is) js none = rw none.0 (ap (λ ks. i ∷ ks) (first_before is js none.1))

  pub later_after : (is js : List Item) → NoStart is
      → later_segments joining (is ++ js) ≡ later_segments joining js
  later_after [] js none = refl
  later_after (i ∷ is) js none = rw none.0 (later_after is js none.1)

  module _ (js : List Item) (bounded : first_segment joining js ≡ []) where
    rest_is : joined joining js ≡ flat_map gathered (later_segments joining js)
    rest_is = ap (λ ks. gathered ks ++ flat_map gathered (later_segments joining js)) bounded

    joined_first : (is : List Item) → NoStart is
        → joined joining (is ++ js) ≡ gathered is ++ joined joining js
    joined_first is none =
        ap₂ (λ a b. gathered a ++ flat_map gathered b)
        (first_before is js none ∙ ap (λ ks. is ++ ks) bounded ∙ append-nil is)
        (later_after is js none)
        ∙ ap (λ ks. gathered is ++ ks) (sym rest_is)

    joined_later : (is : List Item) → StartsOnce is
        → (joined joining (is ++ js) ≡ gathered is ++ joined joining js)
        × (first_segment joining (is ++ js) ≡ [])
    joined_later [] once = absurd once
    joined_later (i ∷ is) once = (
      rw once.0
          (ap₂ (λ a b. gathered (i ∷ a) ++ flat_map gathered b)
          (first_before is js once.1 ∙ ap (λ ks. is ++ ks) bounded ∙ append-nil is)
          (later_after is js once.1)
          ∙ ap (λ ks. gathered (i ∷ is) ++ ks) (sym rest_is)),
      rw once.0 refl,
    )

starts_kept : (joining : Joining) (i : Item) (p : Part) → starts joining p ≡ true
    → kept_of i p ≡ i ∷ []
starts_kept Whole i p is = absurd (true≢false (sym is))
starts_kept PerStop i (output o) is = absurd (true≢false (sym is))
starts_kept PerStop i stopped is = refl
starts_kept PerStop i other is = absurd (true≢false (sym is))

pub once_again : (joining : Joining) (n : ℕ) (items : List Item) → StartsOnce joining items
    → StartsOnce joining (renumber n (again items))
once_again joining n [] once = absurd once
once_again joining n (i ∷ items) once =
    let gs = groups_of (i ∷ items) in
    let is : again (i ∷ items) ≡ i ∷ (kept_items items ++ map group_item gs) =
    ap (λ ks. (ks ++ kept_items items) ++ map group_item gs)
    (starts_kept joining i i.part once.0) in
    subst (λ ks. StartsOnce joining (renumber n ks)) (sym is) (
      once.0,
      none_renumbered joining (n + 1) (kept_items items ++ map group_item gs)
          (none_both joining (kept_items items) (map group_item gs)
          (none_among joining items once.1) (none_in_groups joining gs)),
    )

pub later_again : (joining : Joining) (n : ℕ) (segs : List (List Item)) → AreLater joining segs
    → (payloads (joined joining (renumber n (flat_map again segs)))
    ≡ helds (flat_map again segs))
    × (first_segment joining (renumber n (flat_map again segs)) ≡ [])
later_again joining n [] all = (refl, refl)
later_again joining n (seg ∷ segs) all =
    let m = n + length (again seg) in
    let one = renumber n (again seg) in
    let more = renumber m (flat_map again segs) in
    let rest = later_again joining m segs all.1 in
    let split : renumber n (again seg ++ flat_map again segs) ≡ one ++ more =
    renumber-append n (again seg) (flat_map again segs) in
    let both = joined_later joining more rest.1 one (once_again joining n seg all.0) in (
      ap (λ is. payloads (joined joining is)) split ∙ ap payloads both.0
          ∙ payloads-append (gathered one) (joined joining more)
          ∙ ap₂ (λ a b. a ++ b) (gathered_again n seg) rest.0
          ∙ sym (helds-append (again seg) (flat_map again segs)),
      ap (first_segment joining) split ∙ both.1,
    )

-- The items of the joined recording have the joined records again.
pub joined_again : (joining : Joining) (items : List Item)
    → payloads (joined joining (renumber 1 (flat_map again (segments joining items))))
    ≡ payloads (joined joining items)
joined_again joining items =
    let first = first_segment joining items in
    let segs = later_segments joining items in
    let m = 1 + length (again first) in
    let one = renumber 1 (again first) in
    let more = renumber m (flat_map again segs) in
    let rest = later_again joining m segs (later_are joining items) in
    let none : NoStart joining one =
    none_renumbered joining 1 (again first) (none_again joining first (first_is joining items)) in
    ap (λ is. payloads (joined joining is))
    (renumber-append 1 (again first) (flat_map again segs))
    ∙ ap payloads (joined_first joining more rest.1 one none)
    ∙ payloads-append (gathered one) (joined joining more)
    ∙ ap₂ (λ a b. a ++ b) (gathered_again 1 first) rest.0
    ∙ sym (helds-append (again first) (flat_map again segs))
    ∙ all_held (first ∷ segs)
