-- Joining a joined recording again gives the same text.
use Rattle.std.proofs.Common.{ℕ, ◌+◌, Bool, true, false, cond, List, [], ◌∷◌, ◌++◌, map}
use Rattle.std.proofs.Common.{length, refl, sym, ◌∙◌, ap, subst, arith}
use Rattle.std.specs.List.{flat_map, AllByRecursion}
use Rattle.dap_recording.specs.Recording.{recording_text}
use Rattle.dap_input.specs.Limits.{AreSound}
use Rattle.dap_input.specs.declared.limits.Limits.{Limits}
use Rattle.dap_normalise.specs.Accepting.{Payload}
use Rattle.dap_normalise.specs.RecordTexts.{FitRecords}
use Rattle.dap_join.specs.Outputs.{AreItems, IsPart, Item, Part, output, stopped, other}
use Rattle.dap_join.specs.Joined.{Group, first_segment, groups_of, joined, later_segments, segments}
use Rattle.dap_join.specs.Joined.{starts}
use Rattle.dap_join.specs.Joining.{IsSplit, Joins, numbers_of, payloads}
use Rattle.dap_mask.specs.declared.joining.Joining.{Joining}
use Rattle.dap_join.proofs.Again.{again, all_held, group_item, joined_again, kept_items}
use Rattle.dap_join.proofs.Again.{kept_of, renumber, renumbered}
use Rattle.dap_join.proofs.Goodness.{AreGood, good_after, group_right}
use Rattle.dap_join.proofs.OneJoined.{joined_is_recording}

-- Each item has the part of its payload.
abbrev AreRight : List Item → Type 0
AreRight items = AllByRecursion (λ (i : Item). IsPart i.held i.part) items

items_right : (n : ℕ) (records : List Payload) (items : List Item) → AreItems n records items
    → AreRight items
items_right n [] [] all = tt
items_right n [] (i ∷ items) all = absurd all
items_right n (held ∷ records) [] all = absurd all
items_right n (held ∷ records) (i ∷ items) all = (
  subst (λ h. IsPart h i.part) (sym all.1) all.2,
  items_right (n + 1) records items all.3,
)

both_right : (is js : List Item) → AreRight is → AreRight js → AreRight (is ++ js)
both_right [] js one two = two
both_right (i ∷ is) js one two = (one.0, both_right is js one.1 two)

kept_right_at : (i : Item) (p : Part) (items : List Item) → IsPart i.held i.part → AreRight items
    → AreRight (kept_of i p ++ items)
kept_right_at i (output o) items one all = all
kept_right_at i stopped items one all = (one, all)
kept_right_at i other items one all = (one, all)

kept_right : (items : List Item) → AreRight items → AreRight (kept_items items)
kept_right [] all = tt
kept_right (i ∷ items) all =
    kept_right_at i i.part (kept_items items) all.0 (kept_right items all.1)

groups_right : (gs : List Group) → AreGood gs → AreRight (map group_item gs)
groups_right [] all = tt
groups_right (g ∷ gs) all = (group_right g all.0, groups_right gs all.1)

again_right : (items : List Item) → AreRight items → AreRight (again items)
again_right items all =
    both_right (kept_items items) (map group_item (groups_of items)) (kept_right items all)
    (groups_right (groups_of items) (good_after items [] all tt))

all_right : (segs : List (List Item)) → AllByRecursion AreRight segs
    → AreRight (flat_map again segs)
all_right [] all = tt
all_right (seg ∷ segs) all =
    both_right (again seg) (flat_map again segs) (again_right seg all.0) (all_right segs all.1)

module _ (joining : Joining) where
  first_at : (i : Item) (b : Bool) (rest : List Item) → IsPart i.held i.part → AreRight rest
      → AreRight (cond b [] (i ∷ rest))
  first_at i true rest one all = tt
  first_at i false rest one all = (one, all)

  first_right : (items : List Item) → AreRight items → AreRight (first_segment joining items)
  first_right [] all = tt
  first_right (i ∷ items) all =
      first_at i (starts joining i.part) (first_segment joining items) all.0
      (first_right items all.1)

  later_at : (i : Item) (b : Bool) (first : List Item) (later : List (List Item))
      → IsPart i.held i.part → AreRight first → AllByRecursion AreRight later
      → AllByRecursion AreRight (cond b ((i ∷ first) ∷ later) later)
  later_at i true first later one rest all = ((one, rest), all)
  later_at i false first later one rest all = all

  later_right : (items : List Item) → AreRight items
      → AllByRecursion AreRight (later_segments joining items)
  later_right [] all = tt
  later_right (i ∷ items) all =
      later_at i (starts joining i.part) (first_segment joining items)
      (later_segments joining items) all.0 (first_right items all.1) (later_right items all.1)

module _ (limits : Limits) (sound : AreSound limits) (joining : Joining)
    (bytes written numbers : List ℕ) (joins : Joins limits joining bytes written numbers) where
  -- The joined recording has these items.
  abbrev pub items_again : List Item
  items_again = renumber 1 (flat_map again (segments joining joins.items))

  pub split_again : IsSplit limits written items_again
  split_again =
      let items = joins.items in
      let split = joins.split in
      let all = items_right 1 split.records items split.are_items in
      let right : AreRight (flat_map again (segments joining items)) =
      all_right (segments joining items)
      (first_right joining items all, later_right joining items all) in
      let fits = joins.fits in
      let whole = fits.whole in
      record {
        short = omega (arith, whole, ap length joins.text_is);
        records = payloads (joined joining items);
        recording = joined_is_recording limits sound joining bytes written numbers joins;
        are_items = subst (λ rs. AreItems 1 rs items_again) (all_held (segments joining items))
            (renumbered 1 (flat_map again (segments joining items)) right);
      }

  pub joins_again : (others : List ℕ) × Joins limits joining written written others
  joins_again =
      let same = joined_again joining joins.items in (
        numbers_of (joined joining items_again),
        record {
          items = items_again;
          split = split_again;
          text_is = joins.text_is ∙ ap recording_text (sym same);
          numbers_are = refl;
          fits = subst (FitRecords limits) (sym same) joins.fits;
        },
      )
