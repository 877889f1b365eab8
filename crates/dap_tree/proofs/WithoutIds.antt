-- A document and the same document with its ids as integers.
use Rattle.std.proofs.Common.{◌≡◌, suc, max, Bool, true, false, not, refl, sym, ap, ap₂, ◌∙◌, leb}
use Rattle.serde_json.specs.Data as json
use Rattle.dap_tree.specs.Doc.{Doc, null, boolean, whole, text, list, object, id, Items, no_items}
use Rattle.dap_tree.specs.Doc.{item, Members, no_members, member, depth, items_depth, members_depth}
use Rattle.dap_tree.specs.Doc.{all_in_range, items_in_range, members_in_range, has_id}
use Rattle.dap_tree.specs.Doc.{items_have_id, members_have_id, is_sound, is_plain, all_plain}
use Rattle.dap_tree.specs.Ids.{without_ids, items_without_ids, members_without_ids, ids_in_range}
use Rattle.dap_tree.specs.Ids.{items_ids_in_range, members_ids_in_range}
use Rattle.dap_tree.specs.Json.{data_of, items_data, members_data}
use Rattle.dap_tree.proofs.Booleans.{and_left, and_right, and_both, or_left, or_right, or_both}
use Rattle.dap_tree.proofs.Depths.{plain_is}

not_true : (b : Bool) → not b ≡ true → b ≡ false
not_true true h = cc
not_true false h = refl

-- replacing ids by integers does not change a document without ids
mutual
  pub without_no_id : (d : Doc) → has_id d ≡ false → without_ids d ≡ d
  without_no_id null h = refl
  without_no_id (boolean b) h = refl
  without_no_id (whole z) h = refl
  without_no_id (text s) h = refl
  without_no_id (list ds) h = ap list (items_without_no_id ds h)
  without_no_id (object ms) h = ap object (members_without_no_id ms h)
  without_no_id (id s z) h = cc

  items_without_no_id : (ds : Items) → items_have_id ds ≡ false → items_without_ids ds ≡ ds
  items_without_no_id no_items h = refl
  items_without_no_id (item d ds) h =
      ap₂ item (without_no_id d (or_left _ _ h)) (items_without_no_id ds (or_right (has_id d) _ h))

  members_without_no_id : (ms : Members) → members_have_id ms ≡ false → members_without_ids ms ≡ ms
  members_without_no_id no_members h = refl
  members_without_no_id (member k d ms) h =
      ap₂ (member k) (without_no_id d (or_left _ _ h))
      (members_without_no_id ms (or_right (has_id d) _ h))

mutual
  pub no_id_without : (d : Doc) → has_id (without_ids d) ≡ false
  no_id_without null = refl
  no_id_without (boolean b) = refl
  no_id_without (whole z) = refl
  no_id_without (text s) = refl
  no_id_without (list ds) = items_no_id_without ds
  no_id_without (object ms) = members_no_id_without ms
  no_id_without (id s z) = refl

  items_no_id_without : (ds : Items) → items_have_id (items_without_ids ds) ≡ false
  items_no_id_without no_items = refl
  items_no_id_without (item d ds) = or_both _ _ (no_id_without d) (items_no_id_without ds)

  members_no_id_without : (ms : Members) → members_have_id (members_without_ids ms) ≡ false
  members_no_id_without no_members = refl
  members_no_id_without (member k d ms) = or_both _ _ (no_id_without d) (members_no_id_without ms)

-- it is written as the same value
mutual
  pub data-without : (d : Doc) → data_of (without_ids d) ≡ data_of d
  data-without null = refl
  data-without (boolean b) = refl
  data-without (whole z) = refl
  data-without (text s) = refl
  data-without (list ds) = ap json.array (items_data-without ds)
  data-without (object ms) = ap json.object (members_data-without ms)
  data-without (id s z) = refl

  items_data-without : (ds : Items) → items_data (items_without_ids ds) ≡ items_data ds
  items_data-without no_items = refl
  items_data-without (item d ds) = ap₂ json.item (data-without d) (items_data-without ds)

  members_data-without : (ms : Members) → members_data (members_without_ids ms) ≡ members_data ms
  members_data-without no_members = refl
  members_data-without (member k d ms) =
      ap₂ (json.member k) (data-without d) (members_data-without ms)

-- ---- soundness

mutual
  depth-without : (d : Doc) → depth (without_ids d) ≡ depth d
  depth-without null = refl
  depth-without (boolean b) = refl
  depth-without (whole z) = refl
  depth-without (text s) = refl
  depth-without (list ds) = ap suc (items_depth-without ds)
  depth-without (object ms) = ap suc (members_depth-without ms)
  depth-without (id s z) = refl

  items_depth-without : (ds : Items) → items_depth (items_without_ids ds) ≡ items_depth ds
  items_depth-without no_items = refl
  items_depth-without (item d ds) = ap₂ max (depth-without d) (items_depth-without ds)

  members_depth-without : (ms : Members) → members_depth (members_without_ids ms) ≡ members_depth ms
  members_depth-without no_members = refl
  members_depth-without (member k d ms) = ap₂ max (depth-without d) (members_depth-without ms)

mutual
  range-without : (d : Doc) → all_in_range d ≡ true → ids_in_range d ≡ true
      → all_in_range (without_ids d) ≡ true
  range-without null h k = refl
  range-without (boolean b) h k = refl
  range-without (whole z) h k = h
  range-without (text s) h k = refl
  range-without (list ds) h k = items_range-without ds h k
  range-without (object ms) h k = members_range-without ms h k
  range-without (id s z) h k = k

  items_range-without : (ds : Items) → items_in_range ds ≡ true → items_ids_in_range ds ≡ true
      → items_in_range (items_without_ids ds) ≡ true
  items_range-without no_items h k = refl
  items_range-without (item d ds) h k =
      and_both _ _ (range-without d (and_left _ _ h) (and_left _ _ k))
      (items_range-without ds (and_right (all_in_range d) _ h) (and_right (ids_in_range d) _ k))

  members_range-without : (ms : Members) → members_in_range ms ≡ true
      → members_ids_in_range ms ≡ true → members_in_range (members_without_ids ms) ≡ true
  members_range-without no_members h k = refl
  members_range-without (member k d ms) h g =
      and_both _ _ (range-without d (and_left _ _ h) (and_left _ _ g))
      (members_range-without ms (and_right (all_in_range d) _ h) (and_right (ids_in_range d) _ g))

pub sound_without : (d : Doc) → is_sound d ≡ true → ids_in_range d ≡ true
    → is_plain (without_ids d) ≡ true
sound_without d h k =
    let shallow : leb (depth (without_ids d)) 127 ≡ true =
    ap (λ n. leb n 127) (depth-without d) ∙ and_left (leb (depth d) 127) (all_in_range d) h in
    let ranged = range-without d (and_right (leb (depth d) 127) (all_in_range d) h) k in
    and_both (is_sound (without_ids d)) (not (has_id (without_ids d))) (and_both _ _ shallow ranged)
    (ap not (no_id_without d))

-- ---- plain documents

pub no_id_from_plain : (d : Doc) → is_plain d ≡ true → has_id d ≡ false
no_id_from_plain d h = not_true (has_id d) (and_right (is_sound d) (not (has_id d)) h)

pub plain_parts : (d : Doc) → is_plain d ≡ true → all_plain d ≡ true
plain_parts d h =
    plain_is d ∙ and_both _ _
    (and_right (leb (depth d) 127) _ (and_left (is_sound d) (not (has_id d)) h))
    (and_right (is_sound d) _ h)

pub without_plain : (d : Doc) → all_plain d ≡ true → without_ids d ≡ d
without_plain d h =
    without_no_id d
    (not_true (has_id d) (and_right (all_in_range d) (not (has_id d)) (sym (plain_is d) ∙ h)))
