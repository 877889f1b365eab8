-- Two recordings have the same joined text if and only if their segments are alike.
use Rattle.std.proofs.Common.{◌≡◌, ℕ, ◌+◌, List, [], ◌∷◌, ◌++◌, map, length, refl, sym, ◌∙◌}
use Rattle.std.proofs.Common.{ap, ap₂, subst, append-nil}
use Rattle.std.specs.List.{flat_map}
use Rattle.dap_recording.specs.Recording.{recording_text}
use Rattle.dap_tree.specs.Json.{text_of}
use Rattle.dap_tree.specs.declared.side.Side.TheVariants.{Adapter}
use Rattle.dap_input.specs.Limits.{AreSound}
use Rattle.dap_input.specs.declared.limits.Limits.{Limits}
use Rattle.dap_normalise.specs.Accepting.{Payload}
use Rattle.dap_join.specs.Outputs.{Item, Output}
use Rattle.dap_join.specs.Joined.{Group, event_of, first_segment, gathered, group_of, groups_of}
use Rattle.dap_join.specs.Joined.{joined_output, later_segments, others, segments}
use Rattle.dap_join.specs.Joining.{IsSplit, Joins, payloads}
use Rattle.dap_join.specs.Laws.{AreAlike, AreAllAlike}
use Rattle.dap_mask.specs.declared.joining.Joining.{Joining}
use Rattle.dap_join.proofs.Again.{again, AreLater, NoStart, StartsOnce, first_before, first_is}
use Rattle.dap_join.proofs.Again.{groups_numbered, kept_held, kept_items, later_after}
use Rattle.dap_join.proofs.Again.{later_again, later_are, none_again, none_renumbered, numbered}
use Rattle.dap_join.proofs.Again.{once_again, others_kept, output_in_group, renumber}
use Rattle.dap_join.proofs.Again.{renumber-append}
use Rattle.dap_join.proofs.OneJoined.{split_once}
use Rattle.dap_join.proofs.Rejoined.{split_again}
use Rattle.dap_join.proofs.Written.{payloads-append}

-- ---- alike segments have the same joined records

abbrev payload_of_output : Output → Payload
payload_of_output o = (Adapter, text_of (event_of (group_of 0 o)))

joined_outputs : (gs : List Group) → payloads (map joined_output gs)
    ≡ map payload_of_output (map output_in_group gs)
joined_outputs [] = refl
joined_outputs (g ∷ gs) = ap (λ hs. (joined_output g).held ∷ hs) (joined_outputs gs)

gathered_alike : (one two : List Item) → AreAlike one two
    → payloads (gathered one) ≡ payloads (gathered two)
gathered_alike one two alike =
    payloads-append (others one) (map joined_output (groups_of one))
    ∙ ap₂ (λ a b. a ++ b) alike.others
    (joined_outputs (groups_of one) ∙ ap (map payload_of_output) alike.outputs
    ∙ sym (joined_outputs (groups_of two)))
    ∙ sym (payloads-append (others two) (map joined_output (groups_of two)))

all_gathered : (ones twos : List (List Item)) → AreAllAlike ones twos
    → payloads (flat_map gathered ones) ≡ payloads (flat_map gathered twos)
all_gathered [] [] alike = refl
all_gathered [] (two ∷ twos) alike = absurd alike
all_gathered (one ∷ ones) [] alike = absurd alike
all_gathered (one ∷ ones) (two ∷ twos) alike =
    payloads-append (gathered one) (flat_map gathered ones)
    ∙ ap₂ (λ a b. a ++ b) (gathered_alike one two alike.0) (all_gathered ones twos alike.1)
    ∙ sym (payloads-append (gathered two) (flat_map gathered twos))

-- ---- the segments of the joined recording

abbrev renumber_all : ℕ → List (List Item) → List (List Item)
renumber_all n [] = []
renumber_all n (seg ∷ segs) =
    renumber n (again seg) ∷ renumber_all (n + length (again seg)) segs

module _ (joining : Joining) where
  later_once : (is js : List Item) → StartsOnce joining is → first_segment joining js ≡ []
      → later_segments joining (is ++ js) ≡ is ∷ later_segments joining js
  later_once [] js once bounded = absurd once
  later_once (i ∷ is) js once bounded =
      rw once.0
      (ap₂ (λ a b. (i ∷ a) ∷ b)
      (first_before joining is js once.1 ∙ ap (λ ks. is ++ ks) bounded ∙ append-nil is)
      (later_after joining is js once.1))

  all_later : (n : ℕ) (segs : List (List Item)) → AreLater joining segs
      → later_segments joining (renumber n (flat_map again segs)) ≡ renumber_all n segs
  all_later n [] all = refl
  all_later n (seg ∷ segs) all =
      let m = n + length (again seg) in
      let more = renumber m (flat_map again segs) in
      ap (later_segments joining) (renumber-append n (again seg) (flat_map again segs))
      ∙ later_once (renumber n (again seg)) more (once_again joining n seg all.0)
      (later_again joining m segs all.1).1
      ∙ ap (λ ks. renumber n (again seg) ∷ ks) (all_later m segs all.1)

  segments_again : (items : List Item)
      → segments joining (renumber 1 (flat_map again (segments joining items)))
      ≡ renumber_all 1 (segments joining items)
  segments_again items =
      let first = first_segment joining items in
      let segs = later_segments joining items in
      let m = 1 + length (again first) in
      let one = renumber 1 (again first) in
      let more = renumber m (flat_map again segs) in
      let all = later_are joining items in
      let none : NoStart joining one =
      none_renumbered joining 1 (again first) (none_again joining first (first_is joining items)) in
      ap (segments joining) (renumber-append 1 (again first) (flat_map again segs))
      ∙ ap₂ (λ a b. a ∷ b)
      (first_before joining one more none
      ∙ ap (λ ks. one ++ ks) (later_again joining m segs all).1 ∙ append-nil one)
      (later_after joining one more none ∙ all_later m segs all)

-- ---- a segment is like the joined one

same_in_groups : (n : ℕ) (gs : List Group)
    → map output_in_group (numbered n gs) ≡ map output_in_group gs
same_in_groups n [] = refl
same_in_groups n (g ∷ gs) = ap (λ os. output_in_group g ∷ os) (same_in_groups (n + 1) gs)

alike_again : (n : ℕ) (seg : List Item) → AreAlike seg (renumber n (again seg))
alike_again n seg = record {
  others = sym (others_kept n seg ∙ kept_held seg);
  outputs = sym (ap (map output_in_group) (groups_numbered n seg)
      ∙ same_in_groups (n + length (kept_items seg)) (groups_of seg));
}

all_alike_again : (n : ℕ) (segs : List (List Item)) → AreAllAlike segs (renumber_all n segs)
all_alike_again n [] = tt
all_alike_again n (seg ∷ segs) =
    (alike_again n seg, all_alike_again (n + length (again seg)) segs)

all_back : (ones twos : List (List Item)) → AreAllAlike ones twos → AreAllAlike twos ones
all_back [] [] alike = tt
all_back [] (two ∷ twos) alike = absurd alike
all_back (one ∷ ones) [] alike = absurd alike
all_back (one ∷ ones) (two ∷ twos) alike = (
  record { others = sym alike.0.others; outputs = sym alike.0.outputs },
  all_back ones twos alike.1,
)

all_through : (ones twos threes : List (List Item)) → AreAllAlike ones twos
    → AreAllAlike twos threes → AreAllAlike ones threes
all_through [] [] threes first second = second
all_through [] (two ∷ twos) threes first second = absurd first
all_through (one ∷ ones) [] threes first second = absurd first
all_through (one ∷ ones) (two ∷ twos) [] first second = absurd second
all_through (one ∷ ones) (two ∷ twos) (three ∷ threes) first second = (
  record {
    others = first.0.others ∙ second.0.others;
    outputs = first.0.outputs ∙ second.0.outputs;
  },
  all_through ones twos threes first.1 second.1,
)

-- ---- both recordings

module _ (limits : Limits) (sound : AreSound limits) (joining : Joining)
    (bytes written numbers others_bytes other others_numbers : List ℕ)
    (one : Joins limits joining bytes written numbers)
    (two : Joins limits joining others_bytes other others_numbers) where
  pub alike_from_texts : written ≡ other
      → AreAllAlike (segments joining one.items) (segments joining two.items)
  alike_from_texts same =
      let firsts = segments joining one.items in
      let seconds = segments joining two.items in
      let items : renumber 1 (flat_map again firsts) ≡ renumber 1 (flat_map again seconds) =
      split_once limits other (renumber 1 (flat_map again firsts))
      (renumber 1 (flat_map again seconds))
      (subst (λ t. IsSplit limits t (renumber 1 (flat_map again firsts))) same
      (split_again limits sound joining bytes written numbers one))
      (split_again limits sound joining others_bytes other others_numbers two) in
      let segs : renumber_all 1 firsts ≡ renumber_all 1 seconds =
      sym (segments_again joining one.items) ∙ ap (segments joining) items
      ∙ segments_again joining two.items in
      all_through firsts (renumber_all 1 firsts) seconds (all_alike_again 1 firsts)
      (subst (λ ss. AreAllAlike ss seconds) (sym segs)
      (all_back seconds (renumber_all 1 seconds) (all_alike_again 1 seconds)))

  pub texts_from_alike : AreAllAlike (segments joining one.items) (segments joining two.items)
      → written ≡ other
  texts_from_alike alike =
      one.text_is
      ∙ ap recording_text
      (all_gathered (segments joining one.items) (segments joining two.items) alike)
      ∙ sym two.text_is
