-- A document with names in the place of its ids can be written, if the numbers are small.
use Rattle.std.proofs.Common.{◌≡◌, ℕ, suc, ◌<◌, ◌^◌, ℤ, pos, true, List, Some, None}
use Rattle.std.proofs.Common.{Option, refl, ◌∙◌, ap, ap₂, nat_le, max, arith}
use Rattle.dap_tree.specs.Doc.{Doc, null, boolean, whole, text, list, object, id, Items, no_items}
use Rattle.dap_tree.specs.Doc.{item, Members, no_members, member, depth, items_depth}
use Rattle.dap_tree.specs.Doc.{members_depth, in_range, all_in_range, items_in_range}
use Rattle.dap_tree.specs.Doc.{members_in_range, is_sound, max_depth}
use Rattle.dap_tree.proofs.Booleans.{and_left, and_right, and_both}
use Rattle.dap_tokens.specs.Naming.{Numbering}
use Rattle.dap_tokens.specs.Values.{is_nothing}
use Rattle.dap_tokens.specs.declared.form.Form.TheVariants.{Whole}
use Rattle.dap_naming.specs.Documents.{Declared, below, here, inside, integer_text}
use Rattle.dap_naming.specs.Documents.{named_doc, named_items, named_members, named_whole}
use Rattle.dap_naming.proofs.Lists.{by_bool}

-- ---- the depth is unchanged

mutual
  depth-named : (rs : List Declared) (number : Numbering) (d : Doc)
      → depth (named_doc rs number d) ≡ depth d
  depth-named rs number null = refl
  depth-named rs number (boolean b) = refl
  depth-named rs number (whole z) = refl
  depth-named rs number (text s) = refl
  depth-named rs number (list ds) = ap suc (items_depth-named rs number ds)
  depth-named rs number (object ms) = ap suc (members_depth-named rs number ms)
  depth-named rs number (id sort z) = refl

  items_depth-named : (rs : List Declared) (number : Numbering) (ds : Items)
      → items_depth (named_items rs number ds) ≡ items_depth ds
  items_depth-named rs number no_items = refl
  items_depth-named rs number (item d ds) =
      ap₂ max (depth-named (inside d rs) number d) (items_depth-named rs number ds)

  members_depth-named : (rs : List Declared) (number : Numbering) (ms : Members)
      → members_depth (named_members rs number ms) ≡ members_depth ms
  members_depth-named rs number no_members = refl
  members_depth-named rs number (member k d ms) =
      ap₂ max (depth-named (below k rs) number d) (members_depth-named rs number ms)

-- ---- the integers stay in range

-- Each number has at most 64 bits.
abbrev pub AreSmall : Numbering → Type 0
AreSmall number = (label v : List ℕ) → number label v < 2 ^ 64

module _ (number : Numbering) (small : AreSmall number) where
  number_in_range : (label v : List ℕ) → in_range (pos (number label v)) ≡ true
  number_in_range label v = let less = small label v in grind (arith, less)

  whole_in_range : (o : Option (List ℕ)) (z : ℤ) → in_range z ≡ true
      → in_range (named_whole o number z) ≡ true
  whole_in_range None z is = is
  whole_in_range (Some label) z is =
      by_bool (is_nothing (integer_text z))
      (λ none. rw none is)
      (λ some. rw some (number_in_range label (integer_text z)))

  mutual
    range-named : (rs : List Declared) (d : Doc) → all_in_range d ≡ true
        → all_in_range (named_doc rs number d) ≡ true
    range-named rs null is = refl
    range-named rs (boolean b) is = refl
    range-named rs (whole z) is = whole_in_range (here rs Whole) z is
    range-named rs (text s) is = refl
    range-named rs (list ds) is = items_range-named rs ds is
    range-named rs (object ms) is = members_range-named rs ms is
    range-named rs (id sort z) is = refl

    items_range-named : (rs : List Declared) (ds : Items) → items_in_range ds ≡ true
        → items_in_range (named_items rs number ds) ≡ true
    items_range-named rs no_items is = refl
    items_range-named rs (item d ds) is =
        and_both _ _ (range-named (inside d rs) d (and_left (all_in_range d)
        (items_in_range ds) is))
        (items_range-named rs ds (and_right (all_in_range d) (items_in_range ds) is))

    members_range-named : (rs : List Declared) (ms : Members) → members_in_range ms ≡ true
        → members_in_range (named_members rs number ms) ≡ true
    members_range-named rs no_members is = refl
    members_range-named rs (member k d ms) is =
        and_both _ _ (range-named (below k rs) d (and_left (all_in_range d)
        (members_in_range ms) is))
        (members_range-named rs ms (and_right (all_in_range d) (members_in_range ms) is))

  pub sound-named : (rs : List Declared) (d : Doc) → is_sound d ≡ true
      → is_sound (named_doc rs number d) ≡ true
  sound-named rs d is =
      and_both _ _
      (ap (λ n. nat_le n max_depth) (depth-named rs number d)
      ∙ and_left (nat_le (depth d) max_depth) (all_in_range d) is)
      (range-named rs d (and_right (nat_le (depth d) max_depth) (all_in_range d) is))
