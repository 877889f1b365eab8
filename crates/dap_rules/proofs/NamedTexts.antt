-- A document with names in the place of its ids is read from its own text.
use Rattle.std.proofs.Common.{◌≡◌, ℕ, true, false, List, refl, ◌∙◌, ap}
use Rattle.std.proofs.Common.{ap₂, subst, not, ◌&&◌}
use Rattle.std.specs.Str.{is_utf8}
use Rattle.std.specs.Ordering.{nat_cmp, is_lt}
use Rattle.std.specs.Cmp.Lexicographic.{slice_cmp}
use Rattle.dap_tree.specs.Doc.{Doc, null, boolean, whole, text, list, object, id, Items, no_items}
use Rattle.dap_tree.specs.Doc.{item, Members, no_members, member, has_id, items_have_id}
use Rattle.dap_tree.specs.Doc.{members_have_id, is_below_all, is_ordered, items_ordered}
use Rattle.dap_tree.specs.Doc.{members_ordered, all_utf8, items_utf8, members_utf8, is_sound}
use Rattle.dap_tree.specs.Ids.{ids_in_range, items_ids_in_range, members_ids_in_range}
use Rattle.dap_tree.specs.Json.{IsRead, text_of}
use Rattle.dap_tree.proofs.Booleans.{and_both, and_left, and_right, or_both, or_left, or_right}
use Rattle.dap_tree.proofs.MemberOrder.{read_is_ordered}
use Rattle.dap_tree.proofs.Outcomes.{read_is_plain}
use Rattle.dap_tree.proofs.Texts.{text_is_read}
use Rattle.dap_tree.proofs.Utf8.{read_is_utf8}
use Rattle.dap_tree.proofs.WithoutIds.{without_no_id}
use Rattle.dap_tokens.specs.Naming.{Numbering}
use Rattle.dap_tokens.proofs.NamedUtf8.{named_utf8}
use Rattle.dap_naming.specs.Documents.{Declared, are_sound, below, here, inside, named_doc}
use Rattle.dap_naming.specs.Documents.{named_items, named_members}
use Rattle.dap_naming.proofs.SoundRules.{label-here, sound-below, sound-inside}
use Rattle.dap_rules.proofs.NamedSound.{AreSmall, sound-named}

module _ (number : Numbering) where
  -- ---- names are not ids of the profile

  mutual
    no_id-named : (rs : List Declared) (d : Doc) → has_id d ≡ false
        → has_id (named_doc rs number d) ≡ false
    no_id-named rs null none = refl
    no_id-named rs (boolean b) none = refl
    no_id-named rs (whole z) none = refl
    no_id-named rs (text s) none = refl
    no_id-named rs (list ds) none = items_no_id-named rs ds none
    no_id-named rs (object ms) none = members_no_id-named rs ms none
    no_id-named rs (id sort z) none = none

    items_no_id-named : (rs : List Declared) (ds : Items) → items_have_id ds ≡ false
        → items_have_id (named_items rs number ds) ≡ false
    items_no_id-named rs no_items none = refl
    items_no_id-named rs (item d ds) none =
        or_both _ _ (no_id-named (inside d rs) d (or_left (has_id d) (items_have_id ds) none))
        (items_no_id-named rs ds (or_right (has_id d) (items_have_id ds) none))

    members_no_id-named : (rs : List Declared) (ms : Members) → members_have_id ms ≡ false
        → members_have_id (named_members rs number ms) ≡ false
    members_no_id-named rs no_members none = refl
    members_no_id-named rs (member k d ms) none =
        or_both _ _ (no_id-named (below k rs) d (or_left (has_id d) (members_have_id ms) none))
        (members_no_id-named rs ms (or_right (has_id d) (members_have_id ms) none))

  -- ---- the members stay in order

  below_all-named : (k : List ℕ) (rs : List Declared) (ms : Members)
      → is_below_all k (named_members rs number ms) ≡ is_below_all k ms
  below_all-named k rs no_members = refl
  below_all-named k rs (member l d ms) =
      ap (λ b. is_lt (slice_cmp nat_cmp k l) && b) (below_all-named k rs ms)

  mutual
    ordered-named : (rs : List Declared) (d : Doc)
        → is_ordered (named_doc rs number d) ≡ is_ordered d
    ordered-named rs null = refl
    ordered-named rs (boolean b) = refl
    ordered-named rs (whole z) = refl
    ordered-named rs (text s) = refl
    ordered-named rs (list ds) = items_ordered-named rs ds
    ordered-named rs (object ms) = members_ordered-named rs ms
    ordered-named rs (id sort z) = refl

    items_ordered-named : (rs : List Declared) (ds : Items)
        → items_ordered (named_items rs number ds) ≡ items_ordered ds
    items_ordered-named rs no_items = refl
    items_ordered-named rs (item d ds) =
        ap₂ (λ a b. a && b) (ordered-named (inside d rs) d) (items_ordered-named rs ds)

    members_ordered-named : (rs : List Declared) (ms : Members)
        → members_ordered (named_members rs number ms) ≡ members_ordered ms
    members_ordered-named rs no_members = refl
    members_ordered-named rs (member k d ms) =
        ap₂ (λ a b. a && b) (below_all-named k rs ms)
        (ap₂ (λ a b. a && b) (ordered-named (below k rs) d) (members_ordered-named rs ms))

  -- ---- the strings stay UTF-8

  mutual
    utf8-named : (rs : List Declared) (d : Doc) → are_sound rs ≡ true → all_utf8 d ≡ true
        → all_utf8 (named_doc rs number d) ≡ true
    utf8-named rs null sound is = refl
    utf8-named rs (boolean b) sound is = refl
    utf8-named rs (whole z) sound is = refl
    utf8-named rs (text s) sound is = named_utf8 (here rs) number s (label-here rs sound) is
    utf8-named rs (list ds) sound is = items_utf8-named rs ds sound is
    utf8-named rs (object ms) sound is = members_utf8-named rs ms sound is
    utf8-named rs (id sort z) sound is = refl

    items_utf8-named : (rs : List Declared) (ds : Items) → are_sound rs ≡ true
        → items_utf8 ds ≡ true → items_utf8 (named_items rs number ds) ≡ true
    items_utf8-named rs no_items sound is = refl
    items_utf8-named rs (item d ds) sound is =
        and_both _ _
        (utf8-named (inside d rs) d (sound-inside d rs sound)
        (and_left (all_utf8 d) (items_utf8 ds) is))
        (items_utf8-named rs ds sound (and_right (all_utf8 d) (items_utf8 ds) is))

    members_utf8-named : (rs : List Declared) (ms : Members) → are_sound rs ≡ true
        → members_utf8 ms ≡ true → members_utf8 (named_members rs number ms) ≡ true
    members_utf8-named rs no_members sound is = refl
    members_utf8-named rs (member k d ms) sound is =
        let own = and_left (is_utf8 k) (all_utf8 d && members_utf8 ms) is in
        let rest = and_right (is_utf8 k) (all_utf8 d && members_utf8 ms) is in
        and_both _ _ own
        (and_both _ _
        (utf8-named (below k rs) d (sound-below k rs sound)
        (and_left (all_utf8 d) (members_utf8 ms) rest))
        (members_utf8-named rs ms sound (and_right (all_utf8 d) (members_utf8 ms) rest)))

-- ---- reading the text

mutual
  ranged : (d : Doc) → has_id d ≡ false → ids_in_range d ≡ true
  ranged null none = refl
  ranged (boolean b) none = refl
  ranged (whole z) none = refl
  ranged (text s) none = refl
  ranged (list ds) none = items_ranged ds none
  ranged (object ms) none = members_ranged ms none
  ranged (id sort z) none = absurd cc

  items_ranged : (ds : Items) → items_have_id ds ≡ false → items_ids_in_range ds ≡ true
  items_ranged no_items none = refl
  items_ranged (item d ds) none =
      and_both _ _ (ranged d (or_left (has_id d) (items_have_id ds) none))
      (items_ranged ds (or_right (has_id d) (items_have_id ds) none))

  members_ranged : (ms : Members) → members_have_id ms ≡ false → members_ids_in_range ms ≡ true
  members_ranged no_members none = refl
  members_ranged (member k d ms) none =
      and_both _ _ (ranged d (or_left (has_id d) (members_have_id ms) none))
      (members_ranged ms (or_right (has_id d) (members_have_id ms) none))

-- A document that was read, with small numbers in the place of its ids, is read from its text.
pub named_is_read : (rs : List Declared) (number : Numbering) (bytes : List ℕ) (d : Doc)
    → are_sound rs ≡ true → AreSmall number → IsRead bytes d
    → IsRead (text_of (named_doc rs number d)) (named_doc rs number d)
named_is_read rs number bytes d sound small read =
    let e = named_doc rs number d in
    let none = no_id-named number rs d read.1 in
    subst (IsRead (text_of e)) (without_no_id e none)
    (text_is_read e
    (sound-named number small rs d
    (and_left (is_sound d) (not (has_id d)) (read_is_plain bytes d read)))
    (ranged e none)
    (ordered-named number rs d ∙ read_is_ordered bytes d read)
    (utf8-named number rs d sound (read_is_utf8 bytes d read)))
