-- Exactly one document is marked as the rows define, path by path, if the members of the document
-- are in order.
use Rattle.dap_tree.specs.Doc.{Doc, null, boolean, whole, text, list, object, id, Items, no_items}
use Rattle.dap_tree.specs.Doc.{item, Members, no_members, member, get_member, is_below_all}
use Rattle.dap_tree.specs.Doc.{is_ordered, items_ordered, members_ordered}
use Rattle.dap_tree.specs.Path.{Step, name, place, at, get_item}
use Rattle.dap_tree.specs.declared.side.Side.{Side}
use Rattle.dap_tree.proofs.Paths.{skips}
use Rattle.dap_tree.proofs.Booleans.{and_left, and_right}
use Rattle.std.proofs.Common.{◌≡◌, ℕ, suc, true, ◌&&◌, List, [], ◌∷◌, Option, Some, None}
use Rattle.std.proofs.Common.{option_map, option_and_then, Ordering, Less, Equal, Greater, nat_cmp}
use Rattle.std.proofs.Common.{refl, sym, ◌∙◌, ap, ap₂, bytes_eq}
use Rattle.std.proofs.lemmas.Slice.Eq.{bytes_eq-Decides}
use Rattle.std.specs.Cmp.Lexicographic.{slice_cmp}
use Rattle.std.specs.Ordering.{match_ordering, is_lt}
use Rattle.dap_profile.specs.Profile.{profile}
use Rattle.dap_message.specs.Marks.{IsMarked, top, items_top, members_top, mark}
use Rattle.dap_message.proofs.NameOrder.{itself, equal_at}
use Rattle.dap_message.proofs.Edits.{Alike, by_bool}
use Rattle.dap_message.proofs.Envelopes.{apart}
use Rattle.dap_message.proofs.RowMarks.{mark_is_marked}
use Rattle.dap_message.proofs.MemberNames.{ordered-mark}

-- ---- names

below_top : (k : List ℕ) (ms : Members) → is_below_all k (members_top ms) ≡ is_below_all k ms
below_top k no_members = refl
below_top k (member l d ms) = ap (λ b. is_lt (slice_cmp nat_cmp k l) && b) (below_top k ms)

none_at : (o : Ordering) (a b : Option Doc) → is_lt o ≡ true → match_ordering o a b a ≡ a
none_at Less a b h = refl
none_at Equal a b h = cc
none_at Greater a b h = cc

none_below : (k : List ℕ) (ms : Members) → is_below_all k ms ≡ true → get_member k ms ≡ None
none_below k no_members h = refl
none_below k (member l d ms) h =
    none_at (slice_cmp nat_cmp k l) (get_member k ms) (Some d)
    (and_left (is_lt (slice_cmp nat_cmp k l)) (is_below_all k ms) h)
    ∙ none_below k ms (and_right (is_lt (slice_cmp nat_cmp k l)) (is_below_all k ms) h)

get_first : (k : List ℕ) (d : Doc) (ms : Members) → get_member k (member k d ms) ≡ Some d
get_first k d ms = equal_at (slice_cmp nat_cmp k k) (get_member k ms) (Some d) (itself k)

-- ---- the values at all paths determine the document

abbrev AlikeBelow : Option Doc → Option Doc → Type 0
AlikeBelow a b = (p : List Step) → Alike (option_and_then (at p) a) (option_and_then (at p) b)

some_top : (d e : Doc) → Some (top d) ≡ Some (top e) → top d ≡ top e
some_top d e h = cc

mutual
  pub reported : (d e : Doc) → is_ordered d ≡ true → ((p : List Step) → Alike (at p e) (at p d))
      → top e ≡ top d → e ≡ d
  reported null null o h t = refl
  reported (boolean b) (boolean c) o h t = t
  reported (whole y) (whole z) o h t = t
  reported (text s) (text r) o h t = t
  reported (list ds) (list es) o h t = ap list (items_told ds es o (λ i p. h (place i ∷ p)) (cc))
  reported (object ms) (object os) o h t = ap object
      (members_told ms os o (λ k p. h (name k ∷ p)) (cc))
  reported (id s y) (id r z) o h t = t
  reported _ _ o h t = cc

  items_told : (ds es : Items) → items_ordered ds ≡ true
      → ((i : ℕ) → AlikeBelow (get_item i es) (get_item i ds)) → items_top es ≡ items_top ds
      → es ≡ ds
  items_told no_items no_items o h t = refl
  items_told (item d ds) (item e es) o h t =
      ap₂ item (reported d e (and_left (is_ordered d) (items_ordered ds) o) (h 0)
      (some_top e d (h 0 [])))
      (items_told ds es (and_right (is_ordered d) (items_ordered ds) o) (λ i. h (suc i)) (cc))
  items_told _ _ o h t = cc

  members_told : (ms os : Members) → members_ordered ms ≡ true
      → ((k : List ℕ) → AlikeBelow (get_member k os) (get_member k ms))
      → members_top os ≡ members_top ms → os ≡ ms
  members_told no_members no_members o h t = refl
  members_told (member k d ms) (member l e os) o h t =
      let same : l ≡ k = cc in
      let rest : members_top os ≡ members_top ms = cc in
      let parts = and_right (is_below_all k ms) (is_ordered d && members_ordered ms) o in
      let below : is_below_all k ms ≡ true =
      and_left (is_below_all k ms) (is_ordered d && members_ordered ms) o in
      let below_os : is_below_all k os ≡ true =
      sym (below_top k os) ∙ ap (is_below_all k) rest ∙ below_top k ms ∙ below in
      let first : (p : List Step) → Alike (at p e) (at p d) =
      λ p. ap (λ r. option_map top (option_and_then (at p) r)) (sym (get_first k e os))
      ∙ ap (λ n. option_map top (option_and_then (at p) (get_member k (member n e os))))
      (sym same) ∙ h k p
      ∙ ap (λ r. option_map top (option_and_then (at p) r)) (get_first k d ms) in
      let others : (q : List ℕ) → AlikeBelow (get_member q os) (get_member q ms) =
      λ q p. by_bool (bytes_eq q k)
      (λ b. let is : k ≡ q = sym ((bytes_eq-Decides q k).0 b) in
      ap (λ r. option_map top (option_and_then (at p) r)) (ap (λ n. get_member n os) (sym is)
      ∙ none_below k os below_os ∙ sym (none_below k ms below) ∙ ap (λ n. get_member n ms) is))
      (λ b. ap (λ r. option_map top (option_and_then (at p) r))
      (sym (skips q l e os (λ is. apart q k b (is ∙ same)))) ∙ h q p
      ∙ ap (λ r. option_map top (option_and_then (at p) r)) (skips q k d ms (apart q k b))) in
      ap₂ (λ n r. member n r os) same
      (reported d e (and_left (is_ordered d) (members_ordered ms) parts) first
      (some_top e d (first [])))
      ∙ ap (member k d)
      (members_told ms os (and_right (is_ordered d) (members_ordered ms) parts) others rest)
  members_told _ _ o h t = cc

-- there is exactly one marked document
pub one_marked : (side : Side) (d e : Doc) → is_ordered d ≡ true → IsMarked profile side d e
    → e ≡ mark side d
unfolding IsMarked
one_marked side d e ordered h =
    let alike : (p : List Step)
    → Alike (at p e) (at p (mark side d)) = λ p. h p ∙ sym (mark_is_marked side d p) in
    reported (mark side d) e (ordered-mark side d ordered) alike
    (some_top e (mark side d) (alike []))
