-- Marking ids changes no place of a member.
use Rattle.std.proofs.Common.{◌≡◌, ℕ, ◌+◌, ℤ, List, [], ◌∷◌, length, Bool, true, false, cond}
use Rattle.std.proofs.Common.{Some, refl, sym, ap, ◌∙◌, option_map, arith, nat_cmp}
use Rattle.std.proofs.Common.{length-append, Ordering, Less, Equal, Greater}
use Rattle.std.specs.Cmp.Lexicographic.{slice_cmp}
use Rattle.std.specs.Ordering.{match_ordering}
use Rattle.dap_tree.specs.declared.sort.Sort.{Sort}
use Rattle.dap_tree.specs.Doc.{Doc, null, boolean, whole, text, list, object, id, Items, no_items}
use Rattle.dap_tree.specs.Doc.{item, map_items, change_items, Members, no_members, member}
use Rattle.dap_tree.specs.Doc.{change_member, change_child}
use Rattle.dap_profile.specs.PlaceSteps.{PlaceStep, named, each}
use Rattle.dap_message.specs.Marks.{edit, marked, is_id_of}
use Rattle.dap_flat.specs.Pieces.{end_list, end_object, pieces, items_pieces, members_pieces}
use Rattle.dap_flat_message.specs.Places.{place_after, place_in, place_of, word, HasPlaces}
use Rattle.dap_flat_message.specs.declared.members.Envelope.{Envelope}

-- ---- the number of pieces

-- f changes no number of pieces
abbrev pub KeepsSize : (Doc → Doc) → Type 0
KeepsSize f = (d : Doc) → length (pieces (f d)) ≡ length (pieces d)

one_piece : (b : Bool) (s : Sort) (z : ℤ) → length (pieces (cond b (id s z) (whole z))) ≡ 1
one_piece true s z = refl
one_piece false s z = refl

pub marked_size : (s : Sort) → KeepsSize (marked s)
marked_size s null = refl
marked_size s (boolean b) = refl
marked_size s (whole z) = one_piece (is_id_of s z) s z
marked_size s (text t) = refl
marked_size s (list ds) = refl
marked_size s (object ms) = refl
marked_size s (id t z) = refl

items_size : (f : Doc → Doc) → KeepsSize f → (ds : Items)
    → length (items_pieces (map_items f ds)) ≡ length (items_pieces ds)
items_size f same no_items = refl
items_size f same (item d ds) =
    omega (
      arith,
      length-append (pieces (f d)) (items_pieces (map_items f ds)),
      length-append (pieces d) (items_pieces ds),
      same d,
      items_size f same ds,
    )

all_items_size : (f : Doc → Doc) → KeepsSize f → KeepsSize (change_items f)
all_items_size f same null = refl
all_items_size f same (boolean b) = refl
all_items_size f same (whole z) = refl
all_items_size f same (text s) = refl
all_items_size f same (list ds) =
    omega (
      arith,
      length-append (items_pieces (map_items f ds)) (end_list ∷ []),
      length-append (items_pieces ds) (end_list ∷ []),
      items_size f same ds,
    )
all_items_size f same (object ms) = refl
all_items_size f same (id s z) = refl

size_by_order : (o : Ordering) (l : List ℕ) (e : Doc) (f : Doc → Doc) (ms changed : Members)
    → KeepsSize f → length (members_pieces changed) ≡ length (members_pieces ms)
    → length (members_pieces (match_ordering o (member l e changed) (member l (f e) ms)
    (member l e changed))) ≡ length (members_pieces (member l e ms))
size_by_order Less l e f ms changed same later =
    omega (
      arith,
      length-append (pieces e) (members_pieces changed),
      length-append (pieces e) (members_pieces ms),
      later,
    )
size_by_order Equal l e f ms changed same later =
    omega (
      arith,
      length-append (pieces (f e)) (members_pieces ms),
      length-append (pieces e) (members_pieces ms),
      same e,
    )
size_by_order Greater l e f ms changed same later =
    omega (
      arith,
      length-append (pieces e) (members_pieces changed),
      length-append (pieces e) (members_pieces ms),
      later,
    )

members_size : (k : List ℕ) (f : Doc → Doc) → KeepsSize f → (ms : Members)
    → length (members_pieces (change_member k f ms)) ≡ length (members_pieces ms)
members_size k f same no_members = refl
members_size k f same (member l e ms) =
    size_by_order (slice_cmp nat_cmp k l) l e f ms (change_member k f ms) same
    (members_size k f same ms)

child_size : (k : List ℕ) (f : Doc → Doc) → KeepsSize f → KeepsSize (change_child k f)
child_size k f same null = refl
child_size k f same (boolean b) = refl
child_size k f same (whole z) = refl
child_size k f same (text s) = refl
child_size k f same (list ds) = refl
child_size k f same (object ms) =
    omega (
      arith,
      length-append (members_pieces (change_member k f ms)) (end_object ∷ []),
      length-append (members_pieces ms) (end_object ∷ []),
      members_size k f same ms,
    )
child_size k f same (id s z) = refl

edit_size : (path : List PlaceStep) (f : Doc → Doc) → KeepsSize f → KeepsSize (edit path f)
edit_size [] f same = same
edit_size (named k ∷ path) f same = child_size k (edit path f) (edit_size path f same)
edit_size (each ∷ path) f same = all_items_size (edit path f) (edit_size path f same)

-- ---- places

place_by_order : (o : Ordering) (k l : List ℕ) (e : Doc) (f : Doc → Doc) (ms changed : Members)
    → KeepsSize f → place_in k changed ≡ place_in k ms
    → place_in k (match_ordering o (member l e changed) (member l (f e) ms) (member l e changed))
    ≡ place_in k (member l e ms)
place_by_order Less k l e f ms changed same later =
    ap (λ found. match_ordering (slice_cmp nat_cmp k l) (place_after e found) (Some 1)
    (place_after e found)) later
place_by_order Equal k l e f ms changed same later =
    ap (λ n. match_ordering (slice_cmp nat_cmp k l) (option_map (λ i. 1 + n + i) (place_in k ms))
    (Some 1) (option_map (λ i. 1 + n + i) (place_in k ms))) (same e)
place_by_order Greater k l e f ms changed same later =
    ap (λ found. match_ordering (slice_cmp nat_cmp k l) (place_after e found) (Some 1)
    (place_after e found)) later

member_place : (k l : List ℕ) (f : Doc → Doc) → KeepsSize f → (ms : Members)
    → place_in k (change_member l f ms) ≡ place_in k ms
member_place k l f same no_members = refl
member_place k l f same (member m e ms) =
    place_by_order (slice_cmp nat_cmp l m) k m e f ms (change_member l f ms) same
    (member_place k l f same ms)

child_place : (k l : List ℕ) (f : Doc → Doc) → KeepsSize f → (d : Doc)
    → place_of k (change_child l f d) ≡ place_of k d
child_place k l f same null = refl
child_place k l f same (boolean b) = refl
child_place k l f same (whole z) = refl
child_place k l f same (text s) = refl
child_place k l f same (list ds) = refl
child_place k l f same (object ms) = ap (option_map (λ i. 1 + i)) (member_place k l f same ms)
child_place k l f same (id s z) = refl

pub marked_places : (e : Envelope) (l : List ℕ) (path : List PlaceStep) (s : Sort) (d : Doc)
    → HasPlaces e d → HasPlaces e (edit (named l ∷ path) (marked s) d)
marked_places e l path s d places k =
    places k
    ∙ sym (child_place (word k) l (edit path (marked s))
    (edit_size path (marked s) (marked_size s)) d)
