-- Members of a document found by their places.
use Rattle.std.proofs.Common.{◌≡◌, ℕ, ◌+◌, List, [], ◌∷◌, ◌++◌, length, Option, Some, None, refl}
use Rattle.std.proofs.Common.{sym}
use Rattle.std.proofs.Common.{ap, ◌∙◌, subst, option_map, append_assoc, arith, codes, nat_cmp}
use Rattle.std.proofs.Common.{length-append, Ordering, Less, Equal, Greater}
use Rattle.std.specs.Cmp.Lexicographic.{slice_cmp}
use Rattle.std.specs.Ordering.{match_ordering}
use Rattle.dap_tree.specs.Doc.{Doc, null, boolean, whole, text, list, object, id, Members}
use Rattle.dap_tree.specs.Doc.{no_members, member, get, get_member, change_member, change_child}
use Rattle.dap_flat.specs.declared.node.Node.{Node}
use Rattle.dap_flat.specs.Finding.{Holds, HoldsMembers, Finds, Found}
use Rattle.dap_flat.specs.Pieces.{begin_object, end_object, name}
use Rattle.dap_flat.specs.Pieces.{pieces, members_pieces, Represents}
use Rattle.dap_flat.proofs.Found.{behind_first, first_part, second_part, child_found}
use Rattle.dap_flat_message.specs.Heads.{Tells}
use Rattle.dap_flat_message.specs.Judging.{Begins}
use Rattle.dap_flat_message.specs.Places.{place_after, place_in, place_of, HasPlaces, Locates}
use Rattle.dap_flat_message.specs.Places.{FindsTop}
use Rattle.dap_flat_message.specs.declared.members.Envelope.{Envelope}
use Rattle.dap_flat_message.specs.declared.members.Key.TheVariants as key
use Rattle.dap_flat_message.proofs.Heads.{holds_whole, value_then}

-- ---- among members

abbrev number_or : Option ℕ → ℕ
number_or None = 0
number_or (Some i) = i

-- the members from the first one on, if the name is that of a later one
later_found : (ns : List Node) (from : ℕ) (k l : List ℕ) (e : Doc) (rest : Members) (i : ℕ)
    (found : Option ℕ) → HoldsMembers ns from (member l e rest) → place_after e found ≡ Some i
    → place_in k rest ≡ found
    → ((j : ℕ) → HoldsMembers ns (from + 1 + length (pieces e)) rest → place_in k rest ≡ Some j
    → Found ns (from + 1 + length (pieces e)) (from + 1 + length (pieces e) + j)
    (members_pieces rest) (λ f. members_pieces (change_member k f rest)) (get_member k rest))
    → Found ns from (from + i) (members_pieces (member l e rest))
    (λ f. members_pieces (member l e (change_member k f rest))) (get_member k rest)
later_found ns from k l e rest i None h is at later = absurd (cc)
later_found ns from k l e rest i (Some j) h is at later =
    let there = later j
    (second_part ns (from + 1) (pieces e) (members_pieces rest ++ end_object ∷ [])
    (value_then ns from l e rest h)) at in
    let i_is : 1 + length (pieces e) + j ≡ i = ap number_or is in
    let place : from + 1 + length (pieces e) + j ≡ from + i = omega (arith, i_is) in record {
      part = there.part;
      is = there.is;
      pre = name l ∷ (pieces e ++ there.pre);
      post = there.post;
      between = record {
        is = ap (λ ps. name l ∷ (pieces e ++ ps)) there.between.is
            ∙ ap (λ ps. name l ∷ ps)
            (sym (append_assoc (pieces e) there.pre (pieces there.part ++ there.post)));
        changes = λ f long. ap (λ ps. name l ∷ (pieces e ++ ps)) (there.between.changes f long)
            ∙ ap (λ ps. name l ∷ ps)
            (sym (append_assoc (pieces e) there.pre (pieces (f there.part) ++ there.post)));
      };
      here = omega (arith, i_is, there.here, length-append (pieces e) there.pre);
      holds = subst (λ n. Holds ns n there.part) place there.holds;
    }

first_found : (ns : List Node) (from : ℕ) (k l : List ℕ) (e : Doc) (rest : Members) (i : ℕ)
    → HoldsMembers ns from (member l e rest) → Some 1 ≡ Some i
    → Found ns from (from + i) (members_pieces (member l e rest))
    (λ f. members_pieces (member l (f e) rest)) (Some e)
first_found ns from k l e rest i h is =
    let i_is : 1 ≡ i = ap number_or is in record {
      part = e;
      is = refl;
      pre = name l ∷ [];
      post = members_pieces rest;
      between = record { is = refl; changes = λ f long. refl };
      here = omega (arith, i_is);
      holds = subst (λ j. Holds ns (from + j) e) i_is
          (first_part ns (from + 1) (pieces e) (members_pieces rest ++ end_object ∷ [])
          (value_then ns from l e rest h));
    }

by_order : (o : Ordering) (ns : List Node) (from : ℕ) (k l : List ℕ) (e : Doc) (rest : Members)
    (i : ℕ) → HoldsMembers ns from (member l e rest)
    → match_ordering o (place_after e (place_in k rest)) (Some 1) (place_after e (place_in k rest))
    ≡ Some i
    → ((j : ℕ) → HoldsMembers ns (from + 1 + length (pieces e)) rest → place_in k rest ≡ Some j
    → Found ns (from + 1 + length (pieces e)) (from + 1 + length (pieces e) + j)
    (members_pieces rest) (λ f. members_pieces (change_member k f rest)) (get_member k rest))
    → Found ns from (from + i) (members_pieces (member l e rest))
    (λ f. members_pieces (match_ordering o (member l e (change_member k f rest))
    (member l (f e) rest) (member l e (change_member k f rest))))
    (match_ordering o (get_member k rest) (Some e) (get_member k rest))
by_order Less ns from k l e rest i h is later =
    later_found ns from k l e rest i (place_in k rest) h is refl later
by_order Equal ns from k l e rest i h is later = first_found ns from k l e rest i h is
by_order Greater ns from k l e rest i h is later =
    later_found ns from k l e rest i (place_in k rest) h is refl later

member_found : (k : List ℕ) (ms : Members) (ns : List Node) (from i : ℕ)
    → HoldsMembers ns from ms → place_in k ms ≡ Some i
    → Found ns from (from + i) (members_pieces ms) (λ f. members_pieces (change_member k f ms))
    (get_member k ms)
member_found k no_members ns from i h is = absurd (cc)
member_found k (member l e rest) ns from i h is =
    by_order (slice_cmp nat_cmp k l) ns from k l e rest i h is
    (member_found k rest ns (from + 1 + length (pieces e)))

none_by_order : (o : Ordering) (e : Doc) (found : Option ℕ) (part : Option Doc)
    → match_ordering o (place_after e found) (Some 1) (place_after e found) ≡ None
    → (found ≡ None → part ≡ None) → match_ordering o part (Some e) part ≡ None
none_by_order Less e None part is later = later refl
none_by_order Less e (Some i) part is later = absurd (cc)
none_by_order Equal e found part is later = absurd (cc)
none_by_order Greater e None part is later = later refl
none_by_order Greater e (Some i) part is later = absurd (cc)

no_member : (k : List ℕ) (ms : Members) → place_in k ms ≡ None → get_member k ms ≡ None
no_member k no_members is = refl
no_member k (member l e rest) is =
    none_by_order (slice_cmp nat_cmp k l) e (place_in k rest) (get_member k rest) is
    (no_member k rest)

-- ---- in a document

object_found : (ns : List Node) (k : List ℕ) (ms : Members) (found : Option ℕ)
    → Represents ns (object ms) → place_in k ms ≡ found
    → Finds ns 0 (pieces (object ms)) (λ f. pieces (change_child k f (object ms)))
    (option_map (λ i. 1 + i) found) (get k (object ms))
object_found ns k ms None shows is = no_member k ms is
object_found ns k ms (Some i) shows is =
    child_found ns 0 (1 + i) k ms (member_found k ms ns 1 i
    (behind_first ns 0 (begin_object (length (members_pieces ms))) _
    (holds_whole ns (object ms) shows)) is)

found_there : (ns : List Node) (k : List ℕ) (d : Doc) → Represents ns d
    → Finds ns 0 (pieces d) (λ f. pieces (change_child k f d)) (place_of k d) (get k d)
found_there ns k null shows = refl
found_there ns k (boolean b) shows = refl
found_there ns k (whole z) shows = refl
found_there ns k (text s) shows = refl
found_there ns k (list ds) shows = refl
found_there ns k (object ms) shows = object_found ns k ms (place_in k ms) shows refl
found_there ns k (id s z) shows = refl

pub finds_top : (ns : List Node) (e : Envelope) (k : List ℕ) (found : Option ℕ)
    → ((d : Doc) → HasPlaces e d → found ≡ place_of k d) → FindsTop ns e k found
finds_top ns e k found is d l =
    subst (λ r. Finds ns 0 (pieces d) (λ f. pieces (change_child k f d)) r (get k d))
    (sym (is d l.places)) (found_there ns k d l.shows)

-- ---- the envelope's places

begins_there : (ns : List Node) (k : List ℕ) (d : Doc) (found : Option ℕ)
    → Finds ns 0 (pieces d) (λ f. pieces (change_child k f d)) found (get k d)
    → Begins ns found (get k d)
begins_there ns k d None h = h
begins_there ns k d (Some i) h = (h.part, h.is, h.holds)

begins : (ns : List Node) (k : List ℕ) (d : Doc) (found : Option ℕ) → Represents ns d
    → found ≡ place_of k d → Begins ns found (get k d)
begins ns k d found shows is =
    subst (λ r. Begins ns r (get k d)) (sym is)
    (begins_there ns k d (place_of k d) (found_there ns k d shows))

pub tells : (ns : List Node) (e : Envelope) (d : Doc) → Locates ns e d → Tells ns d e
tells ns e d l = record {
  type = begins ns (codes "type") d e.kind l.shows (l.places key.Kind);
  command = begins ns (codes "command") d e.command l.shows (l.places key.Command);
  event = begins ns (codes "event") d e.event l.shows (l.places key.Event);
  seq = begins ns (codes "seq") d e.seq l.shows (l.places key.Seq);
  request_seq = begins ns (codes "request_seq") d e.request_seq l.shows (l.places key.RequestSeq);
  success = begins ns (codes "success") d e.success l.shows (l.places key.Success);
}
