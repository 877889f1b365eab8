-- A whole document that is changed in its place.
use Rattle.std.proofs.Common.{◌≡◌, ℕ, ◌+◌, ◌<◌, List, [], ◌∷◌, ◌++◌, map, length, drop, get_or}
use Rattle.std.proofs.Common.{refl, sym}
use Rattle.std.proofs.Common.{ap, ap₂, ◌∙◌, arith, append-nil, length-append, subst, Option, Some}
use Rattle.std.proofs.Common.{None}
use Rattle.std.proofs.lemmas.List.{length-map, at_drop_more}
use Rattle.std.specs.Borrow.{Bor}
use Rattle.dap_tree.specs.Doc.{Doc, get, change_child}
use Rattle.dap_tree.specs.declared.side.Side.{Side}
use Rattle.dap_tree.specs.declared.sort.Sort.{Sort}
use Rattle.dap_profile.specs.PlaceSteps.{PlaceStep, named}
use Rattle.dap_profile.specs.ProfileRows.{ProfileRow, row_of}
use Rattle.dap_profile.specs.RowRanges.{rows_in}
use Rattle.dap_profile.specs.declared.profile.Row.{Row}
use Rattle.dap_message.specs.AskedRows.{mark_by, marks_by}
use Rattle.dap_message.specs.Marks.{mark, marked, edit}
use Rattle.dap_message.proofs.AskedRows.{mark-asked, marks-drop}
use Rattle.dap_flat.specs.declared.node.Node.{Node}
use Rattle.dap_flat.specs.Finding.{Finds, Found}
use Rattle.dap_flat.specs.Pieces.{piece_of, pieces, Represents}
use Rattle.dap_flat_message.specs.Heads.{AreAsked}
use Rattle.dap_flat_message.specs.Places.{Locates, FindsTop}
use Rattle.dap_flat_message.specs.declared.members.Envelope.{Envelope}
use Rattle.dap_flat_message.proofs.Heads.{holds_whole}
use Rattle.dap_flat_message.proofs.KeptPlaces.{marked_places}
use Rattle.dap_flat_message.proofs.Replacing.{child_replaced, no_child}
use Rattle.dap_flat_message.specs.Marking.{Edits, Replaced}
use Rattle.dap_flat_message.specs.Marked.{Makes, AreMarked}

nothing : {X : Type 0} (xs : List X) → 0 ≡ length xs → xs ≡ []
nothing [] h = refl
nothing (x ∷ xs) h = absurd (omega (arith, h))

shown_now : (old new : List Node) (d e : Doc) → Represents old d
    → Replaced old new 0 (pieces d) (pieces e) → Represents new e
shown_now old new d e shows r =
    let front : r.front ≡ [] = nothing r.front r.here in
    let long : length old ≡ length (pieces d) =
    sym (length-map old piece_of) ∙ ap length shows in
    let inside : length r.inside ≡ length (pieces d) =
    sym (length-map r.inside piece_of) ∙ ap length r.showed in
    let all : length old ≡ length r.front + (length r.inside + length r.behind) =
    ap length r.was ∙ length-append r.front (r.inside ++ r.behind)
    ∙ ap (λ n. length r.front + n) (length-append r.inside r.behind) in
    let none : 0 ≡ length r.behind = omega (arith, long, inside, all, r.here) in
    let behind : r.behind ≡ [] = nothing r.behind none in
    ap (map piece_of) (r.is ∙ ap₂ (λ xs ys. xs ++ (r.put ++ ys)) front behind ∙ append-nil r.put)
    ∙ r.shows

pub top_marked : (old new : List Node) (e : Envelope) (i : ℕ) (k : List ℕ) (path : List PlaceStep)
    (sort : Sort) (r : Option ℕ) → FindsTop old e k r → r ≡ Some i
    → Edits old new i (edit path (marked sort))
    → Makes e old new (edit (named k ∷ path) (marked sort))
top_marked old new e i k path sort r finds is edits d l =
    let f = edit path (marked sort) in
    let h : Found old 0 i (pieces d) (λ g. pieces (change_child k g d)) (get k d) =
    subst (λ r. Finds old 0 (pieces d) (λ g. pieces (change_child k g d)) r (get k d)) is
    (finds d l) in record {
      shows = shown_now old new d (change_child k f d) l.shows
          (child_replaced old new 0 i k d f (holds_whole old d l.shows) h (edits h.part h.holds));
      places = marked_places e k path sort d l.places;
    }

pub no_top : (ns : List Node) (e : Envelope) (k : List ℕ) (path : List PlaceStep) (sort : Sort)
    (r : Option ℕ) → FindsTop ns e k r → r ≡ None
    → Makes e ns ns (edit (named k ∷ path) (marked sort))
no_top ns e k path sort r finds is d l =
    let none : get k d ≡ None =
    subst (λ r. Finds ns 0 (pieces d) (λ g. pieces (change_child k g d)) r (get k d)) is
    (finds d l) in
    subst (Locates ns e) (sym (no_child k (edit path (marked sort)) d none)) l

-- ---- rows, one after the other

pub none_marked : (rows : List ProfileRow) (side : Side) (e : Envelope) (ns : List Node)
    → AreMarked rows rows side e ns ns
none_marked rows side e ns d l = (d, l, refl)

pub row_marked : (all : List ProfileRow) (rows : List Row) (i : ℕ) (x : Row) (side : Side)
    (e : Envelope) (old now new : List Node) → i < length rows
    → AreMarked all (map row_of (drop i rows)) side e old now
    → Makes e now new (mark_by (row_of (get_or rows i x)) side)
    → AreMarked all (map row_of (drop (i + 1) rows)) side e old new
row_marked all rows i x side e old now new within marked makes d l =
    let m = marked d l in (
      mark_by (row_of (get_or rows i x)) side m.0,
      makes m.0 m.1,
      sym (at_drop_more (λ ys. marks_by (map row_of ys) side m.0) rows i x within) ∙ m.2,
    )

pub stretch_marked : (all : List ProfileRow) (stretches : List (Bor (List Row))) (i : ℕ)
    (x : Bor (List Row)) (side : Side) (e : Envelope) (old now new : List Node)
    → i < length stretches → AreMarked all (rows_in (drop i stretches)) side e old now
    → Makes e now new (marks_by (map row_of (get_or stretches i x).now) side)
    → AreMarked all (rows_in (drop (i + 1) stretches)) side e old new
stretch_marked all stretches i x side e old now new within marked makes d l =
    let m = marked d l in (
      marks_by (map row_of (get_or stretches i x).now) side m.0,
      makes m.0 m.1,
      sym (marks-drop (λ rs. map row_of rs.now) stretches i x side m.0 within) ∙ m.2,
    )

pub all_marked : (all left : List ProfileRow) (side : Side) (e : Envelope) (old now : List Node)
    → left ≡ [] → AreMarked all left side e old now → Makes e old now (marks_by all side)
all_marked all left side e old now none marked d l =
    let m = marked d l in
    subst (Locates now e) (ap (λ rs. marks_by rs side m.0) (sym none) ∙ m.2) m.1

pub asked_marks : (e : Envelope) (old new : List Node) (side : Side) (rs : List ProfileRow)
    → AreAsked old rs → Makes e old new (marks_by rs side) → Makes e old new (mark side)
asked_marks e old new side rs asked makes d l =
    subst (Locates new e)
    (ap (λ rs. marks_by rs side d) (asked d l.shows).2 ∙ sym (mark-asked side d)) (makes d l)
