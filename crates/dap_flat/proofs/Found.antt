-- Members, one after another.
use Rattle.std.proofs.Common.{◌≡◌, ℕ, ◌+◌, ◌<◌, List, [], ◌∷◌, ◌++◌, map, length, get_or}
use Rattle.std.proofs.Common.{true, false, nat_cmp, is_eq, Option, Some, None, Ordering, Less}
use Rattle.std.proofs.Common.{Equal}
use Rattle.std.proofs.Common.{Greater, refl, sym, ap, ap₂, ◌∙◌, arith, append_assoc}
use Rattle.std.proofs.Common.{length-append, subst, bytes_eq}
use Rattle.std.proofs.Math.Seq.{get_or-append_seam}
use Rattle.std.proofs.lemmas.List.{map-append, length-map, get_or-append-add}
use Rattle.std.proofs.lemmas.Map.Text.{is_eq-slice_cmp}
use Rattle.std.specs.Cmp.Lexicographic.{slice_cmp}
use Rattle.std.specs.Ordering.{match_ordering}
use Rattle.dap_tree.specs.Doc.{Doc, null, boolean, whole, text, list, object, id, Members}
use Rattle.dap_tree.specs.Doc.{no_members, member, get, get_member, change_member, change_child}
use Rattle.dap_flat.specs.declared.node.Node.{Node}
use Rattle.dap_flat.specs.Finding.{Stand, Holds, HoldsMembers, Found, Left}
use Rattle.dap_flat.specs.Pieces.{Piece, leaf, begin_list, end_list, begin_object, end_object, name}
use Rattle.dap_flat.specs.Pieces.{piece_of, pieces, items_pieces, members_pieces}
use Rattle.dap_flat.specs.Placing.{size}
use Rattle.dap_flat.proofs.Position.{head_or, tail_or, name_or, parts, first_size}

-- the first node of the pieces at a place
first_is : (ns front inside behind : List Node) (at : ℕ) (n x : Node) (p : Piece) (ps : List Piece)
    → ns ≡ front ++ (inside ++ behind) → at ≡ length front → map piece_of inside ≡ p ∷ ps
    → get_or ns at x ≡ n → piece_of n ≡ p
first_is ns front [] behind at n x p ps all here shows there = cc
first_is ns front (m ∷ rest) behind at n x p ps all here shows there =
    ap piece_of (sym there ∙ ap₂ (λ xs i. get_or xs i x) all here
    ∙ get_or-append_seam front m (rest ++ behind) x) ∙ ap head_or shows

pub stands_first : (ns : List Node) (at : ℕ) (n x : Node) (p : Piece) (ps : List Piece)
    → Stand ns at (p ∷ ps) → get_or ns at x ≡ n → piece_of n ≡ p
stands_first ns at n x p ps s there =
    first_is ns s.front s.inside s.behind at n x p ps s.all s.here s.shows there

-- the nodes after the first one
rest_stands : (ns front inside behind : List Node) (at : ℕ) (p : Piece) (ps : List Piece)
    → ns ≡ front ++ (inside ++ behind) → at ≡ length front → map piece_of inside ≡ p ∷ ps
    → Stand ns (at + 1) ps
rest_stands ns front [] behind at p ps all here shows = absurd (cc)
rest_stands ns front (m ∷ rest) behind at p ps all here shows = record {
  front = front ++ m ∷ [];
  inside = rest;
  behind = behind;
  all = all ∙ sym (append_assoc front (m ∷ []) (rest ++ behind));
  here = omega (arith, here, length-append front (m ∷ []));
  shows = ap tail_or shows;
}

pub behind_first : (ns : List Node) (at : ℕ) (p : Piece) (ps : List Piece) → Stand ns at (p ∷ ps)
    → Stand ns (at + 1) ps
behind_first ns at p ps s =
    rest_stands ns s.front s.inside s.behind at p ps s.all s.here s.shows

-- two parts
pub first_part : (ns : List Node) (at : ℕ) (ps qs : List Piece) → Stand ns at (ps ++ qs)
    → Stand ns at ps
first_part ns at ps qs s =
    let two = parts s.inside ps qs s.shows in record {
      front = s.front;
      inside = two.front;
      behind = two.back ++ s.behind;
      all = s.all ∙ ap (λ xs. s.front ++ (xs ++ s.behind)) two.all
          ∙ ap (λ xs. s.front ++ xs) (append_assoc two.front two.back s.behind);
      here = s.here;
      shows = two.first;
    }

pub second_part : (ns : List Node) (at : ℕ) (ps qs : List Piece) → Stand ns at (ps ++ qs)
    → Stand ns (at + length ps) qs
second_part ns at ps qs s =
    let two = parts s.inside ps qs s.shows in
    let width : length two.front ≡ length ps =
    sym (length-map two.front piece_of) ∙ ap length two.first in record {
      front = s.front ++ two.front;
      inside = two.back;
      behind = s.behind;
      all = s.all ∙ ap (λ xs. s.front ++ (xs ++ s.behind)) two.all
          ∙ ap (λ xs. s.front ++ xs) (append_assoc two.front two.back s.behind)
          ∙ sym (append_assoc s.front two.front (two.back ++ s.behind));
      here = omega (arith, s.here, width, length-append s.front two.front);
      shows = two.second;
    }

-- the length of the value at a place
pub size_there : (ns : List Node) (at : ℕ) (x : Node) (e : Doc) (qs : List Piece)
    → Stand ns at (pieces e ++ qs) → at < length ns
    → size (piece_of (get_or ns at x)) ≡ length (pieces e)
size_there ns at x e qs s within =
    let total : length ns ≡ length s.front + length (s.inside ++ s.behind) =
    ap length s.all ∙ length-append s.front (s.inside ++ s.behind) in
    let some : 0 < length (s.inside ++ s.behind) = omega (arith, total, within, s.here) in
    let shown : map piece_of (s.inside ++ s.behind) ≡ pieces e ++ (qs ++ map piece_of s.behind) =
    map-append piece_of s.inside s.behind ∙ ap (λ ps. ps ++ map piece_of s.behind) s.shows
    ∙ append_assoc (pieces e) qs (map piece_of s.behind) in
    let front_is : at ≡ length s.front + 0 = omega (arith, s.here) in
    let there : get_or ns at x ≡ get_or (s.inside ++ s.behind) 0 x =
    ap₂ (λ xs i. get_or xs i x) s.all front_is
    ∙ get_or-append-add s.front (s.inside ++ s.behind) 0 x in
    ap (λ y. size (piece_of y)) there
    ∙ first_size (s.inside ++ s.behind) x e (qs ++ map piece_of s.behind) some shown

value_then : (ns : List Node) (p : ℕ) (l : List ℕ) (e : Doc) (rest : Members)
    → HoldsMembers ns p (member l e rest)
    → Stand ns (p + 1) (pieces e ++ (members_pieces rest ++ end_object ∷ []))
value_then ns p l e rest s =
    subst (Stand ns (p + 1)) (append_assoc (pieces e) (members_pieces rest) (end_object ∷ []))
    (behind_first ns p (name l) ((pieces e ++ members_pieces rest) ++ end_object ∷ []) s)

different : (o : Ordering) (e : Doc) (found : Option Doc) → is_eq o ≡ false
    → match_ordering o found (Some e) found ≡ found
different Less e found h = refl
different Equal e found h = cc
different Greater e found h = refl

same : (o : Ordering) (e : Doc) (found : Option Doc) → is_eq o ≡ true
    → match_ordering o found (Some e) found ≡ Some e
same Less e found h = cc
same Equal e found h = refl
same Greater e found h = cc

unchanged : (o : Ordering) (l : List ℕ) (e : Doc) (f : Doc → Doc) (ms changed : Members)
    → is_eq o ≡ false
    → match_ordering o (member l e changed) (member l (f e) ms) (member l e changed)
    ≡ member l e changed
unchanged Less l e f ms changed h = refl
unchanged Equal l e f ms changed h = cc
unchanged Greater l e f ms changed h = refl

changed_here : (o : Ordering) (l : List ℕ) (e : Doc) (f : Doc → Doc) (ms changed : Members)
    → is_eq o ≡ true
    → match_ordering o (member l e changed) (member l (f e) ms) (member l e changed)
    ≡ member l (f e) ms
changed_here Less l e f ms changed h = cc
changed_here Equal l e f ms changed h = refl
changed_here Greater l e f ms changed h = cc

passed : (ns : List Node) (from p end : ℕ) (k s : List ℕ) (ms left : Members) (n x : Node)
    (pre : List Piece) → HoldsMembers ns p left → get_member k ms ≡ get_member k left
    → members_pieces ms ≡ pre ++ members_pieces left → p ≡ from + length pre
    → ((f : Doc → Doc)
    → members_pieces (change_member k f ms) ≡ pre ++ members_pieces (change_member k f left))
    → get_or ns p x ≡ n → piece_of n ≡ name s → bytes_eq k s ≡ false → p + 1 < length ns
    → end ≡ p + 1 + size (piece_of (get_or ns (p + 1) x)) → Left ns from k end ms
passed ns from p end k s ms no_members n x pre h alike is here changes there named other within w =
    let first : piece_of n ≡ end_object = stands_first ns p n x end_object [] h there in absurd (cc)
passed ns from p end k s ms (member l e rest) n x pre h alike is here changes there named other
    within w =
    let first : piece_of n ≡ name l =
    stands_first ns p n x (name l) ((pieces e ++ members_pieces rest) ++ end_object ∷ []) h there in
    let equal : s ≡ l = ap name_or (sym named ∙ first) in
    let value = value_then ns p l e rest h in
    let width = size_there ns (p + 1) x e (members_pieces rest ++ end_object ∷ []) value within in
    let end_is : p + 1 + length (pieces e) ≡ end = omega (arith, w, width) in
    let unlike : is_eq (slice_cmp nat_cmp k l) ≡ false =
    is_eq-slice_cmp k l ∙ ap (bytes_eq k) (sym equal) ∙ other in record {
      members = rest;
      holds = subst (λ i. HoldsMembers ns i rest) end_is
          (second_part ns (p + 1) (pieces e) (members_pieces rest ++ end_object ∷ []) value);
      alike = alike ∙ different (slice_cmp nat_cmp k l) e (get_member k rest) unlike;
      pre = pre ++ name l ∷ pieces e;
      is = is ∙ sym (append_assoc pre (name l ∷ pieces e) (members_pieces rest));
      here = omega (arith, here, end_is, length-append pre (name l ∷ pieces e));
      changes = λ f. changes f
          ∙ ap (λ ns. pre ++ members_pieces ns)
          (unchanged (slice_cmp nat_cmp k l) l e f rest (change_member k f rest) unlike)
          ∙ sym (append_assoc pre (name l ∷ pieces e) (members_pieces (change_member k f rest)));
    }

pub member_passed : (ns : List Node) (from p end : ℕ) (k s : List ℕ) (ms : Members) (n x : Node)
    → Left ns from k p ms → get_or ns p x ≡ n → piece_of n ≡ name s → bytes_eq k s ≡ false
    → p + 1 < length ns → end ≡ p + 1 + size (piece_of (get_or ns (p + 1) x))
    → Left ns from k end ms
member_passed ns from p end k s ms n x l there named other within w =
    passed ns from p end k s ms l.members n x l.pre l.holds l.alike l.is l.here l.changes there
    named other within w

found : (ns : List Node) (from p : ℕ) (k s : List ℕ) (ms left : Members) (n x : Node)
    (pre : List Piece) → HoldsMembers ns p left → get_member k ms ≡ get_member k left
    → members_pieces ms ≡ pre ++ members_pieces left → p ≡ from + length pre
    → ((f : Doc → Doc)
    → members_pieces (change_member k f ms) ≡ pre ++ members_pieces (change_member k f left))
    → get_or ns p x ≡ n → piece_of n ≡ name s → bytes_eq k s ≡ true
    → Found ns from (p + 1) (members_pieces ms) (λ f. members_pieces (change_member k f ms))
    (get_member k ms)
found ns from p k s ms no_members n x pre h alike is here changes there named equal =
    let first : piece_of n ≡ end_object = stands_first ns p n x end_object [] h there in absurd (cc)
found ns from p k s ms (member l e rest) n x pre h alike is here changes there named equal =
    let first : piece_of n ≡ name l =
    stands_first ns p n x (name l) ((pieces e ++ members_pieces rest) ++ end_object ∷ []) h there in
    let same_name : s ≡ l = ap name_or (sym named ∙ first) in
    let like : is_eq (slice_cmp nat_cmp k l) ≡ true =
    is_eq-slice_cmp k l ∙ ap (bytes_eq k) (sym same_name) ∙ equal in record {
      part = e;
      is = alike ∙ same (slice_cmp nat_cmp k l) e (get_member k rest) like;
      pre = pre ++ name l ∷ [];
      post = members_pieces rest;
      between = record {
        is = is ∙ sym (append_assoc pre (name l ∷ []) (pieces e ++ members_pieces rest));
        changes = λ f long. changes f
            ∙ ap (λ ns. pre ++ members_pieces ns)
            (changed_here (slice_cmp nat_cmp k l) l e f rest (change_member k f rest) like)
            ∙ sym (append_assoc pre (name l ∷ []) (pieces (f e) ++ members_pieces rest));
      };
      here = omega (arith, here, length-append pre (name l ∷ []));
      holds = first_part ns (p + 1) (pieces e) (members_pieces rest ++ end_object ∷ [])
          (value_then ns p l e rest h);
    }

pub member_found : (ns : List Node) (from p : ℕ) (k s : List ℕ) (ms : Members) (n x : Node)
    → Left ns from k p ms → get_or ns p x ≡ n → piece_of n ≡ name s → bytes_eq k s ≡ true
    → Found ns from (p + 1) (members_pieces ms) (λ f. members_pieces (change_member k f ms))
    (get_member k ms)
member_found ns from p k s ms n x l there named equal =
    found ns from p k s ms l.members n x l.pre l.holds l.alike l.is l.here l.changes there named
    equal

pub all_left : (ns : List Node) (from : ℕ) (k : List ℕ) (ms : Members) → HoldsMembers ns from ms
    → Left ns from k from ms
all_left ns from k ms h = record {
  members = ms;
  holds = h;
  alike = refl;
  pre = [];
  is = refl;
  here = omega arith;
  changes = λ f. refl;
}

pub none_left : (ns : List Node) (p : ℕ) (k : List ℕ) (left : Members) (n x : Node)
    → HoldsMembers ns p left → get_or ns p x ≡ n → piece_of n ≡ end_object
    → get_member k left ≡ None
none_left ns p k no_members n x h there ended = refl
none_left ns p k (member l e rest) n x h there ended =
    let first : piece_of n ≡ name l =
    stands_first ns p n x (name l) ((pieces e ++ members_pieces rest) ++ end_object ∷ []) h there in
    absurd (cc)

-- ---- a document

leaf_is : (ns : List Node) (at : ℕ) (d : Doc) (n x : Node) (i : ℕ) → Stand ns at (leaf d ∷ [])
    → get_or ns at x ≡ n → piece_of n ≡ begin_object i → ⊥
leaf_is ns at d n x i h there begun =
    let first = stands_first ns at n x (leaf d) [] h there in cc

pub object_inside : (ns : List Node) (at : ℕ) (d : Doc) (n x : Node) (i : ℕ) → Holds ns at d
    → get_or ns at x ≡ n → piece_of n ≡ begin_object i
    → (ms : Members) × (d ≡ object ms) × HoldsMembers ns (at + 1) ms
object_inside ns at null n x i h there begun = absurd (leaf_is ns at null n x i h there begun)
object_inside ns at (boolean b) n x i h there begun =
    absurd (leaf_is ns at (boolean b) n x i h there begun)
object_inside ns at (whole z) n x i h there begun =
    absurd (leaf_is ns at (whole z) n x i h there begun)
object_inside ns at (text s) n x i h there begun =
    absurd (leaf_is ns at (text s) n x i h there begun)
object_inside ns at (list ds) n x i h there begun =
    let first = stands_first ns at n x (begin_list (length (items_pieces ds)))
    (items_pieces ds ++ end_list ∷ []) h there in absurd (cc)
object_inside ns at (object ms) n x i h there begun =
    (ms, refl, behind_first ns at (begin_object (length (members_pieces ms))) _ h)
object_inside ns at (id s z) n x i h there begun =
    absurd (leaf_is ns at (id s z) n x i h there begun)

-- ---- the members of a document that is an object

around : (pre post : List Piece) (n m : ℕ) (e : List Piece) → n ≡ m
    → begin_object n ∷ ((pre ++ (e ++ post)) ++ end_object ∷ [])
    ≡ (begin_object m ∷ pre) ++ (e ++ (post ++ end_object ∷ []))
around pre post n m e same_length =
    ap₂ (λ i ps. begin_object i ∷ ps) same_length
    (append_assoc pre (e ++ post) (end_object ∷ [])
    ∙ ap (λ ps. pre ++ ps) (append_assoc e post (end_object ∷ [])))

pub child_found : (ns : List Node) (at i : ℕ) (k : List ℕ) (ms : Members)
    → Found ns (at + 1) i (members_pieces ms) (λ f. members_pieces (change_member k f ms))
    (get_member k ms)
    → Found ns at i (pieces (object ms)) (λ f. pieces (change_child k f (object ms)))
    (get k (object ms))
child_found ns at i k ms h =
    let n = length (members_pieces ms) in record {
      part = h.part;
      is = h.is;
      pre = begin_object n ∷ h.pre;
      post = h.post ++ end_object ∷ [];
      between = record {
        is = ap (λ ps. begin_object n ∷ (ps ++ end_object ∷ [])) h.between.is
            ∙ around h.pre h.post n n (pieces h.part) refl;
        changes = λ f long.
            let new = h.between.changes f long in
            let count : length (members_pieces (change_member k f ms)) ≡ n =
            ap length new ∙ length-append h.pre (pieces (f h.part) ++ h.post)
            ∙ ap (λ j. length h.pre + j) (length-append (pieces (f h.part)) h.post
            ∙ ap (λ j. j + length h.post) long ∙ sym (length-append (pieces h.part) h.post))
            ∙ sym (length-append h.pre (pieces h.part ++ h.post)) ∙ sym (ap length h.between.is) in
            ap₂ (λ j ps. begin_object j ∷ (ps ++ end_object ∷ [])) count new
            ∙ around h.pre h.post n n (pieces (f h.part)) refl;
      };
      here = omega (arith, h.here);
      holds = h.holds;
    }
