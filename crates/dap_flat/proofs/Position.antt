-- Where a member goes among others, a member at a time.
use Rattle.std.proofs.Common.{◌≡◌, ℕ, ◌+◌, ◌-◌, ◌<◌, ◌≤◌, suc, List, [], ◌∷◌, ◌++◌, map, length}
use Rattle.std.proofs.Common.{take, drop, get_or, true, nat_cmp, Ordering, Greater, refl, sym}
use Rattle.std.proofs.Common.{ap, ap₂, ◌∙◌, arith, append_assoc, append-nil, length-append, subst}
use Rattle.std.proofs.Math.Seq.{take-append_seam, drop-append_seam, get_or-append_seam}
use Rattle.std.proofs.lemmas.List.{map-append, length-map, get_or-append-add}
use Rattle.std.proofs.lemmas.Cmp.{nat_list_cmp_total}
use Rattle.std.specs.Cmp.Lexicographic.{slice_cmp}
use Rattle.std.specs.Ordering.{ordering_reverse, is_lt}
use Rattle.dap_tree.specs.Doc.{Doc, null, boolean, whole, text, list, object, id, Members}
use Rattle.dap_tree.specs.Doc.{no_members, member, put}
use Rattle.dap_flat.specs.declared.node.Node.{Node}
use Rattle.dap_flat.specs.Order.{AreBelow, IsBefore, joined}
use Rattle.dap_flat.specs.Pieces.{Piece, leaf, begin_list, end_list, begin_object, end_object, name}
use Rattle.dap_flat.specs.Pieces.{piece_of, pieces, items_pieces, members_pieces, Appends}
use Rattle.dap_flat.specs.Placing.{size, Inserts, Between}
use Rattle.dap_flat.proofs.Placing.{put_between, below_joined, joined_assoc}

abbrev pub head_or : List Piece → Piece
head_or [] = end_list
head_or (p ∷ ps) = p

abbrev pub tail_or : List Piece → List Piece
tail_or [] = []
tail_or (p ∷ ps) = ps

-- the length of a value that starts with a piece
pub size_first : (d : Doc) (qs : List Piece) → size (head_or (pieces d ++ qs)) ≡ length (pieces d)
size_first null qs = refl
size_first (boolean b) qs = refl
size_first (whole z) qs = refl
size_first (text s) qs = refl
size_first (list ds) qs = omega (arith, length-append (items_pieces ds) (end_list ∷ []))
size_first (object ms) qs = omega (arith, length-append (members_pieces ms) (end_object ∷ []))
size_first (id s z) qs = refl

-- nodes of two lists of pieces are in two parts
pub record Parts (ns : List Node) (ps qs : List Piece) : Type 0 where
  pub front : List Node
  pub back : List Node
  pub all : ns ≡ front ++ back
  pub first : map piece_of front ≡ ps
  pub second : map piece_of back ≡ qs

parts_more : (n : Node) (ns : List Node) (p : Piece) (ps qs : List Piece) → piece_of n ≡ p
    → Parts ns ps qs → Parts (n ∷ ns) (p ∷ ps) qs
parts_more n ns p ps qs e f = record {
  front = n ∷ f.front;
  back = f.back;
  all = ap (λ xs. n ∷ xs) f.all;
  first = ap₂ (λ x xs. x ∷ xs) e f.first;
  second = f.second;
}

pub parts : (ns : List Node) (ps qs : List Piece) → map piece_of ns ≡ ps ++ qs → Parts ns ps qs
parts ns [] qs e = record { front = []; back = ns; all = refl; first = refl; second = e }
parts [] (p ∷ ps) qs e = cc
parts (n ∷ ns) (p ∷ ps) qs e =
    parts_more n ns p ps qs (ap head_or e) (parts ns ps qs (ap tail_or e))

pub joined_pieces : (a b : Members)
    → members_pieces (joined a b) ≡ members_pieces a ++ members_pieces b
joined_pieces no_members b = refl
joined_pieces (member l e ms) b =
    ap (λ ps. name l ∷ (pieces e ++ ps)) (joined_pieces ms b)
    ∙ ap (λ ps. name l ∷ ps) (sym (append_assoc (pieces e) (members_pieces ms) (members_pieces b)))

pub none_between : (held : List Node) (k : List ℕ) (ms : Members)
    → map piece_of held ≡ members_pieces ms → Between held k 0 ms
none_between held k ms e = record {
  front = [];
  back = held;
  all = refl;
  here = refl;
  done = no_members;
  left = ms;
  joins = refl;
  low = tt;
  before = refl;
  behind = e;
}

-- it goes before the remaining members
pub goes : (held : List Node) (k : List ℕ) (p : ℕ) (ms : Members) (d : Doc)
    → (b : Between held k p ms) → IsBefore k b.left → Inserts held k p ms d
goes held k p ms d b first = record {
  front = b.front;
  back = b.back;
  all = b.all;
  here = b.here;
  shows =
      ap₂ (λ xs ys. xs ++ (name k ∷ (pieces d ++ ys))) b.before b.behind
      ∙ sym (joined_pieces b.done (member k d b.left))
      ∙ ap members_pieces (sym (put_between b.done b.left k d b.low first)
      ∙ ap (put k d) (sym b.joins));
}

-- ---- a member is passed

above : (l k : List ℕ) (o : Ordering) → slice_cmp nat_cmp k l ≡ Greater
    → is_lt (slice_cmp nat_cmp l k) ≡ true
above l k o e = ap is_lt (nat_list_cmp_total.antisymm l k ∙ ap ordering_reverse e)

-- the members after the next one
passed : (held front rest inside behind : List Node) (n : Node) (k l : List ℕ) (p end : ℕ)
    (ms done left : Members) (e : Doc) → held ≡ front ++ n ∷ rest → rest ≡ inside ++ behind
    → p ≡ length front → end ≡ p + 1 + length inside → ms ≡ joined done (member l e left)
    → AreBelow done k → is_lt (slice_cmp nat_cmp l k) ≡ true
    → map piece_of front ≡ members_pieces done → piece_of n ≡ name l
    → map piece_of inside ≡ pieces e → map piece_of behind ≡ members_pieces left
    → Between held k end ms
passed held front rest inside behind n k l p end ms done left e all two here there joins low less
    before named value after = record {
      front = front ++ n ∷ inside;
      back = behind;
      all = all ∙ ap (λ xs. front ++ n ∷ xs) two ∙ sym (append_assoc front (n ∷ inside) behind);
      here = omega (arith, length-append front (n ∷ inside));
      done = joined done (member l e no_members);
      left = left;
      joins = joins ∙ sym (joined_assoc done (member l e no_members) left);
      low = below_joined done (member l e no_members) k low (less, tt);
      before =
          map-append piece_of front (n ∷ inside)
          ∙ ap₂ (λ xs ys. xs ++ ys) before
          (ap₂ (λ x xs. x ∷ xs) named (value ∙ sym (append-nil (pieces e))))
          ∙ sym (joined_pieces done (member l e no_members));
      behind = after;
    }

abbrev pub name_or : Piece → List ℕ
name_or (leaf d) = []
name_or (begin_list n) = []
name_or end_list = []
name_or (begin_object n) = []
name_or end_object = []
name_or (name k) = k

-- the length of a value that starts there
pub first_size : (rest : List Node) (x : Node) (e : Doc) (qs : List Piece) → 0 < length rest
    → map piece_of rest ≡ pieces e ++ qs → size (piece_of (get_or rest 0 x)) ≡ length (pieces e)
first_size [] x e qs some is = absurd (omega (arith, some))
first_size (y ∷ ys) x e qs some is = ap (λ ps. size (head_or ps)) is ∙ size_first e qs

pass_at : (held front back : List Node) (done left : Members) (k s : List ℕ) (p end : ℕ)
    (ms : Members) (n x : Node) → held ≡ front ++ back → p ≡ length front → ms ≡ joined done left
    → AreBelow done k → map piece_of front ≡ members_pieces done
    → map piece_of back ≡ members_pieces left → p < length held → get_or held p x ≡ n
    → piece_of n ≡ name s → slice_cmp nat_cmp k s ≡ Greater → p + 1 < length held
    → end ≡ p + 1 + size (piece_of (get_or held (p + 1) x)) → Between held k end ms
pass_at held front [] done left k s p end ms n x all here joins low before behind within there
    named cmp more is =
    absurd (omega (arith, ap length all ∙ length-append front [], within, here))
pass_at held front (m ∷ rest) done no_members k s p end ms n x all here joins low before behind
    within there named cmp more is = absurd (cc)
pass_at held front (m ∷ rest) done (member l e left) k s p end ms n x all here joins low before
    behind within there named cmp more is =
    let seam : get_or held p x ≡ m =
    ap₂ (λ ns i. get_or ns i x) all here ∙ get_or-append_seam front m rest x in
    let first : piece_of m ≡ name l = ap head_or behind in
    let same : s ≡ l =
    ap name_or (sym named ∙ ap piece_of (sym there ∙ seam) ∙ first) in
    let after : map piece_of rest ≡ pieces e ++ members_pieces left = ap tail_or behind in
    let two = parts rest (pieces e) (members_pieces left) after in
    let total : length held ≡ length front + suc (length rest) =
    ap length all ∙ length-append front (m ∷ rest) in
    let some : 0 < length rest = omega (arith, total, more, here) in
    let at : get_or held (p + 1) x ≡ get_or rest 0 x =
    ap₂ (λ ns i. get_or ns (i + 1) x) all here ∙ get_or-append-add front (m ∷ rest) 1 x in
    let inside : size (piece_of (get_or held (p + 1) x)) ≡ length two.front =
    ap (λ y. size (piece_of y)) at ∙ first_size rest x e (members_pieces left) some after
    ∙ ap length (sym two.first) ∙ length-map two.front piece_of in
    passed held front rest two.front two.back m k l p end ms done left e all two.all here
    (is ∙ ap (λ i. p + 1 + i) inside) joins low
    (subst (λ j. is_lt (slice_cmp nat_cmp j k) ≡ true) same (above s k Greater cmp)) before first
    two.first two.second

pub pass : (held : List Node) (k s : List ℕ) (p end : ℕ) (ms : Members) (n x : Node)
    → (b : Between held k p ms) → p < length held → get_or held p x ≡ n → piece_of n ≡ name s
    → slice_cmp nat_cmp k s ≡ Greater → p + 1 < length held
    → end ≡ p + 1 + size (piece_of (get_or held (p + 1) x)) → Between held k end ms
pass held k s p end ms n x b within there named cmp more is =
    pass_at held b.front b.back b.done b.left k s p end ms n x b.all b.here b.joins b.low b.before
    b.behind within there named cmp more is

-- ---- a member belongs before one with a greater name, or after all

before_at : (front back : List Node) (left : Members) (held : List Node) (k s : List ℕ) (p : ℕ)
    (n x : Node) → held ≡ front ++ back → p ≡ length front → map piece_of back ≡ members_pieces left
    → get_or held p x ≡ n → piece_of n ≡ name s → is_lt (slice_cmp nat_cmp k s) ≡ true
    → IsBefore k left
before_at front back no_members held k s p n x all here behind there named less = tt
before_at front [] (member l e left) held k s p n x all here behind there named less = cc
before_at front (m ∷ rest) (member l e left) held k s p n x all here behind there named less =
    let seam : get_or held p x ≡ m =
    ap₂ (λ ns i. get_or ns i x) all here ∙ get_or-append_seam front m rest x in
    let first : piece_of m ≡ name l = ap head_or behind in
    let same : s ≡ l =
    ap name_or (sym named ∙ ap piece_of (sym there ∙ seam) ∙ first) in
    subst (λ j. is_lt (slice_cmp nat_cmp k j) ≡ true) same less

pub goes_before : (held : List Node) (k s : List ℕ) (p : ℕ) (ms : Members) (d : Doc) (n x : Node)
    → Between held k p ms → get_or held p x ≡ n → piece_of n ≡ name s
    → is_lt (slice_cmp nat_cmp k s) ≡ true → Inserts held k p ms d
goes_before held k s p ms d n x b there named less =
    goes held k p ms d b
    (before_at b.front b.back b.left held k s p n x b.all b.here b.behind there named less)

last_at : (front back : List Node) (left : Members) (held : List Node) (k : List ℕ) (p : ℕ)
    → held ≡ front ++ back → p ≡ length front → map piece_of back ≡ members_pieces left
    → length held ≤ p → IsBefore k left
last_at front back no_members held k p all here behind over = tt
last_at front [] (member l e left) held k p all here behind over = cc
last_at front (m ∷ rest) (member l e left) held k p all here behind over =
    absurd (omega (arith, ap length all ∙ length-append front (m ∷ rest), here, over))

pub is_greatest : (held : List Node) (k : List ℕ) (p : ℕ) (ms : Members) (d : Doc)
    → Between held k p ms → length held ≤ p → Inserts held k p ms d
is_greatest held k p ms d b over =
    goes held k p ms d b (last_at b.front b.back b.left held k p b.all b.here b.behind over)

-- ---- the nodes from `at` on, put in their place

turned : (before front back more : List Node) (from at : ℕ) → from ≡ length before + length front
    → at ≡ length before + (length front + length back)
    → take from (before ++ ((front ++ back) ++ more))
    ++ (drop at (before ++ ((front ++ back) ++ more))
    ++ take (at - from) (drop from (before ++ ((front ++ back) ++ more))))
    ≡ before ++ (front ++ (more ++ back))
turned before front back more from at here there =
    let old = before ++ ((front ++ back) ++ more) in
    let split : old ≡ (before ++ front) ++ (back ++ more) =
    ap (λ xs. before ++ xs) (append_assoc front back more)
    ∙ sym (append_assoc before front (back ++ more)) in
    let split_two : old ≡ (before ++ (front ++ back)) ++ more =
    sym (append_assoc before (front ++ back) more) in
    let from_is : from ≡ length (before ++ front) = here ∙ sym (length-append before front) in
    let at_is : at ≡ length (before ++ (front ++ back)) =
    there ∙ ap (λ n. length before + n) (sym (length-append front back))
    ∙ sym (length-append before (front ++ back)) in
    let first : take from old ≡ before ++ front =
    ap₂ (λ n xs. take n xs) from_is split ∙ take-append_seam (before ++ front) (back ++ more) in
    let rest : drop from old ≡ back ++ more =
    ap₂ (λ n xs. drop n xs) from_is split ∙ drop-append_seam (before ++ front) (back ++ more) in
    let last : drop at old ≡ more =
    ap₂ (λ n xs. drop n xs) at_is split_two ∙ drop-append_seam (before ++ (front ++ back)) more in
    let width : at - from ≡ length back = omega (arith, here, there) in
    let middle : take (at - from) (drop from old) ≡ back =
    ap₂ (λ n xs. take n xs) width rest ∙ take-append_seam back more in
    ap₂ (λ xs ys. xs ++ ys) first (ap₂ (λ xs ys. xs ++ ys) last middle)
    ∙ append_assoc before front (more ++ back)

pub placed : (before held more old new : List Node) (k : List ℕ) (ms : Members) (d : Doc)
    (start at p : ℕ) → old ≡ before ++ (held ++ more) → length before ≡ start
    → length before + length held ≡ at → map piece_of more ≡ name k ∷ pieces d
    → Inserts held k p ms d
    → new ≡ take (start + p) old ++ (drop at old ++ take (at - (start + p)) (drop (start + p) old))
    → Appends before new (members_pieces (put k d ms))
placed before held more old new k ms d start at p is here there value g e =
    let whole : old ≡ before ++ ((g.front ++ g.back) ++ more) =
    is ∙ ap (λ xs. before ++ (xs ++ more)) g.all in
    let lengths : length held ≡ length g.front + length g.back =
    ap length g.all ∙ length-append g.front g.back in
    record {
      more = g.front ++ (more ++ g.back);
      added =
          e ∙ ap (λ xs. take (start + p) xs ++
          (drop at xs ++ take (at - (start + p)) (drop (start + p) xs))) whole
          ∙ turned before g.front g.back more (start + p) at (omega (arith, here, g.here))
          (omega (arith, here, there, lengths));
      shows =
          map-append piece_of g.front (more ++ g.back)
          ∙ ap (λ ps. map piece_of g.front ++ ps) (map-append piece_of more g.back
          ∙ ap (λ ps. ps ++ map piece_of g.back) value) ∙ g.shows;
    }

pub slice_held : (before held more : List Node) (start at : ℕ) → length before ≡ start
    → length before + length held ≡ at
    → take (at - start) (drop start (before ++ (held ++ more))) ≡ held
slice_held before held more start at here there =
    let rest : drop start (before ++ (held ++ more)) ≡ held ++ more =
    ap (λ n. drop n (before ++ (held ++ more))) (sym here)
    ∙ drop-append_seam before (held ++ more) in
    let width : at - start ≡ length held = omega (arith, here, there) in
    ap₂ (λ n xs. take n xs) width rest ∙ take-append_seam held more
