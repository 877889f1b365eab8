-- Parts of a list of nodes that are replaced.
use Rattle.std.proofs.Common.{◌≡◌, ℕ, ◌+◌, ◌-◌, ◌<◌, ◌≤◌, List, [], ◌∷◌, ◌++◌, map, length, take}
use Rattle.std.proofs.Common.{drop, set, get_or, Option, Some, None, Ordering, Less, Equal, Greater}
use Rattle.std.proofs.Common.{nat_cmp, true, false, Bool, cond, ℤ, refl, sym, ap, ap₂, ◌∙◌, arith}
use Rattle.std.proofs.Common.{append_assoc, length-append, append-nil, subst, take_all}
use Rattle.std.proofs.Math.Seq.{take-append_seam, drop-append_seam, set-append_seam}
use Rattle.std.proofs.Math.Seq.{get_or-append_seam}
use Rattle.std.proofs.lemmas.List.{map-append, length-map}
use Rattle.std.specs.Cmp.Lexicographic.{slice_cmp}
use Rattle.std.specs.Ordering.{match_ordering}
use Rattle.dap_tree.specs.declared.sort.Sort.{Sort}
use Rattle.dap_tree.specs.Doc.{Doc, null, boolean, whole, text, list, object, id, Items, no_items}
use Rattle.dap_tree.specs.Doc.{item, map_items}
use Rattle.dap_tree.specs.Doc.{Members}
use Rattle.dap_tree.specs.Doc.{no_members, member, get, get_member, change_child, change_member}
use Rattle.dap_message.specs.Marks.{marked, is_id_of}
use Rattle.dap_flat.specs.declared.node.Node.{Node}
use Rattle.dap_flat.specs.Finding.{Stand, Holds, Found}
use Rattle.dap_flat.specs.Pieces.{Piece, leaf, begin_list, end_list}
use Rattle.dap_flat.specs.Pieces.{piece_of, pieces, items_pieces}
use Rattle.dap_flat.proofs.Position.{head_or, tail_or, parts}
use Rattle.dap_flat.proofs.Found.{stands_first, behind_first, first_part, second_part, size_there}
use Rattle.dap_flat.specs.Placing.{size}
use Rattle.dap_flat_message.specs.Marking.{Replaced, marked_piece, joined, SoFar}

pub same_again : (ns : List Node) (at : ℕ) (ps : List Piece) → Stand ns at ps
    → Replaced ns ns at ps ps
same_again ns at ps s = record {
  front = s.front;
  inside = s.inside;
  put = s.inside;
  behind = s.behind;
  was = s.all;
  is = s.all;
  here = s.here;
  showed = s.shows;
  shows = s.shows;
  long = refl;
}

-- ---- a part of a part

front_is : (old a b c d : List Node) (i : ℕ) → old ≡ a ++ b → old ≡ c ++ d → i ≡ length a
    → i ≡ length c → a ≡ c
front_is old a b c d i is also first second =
    sym (take-append_seam a b) ∙ ap₂ (λ n xs. take n xs) (sym first) (sym is)
    ∙ ap₂ (λ n xs. take n xs) second also ∙ take-append_seam c d

behind_is : (old a b c d : List Node) (i : ℕ) → old ≡ a ++ b → old ≡ c ++ d → i ≡ length a
    → i ≡ length c → b ≡ d
behind_is old a b c d i is also first second =
    sym (drop-append_seam a b) ∙ ap₂ (λ n xs. drop n xs) (sym first) (sym is)
    ∙ ap₂ (λ n xs. drop n xs) second also ∙ drop-append_seam c d

inner : (old new : List Node) (at i : ℕ) (pre ps qs post all changed : List Piece)
    → Stand old at all → all ≡ pre ++ (ps ++ post) → changed ≡ pre ++ (qs ++ post)
    → i ≡ at + length pre → Replaced old new i ps qs → Replaced old new at all changed
inner old new at i pre ps qs post all changed s is changes here r =
    let one = parts s.inside pre (ps ++ post) (s.shows ∙ is) in
    let two = parts one.back ps post one.second in
    let pre_long : length one.front ≡ length pre =
    sym (length-map one.front piece_of) ∙ ap length one.first in
    let old_is : old ≡ (s.front ++ one.front) ++ (one.back ++ s.behind) =
    s.all ∙ ap (λ xs. s.front ++ (xs ++ s.behind)) one.all
    ∙ ap (λ xs. s.front ++ xs) (append_assoc one.front one.back s.behind)
    ∙ sym (append_assoc s.front one.front (one.back ++ s.behind)) in
    let i_is : i ≡ length (s.front ++ one.front) =
    omega (arith, here, s.here, pre_long, length-append s.front one.front) in
    let fronts : r.front ≡ s.front ++ one.front =
    front_is old r.front (r.inside ++ r.behind) (s.front ++ one.front) (one.back ++ s.behind) i
    r.was old_is r.here i_is in
    let rests : r.inside ++ r.behind ≡ one.back ++ s.behind =
    behind_is old r.front (r.inside ++ r.behind) (s.front ++ one.front) (one.back ++ s.behind) i
    r.was old_is r.here i_is in
    let back_is : one.back ++ s.behind ≡ two.front ++ (two.back ++ s.behind) =
    ap (λ xs. xs ++ s.behind) two.all ∙ append_assoc two.front two.back s.behind in
    let inside_long : length r.inside ≡ length two.front =
    sym (length-map r.inside piece_of) ∙ ap length (r.showed ∙ sym two.first)
    ∙ length-map two.front piece_of in
    let behinds : r.behind ≡ two.back ++ s.behind =
    behind_is (one.back ++ s.behind) r.inside r.behind two.front (two.back ++ s.behind)
    (length r.inside) (sym rests) back_is refl inside_long in record {
      front = s.front;
      inside = s.inside;
      put = one.front ++ (r.put ++ two.back);
      behind = s.behind;
      was = s.all;
      is =
          r.is ∙ ap₂ (λ xs ys. xs ++ (r.put ++ ys)) fronts behinds
          ∙ append_assoc s.front one.front (r.put ++ (two.back ++ s.behind))
          ∙ ap (λ xs. s.front ++ xs)
          (ap (λ xs. one.front ++ xs) (sym (append_assoc r.put two.back s.behind))
          ∙ sym (append_assoc one.front (r.put ++ two.back) s.behind));
      here = s.here;
      showed = s.shows;
      shows =
          map-append piece_of one.front (r.put ++ two.back)
          ∙ ap₂ (λ xs ys. xs ++ ys) one.first (map-append piece_of r.put two.back
          ∙ ap₂ (λ xs ys. xs ++ ys) r.shows two.second) ∙ sym changes;
      long =
          ap length changes ∙ length-append pre (qs ++ post)
          ∙ ap (λ n. length pre + n) (length-append qs post ∙ ap (λ n. n + length post) r.long
          ∙ sym (length-append ps post)) ∙ sym (length-append pre (ps ++ post))
          ∙ ap length (sym is);
    }

-- the child that was found is changed
pub child_replaced : (old new : List Node) (at i : ℕ) (k : List ℕ) (d : Doc) (f : Doc → Doc)
    → Holds old at d
    → (h : Found old at i (pieces d) (λ g. pieces (change_child k g d)) (get k d))
    → Replaced old new i (pieces h.part) (pieces (f h.part))
    → Replaced old new at (pieces d) (pieces (change_child k f d))
child_replaced old new at i k d f s h r =
    inner old new at i h.pre (pieces h.part) (pieces (f h.part)) h.post (pieces d)
    (pieces (change_child k f d)) s h.between.is (h.between.changes f r.long) h.here r

-- ---- no child

none_at : (o : Ordering) (l : List ℕ) (e : Doc) (f : Doc → Doc) (ms changed : Members)
    (found : Option Doc) → match_ordering o found (Some e) found ≡ None
    → (found ≡ None → changed ≡ ms)
    → match_ordering o (member l e changed) (member l (f e) ms) (member l e changed)
    ≡ member l e ms
none_at Less l e f ms changed found h later = ap (member l e) (later h)
none_at Equal l e f ms changed found h later = cc
none_at Greater l e f ms changed found h later = ap (member l e) (later h)

no_member : (k : List ℕ) (f : Doc → Doc) (ms : Members) → get_member k ms ≡ None
    → change_member k f ms ≡ ms
no_member k f no_members h = refl
no_member k f (member l e ms) h =
    none_at (slice_cmp nat_cmp k l) l e f ms (change_member k f ms) (get_member k ms) h
    (no_member k f ms)

pub no_child : (k : List ℕ) (f : Doc → Doc) (d : Doc) → get k d ≡ None → change_child k f d ≡ d
no_child k f null h = refl
no_child k f (boolean b) h = refl
no_child k f (whole z) h = refl
no_child k f (text s) h = refl
no_child k f (list ds) h = refl
no_child k f (object ms) h = ap object (no_member k f ms h)
no_child k f (id s z) h = refl

-- ---- one node

one_at : (ns front inside behind : List Node) (at : ℕ) (n x : Node) (p q : Piece) (ps : List Piece)
    → ns ≡ front ++ (inside ++ behind) → at ≡ length front → map piece_of inside ≡ p ∷ ps
    → (piece_of (get_or ns at x) ≡ p → piece_of n ≡ q)
    → Replaced ns (set ns at n) at (p ∷ ps) (q ∷ ps)
one_at ns front [] behind at n x p q ps all here shows to = absurd (cc)
one_at ns front (m ∷ rest) behind at n x p q ps all here shows to =
    let seen : get_or ns at x ≡ m =
    ap₂ (λ xs i. get_or xs i x) all here ∙ get_or-append_seam front m (rest ++ behind) x in
    let first : piece_of m ≡ p = ap head_or shows in record {
      front = front;
      inside = m ∷ rest;
      put = n ∷ rest;
      behind = behind;
      was = all;
      is = ap₂ (λ xs i. set xs i n) all here ∙ set-append_seam front m (rest ++ behind) n;
      here = here;
      showed = shows;
      shows = ap₂ (λ y ys. y ∷ ys) (to (ap piece_of seen ∙ first)) (ap tail_or shows);
      long = refl;
    }

pub one_replaced : (ns : List Node) (at : ℕ) (n x : Node) (p q : Piece) (ps : List Piece)
    → Stand ns at (p ∷ ps) → (piece_of (get_or ns at x) ≡ p → piece_of n ≡ q)
    → Replaced ns (set ns at n) at (p ∷ ps) (q ∷ ps)
one_replaced ns at n x p q ps s to =
    one_at ns s.front s.inside s.behind at n x p q ps s.all s.here s.shows to

one_piece : (b : Bool) (s : Sort) (z : ℤ)
    → pieces (cond b (id s z) (whole z)) ≡ leaf (cond b (id s z) (whole z)) ∷ []
one_piece true s z = refl
one_piece false s z = refl

pub marked_there : (ns : List Node) (at : ℕ) (n x : Node) (s : Sort) (d : Doc) → Holds ns at d
    → piece_of n ≡ marked_piece s (piece_of (get_or ns at x))
    → Replaced ns (set ns at n) at (pieces d) (pieces (marked s d))
marked_there ns at n x s null h e =
    one_replaced ns at n x _ _ [] h (λ is. e ∙ ap (marked_piece s) is)
marked_there ns at n x s (boolean b) h e =
    one_replaced ns at n x _ _ [] h (λ is. e ∙ ap (marked_piece s) is)
marked_there ns at n x s (whole z) h e =
    subst (Replaced ns (set ns at n) at (leaf (whole z) ∷ [])) (sym (one_piece (is_id_of s z) s z))
    (one_replaced ns at n x _ _ [] h (λ is. e ∙ ap (marked_piece s) is))
marked_there ns at n x s (text t) h e =
    one_replaced ns at n x _ _ [] h (λ is. e ∙ ap (marked_piece s) is)
marked_there ns at n x s (list ds) h e =
    one_replaced ns at n x _ _ _ h (λ is. e ∙ ap (marked_piece s) is)
marked_there ns at n x s (object ms) h e =
    one_replaced ns at n x _ _ _ h (λ is. e ∙ ap (marked_piece s) is)
marked_there ns at n x s (id t z) h e =
    one_replaced ns at n x _ _ [] h (λ is. e ∙ ap (marked_piece s) is)

-- ---- a path, a step at a time

pub first_rest : {X : Type 0} (xs : List X) (d : X) → 1 ≤ length xs
    → get_or xs 0 d ∷ take (length xs - 1) (drop 1 xs) ≡ xs
first_rest [] d some = absurd (omega (arith, some))
first_rest (x ∷ xs) d some = ap (λ ys. x ∷ ys) (take_all _ xs (omega arith))

-- ---- items, one after another

-- no value starts with the end of a list
no_value_ends : (ns : List Node) (p : ℕ) (d : Doc) (qs : List Piece) (x : Node)
    → Stand ns p (pieces d ++ qs) → piece_of (get_or ns p x) ≡ end_list → ⊥
no_value_ends ns p null qs x s e = let first = stands_first ns p _ x _ _ s refl in cc
no_value_ends ns p (boolean b) qs x s e = let first = stands_first ns p _ x _ _ s refl in cc
no_value_ends ns p (whole z) qs x s e = let first = stands_first ns p _ x _ _ s refl in cc
no_value_ends ns p (text t) qs x s e = let first = stands_first ns p _ x _ _ s refl in cc
no_value_ends ns p (list ds) qs x s e = let first = stands_first ns p _ x _ _ s refl in cc
no_value_ends ns p (object ms) qs x s e = let first = stands_first ns p _ x _ _ s refl in cc
no_value_ends ns p (id t z) qs x s e = let first = stands_first ns p _ x _ _ s refl in cc

pub replaced_then : (a b c : List Node) (at : ℕ) (ps qs rs : List Piece) → Replaced a b at ps qs
    → Replaced b c at qs rs → Replaced a c at ps rs
replaced_then a b c at ps qs rs f g =
    let fronts : g.front ≡ f.front =
    front_is b g.front (g.inside ++ g.behind) f.front (f.put ++ f.behind) at g.was f.is g.here
    f.here in
    let rests : g.inside ++ g.behind ≡ f.put ++ f.behind =
    behind_is b g.front (g.inside ++ g.behind) f.front (f.put ++ f.behind) at g.was f.is g.here
    f.here in
    let same_long : length g.inside ≡ length f.put =
    sym (length-map g.inside piece_of) ∙ ap length (g.showed ∙ sym f.shows)
    ∙ length-map f.put piece_of in
    let behinds : g.behind ≡ f.behind =
    behind_is (f.put ++ f.behind) g.inside g.behind f.put f.behind (length g.inside) (sym rests)
    refl
    refl same_long in record {
      front = f.front;
      inside = f.inside;
      put = g.put;
      behind = f.behind;
      was = f.was;
      is = g.is ∙ ap₂ (λ xs ys. xs ++ (g.put ++ ys)) fronts behinds;
      here = f.here;
      showed = f.showed;
      shows = g.shows;
      long = g.long ∙ f.long;
    }

pub stands_now : (old new : List Node) (at : ℕ) (ps qs : List Piece) → Replaced old new at ps qs
    → Stand new at qs
stands_now old new at ps qs r = record {
  front = r.front;
  inside = r.put;
  behind = r.behind;
  all = r.is;
  here = r.here;
  shows = r.shows;
}

joined_pieces : (a b : Items) → items_pieces (joined a b) ≡ items_pieces a ++ items_pieces b
joined_pieces no_items b = refl
joined_pieces (item d ds) b =
    ap (λ ps. pieces d ++ ps) (joined_pieces ds b)
    ∙ sym (append_assoc (pieces d) (items_pieces ds) (items_pieces b))

joined_assoc : (a b c : Items) → joined (joined a b) c ≡ joined a (joined b c)
joined_assoc no_items b c = refl
joined_assoc (item d ds) b c = ap (item d) (joined_assoc ds b c)

joined_none : (a : Items) → joined a no_items ≡ a
joined_none no_items = refl
joined_none (item d ds) = ap (item d) (joined_none ds)

map_joined : (f : Doc → Doc) (a b : Items)
    → map_items f (joined a b) ≡ joined (map_items f a) (map_items f b)
map_joined f no_items b = refl
map_joined f (item d ds) b = ap (item (f d)) (map_joined f ds b)

-- the pieces around one of the items
round_one : (a b : Items) (d : Doc)
    → items_pieces (joined a (item d b)) ++ end_list ∷ []
    ≡ items_pieces a ++ (pieces d ++ (items_pieces b ++ end_list ∷ []))
round_one a b d =
    ap (λ ps. ps ++ end_list ∷ []) (joined_pieces a (item d b))
    ∙ append_assoc (items_pieces a) (pieces d ++ items_pieces b) (end_list ∷ [])
    ∙ ap (λ ps. items_pieces a ++ ps) (append_assoc (pieces d) (items_pieces b) (end_list ∷ []))

pub none_so_far : (ns : List Node) (from : ℕ) (f : Doc → Doc) (ds : Items)
    → Stand ns from (items_pieces ds ++ end_list ∷ []) → SoFar ns ns from from f ds
none_so_far ns from f ds s = record {
  done = no_items;
  left = ds;
  all = refl;
  here = omega arith;
  replaced = same_again ns from (items_pieces ds ++ end_list ∷ []) s;
}

-- the pieces from the next item on
at_left : (now : List Node) (from p : ℕ) (done left : Items)
    → Stand now from (items_pieces (joined done left) ++ end_list ∷ [])
    → p ≡ from + length (items_pieces done) → Stand now p (items_pieces left ++ end_list ∷ [])
at_left now from p done left s here =
    subst (λ i. Stand now i (items_pieces left ++ end_list ∷ [])) (sym here)
    (second_part now from (items_pieces done) (items_pieces left ++ end_list ∷ [])
    (subst (Stand now from) (ap (λ ps. ps ++ end_list ∷ []) (joined_pieces done left)
    ∙ append_assoc (items_pieces done) (items_pieces left) (end_list ∷ [])) s))

next : (old now new : List Node) (from p end : ℕ) (f : Doc → Doc) (ds done left : Items) (x : Node)
    → ds ≡ joined done left → p ≡ from + length (items_pieces (map_items f done))
    → Replaced old now from (items_pieces ds ++ end_list ∷ [])
    (items_pieces (joined (map_items f done) left) ++ end_list ∷ [])
    → (piece_of (get_or now p x) ≡ end_list → ⊥) → p < length now
    → end ≡ p + size (piece_of (get_or now p x))
    → ((d : Doc) → Holds now p d → Replaced now new p (pieces d) (pieces (f d)))
    → SoFar old new from end f ds
next old now new from p end f ds done no_items x all here r not_end within w edits =
    let s = stands_now old now from _ _ r in
    let there = at_left now from p (map_items f done) no_items s here in
    absurd (not_end (stands_first now p (get_or now p x) x end_list [] there refl))
next old now new from p end f ds done (item d left) x all here r not_end within w edits =
    let s = stands_now old now from _ _ r in
    let there : Stand now p ((pieces d ++ items_pieces left) ++ end_list ∷ []) =
    at_left now from p (map_items f done) (item d left) s here in
    let value : Stand now p (pieces d ++ (items_pieces left ++ end_list ∷ [])) =
    subst (Stand now p) (append_assoc (pieces d) (items_pieces left) (end_list ∷ [])) there in
    let holds = first_part now p (pieces d) (items_pieces left ++ end_list ∷ []) value in
    let one = edits d holds in
    let width = size_there now p x d (items_pieces left ++ end_list ∷ []) value within in
    let split = joined_assoc (map_items f done) (item (f d) no_items) left in
    let changed = inner now new from p (items_pieces (map_items f done)) (pieces d) (pieces (f d))
    (items_pieces left ++ end_list ∷ []) _ _ s (round_one (map_items f done) left d)
    (ap (λ es. items_pieces es ++ end_list ∷ []) split ∙ round_one (map_items f done) left (f d))
    here one in
    let mapped = map_joined f done (item d no_items) in
    let long : length (items_pieces (map_items f (joined done (item d no_items))))
    ≡ length (items_pieces (map_items f done)) + length (pieces (f d)) =
    ap (λ es. length (items_pieces es)) mapped
    ∙ ap length (joined_pieces (map_items f done) (item (f d) no_items))
    ∙ length-append (items_pieces (map_items f done)) (pieces (f d) ++ [])
    ∙ ap (λ ps. length (items_pieces (map_items f done)) + length ps) (append-nil (pieces (f d))) in
    record {
      done = joined done (item d no_items);
      left = left;
      all = all ∙ sym (joined_assoc done (item d no_items) left);
      here = omega (arith, w, width, here, long, one.long);
      replaced = subst (λ es. Replaced old new from (items_pieces ds ++ end_list ∷ [])
          (items_pieces (joined es left) ++ end_list ∷ [])) (sym mapped)
          (replaced_then old now new from _ _ _ r changed);
    }

pub one_more : (old now new : List Node) (from p end : ℕ) (f : Doc → Doc) (ds : Items) (x : Node)
    → SoFar old now from p f ds → (piece_of (get_or now p x) ≡ end_list → ⊥) → p < length now
    → end ≡ p + size (piece_of (get_or now p x))
    → ((d : Doc) → Holds now p d → Replaced now new p (pieces d) (pieces (f d)))
    → SoFar old new from end f ds
one_more old now new from p end f ds x l not_end within w edits =
    next old now new from p end f ds l.done l.left x l.all l.here l.replaced not_end within w edits

ended : (old now : List Node) (from p : ℕ) (f : Doc → Doc) (ds done left : Items) (x : Node)
    → ds ≡ joined done left → p ≡ from + length (items_pieces (map_items f done))
    → Replaced old now from (items_pieces ds ++ end_list ∷ [])
    (items_pieces (joined (map_items f done) left) ++ end_list ∷ [])
    → piece_of (get_or now p x) ≡ end_list
    → Replaced old now from (items_pieces ds ++ end_list ∷ [])
    (items_pieces (map_items f ds) ++ end_list ∷ [])
ended old now from p f ds done no_items x all here r end =
    subst (λ es. Replaced old now from (items_pieces ds ++ end_list ∷ [])
    (items_pieces es ++ end_list ∷ [])) (sym (map_joined f done no_items)
    ∙ ap (map_items f) (sym all)) r
ended old now from p f ds done (item d left) x all here r end =
    let s = stands_now old now from _ _ r in
    let there : Stand now p ((pieces d ++ items_pieces left) ++ end_list ∷ []) =
    at_left now from p (map_items f done) (item d left) s here in
    absurd (no_value_ends now p d (items_pieces left ++ end_list ∷ []) x
    (subst (Stand now p) (append_assoc (pieces d) (items_pieces left) (end_list ∷ [])) there) end)

pub all_ended : (old now : List Node) (from p : ℕ) (f : Doc → Doc) (ds : Items) (x : Node)
    → SoFar old now from p f ds → piece_of (get_or now p x) ≡ end_list
    → Replaced old now from (items_pieces ds ++ end_list ∷ [])
    (items_pieces (map_items f ds) ++ end_list ∷ [])
all_ended old now from p f ds x l end =
    ended old now from p f ds l.done l.left x l.all l.here l.replaced end

-- ---- a list

not_list : (ns : List Node) (at : ℕ) (p : Piece) (ps : List Piece) (n x : Node) (i : ℕ)
    → Stand ns at (p ∷ ps) → get_or ns at x ≡ n → piece_of n ≡ begin_list i → p ≡ begin_list i
not_list ns at p ps n x i s there begun = sym (stands_first ns at n x p ps s there) ∙ begun

pub list_inside : (ns : List Node) (at : ℕ) (d : Doc) (n x : Node) (i : ℕ) → Holds ns at d
    → get_or ns at x ≡ n → piece_of n ≡ begin_list i
    → (ds : Items) × (d ≡ list ds) × Stand ns (at + 1) (items_pieces ds ++ end_list ∷ [])
list_inside ns at null n x i h there begun =
    let no = not_list ns at _ _ n x i h there begun in absurd (cc)
list_inside ns at (boolean b) n x i h there begun =
    let no = not_list ns at _ _ n x i h there begun in absurd (cc)
list_inside ns at (whole z) n x i h there begun =
    let no = not_list ns at _ _ n x i h there begun in absurd (cc)
list_inside ns at (text t) n x i h there begun =
    let no = not_list ns at _ _ n x i h there begun in absurd (cc)
list_inside ns at (list ds) n x i h there begun =
    (ds, refl, behind_first ns at (begin_list (length (items_pieces ds))) _ h)
list_inside ns at (object ms) n x i h there begun =
    let no = not_list ns at _ _ n x i h there begun in absurd (cc)
list_inside ns at (id t z) n x i h there begun =
    let no = not_list ns at _ _ n x i h there begun in absurd (cc)

pub list_replaced : (old new : List Node) (at : ℕ) (ds : Items) (f : Doc → Doc)
    → Holds old at (list ds)
    → Replaced old new (at + 1) (items_pieces ds ++ end_list ∷ [])
    (items_pieces (map_items f ds) ++ end_list ∷ [])
    → Replaced old new at (pieces (list ds)) (pieces (list (map_items f ds)))
list_replaced old new at ds f s r =
    let n = length (items_pieces ds) in
    let count : length (items_pieces (map_items f ds)) ≡ n =
    omega (
      arith,
      r.long,
      length-append (items_pieces ds) (end_list ∷ []),
      length-append (items_pieces (map_items f ds)) (end_list ∷ []),
    ) in
    inner old new at (at + 1) (begin_list n ∷ []) (items_pieces ds ++ end_list ∷ [])
    (items_pieces (map_items f ds) ++ end_list ∷ []) [] (pieces (list ds))
    (pieces (list (map_items f ds))) s
    (ap (λ ps. begin_list n ∷ ps) (sym (append-nil (items_pieces ds ++ end_list ∷ []))))
    (ap₂ (λ j ps. begin_list j ∷ ps) count
    (sym (append-nil (items_pieces (map_items f ds) ++ end_list ∷ [])))) refl r
