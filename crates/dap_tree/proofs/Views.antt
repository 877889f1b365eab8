-- A tree level by level, and the members that a `BTreeMap` represents.
use Rattle.std.proofs.Common.{◌≡◌, ℕ, List, [], ◌∷◌, ◌++◌, Option, Some, None, option_map, String}
use Rattle.std.proofs.Common.{Vec, BTreeMap, Global, Ordering, Less, Equal, Greater, string_bytes}
use Rattle.std.proofs.Common.{string_cmp, nat_cmp, is_eq, cond, Bool, true, Bor, MutBor, refl, sym}
use Rattle.std.proofs.Common.{ap, ◌∙◌, rules, true≢false}
use Rattle.std.proofs.lemmas.Cmp.{nat_list_cmp_total}
use Rattle.std.specs.Cmp.Lexicographic.{slice_cmp}
use Rattle.std.specs.List.{AllByRecursion}
use Rattle.std.specs.List.Sorted.{IsStrictlySortedBy}
use Rattle.std.specs.Map.{keys_of, lookup, set_value}
use Rattle.std.specs.Ordering.{match_ordering, ordering_reverse, is_lt}
use Rattle.std.specs.BTreeMap.{insert_entry, is_at}
use Rattle.std.specs.Option.{option_copied_mut}
use Rattle.std.specs.Prelude.{OnSome}
use Rattle.dap_tree.specs.Doc.{Doc, null, boolean, whole, text, list, object, id, Members}
use Rattle.dap_tree.specs.Doc.{no_members, member, put, get, get_member, change_member}
use Rattle.dap_tree.specs.Doc.{change_child, as_object, is_below_all, is_ordered, members_ordered}
use Rattle.dap_tree.specs.Doc.{is_empty}
use Rattle.dap_tree.specs.View.{view, items_view, members_view}
use Rattle.dap_tree.specs.declared.tree.Tree.{Tree, the_lemmas}
use Rattle.dap_tree.specs.declared.tree.Tree as tree
use Rattle.dap_tree.proofs.Booleans.{and_both}

abbrev pub Entry : Type 0
Entry = String Global × Tree

pub view-List : (v : Vec Tree Global) → view (tree.List v) ≡ list (items_view v.items)
view-List v = search (rules, the_lemmas)

pub view-Object : (m : BTreeMap (String Global) Tree)
    → view (tree.Object m) ≡ object (members_view m.entries)
view-Object m = search (rules, the_lemmas)

-- the array or object of these is empty only if they are
pub no_item : (ts : List Tree) → is_empty (list (items_view ts)) ≡ true → ts ≡ []
no_item [] empty = refl
no_item (t ∷ ts) empty = absurd (true≢false (sym empty))

pub no_entry : (es : List Entry) → is_empty (object (members_view es)) ≡ true → es ≡ []
no_entry [] empty = refl
no_entry (e ∷ es) empty = absurd (true≢false (sym empty))

members_view-match_ordering : (o : Ordering) (a b c : List Entry)
    → members_view (match_ordering o a b c)
    ≡ match_ordering o (members_view a) (members_view b) (members_view c)
members_view-match_ordering Less a b c = refl
members_view-match_ordering Equal a b c = refl
members_view-match_ordering Greater a b c = refl

-- an insertion into the map puts the member
pub members_view-insert_entry : (es : List Entry) (k : String Global) (t : Tree)
    → members_view (insert_entry string_cmp es k t)
    ≡ put (string_bytes k) (view t) (members_view es)
members_view-insert_entry [] k t = refl
members_view-insert_entry (e ∷ es) k t =
    members_view-match_ordering (string_cmp k e.0) _ _ _ ∙ rw (members_view-insert_entry es k t)

below_middle : (first : Entry) (es : List Entry) (e : Entry) (more : List Entry)
    → AllByRecursion (λ y. string_cmp first.0 y ≡ Less) (keys_of (es ++ e ∷ more))
    → string_cmp first.0 e.0 ≡ Less
below_middle first [] e more h = h.0
below_middle first (x ∷ es) e more h = below_middle first es e more h.1

-- a key above all earlier keys is inserted last
pub put_last : (done : List Entry) (e : Entry) (more : List Entry)
    → IsStrictlySortedBy string_cmp (keys_of (done ++ e ∷ more))
    → put (string_bytes e.0) (view e.1) (members_view done) ≡ members_view (done ++ e ∷ [])
unfolding IsStrictlySortedBy
put_last [] e more h = refl
put_last (first ∷ done) e more h =
    let above : slice_cmp nat_cmp (string_bytes e.0) (string_bytes first.0) ≡ Greater =
    nat_list_cmp_total.antisymm (string_bytes e.0) (string_bytes first.0)
    ∙ ap ordering_reverse (below_middle first done e more h.0) in
    rw above (ap (member (string_bytes first.0) (view first.1)) (put_last done e more h.1))

is_below_all-sorted : (k : String Global) (es : List Entry)
    → AllByRecursion (λ l. string_cmp k l ≡ Less) (keys_of es)
    → is_below_all (string_bytes k) (members_view es) ≡ true
is_below_all-sorted k [] h = refl
is_below_all-sorted k (e ∷ es) h = and_both _ _ (ap is_lt h.0) (is_below_all-sorted k es h.1)

-- the members of a map are in order if and only if its values are
pub members_ordered-sorted : (e : Entry) (es : List Entry)
    → IsStrictlySortedBy string_cmp (keys_of (e ∷ es)) → is_ordered (view e.1) ≡ true
    → members_ordered (members_view (e ∷ es)) ≡ members_ordered (members_view es)
unfolding IsStrictlySortedBy
members_ordered-sorted e es sorted first = rw (is_below_all-sorted e.0 es sorted.0, first) refl

pub sorted_rest : (e : Entry) (es : List Entry) → IsStrictlySortedBy string_cmp (keys_of (e ∷ es))
    → IsStrictlySortedBy string_cmp (keys_of es)
unfolding IsStrictlySortedBy
sorted_rest e es sorted = sorted.1

found_or : (o : Ordering) (t : Tree) (rest : Option Tree) (d : Option Doc)
    → option_map view rest ≡ d
    → option_map view (cond (is_eq o) (Some t) rest) ≡ match_ordering o d (Some (view t)) d
found_or Less t rest d e = e
found_or Equal t rest d e = refl
found_or Greater t rest d e = e

pub view-lookup : (name : List ℕ) (es : List Entry)
    → option_map view (lookup (is_at (λ k. slice_cmp nat_cmp name (string_bytes k))) es)
    ≡ get_member name (members_view es)
view-lookup name [] = refl
view-lookup name (e ∷ es) =
    found_or (slice_cmp nat_cmp name (string_bytes e.0)) e.1 _ _ (view-lookup name es)

pub view_of_ref : (r : Option (Bor Tree))
    → option_map (λ x. view x.now) r ≡ option_map view (option_map (λ x. x.now) r)
view_of_ref None = refl
view_of_ref (Some x) = refl

pub view_of_mut : (r : Option (MutBor Tree))
    → option_map (λ x. view x.now) r ≡ option_map view (option_map (λ x. x.now) r)
view_of_mut None = refl
view_of_mut (Some x) = refl

pub object_from : (d : Doc) (ms : Members) → Some ms ≡ as_object d → d ≡ object ms
object_from null ms e = cc
object_from (boolean b) ms e = cc
object_from (whole z) ms e = cc
object_from (text s) ms e = cc
object_from (list ds) ms e = cc
object_from (object ns) ms e = cc
object_from (id s z) ms e = cc

pub unchanged : (k : List ℕ) (f : Doc → Doc) (d : Doc) → None ≡ as_object d → d ≡ change_child k f d
unchanged k f null e = refl
unchanged k f (boolean b) e = refl
unchanged k f (whole z) e = refl
unchanged k f (text s) e = refl
unchanged k f (list ds) e = refl
unchanged k f (object ns) e = cc
unchanged k f (id s z) e = refl

-- a document that is not an object has no members
pub no_member : (k : List ℕ) (d : Doc) → None ≡ as_object d → get k d ≡ None
no_member k null e = refl
no_member k (boolean b) e = refl
no_member k (whole z) e = refl
no_member k (text s) e = refl
no_member k (list ds) e = refl
no_member k (object ns) e = cc
no_member k (id s z) e = refl

-- whether a key is this name
abbrev at_name : List ℕ → String Global → Bool
at_name k = is_at (λ l. slice_cmp nat_cmp k (string_bytes l))

-- a value found in the map of an object is the member of that name
pub child_found : (k : List ℕ) (d : Doc) (es : List Entry) (v : Tree)
    → Some (members_view es) ≡ as_object d → lookup (at_name k) es ≡ Some v
    → get k d ≡ Some (view v)
child_found k d es v seen found = let is =
    object_from d (members_view es) seen in rw is (sym (view-lookup k es)
    ∙ ap (option_map view) found)

pub child_missing : (k : List ℕ) (d : Doc) (es : List Entry) → Some (members_view es) ≡ as_object d
    → lookup (at_name k) es ≡ None → get k d ≡ None
child_missing k d es seen missing = let is =
    object_from d (members_view es) seen in rw is (sym (view-lookup k es)
    ∙ ap (option_map view) missing)

-- ---- an object after a write into its map

change_one : (o : Ordering) (f : Doc
    → Doc) (e : Entry) (es done : List Entry) (v w : Tree) (ms : Members) (found : Option Tree)
    → cond (is_eq o) (Some e.1) found ≡ Some v → view w ≡ f (view v)
    → (found ≡ Some v → members_view done ≡ ms)
    → members_view (cond (is_eq o) ((e.0, w) ∷ es) (e ∷ done))
    ≡ match_ordering o (member (string_bytes e.0) (view e.1) ms)
    (member (string_bytes e.0) (f (view e.1)) (members_view es))
    (member (string_bytes e.0) (view e.1) ms)
change_one Less f e es done v w ms found h put later =
    ap (member (string_bytes e.0) (view e.1)) (later h)
change_one Equal f e es done v w ms found h put later = let same : e.1 ≡ v =
    cc in ap (λ d. member (string_bytes e.0) d (members_view es)) (put
    ∙ ap (λ t. f (view t)) (sym same))
change_one Greater f e es done v w ms found h put later =
    ap (member (string_bytes e.0) (view e.1)) (later h)

-- the value at the name was v, and is replaced by w
pub change_written : (k : List ℕ) (f : Doc → Doc) (es : List Entry) (v w : Tree)
    → lookup (at_name k) es ≡ Some v → view w ≡ f (view v)
    → members_view (set_value (at_name k) es w) ≡ change_member k f (members_view es)
change_written k f [] v w h put = cc
change_written k f (e ∷ es) v w h put =
    change_one (slice_cmp nat_cmp k (string_bytes e.0)) f e es _ v w _ _ h put
    (λ g. change_written k f es v w g put)

none_one : (o : Ordering) (f : Doc
    → Doc) (e : Entry) (es : List Entry) (ms : Members) (found : Option Tree)
    → cond (is_eq o) (Some e.1) found ≡ None
    → (found ≡ None → members_view es ≡ ms)
    → members_view (e ∷ es)
    ≡ match_ordering o (member (string_bytes e.0) (view e.1) ms)
    (member (string_bytes e.0) (f (view e.1)) (members_view es))
    (member (string_bytes e.0) (view e.1) ms)
none_one Less f e es ms found h later = ap (member (string_bytes e.0) (view e.1)) (later h)
none_one Equal f e es ms found h later = cc
none_one Greater f e es ms found h later = ap (member (string_bytes e.0) (view e.1)) (later h)

pub change_none : (k : List ℕ) (f : Doc → Doc) (es : List Entry) → lookup (at_name k) es ≡ None
    → members_view es ≡ change_member k f (members_view es)
change_none k f [] h = refl
change_none k f (e ∷ es) h =
    none_one (slice_cmp nat_cmp k (string_bytes e.0)) f e es _ _ h (change_none k f es)

-- an object after a write through `get_mut`
pub child_written : (k : List ℕ) (f : Doc
    → Doc) (d : Doc) (m n : BTreeMap (String Global) Tree) (v w : Tree)
    → Some (members_view m.entries) ≡ as_object d → lookup (at_name k) m.entries ≡ Some v
    → view w ≡ f (view v)
    → n.entries ≡ set_value (at_name k) m.entries w → view (tree.Object n) ≡ change_child k f d
child_written k f d m n v w seen found put writes =
    let is = object_from d (members_view m.entries) seen in
    rw (is, view-Object n, writes) (ap object (change_written k f m.entries v w found put))

-- the same, stated by the result of `get_mut`, whether found or not
pub lent_written : (k : List ℕ) (d new : Doc) (m n : BTreeMap (String Global) Tree)
    (r : Option (MutBor Tree)) (w : Tree) → Some (members_view m.entries) ≡ as_object d
    → option_copied_mut r ≡ lookup (at_name k) m.entries
    → n.entries ≡ set_value (at_name k) m.entries w → new ≡ object (members_view n.entries)
    → OnSome r (new ≡ change_child k (λ _. view w) d)
lent_written k d new m n None w seen found writes is = tt
lent_written k d new m n (Some x) w seen found writes is =
    let same = object_from d (members_view m.entries) seen in
    rw (is, same, writes)
    (ap object (change_written k (λ _. view w) m.entries x.now w (sym found) refl))

-- if there is no such member, nothing changes
pub child_absent : (k : List ℕ) (f : Doc → Doc) (d : Doc) (m n : BTreeMap (String Global) Tree)
    → Some (members_view m.entries) ≡ as_object d → lookup (at_name k) m.entries ≡ None
    → n ≡ m → view (tree.Object n) ≡ change_child k f d
child_absent k f d m n seen found same =
    let is = object_from d (members_view m.entries) seen in
    rw (is, view-Object n, same) (ap object (change_none k f m.entries found))

-- changing nothing
same_members : (o : Ordering) (l : List ℕ) (e : Doc) (ms changed : Members) → changed ≡ ms
    → match_ordering o (member l e changed) (member l e ms) (member l e changed) ≡ member l e ms
same_members Less l e ms changed later = ap (member l e) later
same_members Equal l e ms changed later = refl
same_members Greater l e ms changed later = ap (member l e) later

change_no_member : (k : List ℕ) (ms : Members) → change_member k (λ e. e) ms ≡ ms
change_no_member k no_members = refl
change_no_member k (member l e ms) =
    same_members (slice_cmp nat_cmp k l) l e ms (change_member k (λ x. x) ms)
    (change_no_member k ms)

pub change_nothing : (k : List ℕ) (d : Doc) → change_child k (λ e. e) d ≡ d
change_nothing k null = refl
change_nothing k (boolean b) = refl
change_nothing k (whole z) = refl
change_nothing k (text s) = refl
change_nothing k (list ds) = refl
change_nothing k (object ms) = ap object (change_no_member k ms)
change_nothing k (id s z) = refl
