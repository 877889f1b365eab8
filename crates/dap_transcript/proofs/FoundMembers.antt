-- Ordered members are determined by the members of each name.
use Rattle.std.proofs.Common.{◌≡◌, ℕ, List, true, Option, Some, None, Ordering}
use Rattle.std.proofs.Common.{Less, Equal, Greater, refl, sym, ap, ◌∙◌, bytes_eq}
use Rattle.std.proofs.Common.{◌&&◌, option_map}
use Rattle.std.specs.Prelude.{unwrap_or}
use Rattle.std.specs.Ordering.{match_ordering, ordering_reverse, is_lt}
use Rattle.std.specs.Str.{is_utf8}
use Rattle.std.proofs.lemmas.Cmp.{nat_list_cmp_total, tied_itself}
use Rattle.std.proofs.lemmas.Map.Lookups.{exact_bytes}
use Rattle.std.proofs.lemmas.Slice.Eq.{bytes_eq-Decides}
use Rattle.dap_tree.specs.Doc.{Doc, null, boolean, whole, text, list, object, id, Members}
use Rattle.dap_tree.specs.Doc.{no_members, member, as_object, get, get_member, is_below_all}
use Rattle.dap_tree.specs.Doc.{is_ordered, members_ordered, all_utf8, members_utf8}
use Rattle.dap_tree.specs.Ids.{without_ids, members_without_ids}
use Rattle.dap_tree.proofs.Booleans.{and_left, and_right}
use Rattle.dap_tree.proofs.Comparisons.{less}
use Rattle.dap_tree.proofs.Paths.{skips}
use Rattle.dap_message.proofs.Edits.{by_bool}
use Rattle.dap_message.proofs.Envelopes.{apart, some_is}
use Rattle.dap_transcript.proofs.WrittenMembers.{below_lower, compare}

-- Two names are equal or differ.
pub by_name : {P : Type 0} (k l : List ℕ) → (k ≡ l → P) → ((k ≡ l → ⊥) → P) → P
by_name k l f g =
    by_bool (bytes_eq k l) (λ e. f ((bytes_eq-Decides k l).0 e)) (λ e. g (apart k l e))

pub some_none : {P : Type 0} (o : Option Doc) (d : Doc) → o ≡ Some d → o ≡ None → P
some_none o d h g = let no : Some d ≡ None = sym h ∙ g in absurd cc

-- ---- members in order

at_equal : (o : Ordering) (a b : Option Doc) → o ≡ Equal → match_ordering o a b a ≡ b
at_equal Less a b h = absurd cc
at_equal Equal a b h = refl
at_equal Greater a b h = absurd cc

pub first_found : (k : List ℕ) (d : Doc) (ms : Members) → get_member k (member k d ms) ≡ Some d
first_found k d ms =
    at_equal (compare k k) (get_member k ms) (Some d) (tied_itself nat_list_cmp_total k)

at_less : (o : Ordering) (a b : Option Doc) → o ≡ Less → match_ordering o a b a ≡ a
at_less Less a b h = refl
at_less Equal a b h = absurd cc
at_less Greater a b h = absurd cc

-- A name that is less than all names is not found.
below_absent : (k : List ℕ) (ms : Members) → is_below_all k ms ≡ true → get_member k ms ≡ None
below_absent k no_members h = refl
below_absent k (member l e ms) h =
    at_less (compare k l) (get_member k ms) (Some e)
    (less (compare k l) (and_left (is_lt (compare k l)) (is_below_all k ms) h))
    ∙ below_absent k ms (and_right (is_lt (compare k l)) (is_below_all k ms) h)

-- Neither is it found after a name that is less than them.
less_absent : (k l : List ℕ) (e : Doc) (ms : Members) → compare k l ≡ Less
    → is_below_all l ms ≡ true → get_member k (member l e ms) ≡ None
less_absent k l e ms low h =
    at_less (compare k l) (get_member k ms) (Some e) low
    ∙ below_absent k ms (below_lower k l ms low h)

reversed : (k l : List ℕ) → compare k l ≡ Greater → compare l k ≡ Less
reversed k l h = nat_list_cmp_total.antisymm l k ∙ ap ordering_reverse h

abbrev SameFound : Members → Members → Type 0
SameFound ms ns = (q : List ℕ) → get_member q ms ≡ get_member q ns

first_same : (o : Ordering) (k l : List ℕ) (d e : Doc) (ms ns : Members) → compare k l ≡ o
    → is_below_all k ms ≡ true → is_below_all l ns ≡ true
    → SameFound (member k d ms) (member l e ns) → k ≡ l
first_same Less k l d e ms ns is low high h =
    some_none _ d (first_found k d ms) (h k ∙ less_absent k l e ns is high)
first_same Equal k l d e ms ns is low high h = exact_bytes k l is
first_same Greater k l d e ms ns is low high h =
    some_none _ e (first_found l e ns) (sym (h l) ∙ less_absent l k d ms (reversed k l is) low)

rest_same : (k : List ℕ) (d e : Doc) (ms ns : Members)
    → is_below_all k ms ≡ true → is_below_all k ns ≡ true
    → SameFound (member k d ms) (member k e ns) → SameFound ms ns
rest_same k d e ms ns low high h q =
    by_name q k
    (λ same. ap (λ x. get_member x ms) same ∙ below_absent k ms low ∙ sym (below_absent k ns high)
    ∙ ap (λ x. get_member x ns) (sym same))
    (λ other. sym (skips q k d ms other) ∙ h q ∙ skips q k e ns other)

-- Members in order are equal if each name has the same member in both.
pub same_by_names : (ms ns : Members) → members_ordered ms ≡ true → members_ordered ns ≡ true
    → SameFound ms ns → ms ≡ ns
same_by_names no_members no_members a b h = refl
same_by_names no_members (member l e ns) a b h =
    some_none _ e (first_found l e ns) (sym (h l))
same_by_names (member k d ms) no_members a b h =
    some_none _ d (first_found k d ms) (h k)
same_by_names (member k d ms) (member l e ns) a b h =
    let low = and_left (is_below_all k ms) (is_ordered d && members_ordered ms) a in
    let high = and_left (is_below_all l ns) (is_ordered e && members_ordered ns) b in
    let same : k ≡ l = first_same (compare k l) k l d e ms ns refl low high h in
    let first : SameFound (member k d ms) (member k e ns) =
    λ q. h q ∙ ap (λ x. get_member q (member x e ns)) (sym same) in
    let value : d ≡ e =
    some_is d e (sym (first_found k d ms) ∙ first k ∙ first_found k e ns) in
    let rest : ms ≡ ns =
    same_by_names ms ns
    (and_right (is_ordered d) (members_ordered ms)
    (and_right (is_below_all k ms) (is_ordered d && members_ordered ms) a))
    (and_right (is_ordered e) (members_ordered ns)
    (and_right (is_below_all l ns) (is_ordered e && members_ordered ns) b))
    (rest_same k d e ms ns low (ap (λ x. is_below_all x ns) same ∙ high) first) in
    ap (λ x. member x d ms) same ∙ ap (λ x. member l x ms) value ∙ ap (member l e) rest

-- ---- the members of an object

pub found_in : (k : List ℕ) (d : Doc) → get_member k (unwrap_or (as_object d) no_members) ≡ get k d
found_in k null = refl
found_in k (boolean b) = refl
found_in k (whole z) = refl
found_in k (text s) = refl
found_in k (list ds) = refl
found_in k (object ms) = refl
found_in k (id s z) = refl

pub ordered_in : (d : Doc) → is_ordered d ≡ true
    → members_ordered (unwrap_or (as_object d) no_members) ≡ true
ordered_in null h = refl
ordered_in (boolean b) h = refl
ordered_in (whole z) h = refl
ordered_in (text s) h = refl
ordered_in (list ds) h = refl
ordered_in (object ms) h = h
ordered_in (id s z) h = refl

pub utf8_in : (d : Doc) → all_utf8 d ≡ true
    → members_utf8 (unwrap_or (as_object d) no_members) ≡ true
utf8_in null h = refl
utf8_in (boolean b) h = refl
utf8_in (whole z) h = refl
utf8_in (text s) h = refl
utf8_in (list ds) h = refl
utf8_in (object ms) h = h
utf8_in (id s z) h = refl

-- A document that has a member is the object of its members.
pub is_its_object : (k : List ℕ) (d e : Doc) → get k d ≡ Some e
    → d ≡ object (unwrap_or (as_object d) no_members)
is_its_object k null e h = absurd cc
is_its_object k (boolean b) e h = absurd cc
is_its_object k (whole z) e h = absurd cc
is_its_object k (text s) e h = absurd cc
is_its_object k (list ds) e h = absurd cc
is_its_object k (object ms) e h = refl
is_its_object k (id s z) e h = absurd cc

without_at : (o : Ordering) (a b : Option Doc) (d : Doc) → b ≡ option_map without_ids a
    → match_ordering o b (Some (without_ids d)) b
    ≡ option_map without_ids (match_ordering o a (Some d) a)
without_at Less a b d h = h
without_at Equal a b d h = refl
without_at Greater a b d h = h

members_without : (k : List ℕ) (ms : Members)
    → get_member k (members_without_ids ms) ≡ option_map without_ids (get_member k ms)
members_without k no_members = refl
members_without k (member l e ms) =
    without_at (compare k l) (get_member k ms) (get_member k (members_without_ids ms)) e
    (members_without k ms)

-- A member of a document without ids is the member without ids.
pub get_without : (k : List ℕ) (d : Doc) → get k (without_ids d) ≡ option_map without_ids (get k d)
get_without k null = refl
get_without k (boolean b) = refl
get_without k (whole z) = refl
get_without k (text s) = refl
get_without k (list ds) = refl
get_without k (object ms) = members_without k ms
get_without k (id s z) = refl

utf8_at : (o : Ordering) (a b : Option Doc) (e : Doc) → (a ≡ Some e → all_utf8 e ≡ true)
    → (b ≡ Some e → all_utf8 e ≡ true) → match_ordering o a b a ≡ Some e → all_utf8 e ≡ true
utf8_at Less a b e f g h = f h
utf8_at Equal a b e f g h = g h
utf8_at Greater a b e f g h = f h

-- A member of members whose strings are UTF-8 is such a document, too.
pub utf8_found : (k : List ℕ) (ms : Members) (e : Doc) → members_utf8 ms ≡ true
    → get_member k ms ≡ Some e → all_utf8 e ≡ true
utf8_found k no_members e h g = absurd cc
utf8_found k (member l d ms) e h g =
    let parts = and_right (is_utf8 l) (all_utf8 d && members_utf8 ms) h in
    utf8_at (compare k l) (get_member k ms) (Some d) e
    (λ is. utf8_found k ms e (and_right (all_utf8 d) (members_utf8 ms) parts) is)
    (λ is. ap all_utf8 (sym (some_is d e is)) ∙ and_left (all_utf8 d) (members_utf8 ms) parts) g
