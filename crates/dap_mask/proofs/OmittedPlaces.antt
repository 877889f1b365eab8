-- Elements omitted at two places: the order of the places does not matter, omitting elements again
-- does nothing, and a change that leaves a document unchanged leaves it unchanged without the
-- elements.
use Rattle.std.proofs.Common.{◌≡◌, ℕ, Bool, true, false, cond, List, [], ◌∷◌, Option, Some}
use Rattle.std.proofs.Common.{Ordering, Less, Equal, Greater, nat_cmp, refl, sym, ap, ap₂, ◌∙◌}
use Rattle.std.specs.Cmp.Lexicographic.{slice_cmp}
use Rattle.std.specs.Ordering.{match_ordering}
use Rattle.dap_tree.specs.Doc.{Doc, list, object, Items, no_items, item, Members, no_members}
use Rattle.dap_tree.specs.Doc.{member, change_member, change_child, map_items, change_items}
use Rattle.dap_mask.specs.Omissions.{items_without, without}
use Rattle.dap_mask.specs.RuleSteps.{RuleStep, named, elements, is_called, change_called}
use Rattle.dap_mask.specs.RuleSteps.{change_at_place}
use Rattle.dap_mask.specs.Rules.{blank, change_text, of_verb}
use Rattle.dap_mask.specs.declared.rules.Verb.{Verb, TheVariants.{Blank, Digits, Hex, Long, Uuid}}
use Rattle.dap_mask.specs.Texts.{digits, hex}
use Rattle.dap_words.specs.Long.{long}
use Rattle.dap_words.specs.Uuids.{uuid}
use Rattle.dap_mask.proofs.OmittedSteps.{omit_at, called_after}

-- ---- functions that apply on a condition

abbrev pub Commute : (Doc → Doc) → (Doc → Doc) → Type 0
Commute f g = (d : Doc) → f (g d) ≡ g (f d)

-- if f does not change a value, it does not change the result of g
abbrev pub Stays : (Doc → Doc) → (Doc → Doc) → Type 0
Stays f g = (d : Doc) → f d ≡ d → f (g d) ≡ g d

pub both_if : (f g : Doc → Doc) (a b : Bool) (d : Doc) → f (g d) ≡ g (f d)
    → cond a (f (cond b (g d) d)) (cond b (g d) d) ≡ cond b (g (cond a (f d) d)) (cond a (f d) d)
both_if f g true true d h = h
both_if f g true false d h = refl
both_if f g false b d h = refl

pub twice_if : (f : Doc → Doc) (a : Bool) (d : Doc) → f (f d) ≡ f d
    → cond a (f (cond a (f d) d)) (cond a (f d) d) ≡ cond a (f d) d
twice_if f true d h = h
twice_if f false d h = refl

pub stays_if : (f g : Doc → Doc) (a b : Bool) (d : Doc) → (f d ≡ d → f (g d) ≡ g d)
    → cond a (f d) d ≡ d → cond a (f (cond b (g d) d)) (cond b (g d) d) ≡ cond b (g d) d
stays_if f g true true d h same = h same
stays_if f g true false d h same = same
stays_if f g false b d h same = refl

-- ---- members

-- the value of a member: the name of the change is less than that of the member, equal or greater
abbrev if_equal : Ordering → (Doc → Doc) → Doc → Doc
if_equal Less f e = e
if_equal Equal f e = f e
if_equal Greater f e = e

-- the members after it, which only a change of another member reaches
abbrev unless_equal : Ordering → (Members → Members) → Members → Members
unless_equal Less f ms = f ms
unless_equal Equal f ms = ms
unless_equal Greater f ms = f ms

member_step : (k : List ℕ) (f : Doc → Doc) (l : List ℕ) (e : Doc) (ms : Members)
    → change_member k f (member l e ms)
    ≡ member l (if_equal (slice_cmp nat_cmp k l) f e)
    (unless_equal (slice_cmp nat_cmp k l) (change_member k f) ms)
member_step k f l e ms = go (slice_cmp nat_cmp k l)
  where
    go : (o : Ordering) → match_ordering o (member l e (change_member k f ms)) (member l (f e) ms)
        (member l e (change_member k f ms))
        ≡ member l (if_equal o f e) (unless_equal o (change_member k f) ms)
    go Less = refl
    go Equal = refl
    go Greater = refl

two_steps : (k j : List ℕ) (f g : Doc → Doc) (l : List ℕ) (e : Doc) (ms : Members)
    → change_member k f (change_member j g (member l e ms))
    ≡ member l (if_equal (slice_cmp nat_cmp k l) f (if_equal (slice_cmp nat_cmp j l) g e))
    (unless_equal (slice_cmp nat_cmp k l) (change_member k f)
    (unless_equal (slice_cmp nat_cmp j l) (change_member j g) ms))
two_steps k j f g l e ms =
    ap (change_member k f) (member_step j g l e ms)
    ∙ member_step k f l (if_equal (slice_cmp nat_cmp j l) g e)
    (unless_equal (slice_cmp nat_cmp j l) (change_member j g) ms)

both_equal : (f g : Doc → Doc) (o p : Ordering) (e : Doc) → f (g e) ≡ g (f e)
    → if_equal o f (if_equal p g e) ≡ if_equal p g (if_equal o f e)
both_equal f g Equal Equal e h = h
both_equal f g Equal p e h = refl
both_equal f g o p e h = refl

twice_equal : (f : Doc → Doc) (o : Ordering) (e : Doc) → f (f e) ≡ f e
    → if_equal o f (if_equal o f e) ≡ if_equal o f e
twice_equal f Equal e h = h
twice_equal f o e h = refl

stays_equal : (f g : Doc → Doc) (o p : Ordering) (e : Doc) → (f e ≡ e → f (g e) ≡ g e)
    → if_equal o f e ≡ e → if_equal o f (if_equal p g e) ≡ if_equal p g e
stays_equal f g Equal Equal e h same = h same
stays_equal f g Equal p e h same = same
stays_equal f g o p e h same = refl

both_unless : (f g : Members → Members) (o p : Ordering) (ms : Members) → f (g ms) ≡ g (f ms)
    → unless_equal o f (unless_equal p g ms) ≡ unless_equal p g (unless_equal o f ms)
both_unless f g Equal p ms h = refl
both_unless f g o Equal ms h = refl
both_unless f g o p ms h = h

twice_unless : (f : Members → Members) (o : Ordering) (ms : Members) → f (f ms) ≡ f ms
    → unless_equal o f (unless_equal o f ms) ≡ unless_equal o f ms
twice_unless f Equal ms h = refl
twice_unless f o ms h = h

stays_unless : (f g : Members → Members) (o p : Ordering) (ms : Members)
    → (f ms ≡ ms → f (g ms) ≡ g ms) → unless_equal o f ms ≡ ms
    → unless_equal o f (unless_equal p g ms) ≡ unless_equal p g ms
stays_unless f g Equal p ms h same = refl
stays_unless f g o Equal ms h same = same
stays_unless f g o p ms h same = h same

members_commute : (k j : List ℕ) (f g : Doc → Doc) (ms : Members) → Commute f g
    → change_member k f (change_member j g ms) ≡ change_member j g (change_member k f ms)
members_commute k j f g no_members h = refl
members_commute k j f g (member l e ms) h =
    let o = slice_cmp nat_cmp k l in
    let p = slice_cmp nat_cmp j l in
    two_steps k j f g l e ms
    ∙ ap₂ (member l) (both_equal f g o p e (h e))
    (both_unless (change_member k f) (change_member j g) o p ms (members_commute k j f g ms h))
    ∙ sym (two_steps j k g f l e ms)

members_twice : (k : List ℕ) (f : Doc → Doc) (ms : Members) → ((d : Doc) → f (f d) ≡ f d)
    → change_member k f (change_member k f ms) ≡ change_member k f ms
members_twice k f no_members h = refl
members_twice k f (member l e ms) h =
    let o = slice_cmp nat_cmp k l in
    two_steps k k f f l e ms
    ∙ ap₂ (member l) (twice_equal f o e (h e))
    (twice_unless (change_member k f) o ms (members_twice k f ms h))
    ∙ sym (member_step k f l e ms)

same_members : (l : List ℕ) (d e : Doc) (ms ns : Members) → member l d ms ≡ member l e ns
    → (d ≡ e) × (ms ≡ ns)
same_members l d e ms ns h = (cc, cc)

members_stay : (k j : List ℕ) (f g : Doc → Doc) (ms : Members) → Stays f g
    → change_member k f ms ≡ ms
    → change_member k f (change_member j g ms) ≡ change_member j g ms
members_stay k j f g no_members h same = refl
members_stay k j f g (member l e ms) h same =
    let o = slice_cmp nat_cmp k l in
    let p = slice_cmp nat_cmp j l in
    let parts = same_members l (if_equal o f e) e (unless_equal o (change_member k f) ms) ms
    (sym (member_step k f l e ms) ∙ same) in
    two_steps k j f g l e ms
    ∙ ap₂ (member l) (stays_equal f g o p e (h e) parts.0)
    (stays_unless (change_member k f) (change_member j g) o p ms (members_stay k j f g ms h)
    parts.1)
    ∙ sym (member_step j g l e ms)

same_object : (ms ns : Members) → object ms ≡ object ns → ms ≡ ns
same_object ms ns h = cc

child_commute : (k j : List ℕ) (f g : Doc → Doc) (d : Doc) → Commute f g
    → change_child k f (change_child j g d) ≡ change_child j g (change_child k f d)
child_commute k j f g (object ms) h = ap object (members_commute k j f g ms h)
child_commute k j f g d h = refl

child_twice : (k : List ℕ) (f : Doc → Doc) (d : Doc) → ((d : Doc) → f (f d) ≡ f d)
    → change_child k f (change_child k f d) ≡ change_child k f d
child_twice k f (object ms) h = ap object (members_twice k f ms h)
child_twice k f d h = refl

child_stays : (k j : List ℕ) (f g : Doc → Doc) (d : Doc) → Stays f g → change_child k f d ≡ d
    → change_child k f (change_child j g d) ≡ change_child j g d
child_stays k j f g (object ms) h same =
    ap object (members_stay k j f g ms h (same_object (change_member k f ms) ms same))
child_stays k j f g d h same = same

-- ---- elements

map_commute : (f g : Doc → Doc) (ds : Items) → Commute f g
    → map_items f (map_items g ds) ≡ map_items g (map_items f ds)
map_commute f g no_items h = refl
map_commute f g (item d ds) h = ap₂ item (h d) (map_commute f g ds h)

map_twice : (f : Doc → Doc) (ds : Items) → ((d : Doc) → f (f d) ≡ f d)
    → map_items f (map_items f ds) ≡ map_items f ds
map_twice f no_items h = refl
map_twice f (item d ds) h = ap₂ item (h d) (map_twice f ds h)

same_items : (d e : Doc) (ds es : Items) → item d ds ≡ item e es → (d ≡ e) × (ds ≡ es)
same_items d e ds es h = (cc, cc)

same_list : (ds es : Items) → list ds ≡ list es → ds ≡ es
same_list ds es h = cc

map_stays : (f g : Doc → Doc) (ds : Items) → Stays f g → map_items f ds ≡ ds
    → map_items f (map_items g ds) ≡ map_items g ds
map_stays f g no_items h same = refl
map_stays f g (item d ds) h same =
    let parts = same_items (f d) d (map_items f ds) ds same in
    ap₂ item (h d parts.0) (map_stays f g ds h parts.1)

items_commute : (f g : Doc → Doc) (d : Doc) → Commute f g
    → change_items f (change_items g d) ≡ change_items g (change_items f d)
items_commute f g (list ds) h = ap list (map_commute f g ds h)
items_commute f g d h = refl

items_twice : (f : Doc → Doc) (d : Doc) → ((d : Doc) → f (f d) ≡ f d)
    → change_items f (change_items f d) ≡ change_items f d
items_twice f (list ds) h = ap list (map_twice f ds h)
items_twice f d h = refl

items_stay : (f g : Doc → Doc) (d : Doc) → Stays f g → change_items f d ≡ d
    → change_items f (change_items g d) ≡ change_items g d
items_stay f g (list ds) h same =
    ap list (map_stays f g ds h (same_list (map_items f ds) ds same))
items_stay f g d h same = same

-- members and elements of one value
child_items : (k : List ℕ) (f g : Doc → Doc) (d : Doc)
    → change_child k f (change_items g d) ≡ change_items g (change_child k f d)
child_items k f g (object ms) = refl
child_items k f g d = refl

child_stays_items : (k : List ℕ) (f g : Doc → Doc) (d : Doc) → change_child k f d ≡ d
    → change_child k f (change_items g d) ≡ change_items g d
child_stays_items k f g (list ds) same = refl
child_stays_items k f g d same = same

items_stay_child : (k : List ℕ) (f g : Doc → Doc) (d : Doc) → change_items f d ≡ d
    → change_items f (change_child k g d) ≡ change_child k g d
items_stay_child k f g (object ms) same = refl
items_stay_child k f g d same = same

-- ---- elements with a name

-- the function leaves the names of elements
abbrev LeavesNames : (Doc → Doc) → Type 0
LeavesNames g = (n : Option (List ℕ)) (d : Doc) → is_called n (Some (g d)) ≡ is_called n (Some d)

called_if : (n m : Option (List ℕ)) (g : Doc → Doc) (d : Doc) → LeavesNames g
    → is_called n (Some (change_called m g d)) ≡ is_called n (Some d)
called_if n m g d keeps = go (is_called m (Some d))
  where
    go : (b : Bool) → is_called n (Some (cond b (g d) d)) ≡ is_called n (Some d)
    go true = keeps n d
    go false = refl

-- the condition of the second change is that of the value before the first one
second_called : (n m : Option (List ℕ)) (f g : Doc → Doc) (d : Doc) → LeavesNames g
    → change_called n f (change_called m g d)
    ≡ cond (is_called n (Some d)) (f (change_called m g d)) (change_called m g d)
second_called n m f g d keeps =
    ap (λ b. cond b (f (change_called m g d)) (change_called m g d)) (called_if n m g d keeps)

called_commute : (n m : Option (List ℕ)) (f g : Doc → Doc) → LeavesNames f → LeavesNames g
    → Commute f g → Commute (change_called n f) (change_called m g)
called_commute n m f g first second h d =
    second_called n m f g d second
    ∙ both_if f g (is_called n (Some d)) (is_called m (Some d)) d (h d)
    ∙ sym (second_called m n g f d first)

called_twice : (n : Option (List ℕ)) (f : Doc → Doc) (d : Doc) → LeavesNames f
    → ((d : Doc) → f (f d) ≡ f d)
    → change_called n f (change_called n f d) ≡ change_called n f d
called_twice n f d keeps h =
    second_called n n f f d keeps ∙ twice_if f (is_called n (Some d)) d (h d)

called_stays : (n m : Option (List ℕ)) (f g : Doc → Doc) → LeavesNames g → Stays f g
    → Stays (change_called n f) (change_called m g)
called_stays n m f g keeps h d same =
    second_called n m f g d keeps
    ∙ stays_if f g (is_called n (Some d)) (is_called m (Some d)) d (h d) same

names_left : (ps : List RuleStep) (l : RuleStep) → LeavesNames (omit_at ps l)
names_left ps l n d = called_after n ps l d

-- ---- arrays without elements

gone : (n : List ℕ) (d : Doc) (ds : Items) → is_called (Some n) (Some d) ≡ true
    → items_without n (item d ds) ≡ items_without n ds
gone n d ds h = ap (λ b. cond b (items_without n ds) (item d (items_without n ds))) h

left : (n : List ℕ) (d : Doc) (ds : Items) → is_called (Some n) (Some d) ≡ false
    → items_without n (item d ds) ≡ item d (items_without n ds)
left n d ds h = ap (λ b. cond b (items_without n ds) (item d (items_without n ds))) h

filters_commute : (n m : List ℕ) (ds : Items)
    → items_without n (items_without m ds) ≡ items_without m (items_without n ds)
filters_commute n m no_items = refl
filters_commute n m (item d ds) =
    go (is_called (Some n) (Some d)) (is_called (Some m) (Some d)) refl refl
    (filters_commute n m ds)
  where
    ns : Items
    ns = items_without n ds

    ms : Items
    ms = items_without m ds

    go : (a b : Bool) → is_called (Some n) (Some d) ≡ a → is_called (Some m) (Some d) ≡ b
        → items_without n ms ≡ items_without m ns
        → items_without n (cond b ms (item d ms)) ≡ items_without m (cond a ns (item d ns))
    go true true h k rest = rest
    go true false h k rest = gone n d ms h ∙ rest
    go false true h k rest = rest ∙ sym (gone m d ns k)
    go false false h k rest = left n d ms h ∙ ap (item d) rest ∙ sym (left m d ns k)

filter_twice : (n : List ℕ) (ds : Items)
    → items_without n (items_without n ds) ≡ items_without n ds
filter_twice n no_items = refl
filter_twice n (item d ds) = go (is_called (Some n) (Some d)) refl (filter_twice n ds)
  where
    ns : Items
    ns = items_without n ds

    go : (b : Bool) → is_called (Some n) (Some d) ≡ b → items_without n ns ≡ ns
        → items_without n (cond b ns (item d ns)) ≡ cond b ns (item d ns)
    go true h rest = rest
    go false h rest = left n d ns h ∙ ap (item d) rest

filter_map : (n : List ℕ) (f : Doc → Doc) (ds : Items) → LeavesNames f
    → items_without n (map_items f ds) ≡ map_items f (items_without n ds)
filter_map n f no_items keeps = refl
filter_map n f (item d ds) keeps =
    ap (λ b. cond b fs (item (f d) fs)) (keeps (Some n) d)
    ∙ go (is_called (Some n) (Some d)) (filter_map n f ds keeps)
  where
    fs : Items
    fs = items_without n (map_items f ds)

    go : (b : Bool) → fs ≡ map_items f (items_without n ds) → cond b fs (item (f d) fs)
        ≡ map_items f (cond b (items_without n ds) (item d (items_without n ds)))
    go true rest = rest
    go false rest = ap (item (f d)) rest

filter_stays : (n : List ℕ) (f : Doc → Doc) (ds : Items) → map_items f ds ≡ ds
    → map_items f (items_without n ds) ≡ items_without n ds
filter_stays n f no_items same = refl
filter_stays n f (item d ds) same =
    let parts = same_items (f d) d (map_items f ds) ds same in
    go (is_called (Some n) (Some d)) parts.0 (filter_stays n f ds parts.1)
  where
    ns : Items
    ns = items_without n ds

    go : (b : Bool) → f d ≡ d → map_items f ns ≡ ns
        → map_items f (cond b ns (item d ns)) ≡ cond b ns (item d ns)
    go true first rest = rest
    go false first rest = ap₂ item first rest

without_both : (l r : RuleStep) (d : Doc) → without l (without r d) ≡ without r (without l d)
without_both (elements (Some n)) (elements (Some m)) (list ds) = ap list (filters_commute n m ds)
without_both l r d = refl

without_twice : (l : RuleStep) (d : Doc) → without l (without l d) ≡ without l d
without_twice (elements (Some n)) (list ds) = ap list (filter_twice n ds)
without_twice l d = refl

without_child : (l : RuleStep) (k : List ℕ) (f : Doc → Doc) (d : Doc)
    → without l (change_child k f d) ≡ change_child k f (without l d)
without_child (elements (Some n)) k f (object ms) = refl
without_child l k f d = refl

without_items : (l : RuleStep) (n : Option (List ℕ)) (f : Doc → Doc) (d : Doc) → LeavesNames f
    → without l (change_items (change_called n f) d)
    ≡ change_items (change_called n f) (without l d)
without_items (elements (Some m)) n f (list ds) keeps =
    ap list (filter_map m (change_called n f) ds (λ x d. called_if x n f d keeps))
without_items l n f d keeps = refl

child_stays_without : (k : List ℕ) (f : Doc → Doc) (l : RuleStep) (d : Doc)
    → change_child k f d ≡ d → change_child k f (without l d) ≡ without l d
child_stays_without k f (elements (Some n)) (list ds) same = refl
child_stays_without k f l d same = same

items_stay_without : (f : Doc → Doc) (l : RuleStep) (d : Doc) → change_items f d ≡ d
    → change_items f (without l d) ≡ without l d
items_stay_without f (elements (Some n)) (list ds) same =
    ap list (filter_stays n f ds (same_list (map_items f ds) ds same))
items_stay_without f l d same = same

-- ---- two places

pub places_commute : (ps : List RuleStep) (l : RuleStep) (qs : List RuleStep) (r : RuleStep)
    → Commute (omit_at ps l) (omit_at qs r)
places_commute [] l [] r d = without_both l r d
places_commute [] l (named j ∷ qs) r d = without_child l j (omit_at qs r) d
places_commute [] l (elements m ∷ qs) r d = without_items l m (omit_at qs r) d (names_left qs r)
places_commute (named k ∷ ps) l [] r d = sym (without_child r k (omit_at ps l) d)
places_commute (elements n ∷ ps) l [] r d =
    sym (without_items r n (omit_at ps l) d (names_left ps l))
places_commute (named k ∷ ps) l (named j ∷ qs) r d =
    child_commute k j (omit_at ps l) (omit_at qs r) d (places_commute ps l qs r)
places_commute (named k ∷ ps) l (elements m ∷ qs) r d =
    child_items k (omit_at ps l) (change_called m (omit_at qs r)) d
places_commute (elements n ∷ ps) l (named j ∷ qs) r d =
    sym (child_items j (omit_at qs r) (change_called n (omit_at ps l)) d)
places_commute (elements n ∷ ps) l (elements m ∷ qs) r d =
    items_commute (change_called n (omit_at ps l)) (change_called m (omit_at qs r)) d
    (called_commute n m (omit_at ps l) (omit_at qs r) (names_left ps l) (names_left qs r)
    (places_commute ps l qs r))

pub place_twice : (ps : List RuleStep) (l : RuleStep) (d : Doc)
    → omit_at ps l (omit_at ps l d) ≡ omit_at ps l d
place_twice [] l d = without_twice l d
place_twice (named k ∷ ps) l d = child_twice k (omit_at ps l) d (place_twice ps l)
place_twice (elements n ∷ ps) l d =
    items_twice (change_called n (omit_at ps l)) d
    (λ x. called_twice n (omit_at ps l) x (names_left ps l) (place_twice ps l))

-- ---- a change and a place

text_stays : (f : List ℕ → List ℕ) (qs : List RuleStep) (l : RuleStep)
    → Stays (change_text f) (omit_at qs l)
text_stays f [] (elements (Some n)) (list ds) same = refl
text_stays f [] l d same = same
text_stays f (named k ∷ qs) l (object ms) same = refl
text_stays f (named k ∷ qs) l d same = same
text_stays f (elements n ∷ qs) l (list ds) same = refl
text_stays f (elements n ∷ qs) l d same = same

-- a blank value is without elements
blank_full : (qs : List RuleStep) (l : RuleStep) (d : Doc) → omit_at qs l (blank d) ≡ blank d
blank_full [] (elements (Some n)) (list ds) = refl
blank_full [] l d = refl
blank_full (named k ∷ qs) l (object ms) = refl
blank_full (named k ∷ qs) l d = refl
blank_full (elements n ∷ qs) l (list ds) = refl
blank_full (elements n ∷ qs) l d = refl

blank_stays : (qs : List RuleStep) (l : RuleStep) → Stays blank (omit_at qs l)
blank_stays qs l d same =
    let full : omit_at qs l d ≡ d =
    ap (omit_at qs l) (sym same) ∙ blank_full qs l d ∙ same in
    ap blank full ∙ same ∙ sym full

verb_stays : (v : Verb) (qs : List RuleStep) (l : RuleStep) → Stays (of_verb v) (omit_at qs l)
verb_stays Blank qs l d same = blank_stays qs l d same
verb_stays Digits qs l d same = text_stays digits qs l d same
verb_stays Hex qs l d same = text_stays hex qs l d same
verb_stays Long qs l d same = text_stays long qs l d same
verb_stays Uuid qs l d same = text_stays uuid qs l d same

pub place_stays : (v : Verb) (ps qs : List RuleStep) (l : RuleStep)
    → Stays (change_at_place ps (of_verb v)) (omit_at qs l)
place_stays v [] qs l d same = verb_stays v qs l d same
place_stays v (named k ∷ ps) [] l d same =
    child_stays_without k (change_at_place ps (of_verb v)) l d same
place_stays v (elements n ∷ ps) [] l d same =
    items_stay_without (change_called n (change_at_place ps (of_verb v))) l d same
place_stays v (named k ∷ ps) (named j ∷ qs) l d same =
    child_stays k j (change_at_place ps (of_verb v)) (omit_at qs l) d (place_stays v ps qs l) same
place_stays v (named k ∷ ps) (elements m ∷ qs) l d same =
    child_stays_items k (change_at_place ps (of_verb v)) (change_called m (omit_at qs l)) d same
place_stays v (elements n ∷ ps) (named j ∷ qs) l d same =
    items_stay_child j (change_called n (change_at_place ps (of_verb v))) (omit_at qs l) d same
place_stays v (elements n ∷ ps) (elements m ∷ qs) l d same =
    items_stay (change_called n (change_at_place ps (of_verb v))) (change_called m (omit_at qs l)) d
    (called_stays n m (change_at_place ps (of_verb v)) (omit_at qs l) (names_left qs l)
    (place_stays v ps qs l)) same
