-- Members that are set: one object, and the changes that keep them.
use Rattle.std.proofs.Common.{◌≡◌, ℕ, Bool, true, false, cond, not, ◌&&◌, ◌||◌, List, [], ◌∷◌}
use Rattle.std.proofs.Common.{Option, Some, None, option_map, Ordering, Less, Equal, Greater}
use Rattle.std.proofs.Common.{nat_cmp, bytes_eq, refl, sym, ap, ◌∙◌, subst, true≢false}
use Rattle.std.proofs.lemmas.Option.{none-some, same_Some}
use Rattle.std.proofs.lemmas.Slice.Eq.{bytes_eq-Decides}
use Rattle.std.specs.Cmp.Lexicographic.{slice_cmp}
use Rattle.std.specs.Ordering.{match_ordering}
use Rattle.std.specs.Prelude.{suc}
use Rattle.dap_tree.specs.Doc.{Doc, null, boolean, whole, text, list, object, id, Items, no_items}
use Rattle.dap_tree.specs.Doc.{item, Members, no_members, member, get, get_member, change_member}
use Rattle.dap_tree.specs.Doc.{change_child, map_items, change_items, put}
use Rattle.dap_tree.specs.Path.{place, step, get_item}
use Rattle.dap_tree.proofs.Paths.{get-change, get-change_other, get-change_items, item-change}
use Rattle.dap_message.specs.Capabilities.{is_given, default_member, default_to}
use Rattle.dap_message.specs.Places.{is_object}
use Rattle.dap_message.proofs.Edits.{by_bool}
use Rattle.dap_message.proofs.Envelopes.{apart, given_other}
use Rattle.dap_message.proofs.FilledOnce.{get_member-put, given-keeps}
use Rattle.dap_mask.specs.Fills.{Scalar, flag, number, string, scalar_doc, set_last, is_start}
use Rattle.dap_mask.specs.RuleSteps.{RuleStep, named, elements, plain_step, plain_place, is_unnamed}
use Rattle.dap_mask.specs.RuleSteps.{is_called, change_called, change_at_place}
use Rattle.dap_mask.specs.Rules.{blank, change_text, of_verb, takes_parts, same_step}
use Rattle.dap_mask.specs.Texts.{digits, hex}
use Rattle.dap_words.specs.Long.{long}
use Rattle.dap_words.specs.Uuids.{uuid}
use Rattle.dap_mask.specs.declared.rules.Verb.{Verb, TheVariants.{Blank, Digits, Hex, Long, Uuid}}
use Rattle.dap_mask.proofs.Options.{mapped}

-- ---- a member is set in each object at a place

-- the document is no object, or the member is there and not null
abbrev pub is_set : List ℕ → Doc → Bool
is_set k d = not (is_object d) || is_given (get k d)

-- the last member of the place is set in each object to which the place leads
abbrev pub IsFull : List RuleStep → RuleStep → Doc → Type 0
IsFull [] (named k) d = is_set k d ≡ true
IsFull [] (elements n) d = Unit {0}
IsFull (named k ∷ ps) l d = (e : Doc) → get k d ≡ Some e → IsFull ps l e
IsFull (elements n ∷ ps) l d = (i : ℕ) (e : Doc) → step (place i) d ≡ Some e → IsFull ps l e

-- ---- a full document is not changed

default_same : (k : List ℕ) (v d : Doc) → is_set k d ≡ true → default_to k v d ≡ d
default_same k v null h = refl
default_same k v (boolean b) h = refl
default_same k v (whole z) h = refl
default_same k v (text s) h = refl
default_same k v (list ds) h = refl
default_same k v (object ms) h = rw h refl
default_same k v (id s z) h = refl

last_same : (l : RuleStep) (v d : Doc) → IsFull [] l d → set_last l v d ≡ d
last_same (named k) v d h = default_same k v d h
last_same (elements n) v d h = refl

member_same : (k : List ℕ) (f : Doc → Doc) (ms : Members)
    → ((e : Doc) → get_member k ms ≡ Some e → f e ≡ e) → change_member k f ms ≡ ms
member_same k f no_members h = refl
member_same k f (member l e ms) h = go (slice_cmp nat_cmp k l) h (member_same k f ms)
  where
    go : (o : Ordering) → ((x : Doc) → match_ordering o (get_member k ms) (Some e) (get_member k ms)
        ≡ Some x → f x ≡ x)
        → (((x : Doc) → get_member k ms ≡ Some x → f x ≡ x) → change_member k f ms ≡ ms)
        → match_ordering o (member l e (change_member k f ms)) (member l (f e) ms)
        (member l e (change_member k f ms)) ≡ member l e ms
    go Less g more = ap (member l e) (more g)
    go Equal g more = ap (λ x. member l x ms) (g e refl)
    go Greater g more = ap (member l e) (more g)

child_same : (k : List ℕ) (f : Doc → Doc) (d : Doc)
    → ((e : Doc) → get k d ≡ Some e → f e ≡ e) → change_child k f d ≡ d
child_same k f null h = refl
child_same k f (boolean b) h = refl
child_same k f (whole z) h = refl
child_same k f (text s) h = refl
child_same k f (list ds) h = refl
child_same k f (object ms) h = ap object (member_same k f ms h)
child_same k f (id s z) h = refl

items_same : (f : Doc → Doc) (ds : Items)
    → ((i : ℕ) (e : Doc) → get_item i ds ≡ Some e → f e ≡ e) → map_items f ds ≡ ds
items_same f no_items h = refl
items_same f (item d ds) h =
    ap (λ x. item x (map_items f ds)) (h 0 d refl)
    ∙ ap (item d) (items_same f ds (λ i e g. h (suc i) e g))

list_same : (f : Doc → Doc) (d : Doc)
    → ((i : ℕ) (e : Doc) → step (place i) d ≡ Some e → f e ≡ e) → change_items f d ≡ d
list_same f null h = refl
list_same f (boolean b) h = refl
list_same f (whole z) h = refl
list_same f (text s) h = refl
list_same f (list ds) h = ap list (items_same f ds h)
list_same f (object ms) h = refl
list_same f (id s z) h = refl

called_same : (n : Option (List ℕ)) (f : Doc → Doc) (d : Doc) → f d ≡ d → change_called n f d ≡ d
called_same n f d h = go (is_called n (Some d))
  where
    go : (b : Bool) → cond b (f d) d ≡ d
    go true = h
    go false = refl

pub full_same : (ps : List RuleStep) (l : RuleStep) (v d : Doc) → IsFull ps l d
    → change_at_place ps (set_last l v) d ≡ d
full_same [] l v d h = last_same l v d h
full_same (named k ∷ ps) l v d h =
    child_same k (change_at_place ps (set_last l v)) d (λ e g. full_same ps l v e (h e g))
full_same (elements n ∷ ps) l v d h =
    list_same (change_called n (change_at_place ps (set_last l v))) d
    (λ i e g. called_same n (change_at_place ps (set_last l v)) e (full_same ps l v e (h i e g)))

-- ---- after a member is set, the document is full

value_given : (v : Scalar) → is_given (Some (scalar_doc v)) ≡ true
value_given (flag b) = refl
value_given (number z) = refl
value_given (string s) = refl

given_default : (k : List ℕ) (v : Doc) (ms : Members) → is_given (Some v) ≡ true
    → is_given (get_member k (default_member k v ms)) ≡ true
given_default k v ms h = by_bool (is_given (get_member k ms))
    (λ e. rw e e)
    (λ e. rw e (ap is_given (get_member-put k v ms) ∙ h))

default_full : (k : List ℕ) (v d : Doc) → is_given (Some v) ≡ true
    → is_set k (default_to k v d) ≡ true
default_full k v null h = refl
default_full k v (boolean b) h = refl
default_full k v (whole z) h = refl
default_full k v (text s) h = refl
default_full k v (list ds) h = refl
default_full k v (object ms) h = given_default k v ms h
default_full k v (id s z) h = refl

last_full : (l : RuleStep) (v : Scalar) (d : Doc) → IsFull [] l (set_last l (scalar_doc v) d)
last_full (named k) v d = default_full k (scalar_doc v) d (value_given v)
last_full (elements n) v d = tt

pub full_after : (ps : List RuleStep) (l : RuleStep) (v : Scalar) (d : Doc) → is_unnamed ps ≡ true
    → IsFull ps l (change_at_place ps (set_last l (scalar_doc v)) d)
full_after [] l v d u = last_full l v d
full_after (named k ∷ ps) l v d u = λ e g.
    let f = change_at_place ps (set_last l (scalar_doc v)) in
    let m = mapped f (get k d) e (sym (get-change k f d) ∙ g) in
    subst (IsFull ps l) m.2 (full_after ps l v m.0 u)
full_after (elements None ∷ ps) l v d u = λ i e g.
    let f = change_at_place ps (set_last l (scalar_doc v)) in
    let m = mapped (change_called None f) (step (place i) d) e
    (sym (item-change (change_called None f) d i) ∙ g) in
    subst (IsFull ps l) m.2 (full_after ps l v m.0 u)
full_after (elements (Some n) ∷ ps) l v d u = absurd (true≢false (sym u))

-- ---- changes that keep a document full

-- the change makes no value null
abbrev pub Solid : (Doc → Doc) → Type 0
Solid f = (d : Doc) → is_given (Some d) ≡ true → is_given (Some (f d)) ≡ true

-- the change at the first place keeps what the second place leads to
abbrev pub KeepsRest : List RuleStep → List RuleStep → RuleStep → (Doc → Doc) → Type 0
KeepsRest [] ps l f = (d : Doc) → IsFull ps l d → IsFull ps l (f d)
KeepsRest (q ∷ qs) [] l f = Unit {0}
KeepsRest (q ∷ qs) (p ∷ ps) l f =
    same_step (plain_step q) (plain_step p) ≡ true → KeepsRest qs ps l f

solid_child : (k : List ℕ) (f : Doc → Doc) → Solid (change_child k f)
solid_child k f null h = h
solid_child k f (boolean b) h = refl
solid_child k f (whole z) h = refl
solid_child k f (text s) h = refl
solid_child k f (list ds) h = refl
solid_child k f (object ms) h = refl
solid_child k f (id s z) h = refl

solid_items : (f : Doc → Doc) → Solid (change_items f)
solid_items f null h = h
solid_items f (boolean b) h = refl
solid_items f (whole z) h = refl
solid_items f (text s) h = refl
solid_items f (list ds) h = refl
solid_items f (object ms) h = refl
solid_items f (id s z) h = refl

solid_at : (qs : List RuleStep) (f : Doc → Doc) → Solid f → Solid (change_at_place qs f)
solid_at [] f h = h
solid_at (named k ∷ qs) f h = solid_child k (change_at_place qs f)
solid_at (elements n ∷ qs) f h = solid_items (change_called n (change_at_place qs f))

pub object_child : (k : List ℕ) (f : Doc → Doc) (d : Doc)
    → is_object (change_child k f d) ≡ is_object d
object_child k f null = refl
object_child k f (boolean b) = refl
object_child k f (whole z) = refl
object_child k f (text s) = refl
object_child k f (list ds) = refl
object_child k f (object ms) = refl
object_child k f (id s z) = refl

pub object_items : (f : Doc → Doc) (d : Doc) → is_object (change_items f d) ≡ is_object d
object_items f null = refl
object_items f (boolean b) = refl
object_items f (whole z) = refl
object_items f (text s) = refl
object_items f (list ds) = refl
object_items f (object ms) = refl
object_items f (id s z) = refl

pub item_child : (k : List ℕ) (f : Doc → Doc) (d : Doc) (i : ℕ)
    → step (place i) (change_child k f d) ≡ step (place i) d
item_child k f null i = refl
item_child k f (boolean b) i = refl
item_child k f (whole z) i = refl
item_child k f (text s) i = refl
item_child k f (list ds) i = refl
item_child k f (object ms) i = refl
item_child k f (id s z) i = refl

set_by : (a b : Bool) (o p : Option Doc) → a ≡ b
    → (is_given p ≡ true → is_given o ≡ true) → (not b || is_given p) ≡ true
    → (not a || is_given o) ≡ true
set_by a true o p e h g = rw e (h g)
set_by a false o p e h g = rw e refl

given_mapped : (f : Doc → Doc) (o : Option Doc) → Solid f → is_given o ≡ true
    → is_given (option_map f o) ≡ true
given_mapped f None h g = g
given_mapped f (Some d) h g = h d g

set_child : (j k : List ℕ) (f : Doc → Doc) (d : Doc) → Solid f → is_set k d ≡ true
    → is_set k (change_child j f d) ≡ true
set_child j k f d solid h =
    set_by (is_object (change_child j f d)) (is_object d) (get k (change_child j f d)) (get k d)
    (object_child j f d) (λ g. by_bool (bytes_eq k j)
    (λ e. let same : k ≡ j = (bytes_eq-Decides k j).0 e in
    ap is_given (ap (λ x. get k (change_child x f d)) (sym same) ∙ get-change k f d)
    ∙ given_mapped f (get k d) solid g)
    (λ e. ap is_given (get-change_other j f d k (apart k j e)) ∙ g)) h

set_items : (k : List ℕ) (f : Doc → Doc) (d : Doc) → is_set k d ≡ true
    → is_set k (change_items f d) ≡ true
set_items k f d h =
    set_by (is_object (change_items f d)) (is_object d) (get k (change_items f d)) (get k d)
    (object_items f d) (λ g. ap is_given (get-change_items f d k) ∙ g) h

either_full : (ps : List RuleStep) (l : RuleStep) (x y : Doc) (b : Bool) → IsFull ps l x
    → IsFull ps l y → IsFull ps l (cond b y x)
either_full ps l x y true full other = other
either_full ps l x y false full other = full

same_again : (k : List ℕ) → bytes_eq k k ≡ true
same_again k = (bytes_eq-Decides k k).1 refl

pub full_kept : (qs : List RuleStep) (f : Doc → Doc) (ps : List RuleStep) (l : RuleStep) → Solid f
    → KeepsRest qs ps l f → (d : Doc) → IsFull ps l d → IsFull ps l (change_at_place qs f d)
full_kept [] f ps l solid keeps d h = keeps d h
full_kept (named j ∷ qs) f [] (named k) solid keeps d h =
    set_child j k (change_at_place qs f) d (solid_at qs f solid) h
full_kept (named j ∷ qs) f [] (elements n) solid keeps d h = tt
full_kept (elements m ∷ qs) f [] (named k) solid keeps d h =
    set_items k (change_called m (change_at_place qs f)) d h
full_kept (elements m ∷ qs) f [] (elements n) solid keeps d h = tt
full_kept (named j ∷ qs) f (named k ∷ ps) l solid keeps d h = λ e g.
    let F = change_at_place qs f in
    by_bool (bytes_eq j k)
    (λ same.
    let is : j ≡ k = (bytes_eq-Decides j k).0 same in
    let m = mapped F (get k d) e
    (sym (get-change k F d) ∙ ap (λ x. get k (change_child x F d)) (sym is) ∙ g) in
    subst (IsFull ps l) m.2 (full_kept qs f ps l solid (keeps same) m.0 (h m.0 m.1)))
    (λ other. h e (sym (get-change_other j F d k (λ is. true≢false
    (sym (same_again k) ∙ ap (λ x. bytes_eq x k) is ∙ other))) ∙ g))
full_kept (named j ∷ qs) f (elements n ∷ ps) l solid keeps d h = λ i e g.
    h i e (sym (item_child j (change_at_place qs f) d i) ∙ g)
full_kept (elements m ∷ qs) f (named k ∷ ps) l solid keeps d h = λ e g.
    h e (sym (get-change_items (change_called m (change_at_place qs f)) d k) ∙ g)
full_kept (elements m ∷ qs) f (elements n ∷ ps) l solid keeps d h = λ i e g.
    let F = change_called m (change_at_place qs f) in
    let x = mapped F (step (place i) d) e (sym (item-change F d i) ∙ g) in
    let full = h i x.0 x.1 in
    subst (IsFull ps l) x.2
    (either_full ps l x.0 (change_at_place qs f x.0) (is_called m (Some x.0)) full
    (full_kept qs f ps l solid (keeps refl) x.0 full))

-- a change that keeps every document full keeps what a place leads to
pub keeps_rest : (qs ps : List RuleStep) (l : RuleStep) (f : Doc → Doc)
    → ((rest : List RuleStep) (d : Doc) → IsFull rest l d → IsFull rest l (f d))
    → KeepsRest qs ps l f
keeps_rest [] ps l f h = h ps
keeps_rest (q ∷ qs) [] l f h = tt
keeps_rest (q ∷ qs) (p ∷ ps) l f h = λ same. keeps_rest qs ps l f h

-- ---- setting a member keeps every document full

scalar_full : (ps : List RuleStep) (l : RuleStep) (v : Scalar) → IsFull ps l (scalar_doc v)
scalar_full [] (named k) (flag b) = refl
scalar_full [] (named k) (number z) = refl
scalar_full [] (named k) (string s) = refl
scalar_full [] (elements n) v = tt
scalar_full (named k ∷ ps) l (flag b) = λ e g. absurd (none-some e g)
scalar_full (named k ∷ ps) l (number z) = λ e g. absurd (none-some e g)
scalar_full (named k ∷ ps) l (string s) = λ e g. absurd (none-some e g)
scalar_full (elements n ∷ ps) l (flag b) = λ i e g. absurd (none-some e g)
scalar_full (elements n ∷ ps) l (number z) = λ i e g. absurd (none-some e g)
scalar_full (elements n ∷ ps) l (string s) = λ i e g. absurd (none-some e g)

members_full : (j k : List ℕ) (ps : List RuleStep) (l : RuleStep) (v : Scalar) (ms : Members)
    → ((e : Doc) → get_member k ms ≡ Some e → IsFull ps l e) → (e : Doc)
    → get_member k (default_member j (scalar_doc v) ms) ≡ Some e → IsFull ps l e
members_full j k ps l v ms h e g = by_bool (bytes_eq k j)
    (λ same.
    let is : k ≡ j = (bytes_eq-Decides k j).0 same in
    own (is_given (get_member k ms))
    (ap (λ x. get_member k (default_member x (scalar_doc v) ms)) is ∙ g))
    (λ other. h e (sym (given_other (is_given (get_member j ms)) k j (scalar_doc v) ms
    (apart k j other)) ∙ g))
  where
    own : (b : Bool) → get_member k (cond b ms (put k (scalar_doc v) ms)) ≡ Some e → IsFull ps l e
    own true same = h e same
    own false same = subst (IsFull ps l)
        (same_Some (scalar_doc v) e (sym (get_member-put k (scalar_doc v) ms) ∙ same))
        (scalar_full ps l v)

default_kept : (j : List ℕ) (v : Scalar) (ps : List RuleStep) (l : RuleStep) (d : Doc)
    → IsFull ps l d → IsFull ps l (default_to j (scalar_doc v) d)
default_kept j v ps l null h = h
default_kept j v ps l (boolean b) h = h
default_kept j v ps l (whole z) h = h
default_kept j v ps l (text s) h = h
default_kept j v ps l (list ds) h = h
default_kept j v [] (named k) (object ms) h = given-keeps k j (scalar_doc v) ms (value_given v) h
default_kept j v [] (elements n) (object ms) h = tt
default_kept j v (named k ∷ ps) l (object ms) h = members_full j k ps l v ms h
default_kept j v (elements n ∷ ps) l (object ms) h = λ i e g. absurd (none-some e g)
default_kept j v ps l (id s z) h = h

pub last_kept : (m : RuleStep) (v : Scalar) (ps : List RuleStep) (l : RuleStep) (d : Doc)
    → IsFull ps l d → IsFull ps l (set_last m (scalar_doc v) d)
last_kept (named j) v ps l d h = default_kept j v ps l d h
last_kept (elements n) v ps l d h = h

solid_default : (j : List ℕ) (v : Doc) → Solid (default_to j v)
solid_default j v null h = h
solid_default j v (boolean b) h = refl
solid_default j v (whole z) h = refl
solid_default j v (text s) h = refl
solid_default j v (list ds) h = refl
solid_default j v (object ms) h = refl
solid_default j v (id s z) h = refl

pub solid_last : (m : RuleStep) (v : Doc) → Solid (set_last m v)
solid_last (named j) v = solid_default j v
solid_last (elements n) v = λ d h. h

-- ---- actions on values

text_kept : (f : List ℕ → List ℕ) (ps : List RuleStep) (l : RuleStep) (d : Doc) → IsFull ps l d
    → IsFull ps l (change_text f d)
text_kept f ps l null h = h
text_kept f ps l (boolean b) h = h
text_kept f ps l (whole z) h = h
text_kept f [] (named k) (text s) h = refl
text_kept f [] (elements n) (text s) h = tt
text_kept f (named k ∷ ps) l (text s) h = λ e g. absurd (none-some e g)
text_kept f (elements n ∷ ps) l (text s) h = λ i e g. absurd (none-some e g)
text_kept f ps l (list ds) h = h
text_kept f ps l (object ms) h = h
text_kept f ps l (id s z) h = h

solid_text : (f : List ℕ → List ℕ) → Solid (change_text f)
solid_text f null h = h
solid_text f (boolean b) h = refl
solid_text f (whole z) h = refl
solid_text f (text s) h = refl
solid_text f (list ds) h = refl
solid_text f (object ms) h = refl
solid_text f (id s z) h = refl

solid_blank : Solid blank
solid_blank null h = h
solid_blank (boolean b) h = refl
solid_blank (whole z) h = refl
solid_blank (text s) h = refl
solid_blank (list ds) h = refl
solid_blank (object ms) h = refl
solid_blank (id s z) h = refl

pub solid_verb : (v : Verb) → Solid (of_verb v)
solid_verb Blank = solid_blank
solid_verb Digits = solid_text digits
solid_verb Hex = solid_text hex
solid_verb Long = solid_text long
solid_verb Uuid = solid_text uuid

-- a place that does not lead above the objects keeps the rest, whatever the action there
start_keeps : (qs ps : List RuleStep) (l : RuleStep) (f : Doc → Doc)
    → is_start (plain_place qs) (plain_place ps) ≡ false → KeepsRest qs ps l f
start_keeps [] ps l f h = absurd (true≢false h)
start_keeps (q ∷ qs) [] l f h = tt
start_keeps (q ∷ qs) (p ∷ ps) l f h = λ same.
    start_keeps qs ps l f
    (ap (λ b. b && is_start (plain_place qs) (plain_place ps)) (sym same) ∙ h)

pub verb_keeps : (v : Verb) (qs ps : List RuleStep) (l : RuleStep)
    → (takes_parts v && is_start (plain_place qs) (plain_place ps)) ≡ false
    → KeepsRest qs ps l (of_verb v)
verb_keeps Blank qs ps l h = start_keeps qs ps l blank h
verb_keeps Digits qs ps l h =
    keeps_rest qs ps l (change_text digits) (λ rest d. text_kept digits rest l d)
verb_keeps Hex qs ps l h =
    keeps_rest qs ps l (change_text hex) (λ rest d. text_kept hex rest l d)
verb_keeps Long qs ps l h =
    keeps_rest qs ps l (change_text long) (λ rest d. text_kept long rest l d)
verb_keeps Uuid qs ps l h =
    keeps_rest qs ps l (change_text uuid) (λ rest d. text_kept uuid rest l d)
