-- The effect of an edit at a row's path on a document, path by path.
use Rattle.dap_tree.specs.Doc.{Doc, null, boolean, whole, text, list, object, id, Items, no_items}
use Rattle.dap_tree.specs.Doc.{item, Members, no_members, member, get, change_member, change_child}
use Rattle.dap_tree.specs.Doc.{map_items, change_items}
use Rattle.dap_tree.specs.Path.{Step, name, place, at, step}
use Rattle.dap_tree.specs.declared.sort.Sort.{Sort}
use Rattle.dap_tree.proofs.Paths.{get-change, get_member-change_other, get_item-map}
use Rattle.std.proofs.Common.{◌≡◌, ℕ, ℤ, Bool, true, false, cond, ◌&&◌, List, [], ◌∷◌, Option, Some}
use Rattle.std.proofs.Common.{None, option_map, option_and_then, Ordering, Less, Equal, Greater}
use Rattle.std.proofs.Common.{nat_cmp, refl, sym, ◌∙◌, ap, bytes_eq, true≢false}
use Rattle.std.proofs.lemmas.Slice.Eq.{bytes_eq-Decides}
use Rattle.std.specs.Cmp.Lexicographic.{slice_cmp}
use Rattle.std.specs.Ordering.{match_ordering}
use Rattle.dap_profile.specs.PlaceSteps.{PlaceStep, named, each}
use Rattle.dap_message.specs.Places.{fits_place}
use Rattle.dap_message.specs.Marks.{is_id_of, marked, top, items_top, members_top, edit}

pub by_bool : {P : Type 0} → (b : Bool) → (b ≡ true → P) → (b ≡ false → P) → P
by_bool true f g = f refl
by_bool false f g = g refl

-- two documents that are equal in their first level
abbrev pub Alike : Option Doc → Option Doc → Type 0
Alike a b = option_map top a ≡ option_map top b

items_top-map : (f : Doc → Doc) (ds : Items) → items_top (map_items f ds) ≡ items_top ds
items_top-map f no_items = refl
items_top-map f (item d ds) = ap (item null) (items_top-map f ds)

one_top : (o : Ordering) (l : List ℕ) (d e : Doc) (ms changed : Members)
    → members_top changed ≡ members_top ms
    → members_top (match_ordering o (member l d changed) (member l e ms) (member l d changed))
    ≡ member l null (members_top ms)
one_top Less l d e ms changed h = ap (member l null) h
one_top Equal l d e ms changed h = refl
one_top Greater l d e ms changed h = ap (member l null) h

members_top-change : (k : List ℕ) (f : Doc → Doc) (ms : Members)
    → members_top (change_member k f ms) ≡ members_top ms
members_top-change k f no_members = refl
members_top-change k f (member l d ms) =
    one_top (slice_cmp nat_cmp k l) l d (f d) ms (change_member k f ms) (members_top-change k f ms)

pub top-change : (k : List ℕ) (f : Doc → Doc) (d : Doc) → top (change_child k f d) ≡ top d
top-change k f null = refl
top-change k f (boolean b) = refl
top-change k f (whole z) = refl
top-change k f (text s) = refl
top-change k f (list ds) = refl
top-change k f (object ms) = ap object (members_top-change k f ms)
top-change k f (id s z) = refl

pub top-items : (f : Doc → Doc) (d : Doc) → top (change_items f d) ≡ top d
top-items f null = refl
top-items f (boolean b) = refl
top-items f (whole z) = refl
top-items f (text s) = refl
top-items f (list ds) = ap list (items_top-map f ds)
top-items f (object ms) = refl
top-items f (id s z) = refl

-- every other member keeps its value
pub get-change_other : (q k : List ℕ) (f : Doc → Doc) (d : Doc) → (q ≡ k → ⊥)
    → get q (change_child k f d) ≡ get q d
get-change_other q k f null h = refl
get-change_other q k f (boolean b) h = refl
get-change_other q k f (whole z) h = refl
get-change_other q k f (text s) h = refl
get-change_other q k f (list ds) h = refl
get-change_other q k f (object ms) h = get_member-change_other q k f ms h
get-change_other q k f (id s z) h = refl

place-change : (k : List ℕ) (f : Doc → Doc) (i : ℕ) (d : Doc)
    → step (place i) (change_child k f d) ≡ step (place i) d
place-change k f i null = refl
place-change k f i (boolean b) = refl
place-change k f i (whole z) = refl
place-change k f i (text s) = refl
place-change k f i (list ds) = refl
place-change k f i (object ms) = refl
place-change k f i (id s z) = refl

place-items : (f : Doc → Doc) (i : ℕ) (d : Doc)
    → step (place i) (change_items f d) ≡ option_map f (step (place i) d)
place-items f i null = refl
place-items f i (boolean b) = refl
place-items f i (whole z) = refl
place-items f i (text s) = refl
place-items f i (list ds) = get_item-map f i ds
place-items f i (object ms) = refl
place-items f i (id s z) = refl

name-items : (f : Doc → Doc) (k : List ℕ) (d : Doc) → get k (change_items f d) ≡ get k d
name-items f k null = refl
name-items f k (boolean b) = refl
name-items f k (whole z) = refl
name-items f k (text s) = refl
name-items f k (list ds) = refl
name-items f k (object ms) = refl
name-items f k (id s z) = refl

step-as_id : (s : Sort) (n : ℤ) (st : Step)
    → step st (cond (is_id_of s n) (id s n) (whole n)) ≡ None
step-as_id s n (name k) = by_bool (is_id_of s n) (λ h. rw h refl) (λ h. rw h refl)
step-as_id s n (place i) = by_bool (is_id_of s n) (λ h. rw h refl) (λ h. rw h refl)

pub step-marked : (s : Sort) (d : Doc) (st : Step) → step st (marked s d) ≡ step st d
step-marked s (whole n) (name k) = step-as_id s n (name k)
step-marked s (whole n) (place i) = step-as_id s n (place i)
step-marked s null st = refl
step-marked s (boolean b) st = refl
step-marked s (text t) st = refl
step-marked s (list ds) st = refl
step-marked s (object ms) st = refl
step-marked s (id r n) st = refl

-- the value at a path after an edit: the previous value, marked if the path matches
abbrev pub AtEdit : List PlaceStep → Sort → Doc → List Step → Type 0
AtEdit ps s d p =
    Alike (at p (edit ps (marked s) d))
    (cond (fits_place ps p) (option_map (marked s) (at p d)) (at p d))

none_either : (b : Bool) (s : Sort)
    → option_map top None ≡ option_map top (cond b (option_map (marked s) None) None)
none_either true s = refl
none_either false s = refl

below : (ps : List PlaceStep) (s : Sort) (p : List Step) → ((e : Doc) → AtEdit ps s e p)
    → (o : Option Doc) →
    Alike (option_and_then (at p) (option_map (edit ps (marked s)) o))
    (cond (fits_place ps p) (option_map (marked s) (option_and_then (at p) o))
    (option_and_then (at p) o))
below ps s p h None = none_either (fits_place ps p) s
below ps s p h (Some e) = h e

at_name : (k l : List ℕ) (ps : List PlaceStep) (s : Sort) (p : List Step) (d : Doc) (b : Bool)
    → bytes_eq k l ≡ b → ((e : Doc) → AtEdit ps s e p) →
    Alike (option_and_then (at p) (get l (change_child k (edit ps (marked s)) d)))
    (cond (b && fits_place ps p) (option_map (marked s) (option_and_then (at p) (get l d)))
    (option_and_then (at p) (get l d)))
at_name k l ps s p d true is h =
    let same : k ≡ l = (bytes_eq-Decides k l).0 is in
    ap (λ q. option_map top
    (option_and_then (at p) (get q (change_child k (edit ps (marked s)) d)))) (sym same)
    ∙ ap (λ o. option_map top (option_and_then (at p) o)) (get-change k (edit ps (marked s)) d)
    ∙ below ps s p h (get k d)
    ∙ ap (λ q. option_map top
    (cond (fits_place ps p) (option_map (marked s) (option_and_then (at p) (get q d)))
    (option_and_then (at p) (get q d)))) same
at_name k l ps s p d false is h =
    ap (λ o. option_map top (option_and_then (at p) o))
    (get-change_other l k (edit ps (marked s)) d
    (λ e. true≢false (sym ((bytes_eq-Decides k l).1 (sym e)) ∙ is)))

pub at-edit : (ps : List PlaceStep) (s : Sort) (d : Doc) (p : List Step) → AtEdit ps s d p
at-edit [] s d [] = refl
at-edit [] s d (st ∷ p) = ap (λ o. option_map top (option_and_then (at p) o)) (step-marked s d st)
at-edit (named k ∷ ps) s d [] = ap Some (top-change k (edit ps (marked s)) d)
at-edit (named k ∷ ps) s d (name l ∷ p) =
    at_name k l ps s p d (bytes_eq k l) refl (λ e. at-edit ps s e p)
at-edit (named k ∷ ps) s d (place i ∷ p) =
    ap (λ o. option_map top (option_and_then (at p) o)) (place-change k (edit ps (marked s)) i d)
at-edit (each ∷ ps) s d [] = ap Some (top-items (edit ps (marked s)) d)
at-edit (each ∷ ps) s d (name l ∷ p) =
    ap (λ o. option_map top (option_and_then (at p) o)) (name-items (edit ps (marked s)) l d)
at-edit (each ∷ ps) s d (place i ∷ p) =
    ap (λ o. option_map top (option_and_then (at p) o)) (place-items (edit ps (marked s)) i d)
    ∙ below ps s p (λ e. at-edit ps s e p) (step (place i) d)
