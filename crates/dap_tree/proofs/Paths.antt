-- The effect of a change at one member on every path.
use Rattle.std.proofs.Common.{◌≡◌, ◌≢◌, ℕ, List, zero, suc, ◌∷◌, Option, Some, None, option_map}
use Rattle.std.proofs.Common.{option_and_then, Ordering, Less, Equal, Greater, nat_cmp, Bool, true}
use Rattle.std.proofs.Common.{false, bytes_eq, is_eq, refl, sym, ap, ◌∙◌}
use Rattle.std.proofs.lemmas.Map.Text.{is_eq-slice_cmp}
use Rattle.std.proofs.lemmas.Slice.Eq.{bytes_eq-Decides}
use Rattle.std.specs.Cmp.Lexicographic.{slice_cmp}
use Rattle.std.specs.Ordering.{match_ordering}
use Rattle.dap_tree.specs.Doc.{Doc, null, boolean, whole, text, list, object, id, Items, no_items}
use Rattle.dap_tree.specs.Doc.{item, Members, no_members, member, get, get_member, change_member}
use Rattle.dap_tree.specs.Doc.{change_child, map_items, change_items}
use Rattle.dap_tree.specs.Path.{Step, name, place, step, at, get_item}

here_at : (o : Ordering) (k l : List ℕ) (f : Doc → Doc) (e : Doc) (ms changed : Members)
    → slice_cmp nat_cmp k l ≡ o → get_member k changed ≡ option_map f (get_member k ms)
    → get_member k (match_ordering o (member l e changed) (member l (f e) ms) (member l e changed))
    ≡ option_map f (match_ordering o (get_member k ms) (Some e) (get_member k ms))
here_at Less k l f e ms changed is later = rw is later
here_at Equal k l f e ms changed is later = rw is refl
here_at Greater k l f e ms changed is later = rw is later

-- the member itself
pub get_member-change : (k : List ℕ) (f : Doc → Doc) (ms : Members)
    → get_member k (change_member k f ms) ≡ option_map f (get_member k ms)
get_member-change k f no_members = refl
get_member-change k f (member l e ms) =
    here_at _ k l f e ms (change_member k f ms) refl (get_member-change k f ms)

pub get-change : (k : List ℕ) (f : Doc → Doc) (d : Doc)
    → get k (change_child k f d) ≡ option_map f (get k d)
get-change k f null = refl
get-change k f (boolean b) = refl
get-change k f (whole z) = refl
get-change k f (text s) = refl
get-change k f (list ds) = refl
get-change k f (object ms) = get_member-change k f ms
get-change k f (id s z) = refl

differ : (xs ys : List ℕ) (b : Bool) → bytes_eq xs ys ≡ b → (xs ≡ ys → ⊥) → b ≡ false
differ xs ys true e other = absurd (other ((bytes_eq-Decides xs ys).0 e))
differ xs ys false e other = refl

either : (o : Ordering) (a b : Option Doc) → is_eq o ≡ false → match_ordering o a b a ≡ a
either Less a b e = refl
either Equal a b e = cc
either Greater a b e = refl

pub skips : (q k : List ℕ) (d : Doc) (ms : Members) → (q ≡ k → ⊥)
    → get_member q (member k d ms) ≡ get_member q ms
skips q k d ms other =
    either (slice_cmp nat_cmp q k) _ _ (is_eq-slice_cmp q k ∙ differ q k _ refl other)

other_at : (o : Ordering) (q k l : List ℕ) (f : Doc → Doc) (e : Doc) (ms changed : Members)
    → slice_cmp nat_cmp k l ≡ o → (q ≡ k → ⊥) → get_member q changed ≡ get_member q ms
    → get_member q (match_ordering o (member l e changed) (member l (f e) ms) (member l e changed))
    ≡ get_member q (member l e ms)
other_at Less q k l f e ms changed is other later =
    ap (λ r. match_ordering (slice_cmp nat_cmp q l) r (Some e) r) later
other_at Equal q k l f e ms changed is other later =
    let same : k ≡ l = (bytes_eq-Decides k l).0 (sym (is_eq-slice_cmp k l) ∙ ap is_eq is) in
    let apart = λ (h : q ≡ l). other (h ∙ sym same) in
    skips q l (f e) ms apart ∙ sym (skips q l e ms apart)
other_at Greater q k l f e ms changed is other later =
    ap (λ r. match_ordering (slice_cmp nat_cmp q l) r (Some e) r) later

-- every other member keeps its value
pub get_member-change_other : (q k : List ℕ) (f : Doc → Doc) (ms : Members) → (q ≡ k → ⊥)
    → get_member q (change_member k f ms) ≡ get_member q ms
get_member-change_other q k f no_members other = refl
get_member-change_other q k f (member l e ms) other =
    other_at _ q k l f e ms (change_member k f ms) refl other
    (get_member-change_other q k f ms other)

pub get-change_other : (k : List ℕ) (f : Doc → Doc) (d : Doc) (other : List ℕ) → other ≢ k
    → get other (change_child k f d) ≡ get other d
get-change_other k f null other apart = refl
get-change_other k f (boolean b) other apart = refl
get-change_other k f (whole z) other apart = refl
get-change_other k f (text s) other apart = refl
get-change_other k f (list ds) other apart = refl
get-change_other k f (object ms) other apart = get_member-change_other other k f ms apart
get-change_other k f (id s z) other apart = refl

-- after a change of items, an item is f of the old item
pub get_item-map : (f : Doc → Doc) (n : ℕ) (ds : Items)
    → get_item n (map_items f ds) ≡ option_map f (get_item n ds)
get_item-map f n no_items = refl
get_item-map f zero (item d ds) = refl
get_item-map f (suc n) (item d ds) = get_item-map f n ds

pub item-change : (f : Doc → Doc) (d : Doc) (n : ℕ)
    → step (place n) (change_items f d) ≡ option_map f (step (place n) d)
item-change f null n = refl
item-change f (boolean b) n = refl
item-change f (whole z) n = refl
item-change f (text s) n = refl
item-change f (list ds) n = get_item-map f n ds
item-change f (object ms) n = refl
item-change f (id s z) n = refl

pub get-change_items : (f : Doc → Doc) (d : Doc) (k : List ℕ) → get k (change_items f d) ≡ get k d
get-change_items f null k = refl
get-change_items f (boolean b) k = refl
get-change_items f (whole z) k = refl
get-change_items f (text s) k = refl
get-change_items f (list ds) k = refl
get-change_items f (object ms) k = refl
get-change_items f (id s z) k = refl

mapped : (f : Doc → Doc) (g h : Doc → Option Doc) → ((d : Doc) → h (f d) ≡ g d) → (o : Option Doc)
    → option_and_then h (option_map f o) ≡ option_and_then g o
mapped f g h step None = refl
mapped f g h step (Some d) = step d

-- a change at a member is a change after the first step of the path
pub at-change : (k : List ℕ) (f : Doc → Doc) (ps : List Step) (d : Doc)
    → at (name k ∷ ps) (change_child k f d) ≡ option_and_then (λ e. at ps (f e)) (get k d)
at-change k f ps d =
    ap (option_and_then (at ps)) (get-change k f d)
    ∙ mapped f (λ e. at ps (f e)) (at ps) (λ e. refl) (get k d)

-- a change at a name changes nothing at another step
step-change_other : (k : List ℕ) (f : Doc → Doc) (d : Doc) (p : Step) → p ≢ name k
    → step p (change_child k f d) ≡ step p d
step-change_other k f d (name other) apart =
    get-change_other k f d other (λ same. apart (ap name same))
step-change_other k f null (place n) apart = refl
step-change_other k f (boolean b) (place n) apart = refl
step-change_other k f (whole z) (place n) apart = refl
step-change_other k f (text s) (place n) apart = refl
step-change_other k f (list ds) (place n) apart = refl
step-change_other k f (object ms) (place n) apart = refl
step-change_other k f (id s z) (place n) apart = refl

pub at-change_other : (k : List ℕ) (f : Doc → Doc) (d : Doc) (first : Step) (rest : List Step)
    → first ≢ name k → at (first ∷ rest) (change_child k f d) ≡ at (first ∷ rest) d
at-change_other k f d first rest apart =
    ap (option_and_then (at rest)) (step-change_other k f d first apart)
