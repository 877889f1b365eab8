-- Places that select no elements by their name.
use Rattle.std.proofs.Common.{◌≡◌, ℕ, Bool, true, false, cond, List, [], ◌∷◌, Option, Some, None}
use Rattle.std.proofs.Common.{option_and_then, refl, ap, ap₂, ◌∙◌, bytes_eq, Ordering, Less, Equal}
use Rattle.std.proofs.Common.{Greater, nat_cmp}
use Rattle.std.specs.Cmp.Lexicographic.{slice_cmp}
use Rattle.std.specs.Ordering.{match_ordering}
use Rattle.dap_tree.specs.Doc.{Doc, null, boolean, whole, text, list, object, id, Items, no_items}
use Rattle.dap_tree.specs.Doc.{item, Members, no_members, member, map_items, change_items}
use Rattle.dap_tree.specs.Doc.{change_member, change_child}
use Rattle.dap_tree.specs.Path.{Step, name, place, step}
use Rattle.dap_message.specs.Marks.{edit}
use Rattle.dap_mask.specs.RuleSteps.{RuleStep, named, elements, plain_place, is_unnamed, has_names}
use Rattle.dap_mask.specs.RuleSteps.{change_called, change_at_place}

-- ---- functions that are equal at each value

items_same : (f g : Doc → Doc) → ((d : Doc) → f d ≡ g d) → (ds : Items)
    → map_items f ds ≡ map_items g ds
items_same f g h no_items = refl
items_same f g h (item d ds) = ap₂ (λ e es. item e es) (h d) (items_same f g h ds)

list_same : (f g : Doc → Doc) → ((d : Doc) → f d ≡ g d) → (d : Doc)
    → change_items f d ≡ change_items g d
list_same f g h null = refl
list_same f g h (boolean b) = refl
list_same f g h (whole z) = refl
list_same f g h (text s) = refl
list_same f g h (list ds) = ap list (items_same f g h ds)
list_same f g h (object ms) = refl
list_same f g h (id s z) = refl

members_same : (k : List ℕ) (f g : Doc → Doc) → ((d : Doc) → f d ≡ g d) → (ms : Members)
    → change_member k f ms ≡ change_member k g ms
members_same k f g h no_members = refl
members_same k f g h (member l e ms) = go (slice_cmp nat_cmp k l) (members_same k f g h ms)
  where
    go : (o : Ordering) → change_member k f ms ≡ change_member k g ms
        → match_ordering o (member l e (change_member k f ms)) (member l (f e) ms)
        (member l e (change_member k f ms))
        ≡ match_ordering o (member l e (change_member k g ms)) (member l (g e) ms)
        (member l e (change_member k g ms))
    go Less same = ap (member l e) same
    go Equal same = ap (λ d. member l d ms) (h e)
    go Greater same = ap (member l e) same

child_same : (k : List ℕ) (f g : Doc → Doc) → ((d : Doc) → f d ≡ g d) → (d : Doc)
    → change_child k f d ≡ change_child k g d
child_same k f g h null = refl
child_same k f g h (boolean b) = refl
child_same k f g h (whole z) = refl
child_same k f g h (text s) = refl
child_same k f g h (list ds) = refl
child_same k f g h (object ms) = ap object (members_same k f g h ms)
child_same k f g h (id s z) = refl

-- ---- places

either : (b : Bool) → cond b true true ≡ true
either true = refl
either false = refl

names_unasked : (steps : List RuleStep) (o : Option Doc) (p : List Step)
    → is_unnamed steps ≡ true → has_names steps o p ≡ true
names_unasked [] o p h = refl
names_unasked (named k ∷ steps) o [] h = refl
names_unasked (named k ∷ steps) o (name l ∷ p) h =
    ap (λ b. cond (bytes_eq k l) b true)
    (names_unasked steps (option_and_then (step (name l)) o) p h)
    ∙ either (bytes_eq k l)
names_unasked (named k ∷ steps) o (place i ∷ p) h = refl
names_unasked (elements None ∷ steps) o [] h = refl
names_unasked (elements None ∷ steps) o (name l ∷ p) h = refl
names_unasked (elements None ∷ steps) o (place i ∷ p) h =
    names_unasked steps (option_and_then (step (place i)) o) p h
names_unasked (elements (Some n) ∷ steps) o p h = cc

changed_as_edited : (steps : List RuleStep) (f : Doc → Doc) (d : Doc) → is_unnamed steps ≡ true
    → change_at_place steps f d ≡ edit (plain_place steps) f d
changed_as_edited [] f d h = refl
changed_as_edited (named k ∷ steps) f d h =
    child_same k (change_at_place steps f) (edit (plain_place steps) f)
    (λ e. changed_as_edited steps f e h) d
changed_as_edited (elements None ∷ steps) f d h =
    list_same (change_called None (change_at_place steps f)) (edit (plain_place steps) f)
    (λ e. changed_as_edited steps f e h) d
changed_as_edited (elements (Some n) ∷ steps) f d h = cc

pub plain_places : (steps : List RuleStep) (f : Doc → Doc) (d : Doc) (p : List Step)
    → is_unnamed steps ≡ true
    → (has_names steps (Some d) p ≡ true)
    × (change_at_place steps f d ≡ edit (plain_place steps) f d)
plain_places steps f d p h =
    (names_unasked steps (Some d) p h, changed_as_edited steps f d h)
