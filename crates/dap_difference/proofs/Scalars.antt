-- What follows if two documents without parts are equal, or are not.
use Rattle.std.proofs.Common.{◌≡◌, ◌≢◌, Bool, true, false, cond, [], ◌∷◌, Option, Some, None}
use Rattle.std.proofs.Common.{option_map}
use Rattle.std.proofs.Common.{refl, sym, ap, ap₂, ◌∙◌}
use Rattle.std.proofs.lemmas.Bool.Decides.{Decides-int_eq}
use Rattle.std.proofs.lemmas.Slice.Eq.{bytes_eq-Decides}
use Rattle.std.specs.Ordering.{int_eq}
use Rattle.dap_tree.specs.Sorts.{same_sort}
use Rattle.dap_tree.proofs.Sorts.{same_sort_told, told_same_sort}
use Rattle.dap_tree.specs.Doc.{Doc, null, boolean, whole, text, list, object, id}
use Rattle.dap_tree.proofs.Booleans.{and_left, and_right, and_both}
use Rattle.dap_difference.specs.Differences.{have_parts, form}
use Rattle.dap_difference.specs.Telling.{both, differences, same_boolean, same_scalar}

boolean_is : (a b : Bool) → same_boolean a b ≡ true → a ≡ b
boolean_is true b h = sym h
boolean_is false true h = absurd cc
boolean_is false false h = refl

pub same_is : (d e : Doc) → same_scalar d e ≡ true → d ≡ e
same_is null null h = refl
same_is (boolean a) (boolean b) h = ap boolean (boolean_is a b h)
same_is (whole y) (whole z) h = ap whole ((Decides-int_eq y z).0 h)
same_is (text s) (text t) h = ap text ((bytes_eq-Decides s t).0 h)
same_is (id s y) (id t z) h =
    ap₂ id (same_sort_told s t (and_left (same_sort s t) (int_eq y z) h))
    ((Decides-int_eq y z).0 (and_right (same_sort s t) (int_eq y z) h))
same_is d e h = absurd cc

both_none : (d e : Doc) → same_scalar d e ≡ true → both d e ≡ []
both_none d e h =
    ap (λ same. cond same [] (record { path = []; of_a = Some d; of_b = Some e } ∷ [])) h

-- two equal scalars have no differences
pub none_of_scalars : (d e : Doc) → same_scalar d e ≡ true → differences d e ≡ []
none_of_scalars null e h = both_none null e h
none_of_scalars (boolean b) e h = both_none (boolean b) e h
none_of_scalars (whole z) e h = both_none (whole z) e h
none_of_scalars (text s) e h = both_none (text s) e h
none_of_scalars (id s z) e h = both_none (id s z) e h
none_of_scalars (list ds) e h = absurd cc
none_of_scalars (object ms) e h = absurd cc

boolean_itself : (b : Bool) → same_boolean b b ≡ true
boolean_itself true = refl
boolean_itself false = refl

itself : (d : Doc) → have_parts (Some d) (Some d) ≡ false → same_scalar d d ≡ true
itself null h = refl
itself (boolean b) h = boolean_itself b
itself (whole z) h = (Decides-int_eq z z).1 refl
itself (text s) h = (bytes_eq-Decides s s).1 refl
itself (list ds) h = absurd cc
itself (object ms) h = absurd cc
itself (id s z) h = and_both _ _ (told_same_sort s s refl) ((Decides-int_eq z z).1 refl)

pub apart_are : (d e : Doc) → have_parts (Some d) (Some e) ≡ false → same_scalar d e ≡ false
    → d ≢ e
apart_are d e parts h same =
    let parts_d = ap (λ x. have_parts (Some d) (Some x)) same ∙ parts in
    let hit = itself d parts_d in
    let missed = ap (λ x. same_scalar d x) same ∙ h in
    absurd cc

-- without parts, the forms determine the documents
pub form_tells : (d e : Doc) → have_parts (Some d) (Some e) ≡ false → form d ≡ form e → d ≡ e
form_tells (list ds) (list es) h k = absurd cc
form_tells (object ms) (object ns) h k = absurd cc
form_tells null null h k = refl
form_tells (boolean a) (boolean b) h k = k
form_tells (whole y) (whole z) h k = k
form_tells (text s) (text t) h k = k
form_tells (id s y) (id t z) h k = k
form_tells d e h k = absurd cc

pub forms_tell : (o q : Option Doc) → have_parts o q ≡ false
    → option_map form o ≡ option_map form q → o ≡ q
forms_tell (Some d) (Some e) h k =
    let inner : form d ≡ form e = cc in ap Some (form_tells d e h inner)
forms_tell (Some d) None h k = absurd cc
forms_tell None (Some e) h k = absurd cc
forms_tell None None h k = refl

-- two documents with parts have the same form
parts_of : (d e : Doc) → have_parts (Some d) (Some e) ≡ true → form d ≡ form e
parts_of (list ds) (list es) h = refl
parts_of (object ms) (object ns) h = refl
parts_of d e h = absurd cc

pub parts_have_form : (o q : Option Doc) → have_parts o q ≡ true
    → option_map form o ≡ option_map form q
parts_have_form (Some d) (Some e) h = ap Some (parts_of d e h)
parts_have_form (Some d) None h = absurd cc
parts_have_form None q h = absurd cc
