-- The effect of a change at a place of a document, path by path.
use Rattle.std.proofs.Common.{◌≡◌, ℕ, Bool, true, false, cond, ◌&&◌, List, [], ◌∷◌, Option}
use Rattle.std.proofs.Common.{Some, None, option_map, option_and_then, refl, sym, ◌∙◌, ap, bytes_eq}
use Rattle.std.proofs.Common.{true≢false}
use Rattle.std.proofs.lemmas.Slice.Eq.{bytes_eq-Decides}
use Rattle.dap_tree.specs.Doc.{Doc, null, boolean, whole, text, list, object, id, get, change_child}
use Rattle.dap_tree.specs.Path.{Step, name, place, at, step}
use Rattle.dap_tree.proofs.Paths.{get-change, get-change_other, item-change, get-change_items}
use Rattle.dap_profile.specs.PlaceSteps.{PlaceStep}
use Rattle.dap_message.specs.Places.{fits_place}
use Rattle.dap_message.specs.Marks.{top}
use Rattle.dap_message.proofs.Edits.{Alike, top-change, top-items}
use Rattle.dap_mask.specs.RuleSteps.{RuleStep, named, elements, plain_place, is_called, has_names}
use Rattle.dap_mask.specs.RuleSteps.{change_called, change_at_place}
use Rattle.dap_mask.specs.Rules.{of_verb, blank, change_text, takes_parts}
use Rattle.dap_mask.specs.Masked.{is_below, left_at}
use Rattle.dap_mask.specs.declared.rules.Verb.{Verb, TheVariants.{Blank, Digits, Hex, Long, Uuid}}

-- ---- one value

pub step-blank : (st : Step) (d : Doc) → step st (blank d) ≡ None
step-blank (name k) null = refl
step-blank (name k) (boolean b) = refl
step-blank (name k) (whole z) = refl
step-blank (name k) (text s) = refl
step-blank (name k) (list ds) = refl
step-blank (name k) (object ms) = refl
step-blank (name k) (id s z) = refl
step-blank (place i) null = refl
step-blank (place i) (boolean b) = refl
step-blank (place i) (whole z) = refl
step-blank (place i) (text s) = refl
step-blank (place i) (list ds) = refl
step-blank (place i) (object ms) = refl
step-blank (place i) (id s z) = refl

pub step-text : (f : List ℕ → List ℕ) (st : Step) (d : Doc) → step st (change_text f d) ≡ step st d
step-text f (name k) (text s) = refl
step-text f (place i) (text s) = refl
step-text f st null = refl
step-text f st (boolean b) = refl
step-text f st (whole z) = refl
step-text f st (list ds) = refl
step-text f st (object ms) = refl
step-text f st (id s z) = refl

pub step-verb : (v : Verb) (st : Step) (d : Doc) → step st (of_verb v d)
    ≡ cond (takes_parts v) None (step st d)
step-verb Blank st d = step-blank st d
step-verb Digits st d = step-text _ st d
step-verb Hex st d = step-text _ st d
step-verb Long st d = step-text _ st d
step-verb Uuid st d = step-text _ st d

top-text : (f : List ℕ → List ℕ) (d : Doc) → top (change_text f d) ≡ change_text f (top d)
top-text f (text s) = refl
top-text f null = refl
top-text f (boolean b) = refl
top-text f (whole z) = refl
top-text f (list ds) = refl
top-text f (object ms) = refl
top-text f (id s z) = refl

pub top-verb : (v : Verb) (d : Doc) → top (of_verb v d) ≡ of_verb v (top d)
top-verb Blank null = refl
top-verb Blank (boolean b) = refl
top-verb Blank (whole z) = refl
top-verb Blank (text s) = refl
top-verb Blank (list ds) = refl
top-verb Blank (object ms) = refl
top-verb Blank (id s z) = refl
top-verb Digits d = top-text _ d
top-verb Hex d = top-text _ d
top-verb Long d = top-text _ d
top-verb Uuid d = top-text _ d

-- ---- at a place

pub place-change : (k : List ℕ) (f : Doc → Doc) (i : ℕ) (d : Doc)
    → step (place i) (change_child k f d) ≡ step (place i) d
place-change k f i null = refl
place-change k f i (boolean b) = refl
place-change k f i (whole z) = refl
place-change k f i (text s) = refl
place-change k f i (list ds) = refl
place-change k f i (object ms) = refl
place-change k f i (id s z) = refl

-- the value at a path, if the elements of o along the path are called as the steps say
abbrev pub left_here : Verb → List RuleStep → Option Doc → List Step → Option Doc → Option Doc
left_here v ss o p x = cond (has_names ss o p) (left_at v (plain_place ss) p x) x

abbrev pub AtEdit : Verb → List RuleStep → Doc → List Step → Type 0
AtEdit v ss d p =
    Alike (at p (change_at_place ss (of_verb v) d)) (left_here v ss (Some d) p (at p d))

pub left-none : (v : Verb) (ps : List PlaceStep) (p : List Step) → left_at v ps p None ≡ None
left-none v ps p = go None (fits_place ps p) (is_below ps p && takes_parts v) refl
  where
    go : (o : Option Doc) (a b : Bool) → o ≡ None → cond a o (cond b None o) ≡ None
    go o true b h = h
    go o false true h = refl
    go o false false h = h

none-here : (b : Bool) (v : Verb) (ps : List PlaceStep) (p : List Step)
    → cond b (left_at v ps p None) None ≡ None
none-here true v ps p = left-none v ps p
none-here false v ps p = refl

below : (v : Verb) (ss : List RuleStep) (p : List Step) → ((e : Doc) → AtEdit v ss e p)
    → (o : Option Doc) →
    Alike (option_and_then (at p) (option_map (change_at_place ss (of_verb v)) o))
    (left_here v ss o p (option_and_then (at p) o))
below v ss p h None =
    ap (option_map top) (sym (none-here (has_names ss None p) v (plain_place ss) p))
below v ss p h (Some e) = h e

at_name : (v : Verb) (k l : List ℕ) (ss : List RuleStep) (p : List Step) (d : Doc) (b : Bool)
    → bytes_eq k l ≡ b → ((e : Doc) → AtEdit v ss e p) →
    Alike (option_and_then (at p) (get l (change_child k (change_at_place ss (of_verb v)) d)))
    (cond (cond b (has_names ss (get l d) p) true)
    (cond (b && fits_place (plain_place ss) p)
    (option_map (of_verb v) (option_and_then (at p) (get l d)))
    (cond ((b && is_below (plain_place ss) p) && takes_parts v) None
    (option_and_then (at p) (get l d))))
    (option_and_then (at p) (get l d)))
at_name v k l ss p d true is h =
    let same : k ≡ l = (bytes_eq-Decides k l).0 is in
    ap (λ q. option_map top (option_and_then (at p)
    (get q (change_child k (change_at_place ss (of_verb v)) d)))) (sym same)
    ∙ ap (λ o. option_map top (option_and_then (at p) o))
    (get-change k (change_at_place ss (of_verb v)) d)
    ∙ below v ss p h (get k d)
    ∙ ap (λ q. option_map top (left_here v ss (get q d) p (option_and_then (at p) (get q d)))) same
at_name v k l ss p d false is h =
    ap (λ o. option_map top (option_and_then (at p) o))
    (get-change_other k (change_at_place ss (of_verb v)) d
    l (λ e. true≢false (sym ((bytes_eq-Decides k l).1 (sym e)) ∙ is)))

at_called : (v : Verb) (n : Option (List ℕ)) (ss : List RuleStep) (p : List Step)
    → ((e : Doc) → AtEdit v ss e p) → (o : Option Doc) →
    Alike (option_and_then (at p)
    (option_map (change_called n (change_at_place ss (of_verb v))) o))
    (cond (is_called n o && has_names ss o p)
    (left_at v (plain_place ss) p (option_and_then (at p) o)) (option_and_then (at p) o))
at_called v n ss p h None = ap (option_map top)
    (sym (none-here (is_called n None && has_names ss None p) v (plain_place ss) p))
at_called v n ss p h (Some e) = go (is_called n (Some e)) (h e)
  where
    go : (b : Bool) → AtEdit v ss e p →
        Alike (at p (cond b (change_at_place ss (of_verb v) e) e))
        (cond (b && has_names ss (Some e) p) (left_at v (plain_place ss) p (at p e)) (at p e))
    go true k = k
    go false k = refl

at_end : (v : Verb) (st : Step) (p : List Step) (d : Doc) (b : Bool) → takes_parts v ≡ b
    → option_and_then (at p) (step st (of_verb v d))
    ≡ cond b None (option_and_then (at p) (step st d))
at_end v st p d true is = ap (option_and_then (at p)) (step-verb v st d)
    ∙ ap (λ b. option_and_then (at p) (cond b None (step st d))) is
at_end v st p d false is = ap (option_and_then (at p)) (step-verb v st d)
    ∙ ap (λ b. option_and_then (at p) (cond b None (step st d))) is

pub at-edit : (v : Verb) (ss : List RuleStep) (d : Doc) (p : List Step) → AtEdit v ss d p
at-edit v [] d [] = refl
at-edit v [] d (st ∷ p) = ap (option_map top) (at_end v st p d (takes_parts v) refl)
at-edit v (named k ∷ ss) d [] = ap Some (top-change k (change_at_place ss (of_verb v)) d)
at-edit v (named k ∷ ss) d (name l ∷ p) =
    at_name v k l ss p d (bytes_eq k l) refl (λ e. at-edit v ss e p)
at-edit v (named k ∷ ss) d (place i ∷ p) = ap (λ o. option_map top (option_and_then (at p) o))
    (place-change k (change_at_place ss (of_verb v)) i d)
at-edit v (elements n ∷ ss) d [] =
    ap Some (top-items (change_called n (change_at_place ss (of_verb v))) d)
at-edit v (elements n ∷ ss) d (name l ∷ p) = ap (λ o. option_map top (option_and_then (at p) o))
    (get-change_items (change_called n (change_at_place ss (of_verb v))) d l)
at-edit v (elements n ∷ ss) d (place i ∷ p) =
    ap (λ o. option_map top (option_and_then (at p) o))
    (item-change (change_called n (change_at_place ss (of_verb v))) d i)
    ∙ at_called v n ss p (λ e. at-edit v ss e p) (step (place i) d)
