-- Setting members keeps each value that is not null, at its path.
use Rattle.std.proofs.Common.{◌≡◌, ℕ, Bool, true, false, cond, List, [], ◌∷◌, Option, Some, None}
use Rattle.std.proofs.Common.{option_map, option_and_then, bytes_eq, refl, sym, ap, ◌∙◌, subst}
use Rattle.std.proofs.Common.{true≢false}
use Rattle.std.proofs.lemmas.Option.{none-some, same_Some}
use Rattle.std.proofs.lemmas.Slice.Eq.{bytes_eq-Decides}
use Rattle.dap_tree.specs.Doc.{Doc, null, boolean, whole, text, list, object, id, Members, get}
use Rattle.dap_tree.specs.Doc.{get_member, put, change_child, change_items}
use Rattle.dap_tree.specs.Path.{Step, name, place, step, at}
use Rattle.dap_tree.proofs.Paths.{get-change, get-change_other, get-change_items, item-change}
use Rattle.dap_message.specs.Capabilities.{is_given, default_member, default_to}
use Rattle.dap_message.specs.Marks.{top}
use Rattle.dap_message.specs.Places.{is_object}
use Rattle.dap_message.proofs.Edits.{by_bool, top-change, top-items}
use Rattle.dap_message.proofs.Envelopes.{apart, given_other}
use Rattle.dap_mask.specs.Fills.{Fill, scalar_doc, set_last, set_value, fill_applies, fill_by}
use Rattle.dap_mask.specs.Fills.{filled}
use Rattle.dap_mask.specs.Laws.{IsKept}
use Rattle.dap_mask.specs.RuleSteps.{RuleStep, named, elements, is_called, change_called}
use Rattle.dap_mask.specs.RuleSteps.{change_at_place}
use Rattle.dap_mask.proofs.FillSteps.{object_child, object_items, item_child}
use Rattle.dap_mask.proofs.Options.{bound}

same_value : (x : Doc) → IsKept x x
same_value x = record { stays_object = λ h. h; other = λ h. refl }

-- the value at the path is kept by the change
abbrev Found : (Doc → Doc) → Doc → List Step → Doc → Type 0
Found f d p x = (y : Doc) × (at p (f d) ≡ Some y) × IsKept x y

abbrev KeepsValues : (Doc → Doc) → Type 0
KeepsValues f = (d : Doc) (p : List Step) (x : Doc) → at p d ≡ Some x → is_given (Some x) ≡ true
    → Found f d p x

-- a change that leaves what a path leads to
found_same : (f : Doc → Doc) (d : Doc) (p : List Step) (x : Doc) → at p (f d) ≡ at p d
    → at p d ≡ Some x → Found f d p x
found_same f d p x same h = (x, same ∙ h, same_value x)

-- a change of the document that leaves its top
found_top : (f : Doc → Doc) (d x : Doc) → top (f d) ≡ top d → is_object (f d) ≡ is_object d
    → Some d ≡ Some x → Found f d [] x
found_top f d x same objects h =
    subst (Found f d []) (same_Some d x h)
    (f d, refl, record { stays_object = λ is. objects ∙ is; other = λ is. same })

-- ---- one object

null_path : (p : List Step) (x : Doc) → at p null ≡ Some x → is_given (Some x) ≡ true → ⊥
null_path [] x h g = true≢false (sym g ∙ ap is_given (sym h))
null_path (name k ∷ p) x h g = none-some x h
null_path (place i ∷ p) x h g = none-some x h

-- a member that is absent or null has no value that is not null
not_given : (o : Option Doc) (p : List Step) (x : Doc) → is_given o ≡ false
    → option_and_then (at p) o ≡ Some x → is_given (Some x) ≡ true → ⊥
not_given None p x n h g = none-some x h
not_given (Some null) p x n h g = null_path p x h g
not_given (Some (boolean b)) p x n h g = true≢false n
not_given (Some (whole z)) p x n h g = true≢false n
not_given (Some (text s)) p x n h g = true≢false n
not_given (Some (list ds)) p x n h g = true≢false n
not_given (Some (object ms)) p x n h g = true≢false n
not_given (Some (id s z)) p x n h g = true≢false n

members_path : (k j : List ℕ) (v : Doc) (ms : Members) (p : List Step) (x : Doc)
    → option_and_then (at p) (get_member j ms) ≡ Some x → is_given (Some x) ≡ true
    → get_member j (default_member k v ms) ≡ get_member j ms
members_path k j v ms p x h g = by_bool (bytes_eq j k)
    (λ e. let same : j ≡ k = (bytes_eq-Decides j k).0 e in
    ap (λ y. get_member j (default_member y v ms)) (sym same)
    ∙ go (is_given (get_member j ms)) refl)
    (λ e. given_other (is_given (get_member k ms)) j k v ms (apart j k e))
  where
    go : (b : Bool) → is_given (get_member j ms) ≡ b
        → get_member j (cond b ms (put j v ms)) ≡ get_member j ms
    go true e = refl
    go false e = absurd (not_given (get_member j ms) p x e h g)

default_path : (k : List ℕ) (v : Doc) → KeepsValues (default_to k v)
default_path k v null p x h g = found_same (default_to k v) null p x refl h
default_path k v (boolean b) p x h g = found_same (default_to k v) (boolean b) p x refl h
default_path k v (whole z) p x h g = found_same (default_to k v) (whole z) p x refl h
default_path k v (text s) p x h g = found_same (default_to k v) (text s) p x refl h
default_path k v (list ds) p x h g = found_same (default_to k v) (list ds) p x refl h
default_path k v (object ms) [] x h g =
    subst (Found (default_to k v) (object ms) []) (same_Some (object ms) x h) (
      object (default_member k v ms),
      refl,
      record { stays_object = λ is. refl; other = λ is. absurd (true≢false is) },
    )
default_path k v (object ms) (name j ∷ p) x h g =
    found_same (default_to k v) (object ms) (name j ∷ p) x
    (ap (option_and_then (at p)) (members_path k j v ms p x h g)) h
default_path k v (object ms) (place i ∷ p) x h g = absurd (none-some x h)
default_path k v (id s z) p x h g = found_same (default_to k v) (id s z) p x refl h

last_path : (l : RuleStep) (v : Doc) → KeepsValues (set_last l v)
last_path (named k) v = default_path k v
last_path (elements n) v = λ d p x h g. found_same (λ e. e) d p x refl h

-- ---- a place

child_path : (k : List ℕ) (f : Doc → Doc) → KeepsValues f → KeepsValues (change_child k f)
child_path k f keeps d [] x h g =
    found_top (change_child k f) d x (top-change k f d) (object_child k f d) h
child_path k f keeps d (name j ∷ p) x h g = by_bool (bytes_eq j k)
    (λ e. let same : j ≡ k = (bytes_eq-Decides j k).0 e in
    let b = bound (at p) (get j d) x h in
    let later = keeps b.0 p x b.2 g in (
      later.0,
      ap (λ i. option_and_then (at p) (get j (change_child i f d))) (sym same)
          ∙ ap (option_and_then (at p)) (get-change j f d ∙ ap (option_map f) b.1) ∙ later.1,
      later.2,
    ))
    (λ e. found_same (change_child k f) d (name j ∷ p) x
    (ap (option_and_then (at p)) (get-change_other k f d j (apart j k e))) h)
child_path k f keeps d (place i ∷ p) x h g =
    found_same (change_child k f) d (place i ∷ p) x
    (ap (option_and_then (at p)) (item_child k f d i)) h

items_path : (f : Doc → Doc) → KeepsValues f → KeepsValues (change_items f)
items_path f keeps d [] x h g =
    found_top (change_items f) d x (top-items f d) (object_items f d) h
items_path f keeps d (name j ∷ p) x h g =
    found_same (change_items f) d (name j ∷ p) x
    (ap (option_and_then (at p)) (get-change_items f d j)) h
items_path f keeps d (place i ∷ p) x h g =
    let b = bound (at p) (step (place i) d) x h in
    let later = keeps b.0 p x b.2 g in (
      later.0,
      ap (option_and_then (at p)) (item-change f d i ∙ ap (option_map f) b.1) ∙ later.1,
      later.2,
    )

called_path : (n : Option (List ℕ)) (f : Doc → Doc) → KeepsValues f
    → KeepsValues (change_called n f)
called_path n f keeps d p x h g = go (is_called n (Some d))
  where
    go : (b : Bool) → (y : Doc) × (at p (cond b (f d) d) ≡ Some y) × IsKept x y
    go true = keeps d p x h g
    go false = (x, h, same_value x)

place_path : (ps : List RuleStep) (f : Doc → Doc) → KeepsValues f
    → KeepsValues (change_at_place ps f)
place_path [] f keeps = keeps
place_path (named k ∷ ps) f keeps = child_path k (change_at_place ps f) (place_path ps f keeps)
place_path (elements n ∷ ps) f keeps =
    items_path (change_called n (change_at_place ps f))
    (called_path n (change_at_place ps f) (place_path ps f keeps))

by_path : (f : Fill) → KeepsValues (fill_by f)
by_path f d p x h g = go (fill_applies f d)
  where
    go : (b : Bool) → (y : Doc)
        × (at p (cond b (change_at_place f.parent (set_value f) d) d) ≡ Some y) × IsKept x y
    go true = place_path f.parent (set_value f) (last_path f.last (scalar_doc f.value)) d p x h g
    go false = (x, h, same_value x)

-- ---- all rules

object_top : (d : Doc) → is_object (top d) ≡ is_object d
object_top null = refl
object_top (boolean b) = refl
object_top (whole z) = refl
object_top (text s) = refl
object_top (list ds) = refl
object_top (object ms) = refl
object_top (id s z) = refl

given_top : (d : Doc) → is_given (Some (top d)) ≡ is_given (Some d)
given_top null = refl
given_top (boolean b) = refl
given_top (whole z) = refl
given_top (text s) = refl
given_top (list ds) = refl
given_top (object ms) = refl
given_top (id s z) = refl

given_object : (d : Doc) → is_object d ≡ true → is_given (Some d) ≡ true
given_object null h = absurd (true≢false (sym h))
given_object (boolean b) h = refl
given_object (whole z) h = refl
given_object (text s) h = refl
given_object (list ds) h = refl
given_object (object ms) h = refl
given_object (id s z) h = refl

kept_given : (x y : Doc) → IsKept x y → is_given (Some x) ≡ true → is_given (Some y) ≡ true
kept_given x y k g = by_bool (is_object x)
    (λ e. given_object y (k.stays_object e))
    (λ e. sym (given_top y) ∙ ap (λ d. is_given (Some d)) (k.other e) ∙ given_top x ∙ g)

kept_twice : (x y z : Doc) → IsKept x y → IsKept y z → IsKept x z
kept_twice x y z k l = record {
  stays_object = λ is. l.stays_object (k.stays_object is);
  other = λ is.
      l.other (sym (object_top y) ∙ ap is_object (k.other is) ∙ object_top x ∙ is) ∙ k.other is;
}

pub fills_keep_values : (fs : List Fill) (d : Doc) (p : List Step) (x : Doc) → at p d ≡ Some x
    → is_given (Some x) ≡ true → (y : Doc) × (at p (filled fs d) ≡ Some y) × IsKept x y
fills_keep_values [] d p x h g = (x, h, same_value x)
fills_keep_values (f ∷ fs) d p x h g =
    let first = by_path f d p x h g in
    let rest = fills_keep_values fs (fill_by f d) p first.0 first.1 (kept_given x first.0 first.2 g)
    in
    (rest.0, rest.1, kept_twice x first.0 rest.0 first.2 rest.2)
