-- The rules for the parts of a value.
use Rattle.std.proofs.Common.{◌≡◌, ℕ, suc, ◌+◌, ◌<◌, ◌≤◌, Bool, true, false, cond}
use Rattle.std.proofs.Common.{List, [], ◌∷◌, ◌++◌, length, Option, Some, None, refl, ap, sym}
use Rattle.std.proofs.Common.{◌∙◌, arith, append_assoc, drop, get_or, add-one, drop-cons, ◌==◌}
use Rattle.std.proofs.Common.{◌*◌, ◌&&◌, true≢false}
use Rattle.std.proofs.lemmas.List.{length-map}
use Rattle.std.proofs.lemmas.Bool.Decides.{nat_tests}
use Rattle.dap_mask.specs.Rules.{place_of}
use Rattle.dap_mask.specs.declared.rules.Step.{Step as ReadStep}
use Rattle.dap_mask.specs.RuleSteps.{RuleStep}
use Rattle.dap_tree.specs.Doc.{Doc}
use Rattle.dap_tokens.specs.Tokens.{Labels, is_label}
use Rattle.dap_tokens.specs.Models.{no_labels, same_form, label_or, with_label}
use Rattle.dap_tokens.specs.declared.form.Form.{Form}
use Rattle.dap_naming.specs.declared.rules.Declared.{Declared as ReadDeclared}
use Rattle.dap_naming.specs.Documents.{Declared, after_first, after_step, is_here, here, below}
use Rattle.dap_naming.specs.Documents.{inside, is_to_member, is_to_element}
use Rattle.dap_naming.specs.DeclaredRules.{have_labels, with_place, after_if}
use Rattle.dap_naming.specs.DeclaredRules.{declared_of, is_only_member, rules_of}
use Rattle.dap_naming.proofs.Lists.{by_bool, first_of_both, second_of_both}

-- ---- one more rule

-- the rules that remain, for a test on places
abbrev pub left_by : (List RuleStep → Bool) → List Declared → List Declared
left_by test [] = []
left_by test (r ∷ rs) = cond (test r.place) (after_step r ∷ left_by test rs) (left_by test rs)

pub below-left : (k : List ℕ) (rs : List Declared) → below k rs ≡ left_by (is_to_member k) rs
below-left k [] = refl
below-left k (r ∷ rs) =
    ap (λ ts. cond (is_to_member k r.place) (after_step r ∷ ts) ts) (below-left k rs)

pub inside-left : (d : Doc) (rs : List Declared) → inside d rs ≡ left_by (is_to_element d) rs
inside-left d [] = refl
inside-left d (r ∷ rs) =
    ap (λ ts. cond (is_to_element d r.place) (after_step r ∷ ts) ts) (inside-left d rs)

pub left-one : (test : List RuleStep → Bool) (r : Declared) (rs : List Declared)
    → left_by test (r ∷ rs) ≡ with_place r (after_if (test r.place) r.place) ++ left_by test rs
left-one test r rs =
    by_bool (test r.place) (λ e. rw e refl) (λ e. rw e refl)

-- ---- the labels stay

labels-left : (test : List RuleStep → Bool) (rs : List Declared) → have_labels rs ≡ true
    → have_labels (left_by test rs) ≡ true
labels-left test [] h = refl
labels-left test (r ∷ rs) h =
    let first : is_label r.label ≡ true = first_of_both _ _ h in
    let rest : have_labels (left_by test rs) ≡ true =
    labels-left test rs (second_of_both _ _ h) in
    by_bool (test r.place) (λ e. rw (e, first) rest) (λ e. rw e rest)

pub labels-below : (k : List ℕ) (rs : List Declared) → have_labels rs ≡ true
    → have_labels (below k rs) ≡ true
labels-below k rs h = ap have_labels (below-left k rs) ∙ labels-left (is_to_member k) rs h

pub labels-inside : (d : Doc) (rs : List Declared) → have_labels rs ≡ true
    → have_labels (inside d rs) ≡ true
labels-inside d rs h = ap have_labels (inside-left d rs) ∙ labels-left (is_to_element d) rs h

pub no_rules : (rs : List ReadDeclared) → (length rs == 0) ≡ true → rules_of rs ≡ []
no_rules [] h = refl
no_rules (r ∷ rs) h =
    let some : (length (r ∷ rs) == 0) ≡ false = grind (arith, nat_tests) in
    absurd (true≢false (sym h ∙ some))

-- ---- the places get shorter

abbrev pub weight : List Declared → ℕ
weight [] = 0
weight (r ∷ rs) = suc (length r.place) + weight rs

shorter : (steps : List RuleStep) → length (after_first steps) ≤ length steps
shorter [] = omega arith
shorter (step ∷ steps) = omega arith

weight-left : (test : List RuleStep → Bool) → test [] ≡ false → (rs : List Declared)
    → weight (left_by test rs) + length rs ≤ weight rs
weight-left test none [] = omega arith
weight-left test none (r ∷ rs) =
    by_place (test r.place) r.place none refl (weight-left test none rs)
  where
    by_place : (b : Bool) (steps : List RuleStep) → test [] ≡ false → test steps ≡ b
        → weight (left_by test rs) + length rs ≤ weight rs
        → weight (cond b (record { place = after_first steps; form = r.form; label = r.label }
        ∷ left_by test rs) (left_by test rs)) + suc (length rs)
        ≤ suc (length steps) + weight rs
    by_place true [] n e h = absurd cc
    by_place true (step ∷ steps) n e h = omega arith
    by_place false steps n e h = omega arith

pub weight-below : (k : List ℕ) (rs : List Declared)
    → weight (below k rs) + length rs ≤ weight rs
weight-below k rs =
    let e = ap weight (below-left k rs) in
    let h = weight-left (is_to_member k) refl rs in omega arith

pub weight-inside : (d : Doc) (rs : List Declared)
    → weight (inside d rs) + length rs ≤ weight rs
weight-inside d rs =
    let e = ap weight (inside-left d rs) in
    let h = weight-left (is_to_element d) refl rs in omega arith

-- ---- the rules of the program, one after another

pub drop_first : {X : Type 0} (rs : List X) (i : ℕ) (d : X) → i < length rs
    → drop i rs ≡ get_or rs i d ∷ drop (i + 1) rs
drop_first rs i d h = rw add-one (drop-cons rs i d h)

pub left_step : (test : List RuleStep → Bool) (rs : List ReadDeclared) (i : ℕ) (r : ReadDeclared)
    (before after : List Declared) → drop i rs ≡ r ∷ drop (i + 1) rs
    → after ≡ before ++ with_place (declared_of r)
    (after_if (test (place_of r.place.now)) (place_of r.place.now))
    → after ++ left_by test (rules_of (drop (i + 1) rs))
    ≡ before ++ left_by test (rules_of (drop i rs))
left_step test rs i r before after e h =
    ap (λ ts. ts ++ left_by test (rules_of (drop (i + 1) rs))) h
    ∙ append_assoc before _ _
    ∙ ap (λ ts. before ++ ts)
    (sym (left-one test (declared_of r) (rules_of (drop (i + 1) rs)))
    ∙ sym (ap (λ ts. left_by test (rules_of ts)) e))

-- the labels so far, and those of the rest
label_added : (form f : Form) (label : List ℕ) (o rest : Option (List ℕ))
    → label_or (cond (same_form form f) (label_or o (Some label)) o) rest
    ≡ label_or o (cond (same_form form f) (Some label) rest)
label_added form f label None rest = by_bool (same_form form f) (λ e. rw e refl) (λ e. rw e refl)
label_added form f label (Some own) rest =
    by_bool (same_form form f) (λ e. rw e refl) (λ e. rw e refl)

label_last : (o : Option (List ℕ)) → label_or o None ≡ o
label_last None = refl
label_last (Some label) = refl

pub labels_first : (labels rest : Labels) → labels ≡ no_labels → (form : Form)
    → label_or (labels form) (rest form) ≡ rest form
labels_first labels rest none form = ap (λ (l : Labels). label_or (l form) (rest form)) none

pub labels_last : (labels rest all : Labels) → rest ≡ no_labels
    → ((form : Form) → label_or (labels form) (rest form) ≡ all form) → labels ≡ all
labels_last labels rest all none h =
    let each : (form : Form) → labels form ≡ all form =
    λ form. sym (label_last (labels form))
    ∙ ap (λ (l : Labels). label_or (labels form) (l form)) (sym none) ∙ h form in
    λ i form. each form i

-- the rules that are for a value itself give its labels
module _ (labels : Labels) (rs : List ReadDeclared) (i : ℕ) (r : ReadDeclared)
    (is : drop i rs ≡ r ∷ drop (i + 1) rs) (f : Form) where
  pub here_added : (added : Labels) → is_here (place_of r.place.now) ≡ true
      → added ≡ with_label r.form r.label.now labels
      → label_or (added f) (here (rules_of (drop (i + 1) rs)) f)
      ≡ label_or (labels f) (here (rules_of (drop i rs)) f)
  here_added added to e =
      let rest = here (rules_of (drop (i + 1) rs)) f in
      ap (λ (l : Labels). label_or (l f) rest) e
      ∙ label_added r.form f r.label.now (labels f) rest
      ∙ ap (label_or (labels f)) (sym (ap (λ ts. here (rules_of ts) f) is
      ∙ ap (λ b. cond (b && same_form r.form f) (Some r.label.now) rest) to))

  pub here_skipped : is_here (place_of r.place.now) ≡ false
      → here (rules_of (drop (i + 1) rs)) f ≡ here (rules_of (drop i rs)) f
  here_skipped other =
      let rest = here (rules_of (drop (i + 1) rs)) f in
      sym (ap (λ ts. here (rules_of ts) f) is
      ∙ ap (λ b. cond (b && same_form r.form f) (Some r.label.now) rest) other)

-- the step to a member is the last
abbrev pub is_last : Option (List RuleStep) → Bool
is_last None = false
is_last (Some steps) = is_here steps

pub only_member : (k : List ℕ) (steps : List RuleStep) (left : Option (List RuleStep))
    → left ≡ after_if (is_to_member k steps) steps → is_last left ≡ is_only_member k steps
only_member k steps left e =
    by_bool (is_to_member k steps)
    (λ to. ap is_last (e ∙ ap (λ b. after_if b steps) to)
    ∙ sym (ap (λ b. b && is_here (after_first steps)) to))
    (λ to. ap is_last (e ∙ ap (λ b. after_if b steps) to)
    ∙ sym (ap (λ b. b && is_here (after_first steps)) to))

-- the rules that are for the value of a member give its labels
module _ (labels : Labels) (k : List ℕ) (rs : List ReadDeclared) (i : ℕ) (r : ReadDeclared)
    (is : drop i rs ≡ r ∷ drop (i + 1) rs) (f : Form) where
  abbrev rest : List Declared
  rest = below k (rules_of (drop (i + 1) rs))

  abbrev first : Declared
  first = declared_of r

  next_below : below k (rules_of (drop i rs))
      ≡ cond (is_to_member k first.place) (after_step first ∷ rest) rest
  next_below = ap (λ ts. below k (rules_of ts)) is

  first_below : is_only_member k (place_of r.place.now) ≡ true
      → here (below k (rules_of (drop i rs))) f
      ≡ cond (same_form r.form f) (Some r.label.now) (here rest f)
  first_below only =
      let to : is_to_member k first.place ≡ true = first_of_both _ _ only in
      let last : is_here (after_first first.place) ≡ true = second_of_both _ _ only in
      ap (λ ts. here ts f)
      (next_below ∙ ap (λ b. cond b (after_step first ∷ rest) rest) to)
      ∙ ap (λ b. cond (b && same_form r.form f) (Some r.label.now) (here rest f)) last

  pub below_added : (added : Labels) → is_only_member k (place_of r.place.now) ≡ true
      → added ≡ with_label r.form r.label.now labels
      → label_or (added f) (here rest f)
      ≡ label_or (labels f) (here (below k (rules_of (drop i rs))) f)
  below_added added only e =
      ap (λ (l : Labels). label_or (l f) (here rest f)) e
      ∙ label_added r.form f r.label.now (labels f) (here rest f)
      ∙ ap (label_or (labels f)) (sym (first_below only))

  pub not_below : is_only_member k (place_of r.place.now) ≡ false
      → here rest f ≡ here (below k (rules_of (drop i rs))) f
  not_below other =
      sym (ap (λ ts. here ts f) next_below
      ∙ by_bool (is_to_member k first.place)
      (λ to. ap (λ b. here (cond b (after_step first ∷ rest) rest) f) to
      ∙ ap (λ b. cond (b && same_form r.form f) (Some r.label.now) (here rest f))
      (sym (ap (λ b. b && is_here (after_first first.place)) to) ∙ other))
      (λ to. ap (λ b. here (cond b (after_step first ∷ rest) rest) f) to))

pub place_here : (steps : List ReadStep) → is_here (place_of steps) ≡ (length steps == 0)
place_here [] = refl
place_here (step ∷ steps) = grind (arith, nat_tests)

-- ---- the measure of the walk falls

pub falls_inside : (rs left : List ReadDeclared) (d : Doc) → rules_of left ≡ inside d (rules_of rs)
    → 0 < length rs → 2 * weight (rules_of left) + 1 < 2 * weight (rules_of rs)
falls_inside rs left d e some =
    let same : length (rules_of rs) ≡ length rs = length-map rs declared_of in
    let less = weight-inside d (rules_of rs) in
    let of_left : weight (rules_of left) ≡ weight (inside d (rules_of rs)) = ap weight e in
    omega arith

pub falls_below : (rs left : List ReadDeclared) (k : List ℕ) → rules_of left ≡ below k (rules_of rs)
    → 0 < length rs → 2 * weight (rules_of left) + 1 < 2 * weight (rules_of rs)
falls_below rs left k e some =
    let same : length (rules_of rs) ≡ length rs = length-map rs declared_of in
    let less = weight-below k (rules_of rs) in
    let of_left : weight (rules_of left) ≡ weight (below k (rules_of rs)) = ap weight e in
    omega arith
