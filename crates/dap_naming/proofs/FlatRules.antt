-- The rules that apply to a flat message, and the rules for the elements of its arrays.
use Rattle.std.proofs.Common.{◌≡◌, ◌∙◌, ℕ, ◌+◌, ◌*◌, ◌<◌, Bool, true, false, cond, ◌||◌, List, []}
use Rattle.std.proofs.Common.{◌∷◌, ◌++◌, length, drop, codes, Option, Some, None, refl, sym, ap}
use Rattle.std.proofs.Common.{ap₂, append_assoc}
use Rattle.std.specs.List.{list_any}
use Rattle.dap_tree.specs.Doc.{Doc, null, text, object, no_members, member, get}
use Rattle.dap_message.specs.Envelope.{text_value}
use Rattle.dap_tokens.specs.Tokens.{is_label}
use Rattle.dap_mask.specs.Declarations.{Declaration, are_declared, declaration_of}
use Rattle.dap_mask.specs.Declarations.{declarations_of, is_own_label}
use Rattle.dap_mask.specs.declared.declarations.Declaration.{Declaration as ReadDeclaration}
use Rattle.dap_mask.specs.Index.{asks_for, told_kind}
use Rattle.dap_mask.specs.Rules.{Rule, rule_applies, rule_of}
use Rattle.dap_mask.specs.RuleSteps.{RuleStep, named as to_member, elements}
use Rattle.dap_mask.proofs.Indexed.{text_asked, told_none}
use Rattle.dap_naming.specs.Documents.{Declared, after_step, inside, is_to_element}
use Rattle.dap_naming.specs.DeclaredRules.{declared_of, have_labels, rules_of}
use Rattle.dap_naming.specs.Flat.{inside_named, is_to_named, names_element}
use Rattle.dap_naming.specs.Sessions.{declared_by, rules_for}
use Rattle.dap_naming.specs.declared.rules.Declared.{Declared as ReadDeclared}
use Rattle.dap_naming.proofs.Lists.{first_of_both, second_of_both}
use Rattle.dap_naming.proofs.Choosing.{falls_inside, labels-inside, left_by, weight}

-- ---- the rules for an element

to_named : (t : Option (List ℕ)) (d : Doc) → t ≡ text_value (get (codes "name") d)
    → (steps : List RuleStep) → is_to_named t steps ≡ is_to_element d steps
to_named t d told [] = refl
to_named t d told (to_member k ∷ steps) = refl
to_named t d told (elements None ∷ steps) = refl
to_named t d told (elements (Some n) ∷ steps) =
    ap (asks_for (Some n)) told ∙ sym (text_asked n (get (codes "name") d))

pub inside_told : (t : Option (List ℕ)) (d : Doc) → t ≡ text_value (get (codes "name") d)
    → (rs : List Declared) → inside_named t rs ≡ inside d rs
inside_told t d told [] = refl
inside_told t d told (r ∷ rs) =
    ap₂ (λ b ts. cond b (after_step r ∷ ts) ts) (to_named t d told r.place)
    (inside_told t d told rs)

first_none : (b c : Bool) → (b || c) ≡ false → b ≡ false
first_none true c h = h
first_none false c h = refl

second_none : (b c : Bool) → (b || c) ≡ false → c ≡ false
second_none true c h = cc
second_none false c h = h

to_each : (t : Option (List ℕ)) (d : Doc) (steps : List RuleStep) → names_element steps ≡ false
    → is_to_named t steps ≡ is_to_element d steps
to_each t d [] none = refl
to_each t d (to_member k ∷ steps) none = refl
to_each t d (elements None ∷ steps) none = refl
to_each t d (elements (Some n) ∷ steps) none = cc

-- without rules that name elements
pub inside_each : (t : Option (List ℕ)) (d : Doc) (rs : List ReadDeclared)
    → list_any (λ r. names_element (declared_of r).place) rs ≡ false
    → inside_named t (rules_of rs) ≡ inside d (rules_of rs)
inside_each t d [] none = refl
inside_each t d (r ∷ rs) none =
    ap₂ (λ b ts. cond b (after_step (declared_of r) ∷ ts) ts)
    (to_each t d (declared_of r).place (first_none _ _ none))
    (inside_each t d rs (second_none _ _ none))

pub named-left : (t : Option (List ℕ)) (rs : List Declared)
    → inside_named t rs ≡ left_by (is_to_named t) rs
named-left t [] = refl
named-left t (r ∷ rs) =
    ap (λ ts. cond (is_to_named t r.place) (after_step r ∷ ts) ts) (named-left t rs)

-- an element with this name, if there is a name
element_of : Option (List ℕ) → Doc
element_of None = null
element_of (Some n) = object (member (codes "name") (text n) no_members)

inside_one : (t : Option (List ℕ)) (rs : List Declared)
    → inside_named t rs ≡ inside (element_of t) rs
unfolding element_of
inside_one None rs = inside_told None null refl rs
inside_one (Some n) rs =
    inside_told (Some n) (object (member (codes "name") (text n) no_members)) refl rs

pub labels-named : (t : Option (List ℕ)) (rs : List Declared) → have_labels rs ≡ true
    → have_labels (inside_named t rs) ≡ true
labels-named t rs h = ap have_labels (inside_one t rs) ∙ labels-inside (element_of t) rs h

pub falls_named : (rs left : List ReadDeclared) (t : Option (List ℕ))
    → rules_of left ≡ inside_named t (rules_of rs) → 0 < length rs
    → 2 * weight (rules_of left) + 1 < 2 * weight (rules_of rs)
falls_named rs left t e some =
    falls_inside rs left (element_of t) (e ∙ inside_one t (rules_of rs)) some

-- ---- the rules that apply

no_head : (r : Rule) (d : Doc) → told_kind d ≡ None → rule_applies r d ≡ false
no_head r d none = rw (told_none d none r.kind) refl

pub none_apply : (xs : List Declaration) (d : Doc) → told_kind d ≡ None → rules_for xs d ≡ []
none_apply [] d none = refl
none_apply (x ∷ xs) d none = rw (no_head x.rule d none) (none_apply xs d none)

-- one more declaration of the program
module _ (xs : List ReadDeclaration) (i : ℕ) (x : ReadDeclaration) (d : Doc)
    (before all : List Declared) (is : drop i xs ≡ x ∷ drop (i + 1) xs)
    (so_far : before ++ rules_for (declarations_of (drop i xs)) d ≡ all) where
  pub declared_then : (after : List Declared) → rule_applies (rule_of x.rule) d ≡ true
      → after ≡ before ++ declared_by (declaration_of x) ∷ []
      → after ++ rules_for (declarations_of (drop (i + 1) xs)) d ≡ all
  declared_then after applies added =
      let rest = rules_for (declarations_of (drop (i + 1) xs)) d in
      ap (λ ts. ts ++ rest) added
      ∙ append_assoc before (declared_by (declaration_of x) ∷ []) rest
      ∙ ap (λ ts. before ++ ts) (sym (ap (λ ys. rules_for (declarations_of ys) d) is
      ∙ ap (λ b. cond b (declared_by (declaration_of x) ∷ rest) rest) applies))
      ∙ so_far

  pub not_declared : rule_applies (rule_of x.rule) d ≡ false
      → before ++ rules_for (declarations_of (drop (i + 1) xs)) d ≡ all
  not_declared other =
      let rest = rules_for (declarations_of (drop (i + 1) xs)) d in
      ap (λ ts. before ++ ts) (sym (ap (λ ys. rules_for (declarations_of ys) d) is
      ∙ ap (λ b. cond b (declared_by (declaration_of x) ∷ rest) rest) other))
      ∙ so_far

-- ---- the labels of the rules

pub labels_then : (r : Declared) (rs : List Declared) → is_label r.label ≡ true
    → have_labels rs ≡ true → have_labels (rs ++ r ∷ []) ≡ true
labels_then r [] label h = rw label refl
labels_then r (q ∷ rs) label h =
    let rest : have_labels (rs ++ r ∷ []) ≡ true =
    labels_then r rs label (second_of_both _ _ h) in
    rw (first_of_both (is_label q.label) (have_labels rs) h) rest

module _ (xs : List ReadDeclaration) (i : ℕ) (x : ReadDeclaration)
    (is : drop i xs ≡ x ∷ drop (i + 1) xs)
    (declared : are_declared (declarations_of (drop i xs)) ≡ true) where
  these : are_declared (declarations_of (x ∷ drop (i + 1) xs)) ≡ true
  these = ap (λ ys. are_declared (declarations_of ys)) (sym is) ∙ declared

  pub label_declared : is_label (declaration_of x).label ≡ true
  label_declared =
      let own : is_own_label (declaration_of x).label ≡ true = first_of_both _ _ these in
      first_of_both _ _ own

  pub rest_declared : are_declared (declarations_of (drop (i + 1) xs)) ≡ true
  rest_declared = second_of_both _ _ (second_of_both _ _ these)
