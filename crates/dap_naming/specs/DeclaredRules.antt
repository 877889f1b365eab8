-- The model of the rules that declare ids.
use Rattle.std.specs.Prelude.{◌≡◌, ℕ, Bool, true, cond, ◌&&◌, List, [], ◌∷◌, map}
use Rattle.std.specs.Prelude.{Option, Some, None}
use Rattle.dap_mask.specs.{Rules.place_of, RuleSteps.RuleStep}
use Rattle.dap_tokens.specs.Tokens.{is_label}
use Rattle.dap_naming.specs.Documents.{Declared, after_first, is_here, is_to_member}
use Rattle.dap_naming.specs.declared.rules.Declared.{Declared as ReadDeclared}

abbrev pub declared_of : ReadDeclared → Declared
declared_of r = record { place = place_of r.place.now; form = r.form; label = r.label.now }

abbrev pub rules_of : List ReadDeclared → List Declared
rules_of rs = map declared_of rs

-- Each rule has a valid label.
abbrev pub have_labels : List Declared → Bool
have_labels [] = true
have_labels (r ∷ rs) = is_label r.label && have_labels rs

-- ---- for private clauses

-- If there is a label, it is valid.
abbrev pub IsLabel : Option (List ℕ) → Type 0
IsLabel None = Unit {0}
IsLabel (Some label) = is_label label ≡ true

-- The rule with this place, if there is one.
abbrev pub with_place : Declared → Option (List RuleStep) → List Declared
with_place r None = []
with_place r (Some steps) = record { place = steps; form = r.form; label = r.label } ∷ []

-- The steps after the first one, if the test holds.
abbrev pub after_if : Bool → List RuleStep → Option (List RuleStep)
after_if b steps = cond b (Some (after_first steps)) None

-- The place is the value of the member of this name.
abbrev pub is_only_member : List ℕ → List RuleStep → Bool
is_only_member k steps = is_to_member k steps && is_here (after_first steps)
