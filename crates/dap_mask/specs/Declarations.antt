-- Rules that declare ids, and the rules that they exclude. A declaration is a rule with a label.
-- Its action finds ids, which keep their identity, in place of texts that it redacts.
use Rattle.std.specs.Prelude.{ℕ, Bool, true, false, cond, not, ◌&&◌, ◌||◌, List, [], ◌∷◌, map}
use Rattle.std.specs.Prelude.{bytes_eq, string_bytes}
use Rattle.std.specs.List.{list_any}
use Rattle.dap_tree.specs.Sorts.{all_sorts, sort_word}
use Rattle.dap_tokens.specs.Tokens.{is_label}
use Rattle.dap_tokens.specs.declared.form.Form.{Form}
use Rattle.dap_tokens.specs.declared.form.Form.TheVariants as form
use Rattle.dap_mask.specs.Ids.{takes_profile_id}
use Rattle.dap_mask.specs.Rules.{Rule, rule_of, same_rule, same_verb, excludes, shares_values}
use Rattle.dap_mask.specs.Rules.{is_telling_place}
use Rattle.dap_mask.specs.Rules.{is_for_names, holds_category, plain_place_of}
use Rattle.dap_mask.specs.declared.declarations.Declaration.{Declaration as ReadDeclaration}
use Rattle.dap_mask.specs.declared.rules.Verb.{Verb, TheVariants.{Blank, Digits, Hex, Long, Uuid}}

pub record Declaration : Type 0 where
  pub rule : Rule
  pub label : List ℕ

-- The form of the tokens that the action of a declaration finds (own).
abbrev pub form_of : Verb → Form
form_of Blank = form.Whole
form_of Digits = form.Digits
form_of Hex = form.Hex
form_of Long = form.Long
form_of Uuid = form.Uuid

-- ---- the declarations that a mask may contain

-- The text is the name of a kind of id that the profile renames.
abbrev pub is_sort_word : List ℕ → Bool
is_sort_word l = list_any (λ sort. bytes_eq (sort_word sort) l) all_sorts

-- The text can label declared ids (own): it is a label, and not the name of a kind.
abbrev pub is_own_label : List ℕ → Bool
is_own_label l = is_label l && not (is_sort_word l)

-- The place is the body of a message or its category, by which rules select events.
abbrev pub is_of_category : Rule → Bool
is_of_category r = holds_category (plain_place_of r)

-- No mask may contain the declaration, because of its place (own): ids there would change which
-- rules apply to a message or select an element, or the place is that of an id of the profile.
abbrev pub is_misdeclared : Rule → Bool
is_misdeclared r = is_telling_place r.place
    || (is_for_names r.place || (is_of_category r || takes_profile_id r))

-- Each declaration has a label and a place that a mask may contain.
abbrev pub are_declared : List Declaration → Bool
are_declared [] = true
are_declared (x ∷ xs) = is_own_label x.label && (not (is_misdeclared x.rule) && are_declared xs)

abbrev pub same_declaration : Declaration → Declaration → Bool
same_declaration x y = same_rule x.rule y.rule && bytes_eq x.label y.label

-- The declaration is one of these.
abbrev pub is_declared_among : Declaration → List Declaration → Bool
is_declared_among x xs = list_any (same_declaration x) xs

-- The action finds the whole value, and not its parts.
abbrev pub takes_whole : Verb → Bool
takes_whole Blank = true
takes_whole Digits = false
takes_whole Hex = false
takes_whole Long = false
takes_whole Uuid = false

-- The two cannot declare the ids of one value (own): they have one action and two labels, or one
-- finds the whole value and the other its parts, or they are `uuid` and `digits`.
abbrev pub are_opposed : Declaration → Declaration → Bool
are_opposed x y = cond (same_verb x.rule.verb y.rule.verb) (not (bytes_eq x.label y.label))
    (takes_whole x.rule.verb || (takes_whole y.rule.verb || excludes x.rule.verb y.rule.verb))

-- Some value may be at the places of both declarations, and they cannot declare its ids.
abbrev pub disagrees : Declaration → Declaration → Bool
disagrees x y = shares_values x.rule y.rule && are_opposed x y

-- One of these disagrees with the declaration.
abbrev pub disagrees_with : Declaration → List Declaration → Bool
disagrees_with x xs = list_any (disagrees x) xs

-- The action changes decimal digits, and so the number in a name.
abbrev pub takes_numbers : Verb → Bool
takes_numbers Blank = false
takes_numbers Digits = true
takes_numbers Hex = false
takes_numbers Long = true
takes_numbers Uuid = false

-- The change may change the number in a name that replaces an id of the declaration (own). With
-- both in one mask, masking a named message would change it.
abbrev pub blurs : Rule → Declaration → Bool
blurs r x = takes_numbers r.verb && shares_values r x.rule

-- The change may change the number in a name of one of these declarations.
abbrev pub blurs_one_of : Rule → List Declaration → Bool
blurs_one_of r xs = list_any (blurs r) xs

-- One of these changes may change the number in a name of the declaration.
abbrev pub is_blurred_by : List Rule → Declaration → Bool
is_blurred_by rs x = list_any (λ r. blurs r x) rs

-- ---- the models of the program's types

abbrev pub declaration_of : ReadDeclaration → Declaration
declaration_of x = record { rule = rule_of x.rule; label = string_bytes x.label }

abbrev pub declarations_of : List ReadDeclaration → List Declaration
declarations_of xs = map declaration_of xs
