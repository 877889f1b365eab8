-- Rules that omit elements of arrays, which they select by their names.
use Rattle.std.specs.Prelude.{ℕ, Bool, true, false, cond, ◌&&◌, List, [], ◌∷◌, map}
use Rattle.std.specs.Prelude.{Option, Some, option_map, string_bytes}
use Rattle.std.specs.List.{list_any}
use Rattle.dap_tree.specs.Doc.{Doc, list, Items, no_items, item}
use Rattle.dap_profile.specs.declared.profile.Kind.{Kind}
use Rattle.dap_message.specs.Rows.{is_of_kind}
use Rattle.dap_mask.specs.RuleSteps.{RuleStep, elements, is_called, change_at_place}
use Rattle.dap_mask.specs.Rules.{step_of, place_of, has_name, same_kind, same_name}
use Rattle.dap_mask.specs.Rules.{same_rule_step, same_rule_place}
use Rattle.dap_mask.specs.declared.omissions.Omission.{Omission as ReadOmission}

-- The model of a rule that omits elements. `parent` leads to the arrays, and `last` selects the
-- elements. `None` is any name of the messages.
pub record Omission : Type 0 where
  pub kind : Kind
  pub name : Option (List ℕ)
  pub parent : List RuleStep
  pub last : RuleStep

-- ---- the effect on a document

-- The elements that do not have the name.
abbrev pub items_without : List ℕ → Items → Items
items_without n no_items = no_items
items_without n (item d ds) =
    cond (is_called (Some n) (Some d)) (items_without n ds) (item d (items_without n ds))

-- An array without the elements that the step selects by their name. Every other value is
-- unchanged.
abbrev pub without : RuleStep → Doc → Doc
without (elements (Some n)) (list ds) = list (items_without n ds)
without _ d = d

-- The message has the `type` of the rule and, if the rule has a name, this `command` or `event`.
abbrev pub omission_applies : Omission → Doc → Bool
omission_applies o d = is_of_kind o.kind d && has_name o.kind o.name d

abbrev pub omit_by : Omission → Doc → Doc
omit_by o d = cond (omission_applies o d) (change_at_place o.parent (without o.last) d) d

-- The document after the rules (own): each array to which the place of a rule leads has lost the
-- elements with the name of the rule, and the other elements are unchanged and in their order.
abbrev pub omitted : List Omission → Doc → Doc
omitted [] d = d
omitted (o ∷ os) d = omitted os (omit_by o d)

-- ---- the rules that a mask may contain

-- The step selects elements by a text.
abbrev pub is_by_name : RuleStep → Bool
is_by_name (elements (Some n)) = true
is_by_name _ = false

-- The two rules omit the same elements of the same messages.
abbrev pub same_omission : Omission → Omission → Bool
same_omission o p = same_kind o.kind p.kind && (same_name o.name p.name
    && (same_rule_place o.parent p.parent && same_rule_step o.last p.last))

abbrev pub is_omission_among : Omission → List Omission → Bool
is_omission_among o os = list_any (same_omission o) os

-- ---- the models of the program's types

abbrev pub omission_of : ReadOmission → Omission
omission_of o = record {
  kind = o.kind;
  name = option_map string_bytes o.name;
  parent = place_of o.parent.items;
  last = step_of o.last;
}

abbrev pub omissions_of : List ReadOmission → List Omission
omissions_of os = map omission_of os
