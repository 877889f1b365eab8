-- Rules that set members that are absent or null, and the rules that they exclude.
use Rattle.std.specs.Prelude.{◌≡◌, ℕ, ℤ, Bool, true, false, cond, not, ◌&&◌, List, [], ◌∷◌, map}
use Rattle.std.specs.Prelude.{Option, option_map, string_bytes}
use Rattle.std.specs.{List.list_any, Str.is_utf8}
use Rattle.dap_tree.specs.Doc.{Doc, boolean, whole, text, all_utf8}
use Rattle.dap_profile.specs.PlaceSteps.{PlaceStep}
use Rattle.dap_profile.specs.declared.profile.Kind.{Kind}
use Rattle.dap_message.specs.{Capabilities.default_to, Rows.is_of_kind}
use Rattle.dap_mask.specs.RuleSteps.{RuleStep, named, elements, plain_place, is_unnamed}
use Rattle.dap_mask.specs.RuleSteps.{change_at_place}
use Rattle.dap_mask.specs.Rules.{Rule, step_of, place_of, plain_place_of, takes_parts, has_name}
use Rattle.dap_mask.specs.Rules.{is_telling, same_kind, same_name, share_name, same_step}
use Rattle.dap_mask.specs.Rules.{same_rule_step, same_rule_place}
use Rattle.dap_mask.specs.declared.fills.Scalar.{Scalar as ReadScalar}
use Rattle.dap_mask.specs.declared.fills.Scalar.TheVariants.{Flag, Number, Text}
use Rattle.dap_mask.specs.declared.fills.FillRule.{FillRule}

-- The value that a rule sets: a boolean, an integer, or a string.
pub data Scalar : Type 0 where
  flag : Bool → Scalar
  number : ℤ → Scalar
  string : List ℕ → Scalar

abbrev pub scalar_doc : Scalar → Doc
scalar_doc (flag b) = boolean b
scalar_doc (number z) = whole z
scalar_doc (string s) = text s

-- The model of a rule that sets a member. `parent` leads to the objects, and `last` is the last
-- step of the place. `None` is any name.
pub record Fill : Type 0 where
  pub kind : Kind
  pub name : Option (List ℕ)
  pub parent : List RuleStep
  pub last : RuleStep
  pub value : Scalar

-- ---- the effect on a document

-- Sets the member to which the step leads, if it is absent or null. Every other document is
-- unchanged.
abbrev pub set_last : RuleStep → Doc → Doc → Doc
set_last (named k) v d = default_to k v d
set_last (elements n) v d = d

-- The change of an object at the parent place.
abbrev pub set_value : Fill → Doc → Doc
set_value f d = set_last f.last (scalar_doc f.value) d

-- The message has the `type` of the rule and, if the rule has a name, this `command` or `event`.
abbrev pub fill_applies : Fill → Doc → Bool
fill_applies f d = is_of_kind f.kind d && has_name f.kind f.name d

abbrev pub fill_by : Fill → Doc → Doc
fill_by f d = cond (fill_applies f d) (change_at_place f.parent (set_value f) d) d

-- The document after the rules (own): in each object to which the place of a rule leads, the last
-- member of the place is set if it was absent or null.
abbrev pub filled : List Fill → Doc → Doc
filled [] d = d
filled (f ∷ fs) d = filled fs (fill_by f d)

-- The name of the member is UTF-8.
abbrev pub is_step_utf8 : RuleStep → Bool
is_step_utf8 (named k) = is_utf8 k
is_step_utf8 (elements n) = true

-- All names and strings that the rules set are UTF-8.
abbrev pub AreFillsUtf8 : List Fill → Type 0
AreFillsUtf8 [] = Unit {0}
AreFillsUtf8 (f ∷ fs) = (is_step_utf8 f.last ≡ true) × (all_utf8 (scalar_doc f.value) ≡ true)
    × AreFillsUtf8 fs

-- ---- the rules that a mask may contain

-- The place does not end in a member, or it is `type`, `command`, `event` or `success` of the
-- message.
abbrev pub is_bad_end : List RuleStep → RuleStep → Bool
is_bad_end ps (elements n) = true
is_bad_end [] (named k) = is_telling k
is_bad_end (p ∷ ps) (named k) = false

-- No mask may contain the rule, because of its place: it selects elements by their names, or ends
-- badly.
abbrev pub is_fill_misplaced : Fill → Bool
is_fill_misplaced f = cond (is_unnamed f.parent) (is_bad_end f.parent f.last) true

abbrev pub same_fill_place : Fill → Fill → Bool
same_fill_place f g = same_rule_place f.parent g.parent && same_rule_step f.last g.last

-- The two rules set the same member of the same messages, whatever their values.
abbrev pub same_fill : Fill → Fill → Bool
same_fill f g = same_kind f.kind g.kind && (same_name f.name g.name && same_fill_place f g)

abbrev pub is_fill_among : Fill → List Fill → Bool
is_fill_among f fs = list_any (same_fill f) fs

-- The two rules may set the same member of one message. If their values differ, the order of their
-- lines would matter.
abbrev pub fills_clash : Fill → Fill → Bool
fills_clash f g = same_kind f.kind g.kind && (share_name f.name g.name && same_fill_place f g)

abbrev pub clashes_with_fills : Fill → List Fill → Bool
clashes_with_fills f fs = list_any (fills_clash f) fs

-- The first place is the second one or leads to a value that contains it.
abbrev pub is_start : List PlaceStep → List PlaceStep → Bool
is_start [] qs = true
is_start (p ∷ ps) [] = false
is_start (p ∷ ps) (q ∷ qs) = same_step p q && is_start ps qs

-- The change may remove a member that the other rule sets (own), with an object that contains it.
-- If both were rules of one mask, masking twice could set a member that masking once removes.
abbrev pub removes : Rule → Fill → Bool
removes r f = takes_parts r.verb && (is_start (plain_place_of r) (plain_place f.parent)
    && (same_kind r.kind f.kind && share_name r.name f.name))

-- The change may remove a member that one of these rules sets.
abbrev pub removes_one_of : Rule → List Fill → Bool
removes_one_of r fs = list_any (removes r) fs

-- One of these changes may remove a member that the rule sets.
abbrev pub is_removed_by : List Rule → Fill → Bool
is_removed_by rs f = list_any (λ r. removes r f) rs

-- Each rule has a place of its own, and no change may remove a member that it sets.
abbrev pub keep_fills : List Rule → List Fill → Bool
keep_fills rs [] = true
keep_fills rs (f ∷ fs) = not (is_fill_misplaced f) && (not (is_removed_by rs f) && keep_fills rs fs)

-- ---- the models of the program's types

abbrev pub scalar_of : ReadScalar → Scalar
scalar_of (Flag b) = flag b
scalar_of (Number z) = number z
scalar_of (Text s) = string (string_bytes s)

abbrev pub fill_of : FillRule → Fill
fill_of f = record {
  kind = f.kind;
  name = option_map string_bytes f.name;
  parent = place_of f.parent.items;
  last = step_of f.last;
  value = scalar_of f.value;
}

abbrev pub fills_of : List FillRule → List Fill
fills_of fs = map fill_of fs
