-- The model of the rules of a mask: the messages to which a rule applies, and its effect on a
-- value.
use Rattle.std.specs.Prelude.{ℕ, Bool, true, false, not, ◌&&◌, ◌||◌, pos, List, [], ◌∷◌, map}
use Rattle.std.specs.Prelude.{Option, Some, None, option_map, codes, bytes_eq, string_bytes}
use Rattle.std.specs.Prelude.{cond, length, nat_lt, ◌==◌, is_some}
use Rattle.std.specs.List.{list_any}
use Rattle.dap_tree.specs.Doc.{Doc, null, boolean, whole, text, list, object, id, no_items}
use Rattle.dap_tree.specs.{Doc.{no_members, get}, Path.{Step, name as child, at}}
use Rattle.dap_profile.specs.PlaceSteps.{PlaceStep, named as member, each}
use Rattle.dap_message.specs.Rows.{is_text, is_of_kind, name_key}
use Rattle.dap_profile.specs.declared.profile.Kind.{Kind, TheVariants.{Request, Response, Event}}
use Rattle.dap_words.specs.{Long.long, Uuids.uuid}
use Rattle.dap_mask.specs.RuleSteps.{RuleStep, named, elements, plain_place, has_names}
use Rattle.dap_mask.specs.Texts.{digits, hex}
use Rattle.dap_mask.specs.declared.rules.Verb.{Verb, TheVariants.{Blank, Digits, Hex, Long, Uuid}}
use Rattle.dap_mask.specs.declared.rules.Step.{Step as ReadStep}
use Rattle.dap_mask.specs.declared.rules.Step.TheVariants.{Member, Each, Element}
use Rattle.dap_mask.specs.declared.rules.MaskRule.{MaskRule}

-- The model of a rule. `None` is any name, and every event whatever its category.
pub record Rule : Type 0 where
  pub verb : Verb
  pub kind : Kind
  pub name : Option (List ℕ)
  pub category : Option (List ℕ)
  pub place : List RuleStep

abbrev pub step_of : ReadStep → RuleStep
step_of (Member s) = named (string_bytes s)
step_of Each = elements None
step_of (Element s) = elements (Some (string_bytes s))

abbrev pub place_of : List ReadStep → List RuleStep
place_of steps = map step_of steps

-- The place of a rule, without the names of elements.
abbrev pub plain_place_of : Rule → List PlaceStep
plain_place_of r = plain_place r.place

-- The model of a rule of the program.
abbrev pub rule_of : MaskRule → Rule
rule_of r = record {
  verb = r.verb;
  kind = r.kind;
  name = option_map string_bytes r.name;
  category = option_map string_bytes r.category;
  place =
      place_of r.place.items;
}

abbrev pub rules_of : List MaskRule → List Rule
rules_of rs = map rule_of rs

-- ---- the effect of a rule on a value

-- The blank of a value (own): `false`, 0, or the empty string, array or object. Null and ids are
-- unchanged.
abbrev pub blank : Doc → Doc
blank null = null
blank (boolean b) = boolean false
blank (whole z) = whole (pos 0)
blank (text s) = text []
blank (list ds) = list no_items
blank (object ms) = object no_members
blank (id s z) = id s z

-- Applies f to a string (own). Other values are unchanged.
abbrev pub change_text : (List ℕ → List ℕ) → Doc → Doc
change_text f (text s) = text (f s)
change_text f d = d

abbrev pub of_verb : Verb → Doc → Doc
of_verb Blank = blank
of_verb Digits = change_text digits
of_verb Hex = change_text hex
of_verb Long = change_text long
of_verb Uuid = change_text uuid

-- The verb removes the parts of a value.
abbrev pub takes_parts : Verb → Bool
takes_parts Blank = true
takes_parts Digits = false
takes_parts Hex = false
takes_parts Long = false
takes_parts Uuid = false

-- ---- the messages to which a rule applies

-- The command or event of the message is the given name. `None` is any name.
abbrev pub has_name : Kind → Option (List ℕ) → Doc → Bool
has_name k None d = true
has_name k (Some n) d = is_text n (get (name_key k) d)

-- The path of the category of an event (DAP specification, OutputEvent).
abbrev pub category_path : List Step
category_path = child (codes "body") ∷ child (codes "category") ∷ []

-- The category of the event is the given text. `None` is true of every message.
abbrev pub has_category : Option (List ℕ) → Doc → Bool
has_category None d = true
has_category (Some c) d = is_text c (at category_path d)

-- The message has the `type` of the rule and, if the rule has a name, this `command` or `event`.
abbrev pub has_head : Rule → Doc → Bool
has_head r d = is_of_kind r.kind d && has_name r.kind r.name d

-- The rule applies to the message, by its JSON only (own): an object with the `type` of the rule
-- and, if the rule has a name, with this `command` or `event`, and if it has a category, with this
-- `body.category`.
abbrev pub rule_applies : Rule → Doc → Bool
rule_applies r d = has_head r d && has_category r.category d

-- The rule applies to the message, and each element along the path has the name that the place of
-- the rule gives (own).
abbrev pub applies_at : Rule → Doc → List Step → Bool
applies_at r d p = rule_applies r d && has_names r.place (Some d) p

-- The event has one of these names. `None` is any name.
abbrev pub is_event_of : List (Option (List ℕ)) → Doc → Bool
is_event_of ns d = list_any (λ n. has_name Event n d) ns

-- The message is dropped: an event of one of these names.
abbrev pub is_dropped : List (Option (List ℕ)) → Doc → Bool
is_dropped names d = is_of_kind Event d && is_event_of names d

-- ---- the rules that a mask may contain

-- The member contains the name of a message.
abbrev pub is_naming : List ℕ → Bool
is_naming k = bytes_eq (codes "command") k || bytes_eq (codes "event") k

-- The member is `type`, `command`, `event` or `success`, which no rule may change.
abbrev pub is_telling : List ℕ → Bool
is_telling k = bytes_eq (codes "type") k || (is_naming k || bytes_eq (codes "success") k)

-- The place is the message itself, or its `type`, `command`, `event` or `success`.
abbrev pub is_telling_place : List RuleStep → Bool
is_telling_place [] = true
is_telling_place (named k ∷ []) = is_telling k
is_telling_place _ = false

abbrev pub same_step : PlaceStep → PlaceStep → Bool
same_step (member k) (member l) = bytes_eq k l
same_step each each = true
same_step _ _ = false

abbrev pub same_place : List PlaceStep → List PlaceStep → Bool
same_place [] [] = true
same_place (p ∷ ps) (q ∷ qs) = same_step p q && same_place ps qs
same_place _ _ = false

-- The place of the body of a message.
abbrev pub body_place : List PlaceStep
body_place = member (codes "body") ∷ []

-- The place of the category of an event.
abbrev pub category_place : List PlaceStep
category_place = member (codes "body") ∷ member (codes "category") ∷ []

-- A change at the place may change the category of an event: the place is the category or the body.
abbrev pub holds_category : List PlaceStep → Bool
holds_category ps = same_place ps body_place || same_place ps category_place

abbrev pub same_kind : Kind → Kind → Bool
same_kind Request Request = true
same_kind Response Response = true
same_kind Event Event = true
same_kind _ _ = false

-- Some message may have both names.
abbrev pub share_name : Option (List ℕ) → Option (List ℕ) → Bool
share_name (Some n) (Some m) = bytes_eq n m
share_name _ _ = true

-- Some event may have both categories.
abbrev pub share_category : Option (List ℕ) → Option (List ℕ) → Bool
share_category c e = share_name c e

-- The two names are equal, or both are any name.
abbrev pub same_name : Option (List ℕ) → Option (List ℕ) → Bool
same_name (Some n) (Some m) = bytes_eq n m
same_name None None = true
same_name _ _ = false

abbrev pub same_rule_step : RuleStep → RuleStep → Bool
same_rule_step (named k) (named l) = bytes_eq k l
same_rule_step (elements n) (elements m) = same_name n m
same_rule_step _ _ = false

abbrev pub same_rule_place : List RuleStep → List RuleStep → Bool
same_rule_place [] [] = true
same_rule_place (p ∷ ps) (q ∷ qs) = same_rule_step p q && same_rule_place ps qs
same_rule_place _ _ = false

-- Some value may be at both places. An element has only one name.
abbrev pub share_step : RuleStep → RuleStep → Bool
share_step (named k) (named l) = bytes_eq k l
share_step (elements n) (elements m) = share_name n m
share_step _ _ = false

abbrev pub share_place : List RuleStep → List RuleStep → Bool
share_place [] [] = true
share_place (p ∷ ps) (q ∷ qs) = share_step p q && share_place ps qs
share_place _ _ = false

abbrev pub same_verb : Verb → Verb → Bool
same_verb Blank Blank = true
same_verb Digits Digits = true
same_verb Hex Hex = true
same_verb Long Long = true
same_verb Uuid Uuid = true
same_verb _ _ = false

abbrev pub same_rule : Rule → Rule → Bool
same_rule r t =
    same_verb r.verb t.verb && (same_kind r.kind t.kind && (same_name r.name t.name
    && (same_name r.category t.category && same_rule_place r.place t.place)))

-- The rule is one of these.
abbrev pub is_among : Rule → List Rule → Bool
is_among r rs = list_any (same_rule r) rs

-- The two actions exclude each other at one place (own): after either of them, applying the other
-- one again may change the text. For the other pairs, see the laws of the actions on texts.
abbrev pub excludes : Verb → Verb → Bool
excludes Uuid Digits = true
excludes Digits Uuid = true
excludes _ _ = false

-- Some value of some message may be at the places of both rules.
abbrev pub shares_values : Rule → Rule → Bool
shares_values r t = share_place r.place t.place && (same_kind r.kind t.kind
    && (share_name r.name t.name && share_category r.category t.category))

-- The two rules clash: their actions exclude each other, at the same place of some message.
abbrev pub clash : Rule → Rule → Bool
clash r t = excludes r.verb t.verb && shares_values r t

abbrev pub clashes_with : Rule → List Rule → Bool
clashes_with r rs = list_any (clash r) rs

-- No two rules clash.
abbrev pub are_idempotent : List Rule → Bool
are_idempotent [] = true
are_idempotent (r ∷ rs) = not (clashes_with r rs) && are_idempotent rs

-- ---- the names by which rules select elements

-- The steps lead from an element of an array to its member `name`.
abbrev pub leads_to_name : RuleStep → List RuleStep → Bool
leads_to_name (elements n) (named k ∷ []) = bytes_eq (codes "name") k
leads_to_name _ _ = false

-- The place is that of the `name` of elements of an array.
abbrev pub is_for_names : List RuleStep → Bool
is_for_names [] = false
is_for_names (p ∷ ps) = leads_to_name p ps || is_for_names ps

-- The step selects elements by a text.
abbrev pub has_text : RuleStep → Bool
has_text (elements (Some m)) = true
has_text _ = false

-- The first place is that of the `name` of an element that the second place selects by a text, or
-- of another element of the same array (own). Two different texts on the way to this array lead to
-- different arrays, since an element has only one name. The text by which the first place selects
-- the element itself does not count, since a change of its name may turn one text into the other.
abbrev pub is_name_in : List RuleStep → List RuleStep → Bool
is_name_in ps [] = false
is_name_in [] (q ∷ qs) = false
is_name_in (p ∷ ps) (q ∷ qs) =
    (has_text q && leads_to_name p ps) || (share_step p q && is_name_in ps qs)

-- The first rule may change the name by which the second one selects an element (own).
abbrev pub renames : Rule → Rule → Bool
renames r t = is_name_in r.place t.place && (same_kind r.kind t.kind
    && share_name r.name t.name)

-- ---- the categories by which rules select events

-- The first rule may change the category by which the second one applies (own). If both were rules
-- of one mask, the order of their lines would matter.
abbrev pub recategorises : Rule → Rule → Bool
recategorises r t = is_some t.category && (holds_category (plain_place_of r)
    && (same_kind r.kind t.kind && share_name r.name t.name))

-- One of the two rules may change the category by which the other one applies.
abbrev pub disturb : Rule → Rule → Bool
disturb r t = recategorises r t || recategorises t r

abbrev pub disturbs_one_of : Rule → List Rule → Bool
disturbs_one_of r rs = list_any (disturb r) rs

-- ---- the order in which rules apply

-- The first number is lower, or the numbers are equal and the rest decides.
abbrev pub lower : ℕ → ℕ → Bool → Bool
lower a b rest = nat_lt a b || (a == b && rest)

-- The rules for the names of elements are the first group.
abbrev pub group : Rule → ℕ
group r = cond (is_for_names r.place) 0 1

-- In the first group, rules for shorter places come before others.
abbrev pub depth : Rule → ℕ
depth r = cond (is_for_names r.place) (length r.place) 0

abbrev pub rank : Verb → ℕ
rank Uuid = 0
rank Long = 1
rank Digits = 2
rank Hex = 3
rank Blank = 4

-- The first rule applies before the second one, whatever the order of their lines (own).
abbrev pub comes_before : Rule → Rule → Bool
comes_before r t =
    lower (group r) (group t) (lower (depth r) (depth t) (lower (rank r.verb) (rank t.verb) false))

-- One of the later rules comes before the rule.
abbrev pub is_late : Rule → List Rule → Bool
is_late r rs = list_any (λ t. comes_before t r) rs

-- The rules, with r before the first one that it comes before.
abbrev pub inserted : Rule → List Rule → List Rule
inserted r [] = r ∷ []
inserted r (t ∷ ts) = cond (comes_before r t) (r ∷ t ∷ ts) (t ∷ inserted r ts)

-- The place is the message itself, or its `type`, `command`, `event` or `success`, or the name by
-- which the rule selects an element. Or a change there may change the category of the rule.
abbrev pub is_misplaced : Rule → Bool
is_misplaced r = is_telling_place r.place || (renames r r || recategorises r r)

-- The rules are in the order in which they apply, none is misplaced, and none may change the
-- category by which another one applies. So no rule changes a name by which it or an earlier one
-- selects elements, and none changes whether a rule applies.
abbrev pub are_safe : List Rule → Bool
are_safe [] = true
are_safe (r ∷ rs) = not (is_misplaced r)
    && (not (is_late r rs) && (not (disturbs_one_of r rs) && are_safe rs))
