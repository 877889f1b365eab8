-- The rules that hide what a test looks at. Source: own, over the bodies of the DAP specification.
use Rattle.std.specs.Prelude.{◌≡◌, ℕ, ◌+◌, Bool, true, false, ◌&&◌, ◌||◌, List, [], ◌∷◌, ◌++◌}
use Rattle.std.specs.Prelude.{Option, Some, Ok, bytes_eq, codes, count_by}
use Rattle.std.specs.List.{list_any}
use Rattle.dap_mask.specs.{Declarations.Declaration, Fills.Fill, Mask.Mask, Omissions.Omission}
use Rattle.dap_mask.specs.RuleSteps.{RuleStep, named, elements}
use Rattle.dap_mask.specs.{Rules.{Rule, same_verb}, RulesFile.rules_said}
use Rattle.dap_mask.specs.declared.rules.Verb.TheVariants.{Blank}
use Rattle.dap_profile.specs.declared.profile.Kind.{Kind, TheVariants.{Response, Event}}

-- The lists in the bodies of responses that show what exists.
abbrev pub guarded_lists : List (List ℕ)
guarded_lists = codes "threads" ∷ codes "stackFrames" ∷ codes "scopes" ∷ codes "variables"
    ∷ codes "breakpoints" ∷ []

abbrev pub is_guarded_list : List ℕ → Bool
is_guarded_list name = list_any (bytes_eq name) guarded_lists

-- The member of the body of an event shows why the program stopped, whether all threads did, or how
-- the program ended.
abbrev pub is_guarded_member : List ℕ → List ℕ → Bool
is_guarded_member event member =
    (bytes_eq event (codes "stopped")
    && (bytes_eq member (codes "reason") || bytes_eq member (codes "allThreadsStopped")))
    || (bytes_eq event (codes "exited") && bytes_eq member (codes "exitCode"))

-- The body of the event has such a member.
abbrev pub is_guarded_event : List ℕ → Bool
is_guarded_event event = bytes_eq event (codes "stopped") || bytes_eq event (codes "exited")

-- The rest of a place inside a list leads to the list itself, or to the names of its elements.
abbrev pub is_list_or_names : List RuleStep → Bool
is_list_or_names [] = true
is_list_or_names (elements name ∷ named member ∷ []) = bytes_eq member (codes "name")
is_list_or_names place = false

-- The place inside the body is guarded.
abbrev pub is_guarded_inside : Kind → Option (List ℕ) → List RuleStep → Bool
is_guarded_inside Response name [] = true
is_guarded_inside Response name (named list ∷ place) =
    is_guarded_list list && is_list_or_names place
is_guarded_inside Event (Some event) [] = is_guarded_event event
is_guarded_inside Event (Some event) (named member ∷ []) = is_guarded_member event member
is_guarded_inside kind name place = false

-- The place is the body, or inside it.
abbrev pub is_guarded_place : Kind → Option (List ℕ) → List RuleStep → Bool
is_guarded_place kind name (named member ∷ place) =
    bytes_eq member (codes "body") && is_guarded_inside kind name place
is_guarded_place kind name place = false

-- The rule blanks a guarded place.
abbrev pub is_guarded : Rule → Bool
is_guarded rule = same_verb rule.verb Blank && is_guarded_place rule.kind rule.name rule.place

-- The rule declares the value at a guarded place as an id, so a name replaces it.
abbrev pub is_guarded_id : Declaration → Bool
is_guarded_id x = is_guarded x.rule

-- The rule omits elements of a guarded list.
abbrev pub is_guarded_omission : Omission → Bool
is_guarded_omission o = is_guarded_place o.kind o.name o.parent

-- The rule sets the value at a guarded place.
abbrev pub is_guarded_fill : Fill → Bool
is_guarded_fill f = is_guarded_place f.kind f.name (f.parent ++ f.last ∷ [])

-- How many rules for guarded places the mask has: those that blank them, declare their values as
-- ids, omit elements of them, or set their values.
abbrev pub guarded_count : Mask → ℕ
guarded_count mask = count_by is_guarded mask.changes + count_by is_guarded_id mask.declared
    + count_by is_guarded_omission mask.omissions + count_by is_guarded_fill mask.fills

-- The second file of rules has this number of rules for guarded places more than the first one.
abbrev pub AddsGuarded : ℕ → List ℕ → List ℕ → Type 0
AddsGuarded added given whole = (before after : Mask) → rules_said given ≡ Ok before
    → rules_said whole ≡ Ok after → guarded_count after ≡ guarded_count before + added
