-- The rules that a suggestion never adds. Source: own.
use Rattle.std.specs.Prelude.{◌≡◌, ℕ, Bool, true, ◌||◌, List, [], ◌∷◌, Option, Some, None, Ok}
use Rattle.std.specs.Prelude.{bytes_eq, codes, count_by, is_none}
use Rattle.std.specs.List.{list_any}
use Rattle.dap_message.specs.SwapRules.{SwapRule}
use Rattle.dap_mask.specs.{Mask.Mask, RulesFile.rules_said}
use Rattle.dap_suggest.specs.declared.broad.Broad.{Broad}

-- The events without which a session makes no sense: they say that it begins, stops, goes on and
-- ends.
abbrev pub needed_events : List (List ℕ)
needed_events = codes "initialized" ∷ codes "stopped" ∷ codes "continued" ∷ codes "exited"
    ∷ codes "terminated" ∷ []

-- The name is that of such an event; `None` is any name.
abbrev pub is_needed : Option (List ℕ) → Bool
is_needed None = true
is_needed (Some name) = list_any (bytes_eq name) needed_events

-- The rule lets messages of any name pass.
abbrev pub is_open_swap : SwapRule → Bool
is_open_swap swap = is_none swap.one.name || is_none swap.another.name

-- How many broad rules a mask has: changes, omissions, declarations, exchanges and rules that set
-- members for messages of any name, and rules that drop events of any name or events that a session
-- needs.
abbrev pub broad_of : Mask → Broad
broad_of mask = record {
  changes = count_by (λ rule. is_none rule.name) mask.changes;
  drops = count_by is_needed mask.dropped;
  categories = count_by (λ rule. is_needed rule.name) mask.categories;
  fills = count_by (λ f. is_none f.name) mask.fills;
  omissions = count_by (λ o. is_none o.name) mask.omissions;
  swaps = count_by is_open_swap mask.swaps;
  declared = count_by (λ x. is_none x.rule.name) mask.declared;
}

-- The second file of rules has as many broad rules as the first one. If it continues the first one,
-- it adds none.
abbrev pub AddsNoBroadRule : List ℕ → List ℕ → Type 0
AddsNoBroadRule given whole = (before after : Mask) → rules_said given ≡ Ok before
    → rules_said whole ≡ Ok after → broad_of after ≡ broad_of before
