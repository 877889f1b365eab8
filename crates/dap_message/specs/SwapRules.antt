-- Rules for the order of messages. Source: own.
use Rattle.std.specs.Prelude.{ℕ, List, map, Option, option_map, string_bytes}
use Rattle.dap_profile.specs.declared.profile.Kind.{Kind}
use Rattle.dap_message.specs.declared.swap_rule.Half.{Half as ReadHalf}
use Rattle.dap_message.specs.declared.swap_rule.SwapRule.{SwapRule as ReadSwapRule}

-- The messages of one kind and one name. `None` is any name.
pub record Half : Type 0 where
  pub kind : Kind
  pub name : Option (List ℕ)

-- A rule for the order (own): a message that matches one half and a message that matches the other
-- may be exchanged if they are neighbours.
pub record SwapRule : Type 0 where
  pub one : Half
  pub another : Half

-- ---- the models of the program's types

abbrev pub half_of : ReadHalf → Half
half_of h = record { kind = h.kind; name = option_map string_bytes h.name }

abbrev pub swap_of : ReadSwapRule → SwapRule
swap_of s = record { one = half_of s.one; another = half_of s.another }

abbrev pub swaps_of : List ReadSwapRule → List SwapRule
swaps_of ss = map swap_of ss
