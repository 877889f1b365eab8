-- When two rules for the order of messages are the same.
use Rattle.std.specs.{Prelude.{Bool, ◌&&◌, ◌||◌, List}, List.list_any}
use Rattle.dap_message.specs.SwapRules.{Half, SwapRule}
use Rattle.dap_mask.specs.Rules.{same_kind, same_name}

abbrev pub same_half : Half → Half → Bool
same_half h g = same_kind h.kind g.kind && same_name h.name g.name

-- The two rules are the same (own): their halves are equal, in this order or exchanged.
abbrev pub same_swap : SwapRule → SwapRule → Bool
same_swap s t =
    (same_half s.one t.one && same_half s.another t.another)
    || (same_half s.one t.another && same_half s.another t.one)

-- One of these rules is the same.
abbrev pub is_swap_among : SwapRule → List SwapRule → Bool
is_swap_among s ts = list_any (same_swap s) ts
