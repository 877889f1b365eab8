-- Tests of the user's rules, by their models.
use Rattle.std.proofs.Common.{◌≡◌, Bool, List, [], ◌∷◌, refl, ap}
use Rattle.std.specs.Prelude.{◌||◌}
use Rattle.std.specs.List.{list_any}
use Rattle.dap_message.specs.SwapRules.{SwapRule, swap_of, swaps_of}
use Rattle.dap_message.specs.declared.swap_rule.SwapRule.{SwapRule as ReadSwapRule}

-- A rule passes a test if and only if a model does.
pub any_swap : (p : SwapRule → Bool) (rules : List ReadSwapRule)
    → list_any (λ r. p (swap_of r)) rules ≡ list_any p (swaps_of rules)
any_swap p [] = refl
any_swap p (r ∷ rules) = ap (λ b. p (swap_of r) || b) (any_swap p rules)
