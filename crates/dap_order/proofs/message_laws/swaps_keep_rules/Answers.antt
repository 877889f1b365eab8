use Rattle.dap_order.proofs.Moves.{reordered_back}
use Rattle.dap_order.specs.Free.{free}
use Rattle.dap_order.proofs.Independence.{free_both_ways}
use Rattle.dap_order.proofs.SwapsKeepRules.{reordered_keeps, reordered_open}
use Rattle.dap_order.proofs.message_laws.swaps_keep_rules.Goals as goal

pub returns-clause-kept : goal.returns-clause-kept
returns-clause-kept c =
    λ rules ms ns p. (
      reordered_keeps rules ms ns p,
      reordered_keeps rules ns ms (reordered_back (free rules) (free_both_ways rules) ms ns p),
    )

pub returns-clause-open : goal.returns-clause-open
returns-clause-open c = reordered_open
