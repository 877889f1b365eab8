use Rattle.std.proofs.Common.{inl}
use Rattle.dap_message.specs.SwapRules.{swap_of}
use Rattle.dap_suggest.proofs.NeededSwaps.{contains}
use Rattle.dap_suggest.proofs.exchanges.is_needed.Goals as goal

pub returns-then-is_among : goal.returns-then-is_among
returns-then-is_among c = λ found. inl
    (contains c.args.given.now (swap_of c.args.swap.now) c.is_among.result c.is_among.ensures found)
