-- Lists of messages that are the same except for ids and for the order of free messages.
use Rattle.std.specs.Prelude.{ℤ, List}
use Rattle.dap_tree.specs.declared.sort.Sort.{Sort}
use Rattle.dap_message.specs.{Message.Sent, SwapRules.SwapRule}
use Rattle.dap_session.specs.RenamedLists.{DifferInIds}
use Rattle.dap_rename.specs.Messages.{AreSame, no_stop}
use Rattle.dap_order.specs.{Swaps.Reordered, Free.free}

-- Swaps of free neighbours, followed by replacing ids by numbers related by R, turn ms into ns.
pub record SameButOrder (R : Sort → ℤ → ℤ → Type 0) (rules : List SwapRule) (ms ns : List Sent)
    : Type 0 where
  pub between : List Sent
  pub swaps : Reordered (free rules) ms between
  pub renaming : DifferInIds R between ns

-- Swaps of free neighbours, followed by a one-to-one renaming with `Mode::Whole`, turn ms into ns.
abbrev pub AreSameButOrder : List SwapRule → List Sent → List Sent → Type 0
AreSameButOrder rules ms ns =
    (between : List Sent) × Reordered (free rules) ms between × AreSame no_stop between ns
