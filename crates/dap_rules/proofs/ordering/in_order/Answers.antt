use Rattle.std.proofs.Common.{◌∙◌, List, ℕ, sym, subst}
use Rattle.dap_message.specs.SwapRules.{swaps_of}
use Rattle.dap_order.specs.MessageOrder.{ordered}
use Rattle.dap_stored.specs.Sessions.{AreAt, messages_of}
use Rattle.dap_stored.proofs.PlacedMessages.{some_messages}
use Rattle.dap_rules.proofs.ordering.in_order.Goals as goal

pub arrange-requires : goal.arrange-requires
arrange-requires c =
    let ms = messages_of c.args.session in
    let those = ordered (swaps_of c.args.rules.now) ms in (
      those,
      subst (λ (places : List ℕ). AreAt ms places those) (sym c.as_slice.ensures.value)
          c.in_ok-places.ensures,
    )

pub returns : goal.returns
returns c =
    let ms = messages_of c.args.session in
    let those = ordered (swaps_of c.args.rules.now) ms in
    some_messages (messages_of c.arrange.new.self) those
    (sym c.in_ok-arrange.ensures.ok
    ∙ subst (λ (places : List ℕ). AreAt ms places those) (sym c.as_slice.ensures.value)
    c.in_ok-places.ensures)
