use Rattle.std.proofs.Common.{◌≡◌, ◌∙◌, List, ℕ, sym, subst}
use Rattle.dap_message.specs.SwapRules.{swaps_of}
use Rattle.dap_order.specs.MessageOrder.{ordered}
use Rattle.dap_stored.specs.Sessions.{AreAt, messages_of}
use Rattle.dap_stored.proofs.PlacedMessages.{some_messages}
use Rattle.dap_rules.specs.MaskedSessions.{AreRuled}
use Rattle.dap_rules.proofs.RuledIds.{ruled_ids_stay}
use Rattle.dap_rules.proofs.named_by_rules.ids_in_order.Goals as goal

pub arrange-requires : goal.arrange-requires
arrange-requires c =
    let ms = messages_of c.args.masked.messages in
    let those = ordered (swaps_of c.args.swaps.now) ms in (
      those,
      subst (λ (places : List ℕ). AreAt ms places those) (sym c.as_slice-3.ensures.value)
          c.in-Ok.ensures,
    )

pub returns-clause-order : goal.returns-clause-order
returns-clause-order c =
    let ms = messages_of c.args.masked.messages in
    let those = ordered (swaps_of c.args.swaps.now) ms in
    some_messages (messages_of c.arrange.new.self) those
    (sym c.in-Ok-arrange.ensures.ok
    ∙ subst (λ (places : List ℕ). AreAt ms places those) (sym c.as_slice-3.ensures.value)
    c.in-Ok.ensures)

pub returns-clause-ids : goal.returns-clause-ids
returns-clause-ids c stays declared ruled =
    let ms = messages_of c.args.masked.messages in
    let session = messages_of c.arrange.new.self in
    let flags = c.as_slice.result.now in
    let places = c.as_slice-2.result.now in
    let same : c.as_slice-3.result.now ≡ places =
    c.as_slice-3.ensures.value ∙ sym c.as_slice-2.ensures.value in
    ruled_ids_stay declared ms session flags places
    (subst (AreRuled declared ms) (sym c.as_slice.ensures.value) ruled)
    (subst (λ (ps : List ℕ). AreAt ms ps session) same c.in-Ok-arrange.ensures.ok)
    (c.keeps_ruled-stays.ensures stays)
