use Rattle.std.proofs.Common.{◌≡◌, None, Some, sym, ap, ap₂, ◌∙◌}
use Rattle.std.specs.List.{list_any}
use Rattle.dap_session.specs.EnvelopeView.{message_of}
use Rattle.dap_session.specs.Messages.{kind_of, name_of}
use Rattle.dap_order.specs.Partners.{half_key, is_partner}
use Rattle.dap_order.proofs.PartnerKeys.{has_key, named_by_first, named_by_second}
use Rattle.dap_order.proofs.partners.has_partner.Goals as goal

pub returns-then-contains : goal.returns-then-contains
returns-then-contains g c =
    λ rules x are.
    let y = message_of c.args.message.now in
    let first : c.contains.result ≡ list_any (is_partner x (half_key (kind_of y) None)) rules =
    has_key c.args.partners.now rules x c.half_key.result (half_key (kind_of y) None)
    c.contains.result c.contains.ensures are
    (c.half_key.ensures ∙ ap (λ k. half_key k None) c.kind_of.ensures) in
    c.if-contains.true ∙ sym (named_by_first x y rules (sym first ∙ c.if-contains.true))

pub returns-else-contains : goal.returns-else-contains
returns-else-contains g c =
    λ rules x are.
    let y = message_of c.args.message.now in
    let own = half_key (kind_of y) (Some (name_of y)) in
    let first : c.contains.result ≡ list_any (is_partner x (half_key (kind_of y) None)) rules =
    has_key c.args.partners.now rules x c.half_key.result (half_key (kind_of y) None)
    c.contains.result c.contains.ensures are
    (c.half_key.ensures ∙ ap (λ k. half_key k None) c.kind_of.ensures) in
    has_key c.args.partners.now rules x c.half_key-else-contains.result own c.contains-else-contains.result
    c.contains-else-contains.ensures are
    (c.half_key-else-contains.ensures
    ∙ ap₂ (λ k n. half_key k (Some n)) c.kind_of-else-contains.ensures c.name_of.ensures)
    ∙ named_by_second x y rules (sym first ∙ c.if-contains.false)
