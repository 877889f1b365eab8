use Rattle.std.proofs.Common.{◌≡◌, true, false, sym, ap, ◌∙◌, not, ◌&&◌}
use Rattle.std.specs.List.{list_any}
use Rattle.std.proofs.lemmas.Bool.{and_left}
use Rattle.dap_session.specs.EnvelopeView.{message_of}
use Rattle.dap_order.specs.Free.{names_both, is_fixed}
use Rattle.dap_order.proofs.rules.may_swap.Goals as goal

pub returns-else-has_partner : goal.returns-else-has_partner
returns-else-has_partner g c =
    λ rules are.
    let x = message_of c.args.x.now in
    let y = message_of c.args.y.now in
    let none : list_any (λ r. names_both r x y) rules ≡ false =
    sym (c.has_partner.ensures rules x are) ∙ c.if-has_partner.false in
    c.if-has_partner.false
    ∙ sym (and_left (list_any (λ r. names_both r x y) rules)
    (not (is_fixed x y) && not (is_fixed y x)) none)

pub returns-then-not-is_fixed : goal.returns-then-not-is_fixed
returns-then-not-is_fixed g c =
    λ rules are.
    let x = message_of c.args.x.now in
    let y = message_of c.args.y.now in
    let some : list_any (λ r. names_both r x y) rules ≡ true =
    sym (c.has_partner.ensures rules x are) ∙ c.if-has_partner.true in
    let first : not (is_fixed x y) ≡ true =
    ap not (sym c.is_fixed.ensures ∙ c.if-not-is_fixed.true) in
    ap not c.is_fixed-then-not-is_fixed.ensures
    ∙ sym (ap (λ b. b && (not (is_fixed x y) && not (is_fixed y x))) some
    ∙ ap (λ b. b && not (is_fixed y x)) first)
