use Rattle.std.proofs.Common.{◌≡◌, ◌+◌, [], ◌∷◌, ◌++◌, take, sym, ap, ◌∙◌, subst, arith}
use Rattle.std.specs.BTreeSet.{contains}
use Rattle.std.specs.List.{list_any}
use Rattle.std.specs.Ordering.{on, is_eq}
use Rattle.std.proofs.lemmas.List.{take_all, take_more, map-append}
use Rattle.dap_message.specs.SwapRules.{swap_of, swaps_of}
use Rattle.dap_session.specs.EnvelopeView.{message_of}
use Rattle.dap_order.specs.Keys.{key_of}
use Rattle.dap_order.specs.Partners.{key_cmp, is_partner, ArePartners}
use Rattle.dap_order.proofs.PartnerKeys.{one_more_rule}
use Rattle.dap_order.proofs.partners.partners_of.Goals as goal

pub loop-rule-init : goal.loop-rule-init
loop-rule-init g c =
    λ k. ap (list_any (λ q. is_eq (key_cmp (key_of k) (key_of q)))) c.new-partners.ensures.empty

pub loop-rule-preserved : goal.loop-rule-preserved
loop-rule-preserved g c =
    let i = c.loop-rule.rule-index in
    let rules = c.args.rules.now in
    let r = c.rule-item.result in
    let m = message_of c.args.message.now in
    let next : swaps_of (take (i + 1) rules) ≡ swaps_of (take i rules) ++ swap_of r ∷ [] =
    ap swaps_of (take_more rules i r c.loop-rule-test.true
    ∙ ap (λ z. take i rules ++ z ∷ []) (sym c.rule-item.is))
    ∙ map-append swap_of (take i rules) (r ∷ []) in
    λ k. one_more_rule m (key_of k) (swaps_of (take i rules)) (swap_of r)
    (contains (on key_of key_cmp) c.loop-rule.partners k)
    (contains (on key_of key_cmp) c.add_partner.new.partners k)
    (contains (on key_of key_cmp) c.add_partner-in-loop-rule.new.partners k)
    (c.loop-rule.invariant k) (c.in_ok-add_partner.ensures k) (c.in_ok-add_partner-2.ensures k)
    ∙ ap (list_any (is_partner m (key_of k))) (sym next)

pub returns : goal.returns
returns g c =
    subst (λ zs. ArePartners (swaps_of zs) (message_of c.args.message.now) c.loop-rule.partners)
    (take_all c.loop-rule.rule-index c.args.rules.now (omega (arith, c.loop-rule-test.false)))
    c.loop-rule.invariant
