use Rattle.std.proofs.Common.{sym, ap, ◌∙◌}
use Rattle.std.specs.BTreeSet.{contains}
use Rattle.std.specs.Ordering.{on}
use Rattle.dap_message.specs.SwapRules.{half_of}
use Rattle.dap_session.specs.EnvelopeView.{message_of}
use Rattle.dap_order.specs.Free.{fits_half}
use Rattle.dap_order.specs.Keys.{key_of}
use Rattle.dap_order.specs.Partners.{half_key, key_cmp, is_half}
use Rattle.dap_order.proofs.PartnerKeys.{added, not_added}
use Rattle.dap_order.proofs.partners.add_partner.Goals as goal

pub returns-then-not-fits : goal.returns-then-not-fits
returns-then-not-fits g c =
    λ k. not_added (fits_half (half_of c.args.one.now) (message_of c.args.message.now))
    (is_half (half_of c.args.another.now) (key_of k))
    (contains (on key_of key_cmp) c.args.partners.now k)
    (sym c.fits.ensures ∙ c.if-not-fits.true)

pub returns : goal.returns
returns g c =
    λ k. added c.half_key.result k (half_of c.args.another.now)
    (fits_half (half_of c.args.one.now) (message_of c.args.message.now))
    (contains (on key_of key_cmp) c.args.partners.now k)
    (contains (on key_of key_cmp) c.insert.new.self k)
    (c.in_ok-insert.ensures.updates.0 k)
    (c.half_key.ensures ∙ ap (half_key c.args.another.now.kind) c.as_deref.ensures.value)
    (sym c.fits.ensures ∙ c.if-not-fits.false)
