use Rattle.std.proofs.Common.{sym, ap, subst}
use Rattle.dap_normalise.specs.Normalised.{NormalText}
use Rattle.dap_normalise.specs.Normalising.{IsCanonical}
use Rattle.dap_normalise.proofs.WholeInput.{holds_of}
use Rattle.dap_normalise.proofs.normalising.normalise_bytes.Goals as goal

pub new-requires : goal.new-requires
new-requires c =
    holds_of c.args.limits c.args.mode c.args.bytes.now c.in_ok-session.session.bytes.items
    c.in_ok-session.ensures.ok.canonical.normalises

pub returns-clause-ok : goal.returns-clause-ok
returns-clause-ok c =
    subst (IsCanonical c.args.limits c.args.mode c.args.bytes.now)
    (sym (ap (λ (t : NormalText). t.bytes) c.new.ensures))
    c.in_ok-session.ensures.ok.canonical
