use Rattle.std.proofs.Common.{subst, sym}
use Rattle.std.proofs.Math.Logic.{∥∥₁_elim}
use Rattle.std.proofs.Props.{props}
use Rattle.std.proofs.lemmas.Result.{on_ok_weaker}
use Rattle.dap_flat.specs.Pieces.{Represents}
use Rattle.dap_flat_message.specs.FlatMessages.{flat_doc}
use Rattle.dap_flat_message.proofs.message.FlatMessageAnyMessage.add_ids.Goals as goal

pub returns-clause-ok : goal.returns-clause-ok
returns-clause-ok c =
    let d = flat_doc c.args.self.now in
    on_ok_weaker c.add_ids.result
    (λ ok. ∥∥₁_elim c.args.self.now.shown (hlevel props)
    (λ shown. ok d (subst (λ ns. Represents ns d) (sym c.deref.ensures.value) shown)))
    c.add_ids.ensures.ok
