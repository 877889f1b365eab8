use Rattle.std.proofs.Common.{subst, sym}
use Rattle.std.proofs.Math.Logic.{∥∥₁_elim}
use Rattle.std.proofs.Props.{props}
use Rattle.std.proofs.lemmas.Result.{on_ok_weaker}
use Rattle.dap_flat.specs.Pieces.{Represents}
use Rattle.dap_flat_message.specs.FlatMessages.{flat_doc}
use Rattle.dap_flat_message.proofs.message.FlatMessageAnyMessage.write_with_ids.Goals as goal

pub returns-clause-text : goal.returns-clause-text
returns-clause-text c =
    let d = flat_doc c.args.self in
    on_ok_weaker c.write_numbered.result
    (λ ok. ∥∥₁_elim c.args.self.shown (hlevel props)
    (λ shown. ok d (subst (λ ns. Represents ns d) (sym c.deref_mut.ensures.value) shown)))
    c.write_numbered.ensures.text
