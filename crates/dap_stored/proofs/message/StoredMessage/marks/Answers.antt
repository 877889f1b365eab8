use Rattle.std.proofs.Common.{subst}
use Rattle.std.proofs.Math.Logic.{∥∥₁_elim}
use Rattle.std.proofs.Props.{props}
use Rattle.dap_flat.specs.Marks.{IsMarkedText}
use Rattle.dap_stored.specs.Contents.{doc_in}
use Rattle.dap_stored.proofs.message.StoredMessage.marks.Goals as goal

pub returns : goal.returns
returns c =
    let s = c.args.self.now in
    ∥∥₁_elim s.marked (hlevel props)
    (λ m. subst (λ t. IsMarkedText t s.marks.now (doc_in s.side s.content.now)) m.text_is m)
