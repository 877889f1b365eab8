use Rattle.std.proofs.Math.Logic.{∥∥₁_elim}
use Rattle.std.proofs.Props.{props}
use Rattle.dap_stored.proofs.message.StoredMessage.content.Goals as goal

pub returns : goal.returns
returns c = ∥∥₁_elim c.args.self.now.marked (hlevel props) (λ m. m.text_is)
