use Rattle.std.proofs.Common.{ap, ◌∙◌, ◌++◌}
use Rattle.std.proofs.Math.Logic.{∥∥₁_elim}
use Rattle.std.proofs.Props.{props}
use Rattle.std.proofs.lemmas.Result.{on_ok_weaker}
use Rattle.dap_stored.proofs.message.StoredMessageAnyMessage.write_with_ids.Goals as goal

pub returns-clause-text : goal.returns-clause-text
returns-clause-text c =
    on_ok_weaker c.splice.result
    (λ ok. ∥∥₁_elim c.args.self.marked (hlevel props)
    (λ m. ok ∙ ap (λ t. c.args.out.now.items ++ t) (m.splices c.args.numbers.now)))
    c.splice.ensures.text
