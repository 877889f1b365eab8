use Rattle.std.proofs.Common.{ap, ◌∙◌, ◌++◌}
use Rattle.std.proofs.Math.Logic.{∥∥₁_elim}
use Rattle.std.proofs.Props.{props}
use Rattle.std.proofs.lemmas.Result.{on_ok_weaker}
use Rattle.dap_stored.proofs.message.StoredMessageAnyMessage.add_ids.Goals as goal

pub returns-else-is_err-clause-ok : goal.returns-else-is_err-clause-ok
returns-else-is_err-clause-ok c =
    on_ok_weaker c.list_marks-listed.result
    (λ ok. ∥∥₁_elim c.args.self.now.marked (hlevel props)
    (λ m. ok ∙ ap (λ is. c.args.found.now.items ++ is) m.ids_are))
    c.list_marks-listed.ensures.ok
