use Rattle.std.proofs.Common.{ap, ◌∙◌, ◌++◌}
use Rattle.std.proofs.lemmas.Result.{on_ok_weaker}
use Rattle.dap_flat.specs.Ids.{ids_in}
use Rattle.dap_flat.proofs.IdPieces.{pieces_ids}
use Rattle.dap_flat.proofs.ids.add_ids.Goals as goal

pub returns-else-is_err-clause-ok : goal.returns-else-is_err-clause-ok
returns-else-is_err-clause-ok c =
    on_ok_weaker c.list_ids-listed.result
    (λ ok d shows. ok ∙ ap (λ is. c.args.found.now.items ++ is) (ap ids_in shows ∙ pieces_ids d))
    c.list_ids-listed.ensures.ok

pub returns-then-is_err-clause-none : goal.returns-then-is_err-clause-none
returns-then-is_err-clause-none c d shows none =
    c.list_ids-listed.ensures.none (ap ids_in shows ∙ pieces_ids d ∙ none)
