use Rattle.std.proofs.Common.{sym, ◌∙◌}
use Rattle.dap_naming.proofs.Occurring.{lacks_unfound}
use Rattle.dap_naming.proofs.absence.contains.Goals as goal

pub returns : goal.returns
returns c = λ none.
    lacks_unfound c.args.content.now c.args.part.now c.find.result c.find.ensures
    (sym c.is_some.ensures ∙ none)
