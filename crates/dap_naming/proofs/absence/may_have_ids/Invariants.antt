use Rattle.std.proofs.Common.{drop}
use Rattle.dap_mask.specs.Declarations.{declarations_of}
use Rattle.dap_naming.proofs.NoIds.{FindNothing}
use Rattle.dap_naming.proofs.absence.may_have_ids.Given as goal

-- Nothing is found if the rest of the declarations find nothing.
abbrev pub invariant-loop-declaration : goal.invariant-loop-declaration
invariant-loop-declaration g l =
    FindNothing l.content (declarations_of (drop l.declaration-index l.declarations))
    (g.M.AnyMessage.sent l.message).doc
    → FindNothing l.content (declarations_of l.declarations) (g.M.AnyMessage.sent l.message).doc
