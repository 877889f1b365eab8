use Rattle.std.proofs.Common.{◌≡◌, ◌++◌, drop}
use Rattle.dap_tree.specs.View.{view}
use Rattle.dap_mask.specs.Declarations.{declarations_of}
use Rattle.dap_naming.specs.DeclaredRules.{rules_of}
use Rattle.dap_naming.specs.Sessions.{rules_for}
use Rattle.dap_naming.proofs.sessions.rules_for.Given as goal

-- the declarations so far that apply, and those of the rest
abbrev pub invariant-loop-declaration : goal.invariant-loop-declaration
invariant-loop-declaration l =
    rules_of l.rules.items
    ++ rules_for (declarations_of (drop l.declaration-index l.declarations)) (view l.tree)
    ≡ rules_for (declarations_of l.declarations) (view l.tree)
