use Rattle.std.proofs.Common.{◌≡◌, ◌++◌, drop, Some, true}
use Rattle.dap_tree.specs.Doc.{Doc}
use Rattle.dap_flat_message.specs.Heads.{text_in}
use Rattle.dap_mask.specs.Declarations.{are_declared, declarations_of}
use Rattle.dap_mask.specs.{FlatMasking.told_category, Index.{told_kind, told_name}}
use Rattle.dap_naming.specs.DeclaredRules.{have_labels, rules_of}
use Rattle.dap_naming.specs.Sessions.{rules_for}
use Rattle.dap_naming.proofs.flat_rules.applying.Given as goal

-- the declarations so far that apply, and those of the rest
abbrev pub invariant-loop-declaration : goal.invariant-loop-declaration
invariant-loop-declaration l = record {
  told : (d : Doc) → told_kind d ≡ Some l.kind → told_name l.kind d ≡ text_in l.name
      → told_category d ≡ text_in l.category
      → rules_of l.rules.items
      ++ rules_for (declarations_of (drop l.declaration-index l.declarations)) d
      ≡ rules_for (declarations_of l.declarations) d;
  labels : have_labels (rules_of l.rules.items) ≡ true;
  declared : are_declared (declarations_of (drop l.declaration-index l.declarations)) ≡ true;
}
