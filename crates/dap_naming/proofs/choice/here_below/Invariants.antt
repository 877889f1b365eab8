use Rattle.std.proofs.Common.{◌≡◌, drop}
use Rattle.dap_tokens.specs.Models.{label_or, labels_of}
use Rattle.dap_tokens.specs.declared.form.Form.{Form}
use Rattle.dap_naming.specs.Documents.{below, here}
use Rattle.dap_naming.specs.DeclaredRules.{rules_of}
use Rattle.dap_naming.proofs.choice.here_below.Given as goal

-- the labels so far, and those of the rest
abbrev pub invariant-loop-rule : goal.invariant-loop-rule
invariant-loop-rule l = (form : Form)
    → label_or (labels_of l.labels form)
    (here (below l.name (rules_of (drop l.rule-index l.rules))) form)
    ≡ here (below l.name (rules_of l.rules)) form
