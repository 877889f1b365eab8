use Rattle.dap_tree.specs.View.{view}
use Rattle.dap_tree.proofs.Outcomes.{plain_answers, answers, document_answers, read_is_plain}
use Rattle.dap_tree.proofs.read.read_tree_with.Goals as goal

pub returns-in-Ok-clause-plain : goal.returns-in-Ok-clause-plain
returns-in-Ok-clause-plain c =
    read_is_plain c.args.content.now (view c.in-Ok.tree) c.in-Ok.ensures.ok

pub returns-in-Ok-clause-exactly : goal.returns-in-Ok-clause-exactly
returns-in-Ok-clause-exactly c =
    λ o has. document_answers c.args.content.now c.in-Ok.tree o c.in-Ok.ensures.ok has

pub returns-in-Err-Unclear-clause-plain : goal.returns-in-Err-Unclear-clause-plain
returns-in-Err-Unclear-clause-plain c =
    plain_answers c.args.content.now c.read_value.result c.read_value.ensures.ok

pub returns-in-Err-Unclear-clause-exactly : goal.returns-in-Err-Unclear-clause-exactly
returns-in-Err-Unclear-clause-exactly c =
    λ o has. answers c.args.content.now c.read_value.result o c.read_value.ensures.ok
    c.read_value.ensures.err has
