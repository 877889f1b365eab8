use Rattle.std.proofs.Common.{◌∙◌, ap, Some}
use Rattle.std.proofs.lemmas.Result.{IfOk-weaker}
use Rattle.serde_json.specs.View.{view as value_view}
use Rattle.dap_tree.specs.Json.{IsRead, ValueMatches}
use Rattle.dap_tree.specs.View.{view}
use Rattle.dap_tree.proofs.Outcomes.{explained, some_byte}
use Rattle.dap_tree.proofs.read.read_value.Goals as goal

pub returns-in-Ok-clause-ok : goal.returns-in-Ok-clause-ok
returns-in-Ok-clause-ok c =
    IfOk-weaker c.tree_of.result (λ t. ValueMatches (value_view c.in-Ok.value) (view t))
    (λ t. IsRead c.args.content.now (view t))
    (λ t represents.
    ((c.in-Ok.ensures.ok.0, c.in-Ok.ensures.ok.1 ∙ ap Some represents.0), represents.1))
    c.tree_of.ensures.ok

pub returns-in-Ok-clause-err : goal.returns-in-Ok-clause-err
returns-in-Ok-clause-err c =
    explained c.args.content.now (value_view c.in-Ok.value) c.tree_of.result c.in-Ok.ensures.ok
    c.tree_of.ensures.err

pub returns-in-Ok-clause-memory : goal.returns-in-Ok-clause-memory
returns-in-Ok-clause-memory c =
    λ _. some_byte c.args.content.now (value_view c.in-Ok.value) c.in-Ok.ensures.ok.1
