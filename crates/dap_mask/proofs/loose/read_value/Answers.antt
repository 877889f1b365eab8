use Rattle.serde_json.specs.View.{view as value_view}
use Rattle.dap_tree.proofs.Outcomes.{some_byte}
use Rattle.dap_mask.proofs.loose.read_value.Goals as goal

-- a value was read, so the content is not empty
pub returns-in_err-tree-in-Ok-clause-memory : goal.returns-in_err-tree-in-Ok-clause-memory
returns-in_err-tree-in-Ok-clause-memory c =
    λ _. some_byte c.args.content.now (value_view c.in-Ok.value) c.in-Ok.ensures.ok.1
