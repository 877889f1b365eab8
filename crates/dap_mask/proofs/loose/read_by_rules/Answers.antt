use Rattle.std.proofs.Common.{◌∙◌, ap, ap₂}
use Rattle.dap_tree.specs.View.{view}
use Rattle.dap_tree.proofs.Outcomes.{some_byte}
use Rattle.dap_words.specs.Worded.{worded_message}
use Rattle.dap_mask.specs.Fills.{filled}
use Rattle.dap_mask.proofs.loose.read_by_rules.Goals as goal

pub returns-clause-ok : goal.returns-clause-ok
returns-clause-ok c = (
  view c.in_ok-read.read,
  c.in_ok-read.ensures.ok,
  c.in_ok-fill.ensures
      ∙ ap₂ filled c.fills.ensures
      (c.in_ok-tree.ensures.worded
      ∙ ap (λ words. worded_message words (view c.in_ok-read.read)) c.words.ensures),
)

-- a content was read, so it is not empty
pub returns-in_err-tree-clause-memory : goal.returns-in_err-tree-clause-memory
returns-in_err-tree-clause-memory c = λ _.
    some_byte c.args.content.now c.in_ok-read.ensures.ok.0 c.in_ok-read.ensures.ok.1.1

pub returns-in_err-fill-clause-memory : goal.returns-in_err-fill-clause-memory
returns-in_err-fill-clause-memory c = λ _.
    some_byte c.args.content.now c.in_ok-read.ensures.ok.0 c.in_ok-read.ensures.ok.1.1
