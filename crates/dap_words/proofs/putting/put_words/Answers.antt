use Rattle.std.proofs.Common.{true, sym, ap, ◌∙◌}
use Rattle.dap_tree.specs.View.{view}
use Rattle.dap_words.specs.Worded.{worded}
use Rattle.dap_words.proofs.WordedDocs.{worded_none}
use Rattle.dap_words.proofs.putting.put_words.Goals as goal

pub returns-then-is_empty-clause-worded : goal.returns-then-is_empty-clause-worded
returns-then-is_empty-clause-worded c =
    sym (ap (λ pairs. worded pairs true (view c.args.message)) (c.is_empty.ensures.0 c.if-is_empty.true)
    ∙ worded_none true (view c.args.message))
