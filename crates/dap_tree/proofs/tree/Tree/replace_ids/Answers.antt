use Rattle.std.proofs.Common.{◌∙◌, ap}
use Rattle.dap_tree.specs.Doc.{is_sound}
use Rattle.dap_tree.specs.Ids.{ids, numbers_of, skeleton}
use Rattle.dap_tree.specs.View.{view}
use Rattle.dap_tree.proofs.IdNumbers.{numbers-with, skeleton-with, sound_with}
use Rattle.dap_tree.proofs.tree.Tree.replace_ids.Goals as goal

pub returns-clause-numbers : goal.returns-clause-numbers
returns-clause-numbers c =
    ap (λ d. numbers_of (ids d)) c.put.ensures.put
    ∙ numbers-with (view c.args.self.now) c.args.numbers.now c.requires.one_each

pub returns-clause-alike : goal.returns-clause-alike
returns-clause-alike c =
    ap skeleton c.put.ensures.put ∙ skeleton-with (view c.args.self.now) c.args.numbers.now

pub returns-clause-sound : goal.returns-clause-sound
returns-clause-sound c =
    ap is_sound c.put.ensures.put ∙ sound_with (view c.args.self.now) c.args.numbers.now
    ∙ c.requires.sound
