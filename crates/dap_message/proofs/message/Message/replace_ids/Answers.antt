use Rattle.dap_tree.specs.Ids.{ids, skeleton}
use Rattle.dap_tree.specs.View.{view}
use Rattle.dap_tree.proofs.IdNumbers.{count_ids, skeleton-with, sound_with}
use Rattle.std.proofs.Common.{◌∙◌, ap}
use Rattle.dap_message.proofs.ToldKinds.{kind-with}
use Rattle.dap_message.proofs.ListedElements.{shows_all-with}
use Rattle.dap_message.proofs.RenumberedMessages.{ids-with, proper-with, envelope-with}
use Rattle.dap_message.proofs.message.Message.replace_ids.Goals as goal

pub new-requires-clause-reported : goal.new-requires-clause-reported
new-requires-clause-reported c =
    rw c.replace_ids.ensures.replaced
    (kind-with c.args.self.kind (view c.args.self.tree) c.args.numbers.now
    ∙ c.args.self.kind_told)

pub new-requires-clause-sound : goal.new-requires-clause-sound
new-requires-clause-sound c =
    rw c.replace_ids.ensures.replaced (sound_with (view c.args.self.tree) c.args.numbers.now
    ∙ c.args.self.sound)

pub new-requires-clause-proper : goal.new-requires-clause-proper
new-requires-clause-proper c =
    rw c.replace_ids.ensures.replaced
    (proper-with (view c.args.self.tree) c.args.numbers.now c.requires.count c.requires.proper)

pub new-requires-clause-enveloped : goal.new-requires-clause-enveloped
new-requires-clause-enveloped c =
    rw c.replace_ids.ensures.replaced (envelope-with (view c.args.self.tree) c.args.numbers.now
    ∙ c.args.self.enveloped)

pub new-requires-clause-shown : goal.new-requires-clause-shown
new-requires-clause-shown c =
    rw c.replace_ids.ensures.replaced (shows_all-with (view c.args.self.tree) c.args.numbers.now
    ∙ c.args.self.shown)

pub returns-clause-ids : goal.returns-clause-ids
returns-clause-ids c =
    ap ids (c.new.ensures.doc ∙ c.replace_ids.ensures.replaced)
    ∙ ids-with (view c.args.self.tree) c.args.numbers.now c.requires.count

pub returns-clause-skeleton : goal.returns-clause-skeleton
returns-clause-skeleton c =
    ap skeleton (c.new.ensures.doc ∙ c.replace_ids.ensures.replaced)
    ∙ skeleton-with (view c.args.self.tree) c.args.numbers.now

pub replace_ids-requires-clause-one_each : goal.replace_ids-requires-clause-one_each
replace_ids-requires-clause-one_each c = c.requires.count ∙ count_ids (view c.args.self.tree)
