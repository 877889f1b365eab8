use Rattle.dap_flat_message.specs.Heads.{text_in}
use Rattle.dap_mask.specs.Rules.{rule_of}
use Rattle.dap_mask.proofs.Indexed.{applies_if_asked, applies_not}
use Rattle.dap_mask.proofs.flat_told.applies_to.Goals as goal

pub returns-then-may_speak : goal.returns-then-may_speak
returns-then-may_speak c d kind name category =
    applies_if_asked (rule_of c.args.rule.now) c.args.kind (text_in c.args.name)
    (text_in c.args.category) d kind name category c.may_speak.result
    c.asks_for_category.result c.may_speak.ensures c.if-may_speak.true c.asks_for_category.ensures

pub returns-else-may_speak : goal.returns-else-may_speak
returns-else-may_speak c d kind name category =
    applies_not (rule_of c.args.rule.now) c.args.kind (text_in c.args.name)
    (text_in c.args.category) d kind name category c.may_speak.result c.may_speak.ensures
    c.if-may_speak.false
