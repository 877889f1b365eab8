use Rattle.std.proofs.Common.{◌∙◌, ap}
use Rattle.std.proofs.lemmas.Result.{on_ok_weaker}
use Rattle.dap_mask.specs.Index.{asks_for}
use Rattle.dap_flat_message.specs.Heads.{text_in}
use Rattle.dap_mask.specs.Rules.{rule_of}
use Rattle.dap_mask.proofs.FlatChanges.{rule_asked, rule_not_asked}
use Rattle.dap_mask.proofs.flat_masking.change_by.Goals as goal

pub returns-then-asks_for : goal.returns-then-asks_for
returns-then-asks_for c =
    on_ok_weaker c.mask_path.result
    (λ edits. rule_asked (text_in c.args.category) (rule_of c.args.rule.now) c.args.nodes.now
    c.mask_path.new.nodes c.asks_for.result
    (c.asks_for.ensures ∙ ap (λ n. asks_for n (text_in c.args.category)) c.text_of.ensures)
    c.if-asks_for.true (rw c.deref.ensures.value at edits))
    c.mask_path.ensures

pub returns-else-asks_for : goal.returns-else-asks_for
returns-else-asks_for c =
    rule_not_asked (text_in c.args.category) (rule_of c.args.rule.now) c.args.nodes.now
    c.asks_for.result
    (c.asks_for.ensures ∙ ap (λ n. asks_for n (text_in c.args.category)) c.text_of.ensures)
    c.if-asks_for.false
