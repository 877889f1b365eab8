use Rattle.std.proofs.Common.{sym, subst}
use Rattle.std.proofs.lemmas.Bool.{ltb-true}
use Rattle.std.proofs.lemmas.Result.{on_ok_weaker}
use Rattle.dap_flat.specs.Pieces.{pieces}
use Rattle.dap_flat_message.proofs.Replacing.{same_again}
use Rattle.dap_flat_message.specs.{Heads.text_in, Marking.Edits}
use Rattle.dap_mask.specs.FlatMasking.{changed_by}
use Rattle.dap_mask.proofs.Indexed.{rule_found, no_rule_found}
use Rattle.dap_mask.proofs.flat_masking.change_at.Goals as goal

pub returns-in-Some : goal.returns-in-Some
returns-in-Some c =
    let ns = c.args.nodes.now in
    on_ok_weaker c.change_by.result
    (λ edits. subst
    (λ o. Edits ns c.change_by.new.nodes 0 (changed_by (text_in c.args.category) o))
    (sym (rule_found c.args.rules.now c.args.place c.in-Some.rule.now
    (ltb-true _ _ (sym c.in-Some.ensures.lookup.0)) c.in-Some.ensures.lookup.1))
    edits)
    c.change_by.ensures

pub returns-in-None : goal.returns-in-None
returns-in-None c =
    let ns = c.args.nodes.now in
    subst (λ o. Edits ns ns 0 (changed_by (text_in c.args.category) o))
    (sym (no_rule_found c.args.rules.now c.args.place c.in-None.ensures.lookup.3))
    (λ d h. same_again ns 0 (pieces d) h)
