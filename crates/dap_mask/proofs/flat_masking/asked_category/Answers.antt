use Rattle.std.proofs.Common.{◌∙◌, None, cond, sym, ap}
use Rattle.std.proofs.lemmas.Result.{IfOk-weaker}
use Rattle.dap_flat_message.specs.Heads.{text_in}
use Rattle.dap_mask.specs.FlatMasking.{IsTold, asked_category, told_category}
use Rattle.dap_mask.specs.Rules.{rules_of}
use Rattle.dap_mask.proofs.flat_masking.asked_category.Goals as goal

pub returns-then-are_limited : goal.returns-then-are_limited
returns-then-are_limited c =
    let ns = c.args.nodes.now in
    IfOk-weaker c.told_category.result
    (λ s. IsTold ns 0 told_category (text_in s))
    (λ s. IsTold ns 0 (asked_category (rules_of c.args.rules.now) c.args.places.now) (text_in s))
    (λ s told d h. told d h
    ∙ ap (λ b. cond b (told_category d) None) (sym c.if-are_limited.true ∙ c.are_limited.ensures))
    c.told_category.ensures

pub returns-else-are_limited : goal.returns-else-are_limited
returns-else-are_limited c d h =
    ap (λ b. cond b (told_category d) None) (sym c.if-are_limited.false ∙ c.are_limited.ensures)
