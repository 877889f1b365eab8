use Rattle.std.proofs.Common.{◌≡◌, List, length, subst, sym}
use Rattle.dap_message.specs.Message.{Sent}
use Rattle.dap_mask.specs.KeptRules.{mask_of}
use Rattle.dap_normalise.specs.{Accepting.Fits, JudgingSteps.payload_of}
use Rattle.dap_rules.specs.Rewriting.{rewritten, rewritten_text}
use Rattle.dap_rules.specs.RewritingSteps.{HasNumbered, Rewritten}
use Rattle.dap_rules.proofs.rewriting.append.Goals as goal

pub returns-in-Mask-clause-rewritten : goal.returns-in-Mask-clause-rewritten
returns-in-Mask-clause-rewritten c =
    let limits = c.args.limits in
    let mask = mask_of c.args.rules.now in
    subst (λ kind. (messages : List Sent) → Fits limits (rewritten kind mask messages)
    → c.args.written ≡ length (rewritten_text kind mask messages)
    → HasNumbered kind limits mask messages c.args.room.now.numbers
    → Rewritten kind limits mask messages (payload_of c.args.whole.now) c.args.number
    c.args.out.now.items c.append_masked.new.out.items c.append_masked.new.room.numbers
    c.append_masked.result) (sym c.in-Mask.is)
    (λ messages fits count numbered. c.append_masked.ensures.masked messages fits count)

pub returns-in-Name-clause-rewritten : goal.returns-in-Name-clause-rewritten
returns-in-Name-clause-rewritten c =
    let limits = c.args.limits in
    let mask = mask_of c.args.rules.now in
    subst (λ kind. (messages : List Sent) → Fits limits (rewritten kind mask messages)
    → c.args.written ≡ length (rewritten_text kind mask messages)
    → HasNumbered kind limits mask messages c.args.room.now.numbers
    → Rewritten kind limits mask messages (payload_of c.args.whole.now) c.args.number
    c.args.out.now.items c.append_named.new.out.items c.append_named.new.room.numbers
    c.append_named.result) (sym c.in-Name.is) c.append_named.ensures.named
