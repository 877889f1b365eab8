use Rattle.std.proofs.Common.{◌∙◌, sym}
use Rattle.std.proofs.lemmas.Result.{IfErr-weaker, IfOk-weaker}
use Rattle.dap_mask.specs.KeptRules.{mask_of}
use Rattle.dap_rules.proofs.EmptyRecordings.{no_bytes, none_applied}
use Rattle.dap_rules.proofs.Declared.{none_are, some_are}
use Rattle.dap_rules.proofs.NamesApplied.{applies_unnamed, refused_in_order}
use Rattle.dap_rules.proofs.applying.apply_rules.Goals as goal

pub returns-then-is_empty-clause-ok : goal.returns-then-is_empty-clause-ok
returns-then-is_empty-clause-ok c =
    let none = no_bytes c.args.recording.now (sym c.is_empty.ensures ∙ c.if-is_empty.true) in
    rw (none, c.new.ensures.items)
    (none_applied c.args.limits c.requires.limits c.args.mode c.args.rules.now)

pub text_in_order_by-requires-clause-none : goal.text_in_order_by-requires-clause-none
text_in_order_by-requires-clause-none c =
    none_are c.declared.result.now (mask_of c.args.rules.now).declared c.declared.ensures.same
    (sym c.is_empty-2.ensures ∙ c.if-is_empty-2.true)

pub returns-then-is_empty-2-clause-ok : goal.returns-then-is_empty-2-clause-ok
returns-then-is_empty-2-clause-ok c =
    let mask = mask_of c.args.rules.now in
    IfOk-weaker c.text_in_order_by.result _ _
    (λ text. applies_unnamed c.args.limits c.args.mode mask c.args.recording.now
    (none_are c.declared.result.now mask.declared c.declared.ensures.same
    (sym c.is_empty-2.ensures ∙ c.if-is_empty-2.true)) text.items)
    c.text_in_order_by.ensures.ok

pub returns-then-is_empty-2-clause-err : goal.returns-then-is_empty-2-clause-err
returns-then-is_empty-2-clause-err c =
    IfErr-weaker c.text_in_order_by.result _ _
    (refused_in_order c.args.limits c.args.mode (mask_of c.args.rules.now) c.args.recording.now)
    c.text_in_order_by.ensures.err

pub text_with_names-requires-clause-declared : goal.text_with_names-requires-clause-declared
text_with_names-requires-clause-declared c =
    some_are c.declared.result.now (mask_of c.args.rules.now).declared c.declared.ensures.same
    (sym c.is_empty-2.ensures ∙ c.if-is_empty-2.false)
