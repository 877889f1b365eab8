use Rattle.std.proofs.Common.{sym, subst}
use Rattle.std.proofs.lemmas.Result.{IfErr-weaker, IfOk-weaker}
use Rattle.dap_golden.specs.Golden.{mask_given, mode_given}
use Rattle.dap_golden.specs.GoldenFiles.{IsNormalText}
use Rattle.dap_golden.specs.declared.golden.GoldenText.{GoldenText}
use Rattle.dap_golden.proofs.FileUpdates.{has_file, no_file}
use Rattle.dap_golden.proofs.updates.file_of.Goals as goal

pub returns-clause-ok : goal.returns-clause-ok
returns-clause-ok c =
    IfOk-weaker c.written_in.result _ _
    (has_file c.args.limits (mask_given c.args.rules) c.args.request c.args.input.items
    c.in_ok-text.text c.in_ok-text.ensures.ok c.mode_given-mode.result c.mode_given-mode.ensures)
    c.written_in.ensures.ok

pub returns-clause-err : goal.returns-clause-err
returns-clause-err c =
    IfErr-weaker c.written_in.result _ _
    (no_file c.args.limits (mask_given c.args.rules) c.args.request c.args.input.items
    c.in_ok-text.text c.in_ok-text.ensures.ok c.mode_given-mode.result c.mode_given-mode.ensures)
    c.written_in.ensures.err

pub returns-clause-normal : goal.returns-clause-normal
returns-clause-normal c =
    IfOk-weaker c.written_in.result _ _
    (λ made is. subst (λ (text : GoldenText). IsNormalText c.args.limits
    (mode_given (mask_given c.args.rules) c.args.request.mode) text.bytes.items) (sym is.text_is)
    c.in_ok-text.ensures.normal) c.written_in.ensures.ok

pub returns-clause-short : goal.returns-clause-short
returns-clause-short c =
    IfOk-weaker c.written_in.result _ _ (λ made is. is.short) c.written_in.ensures.ok
