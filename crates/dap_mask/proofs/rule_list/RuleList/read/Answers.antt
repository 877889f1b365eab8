use Rattle.std.proofs.Common.{◌≡◌, ◌≢◌, Ok, Err}
use Rattle.std.proofs.lemmas.Result.{err_from_is_err_and}
use Rattle.dap_mask.specs.ListedRules.{listed_mask}
use Rattle.dap_mask.specs.Mask.{no_rules}
use Rattle.dap_mask.specs.RulesFile.{rules_said}
use Rattle.dap_mask.specs.declared.fault.RulesCause.TheVariants.{Memory}
use Rattle.dap_mask.proofs.Growths.{err_is, err_passed, said_err, said_other}
use Rattle.dap_mask.proofs.Lines.{taken_len, taken_most}
use Rattle.dap_mask.proofs.rule_list.RuleList.read.Goals as goal

pub slice_bounds-last_line-end : goal.slice_bounds-last_line-end
slice_bounds-last_line-end c = taken_len 65536 c.args.text.now c.if-text-gt-MAX_BYTES.true

pub last_line-requires : goal.last_line-requires
last_line-requires c = taken_most 65536 c.args.text.now

pub returns-in_err-take_lines-clause-needed : goal.returns-in_err-take_lines-clause-needed
returns-in_err-take_lines-clause-needed c =
    let because = err_from_is_err_and c.from_residual.result c.from_residual.ensures.1 in
    err_passed {X = rules_said c.args.text.now ≢ Ok no_rules} c.from_residual.result
    c.in_err-take_lines.field-0.0 because.0 because.1 because.2
    (λ memory. said_other c.args.text.now (listed_mask c.new-rules.result) c.new-rules.ensures
    c.if-text-gt-MAX_BYTES.false (c.in_err-take_lines.ensures.memory memory))

pub returns-in_err-take_lines-clause-err : goal.returns-in_err-take_lines-clause-err
returns-in_err-take_lines-clause-err c =
    let because = err_from_is_err_and c.from_residual.result c.from_residual.ensures.1 in
    err_is (λ f. f.cause ≢ Memory → rules_said c.args.text.now ≡ Err f) c.from_residual.result
    c.in_err-take_lines.field-0.0 because.0 because.1 because.2
    (λ other. said_err c.args.text.now (listed_mask c.new-rules.result)
    c.in_err-take_lines.field-0.0 c.new-rules.ensures c.if-text-gt-MAX_BYTES.false
    (c.in_err-take_lines.ensures.err other))
