use Rattle.std.proofs.Common.{◌≡◌, ◌≤◌, ◌<◌, ◌-◌, Ok, length, take, drop, sym, ap, ◌∙◌, arith}
use Rattle.dap_mask.specs.ListedRules.{listed_mask}
use Rattle.dap_mask.specs.Mask.{rule_count}
use Rattle.dap_mask.specs.RulesFile.{line_outcome}
use Rattle.dap_mask.specs.Runs.{has_class}
use Rattle.dap_mask.specs.declared.runs.ByteClass.TheVariants.{InLine}
use Rattle.dap_mask.proofs.Growths.{other_rules, taken_no_less}
use Rattle.dap_mask.proofs.Lines.{behind_shorter, done_ok, lines_err, lines_end, lines_on}
use Rattle.dap_mask.proofs.Lines.{tail_shorter}
use Rattle.dap_mask.proofs.rule_list.RuleList.take_lines.Goals as goal

pub returns-in-Err-clause-err : goal.returns-in-Err-clause-err
returns-in-Err-clause-err c =
    λ other. sym c.loop-cause.invariant.same
    ∙ lines_err (listed_mask c.loop-cause.self) c.loop-cause.number c.loop-cause.rest.now
    c.split_run.result.0.now c.in-Err.cause c.split_run.ensures.front (c.in-Err.ensures.err other)

pub returns-in-Err-clause-memory : goal.returns-in-Err-clause-memory
returns-in-Err-clause-memory c =
    λ memory said. other_rules (listed_mask c.loop-cause.self) (listed_mask c.args.self.now)
    c.loop-cause.number c.loop-cause.rest.now c.split_run.result.0.now
    c.loop-cause.invariant.grown c.split_run.ensures.front (c.in-Err.ensures.memory memory)
    (c.loop-cause.invariant.same ∙ said)

pub returns-in-empty-clause-ok : goal.returns-in-empty-clause-ok
returns-in-empty-clause-ok c =
    let line = c.split_run.result.0.now in
    let taken = done_ok (line_outcome (listed_mask c.loop-cause.self) line
    ≡ Ok (listed_mask c.take_line.new.self)) c.take_line.result c.in_default.not-Err
    c.take_line.ensures.ok in
    sym c.loop-cause.invariant.same
    ∙ lines_end (listed_mask c.loop-cause.self) (listed_mask c.take_line.new.self)
    c.loop-cause.number
    c.loop-cause.rest.now line c.split_run.result.1.now c.split_run.ensures.front
    c.split_run.ensures.behind (omega arith) taken

pub loop-cause-smaller : goal.loop-cause-smaller
loop-cause-smaller c =
    let shorter : length c.split_run.result.1.now ≤ length c.loop-cause.rest.now =
    omega (
      arith,
      ap length c.split_run.ensures.behind,
      behind_shorter (has_class InLine) c.loop-cause.rest.now,
    ) in
    tail_shorter c.split_run.result.1.now c.loop-cause.rest.now shorter (omega arith)

pub loop-cause-preserved : goal.loop-cause-preserved
loop-cause-preserved c =
    let line = c.split_run.result.0.now in
    let behind = c.split_run.result.1.now in
    let shorter : length behind ≤ length c.loop-cause.rest.now =
    omega (
      arith,
      ap length c.split_run.ensures.behind,
      behind_shorter (has_class InLine) c.loop-cause.rest.now,
    ) in
    let tail : length (take (length behind - 1) (drop 1 behind)) < length c.loop-cause.rest.now =
    tail_shorter behind c.loop-cause.rest.now shorter (omega arith) in
    let taken = done_ok (line_outcome (listed_mask c.loop-cause.self) line
    ≡ Ok (listed_mask c.take_line.new.self)) c.take_line.result c.in_default.not-Err
    c.take_line.ensures.ok in
    let more = taken_no_less (listed_mask c.loop-cause.self) (listed_mask c.take_line.new.self) line
    taken in
    let before = c.loop-cause.invariant.grown in
    let grown : rule_count (listed_mask c.args.self.now)
    ≤ rule_count (listed_mask c.take_line.new.self) = omega (arith, before, more) in
    record {
      small = omega (arith, tail);
      same = lines_on (listed_mask c.loop-cause.self) (listed_mask c.take_line.new.self)
          c.loop-cause.number
          c.loop-cause.rest.now line behind c.split_run.ensures.front c.split_run.ensures.behind
          (omega arith) taken
          ∙ c.loop-cause.invariant.same;
      grown = grown;
    }
