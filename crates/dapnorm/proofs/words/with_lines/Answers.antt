use Rattle.std.proofs.Common.{inl}
use Rattle.dapnorm.proofs.words.with_lines.Goals as goal

pub returns-in_default-clause-err : goal.returns-in_default-clause-err
returns-in_default-clause-err c = inl record {
  index = c.loop-name.name-index;
  value = c.as_str-value.result.now;
  within = c.loop-name-test.true;
  at = cc;
  named = c.loop-name.invariant.named;
  without = c.in_default.ensures;
  reported = c.bad_value.ensures;
}
