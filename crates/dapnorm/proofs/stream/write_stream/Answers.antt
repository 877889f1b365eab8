use Rattle.std.proofs.Common.{ℕ, List, Option, Err, rules, subst}
use Rattle.dapnorm.proofs.Kept.{is_left}
use Rattle.dapnorm.specs.Rules.{AreRules}
use Rattle.dapnorm.proofs.stream.write_stream.Goals as goal

pub returns-in-Err-rules_of-clause-written : goal.returns-in-Err-rules_of-clause-written
returns-in-Err-rules_of-clause-written g c = (
  search rules,
  search rules,
  subst
      (λ (name : Option (List ℕ)). AreRules (g.H.Host.files c.args.host.now) g.H.Input.Source name
      c.args.values.now (Err c.in-Err-rules_of.why)) c.task_rules.ensures c.in-Err-rules_of.ensures,
)

pub returns-in-Ok-streamed-clause-written : goal.returns-in-Ok-streamed-clause-written
returns-in-Ok-streamed-clause-written g c = (
  c.in-Ok-rules_of.rules,
  rw (c.task_rules.ensures) at c.in-Ok-rules_of.ensures,
  is_left c.insert-writer.result.now c.streamed.new.writer (search rules)
      (is_left c.insert-reader.result.now c.streamed.new.reader (search rules)
      c.in-Ok-streamed.ensures.done),
)

pub returns-clause-written : goal.returns-clause-written
returns-clause-written g c = (
  rw (c.task_rules.ensures) at c.in-Ok-rules_of.ensures,
  is_left c.insert-writer.result.now c.streamed.new.writer (search rules)
      (is_left c.insert-reader.result.now c.streamed.new.reader (search rules)
      c.in-Err-streamed.ensures.done),
)
