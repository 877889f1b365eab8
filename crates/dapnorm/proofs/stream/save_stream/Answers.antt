use Rattle.std.proofs.Common.{◌∙◌, ℕ, List, Option, Ok, Err, rules, subst}
use Rattle.dapnorm.proofs.Kept.{is_left, saves}
use Rattle.dapnorm.specs.Rules.{AreRules}
use Rattle.dapnorm.proofs.stream.save_stream.Goals as goal

pub returns-in-Err-rules_of-clause-saved : goal.returns-in-Err-rules_of-clause-saved
returns-in-Err-rules_of-clause-saved g c = (
  search rules,
  search rules,
  subst
      (λ (name : Option (List ℕ)). AreRules (g.H.Host.files c.args.host.now) g.H.Input.Source name
      c.args.values.now (Err c.in-Err-rules_of.why)) c.task_rules.ensures c.in-Err-rules_of.ensures,
)

pub returns-then-failures-gt0-clause-saved : goal.returns-then-failures-gt0-clause-saved
returns-then-failures-gt0-clause-saved g c = (
  search rules,
  (
    c.in-Ok-rules_of.rules,
    c.streamed-outcome.new.writer,
    c.streamed-outcome.result,
    (
      rw (c.task_rules.ensures) at c.in-Ok-rules_of.ensures,
      is_left c.insert-reader.result.now c.streamed-outcome.new.reader (search rules)
          (rw (c.new-text.ensures) at c.streamed-outcome.ensures.done),
    ),
    search rules,
  ),
)

pub returns-in-Err-outcome-clause-saved : goal.returns-in-Err-outcome-clause-saved
returns-in-Err-outcome-clause-saved g c = (
  search rules,
  (
    c.streamed-outcome.new.writer,
    (
      rw (c.task_rules.ensures) at c.in-Ok-rules_of.ensures,
      is_left c.insert-reader.result.now c.streamed-outcome.new.reader (search rules)
          (rw (c.new-text.ensures) at c.in-Err-outcome.ensures.done),
    ),
    search rules,
  ),
)

pub returns-in-Ok-replace-clause-saved : goal.returns-in-Ok-replace-clause-saved
returns-in-Ok-replace-clause-saved g c = record {
  rules = c.in-Ok-rules_of.rules;
  text = c.streamed-outcome.new.writer;
  holds = (
    rw (c.task_rules.ensures) at c.in-Ok-rules_of.ensures,
    is_left c.insert-reader.result.now c.streamed-outcome.new.reader (search rules)
        (rw (c.new-text.ensures) at c.in_default.ensures.done),
  );
  complete = search rules;
  saves = is_left c.insert-target.result.now c.replace.new.file (search rules)
      (saves g.H.Target.Replaceable c.as_slice.result.now c.streamed-outcome.new.writer.out
      c.insert-target.result.now c.replace.new.file (Ok tt)
      (c.as_slice.ensures.value ∙ c.into_bytes-bytes.ensures) c.in-Ok-replace.ensures.done
      c.in-Ok-replace.ensures.any_moment);
}

pub returns-clause-saved : goal.returns-clause-saved
returns-clause-saved g c = (
  c.new-in-Err-replace.ensures,
  record {
    rules = c.in-Ok-rules_of.rules;
    text = c.streamed-outcome.new.writer;
    holds = (
      rw (c.task_rules.ensures) at c.in-Ok-rules_of.ensures,
      is_left c.insert-reader.result.now c.streamed-outcome.new.reader (search rules)
          (rw (c.new-text.ensures) at c.in_default.ensures.done),
    );
    complete = search rules;
    saves = is_left c.insert-target.result.now c.replace.new.file (search rules)
        (saves g.H.Target.Replaceable c.as_slice.result.now c.streamed-outcome.new.writer.out
        c.insert-target.result.now c.replace.new.file (Err c.in-Err-replace.fault)
        (c.as_slice.ensures.value ∙ c.into_bytes-bytes.ensures) (record {
          failed = c.in-Err-replace.ensures.failed;
          removed = c.in-Err-replace.ensures.removed;
          counted = c.in-Err-replace.ensures.counted;
        })
        c.in-Err-replace.ensures.any_moment);
  },
)
