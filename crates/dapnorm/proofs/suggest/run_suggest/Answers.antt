use Rattle.std.proofs.Common.{inl, inr, rules}
use Rattle.dapnorm.proofs.suggest.run_suggest.Goals as goal

pub returns-in-Err-read_file-clause-run : goal.returns-in-Err-read_file-clause-run
returns-in-Err-read_file-clause-run g c =
    inl ((c.in-Ok.given, c.in-Ok.ensures), c.in-Err-read_file.ensures.reads, search rules)

pub returns-in-Err-read_file-2-clause-run : goal.returns-in-Err-read_file-2-clause-run
returns-in-Err-read_file-2-clause-run g c = inl (
  (c.in-Ok.given, c.in-Ok.ensures),
  (c.in-Ok-read_file.read, c.in-Ok-read_file.ensures.reads),
  c.in-Err-read_file-2.ensures.reads,
)

pub returns-clause-run : goal.returns-clause-run
returns-clause-run g c = inr record {
  given = c.in-Ok.given;
  read_a = c.in-Ok-read_file.read;
  read_b = c.in-Ok-read_file-2.read;
  apart = search rules;
  given_is = c.in-Ok.ensures;
  is_a = c.in-Ok-read_file.ensures.reads;
  is_b = c.in-Ok-read_file-2.ensures.reads;
  suggests = rw (c.as_slice.ensures.value, c.as_slice-2.ensures.value) at c.suggestion.ensures;
}
