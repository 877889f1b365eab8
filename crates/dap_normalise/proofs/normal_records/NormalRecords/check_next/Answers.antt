use Rattle.std.proofs.Common.{[], Ok, subst}
use Rattle.std.proofs.lemmas.Result.{err_from_is_err_and}
use Rattle.dap_input.specs.RecordSteps.{ReadsNextRecord}
use Rattle.dap_normalise.proofs.NormalRecordSteps.{refused_read, none_left, refused_judge, gone_on}
use Rattle.dap_normalise.proofs.normal_records.NormalRecords.check_next.Goals as goal

pub returns-in_err-whole : goal.returns-in_err-whole
returns-in_err-whole g c = λ limits mode bytes messages normal was.
    let because = err_from_is_err_and c.from_residual.result c.from_residual.ensures.1 in
    rw (because.1, because.2) (
      [],
      refused_read g.R.Source limits mode bytes c.args.self.now
          messages normal was c.next.new.self c.args.reader.now c.next.new.reader _
          (c.in_err-whole.ensures limits.frame was.between),
    )

pub returns-in_default : goal.returns-in_default
returns-in_default g c = λ limits mode bytes messages normal was. (
  [],
  none_left g.R.Source limits mode bytes c.args.self.now
      messages normal was c.next.new.self c.args.reader.now c.next.new.reader []
      (subst (λ o. ReadsNextRecord limits.frame
      g.R.Source c.args.self.now.records c.next.new.self
      c.args.reader.now c.next.new.reader (Ok o)) c.in_default.is
      (c.in_ok-whole.ensures limits.frame was.between)),
)

pub returns-in_err-check : goal.returns-in_err-check
returns-in_err-check g c = λ limits mode bytes messages normal was.
    let because =
    err_from_is_err_and c.from_residual-in_err-check.result
    c.from_residual-in_err-check.ensures.1 in
    let read = subst
    (λ o. ReadsNextRecord limits.frame g.R.Source
    c.args.self.now.records c.next.new.self
    c.args.reader.now c.next.new.reader (Ok o)) c.in-Some.is
    (c.in_ok-whole.ensures limits.frame was.between) in
    rw (because.1, because.2) (
      [],
      refused_judge g.R.Source limits mode bytes c.args.self.now
          messages normal was c.next.new.self c.args.reader.now c.next.new.reader c.in-Some.whole read
          c.check.new.self (record {
            records = c.next.new.self;
            judge = c.check.new.self;
            scratch = c.check.new.scratch;
          }) [] [] _
          (rw c.number-number.ensures at c.in_err-check.ensures.checks),
    )

pub returns : goal.returns
returns g c = λ limits mode bytes messages normal was.
    let read = subst
    (λ o. ReadsNextRecord limits.frame g.R.Source
    c.args.self.now.records c.next.new.self
    c.args.reader.now c.next.new.reader (Ok o)) c.in-Some.is
    (c.in_ok-whole.ensures limits.frame was.between) in
    let added = c.in_ok-check.ensures.checks messages normal was.represents in
    rw c.recycle.ensures (
      added.0,
      gone_on g.R.Source limits mode bytes c.args.self.now
          messages normal was c.next.new.self c.args.reader.now c.next.new.reader c.in-Some.whole read
          c.check.new.self (record {
            records = c.next.new.self;
            judge = c.check.new.self;
            scratch = c.check.new.scratch;
          }) [] added.0 c.in_ok-check.ensures.limits
          c.in_ok-check.ensures.mode added.1,
    )
