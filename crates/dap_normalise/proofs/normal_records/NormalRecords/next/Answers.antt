use Rattle.std.proofs.Common.{Ok, subst}
use Rattle.std.proofs.lemmas.Result.{err_from_is_err_and}
use Rattle.dap_input.specs.RecordSteps.{ReadsNextRecord}
use Rattle.dap_normalise.proofs.NormalRecordSteps.{refused_read, none_left, refused_judge, gone_on}
use Rattle.dap_normalise.proofs.NormalRecordSteps.{nothing_given}
use Rattle.dap_normalise.proofs.normal_records.NormalRecords.next.Goals as goal

pub returns-in_err-whole-clause-next : goal.returns-in_err-whole-clause-next
returns-in_err-whole-clause-next g c = λ limits mode bytes messages normal was.
    let because = err_from_is_err_and c.from_residual.result c.from_residual.ensures.1 in
    rw (because.1, because.2)
    (refused_read g.R.Source limits mode bytes c.args.self.now
    messages normal was c.next.new.self c.args.reader.now c.next.new.reader _
    (c.in_err-whole.ensures limits.frame was.between))

pub returns-in_default-clause-next : goal.returns-in_default-clause-next
returns-in_default-clause-next g c = λ limits mode bytes messages normal was.
    none_left g.R.Source limits mode bytes c.args.self.now
    messages normal was c.next.new.self c.args.reader.now c.next.new.reader
    c.args.text.now.items
    (subst (λ o. ReadsNextRecord limits.frame
    g.R.Source c.args.self.now.records c.next.new.self
    c.args.reader.now c.next.new.reader (Ok o)) c.in_default.is
    (c.in_ok-whole.ensures limits.frame was.between))

pub returns-in_err-judge-clause-next : goal.returns-in_err-judge-clause-next
returns-in_err-judge-clause-next g c = λ limits mode bytes messages normal was.
    let because =
    err_from_is_err_and c.from_residual-in_err-judge.result
    c.from_residual-in_err-judge.ensures.1 in
    let read = subst
    (λ o. ReadsNextRecord limits.frame g.R.Source
    c.args.self.now.records c.next.new.self
    c.args.reader.now c.next.new.reader (Ok o)) c.in-Some.is
    (c.in_ok-whole.ensures limits.frame was.between) in
    rw (because.1, because.2)
    (refused_judge g.R.Source limits mode bytes c.args.self.now
    messages normal was c.next.new.self c.args.reader.now c.next.new.reader c.in-Some.whole read
    c.judge.new.self (record {
      records = c.next.new.self;
      judge = c.judge.new.self;
      scratch = c.judge.new.scratch;
    }) c.args.text.now.items c.judge.new.out.items _
    (rw c.number-number.ensures at c.in_err-judge.ensures.judges))

pub returns-clause-next : goal.returns-clause-next
returns-clause-next g c = λ limits mode bytes messages normal was.
    let read = subst
    (λ o. ReadsNextRecord limits.frame g.R.Source
    c.args.self.now.records c.next.new.self
    c.args.reader.now c.next.new.reader (Ok o)) c.in-Some.is
    (c.in_ok-whole.ensures limits.frame was.between) in
    rw c.recycle.ensures
    (gone_on g.R.Source limits mode bytes c.args.self.now
    messages normal was c.next.new.self c.args.reader.now c.next.new.reader c.in-Some.whole read
    c.judge.new.self (record {
      records = c.next.new.self;
      judge = c.judge.new.self;
      scratch = c.judge.new.scratch;
    }) c.args.text.now.items c.judge.new.out.items c.in_ok-judge.ensures.limits
    c.in_ok-judge.ensures.mode (c.in_ok-judge.ensures.judges messages normal was.represents))

pub returns-in_err-whole-clause-at_hand : goal.returns-in_err-whole-clause-at_hand
returns-in_err-whole-clause-at_hand g c = λ limits mode bytes messages normal was has.
    nothing_given g.R.Source limits mode bytes c.args.self.now messages normal was c.next.new.self
    c.args.reader.now c.next.new.reader _
    (c.in_err-whole.ensures limits.frame was.between) has

pub returns-in_default-clause-at_hand : goal.returns-in_default-clause-at_hand
returns-in_default-clause-at_hand g c = λ limits mode bytes messages normal was has.
    nothing_given g.R.Source limits mode bytes c.args.self.now messages normal was c.next.new.self
    c.args.reader.now c.next.new.reader _
    (c.in_ok-whole.ensures limits.frame was.between) has

pub returns-in_err-judge-clause-at_hand : goal.returns-in_err-judge-clause-at_hand
returns-in_err-judge-clause-at_hand g c = λ limits mode bytes messages normal was has.
    nothing_given g.R.Source limits mode bytes c.args.self.now messages normal was c.next.new.self
    c.args.reader.now c.next.new.reader _
    (c.in_ok-whole.ensures limits.frame was.between) has

pub returns-clause-at_hand : goal.returns-clause-at_hand
returns-clause-at_hand g c = λ limits mode bytes messages normal was has.
    nothing_given g.R.Source limits mode bytes c.args.self.now messages normal was c.next.new.self
    c.args.reader.now c.next.new.reader _
    (c.in_ok-whole.ensures limits.frame was.between) has
