use Rattle.std.proofs.Common.{[], Ok, refl, subst}
use Rattle.std.proofs.lemmas.Result.{err_from_is_err_and}
use Rattle.dap_input.specs.RecordSteps.{ReadsNextRecord}
use Rattle.dap_normalise.proofs.NormalRecordSteps.{refused_read, none_left, refused_judge, stored_on}
use Rattle.dap_normalise.proofs.normal_records.NormalRecords.store_next.Goals as goal

pub returns-in_err-whole : goal.returns-in_err-whole
returns-in_err-whole g c = λ limits mode bytes messages normal was.
    let because = err_from_is_err_and c.from_residual.result c.from_residual.ensures.1 in
    rw (because.1, because.2)
    (refused_read g.R.Source limits mode bytes c.args.self.now
    messages normal was c.next.new.self c.args.reader.now c.next.new.reader _
    (c.in_err-whole.ensures limits.frame was.between))

pub returns-in_default : goal.returns-in_default
returns-in_default g c = λ limits mode bytes messages normal was. (
  [],
  none_left g.R.Source limits mode bytes c.args.self.now
      messages normal was c.next.new.self c.args.reader.now c.next.new.reader []
      (subst (λ o. ReadsNextRecord limits.frame
      g.R.Source c.args.self.now.records c.next.new.self
      c.args.reader.now c.next.new.reader (Ok o)) c.in_default.is
      (c.in_ok-whole.ensures limits.frame was.between)),
  refl,
)

pub returns-in_err-store : goal.returns-in_err-store
returns-in_err-store g c = λ limits mode bytes messages normal was.
    let because =
    err_from_is_err_and c.from_residual-in_err-store.result
    c.from_residual-in_err-store.ensures.1 in
    let read = subst
    (λ o. ReadsNextRecord limits.frame g.R.Source
    c.args.self.now.records c.next.new.self
    c.args.reader.now c.next.new.reader (Ok o)) c.in-Some.is
    (c.in_ok-whole.ensures limits.frame was.between) in
    rw (because.1, because.2)
    (refused_judge g.R.Source limits mode bytes c.args.self.now
    messages normal was c.next.new.self c.args.reader.now c.next.new.reader c.in-Some.whole read
    c.store.new.self (record {
      records = c.next.new.self;
      judge = c.store.new.self;
      scratch = c.store.new.scratch;
    }) [] [] _
    (rw c.number-number.ensures at c.in_err-store.ensures.checks))

pub returns : goal.returns
returns g c = λ limits mode bytes messages normal was.
    let read = subst
    (λ o. ReadsNextRecord limits.frame g.R.Source
    c.args.self.now.records c.next.new.self
    c.args.reader.now c.next.new.reader (Ok o)) c.in-Some.is
    (c.in_ok-whole.ensures limits.frame was.between) in
    let added = c.in_ok-store.ensures.checks messages normal was.represents in
    let stored = c.in_ok-store.ensures.stored in
    rw c.recycle.ensures
    (stored_on g.R.Source limits mode bytes c.args.self.now
    messages normal was c.next.new.self c.args.reader.now c.next.new.reader c.in-Some.whole read
    c.store.new.self (record {
      records = c.next.new.self;
      judge = c.store.new.self;
      scratch = c.store.new.scratch;
    }) added.0 c.in_ok-store.ensures.limits c.in_ok-store.ensures.mode added.1
    stored.0 stored.1 _ _ stored.2)
