use Rattle.std.proofs.Common.{rules, ◌≡◌, ◌<◌, length, [], ◌∷◌, ◌++◌}
use Rattle.std.proofs.lemmas.Result.{err_from_is_err_and}
use Rattle.dap_suggest.specs.Hidden.{is_hidden}
use Rattle.dap_suggest.proofs.HiddenValues.{counts_none, counts_pushed, counts_set}
use Rattle.dap_suggest.proofs.tallies.Tally.add_equal.Goals as goal

pub returns-then-actions-eq0-clause-ok : goal.returns-then-actions-eq0-clause-ok
returns-then-actions-eq0-clause-ok c = λ values have actions others.
    rw c.if-actions-eq0.true (counts_none actions others _ values (have actions others))

pub returns-in-Some-clause-ok : goal.returns-in-Some-clause-ok
returns-in-Some-clause-ok c = λ values have actions others.
    let es = c.args.self.now.equal.items in
    let e = c.index_mut.result.now in
    let below : c.in-Some.place < length es = search rules in
    let changing : e.changing ≡ c.args.actions = search rules in
    let same : c.index.result.now ≡ e = search rules in
    rw (c.saturating_add.ensures, same)
    (counts_set (is_hidden actions others) es values c.in-Some.place e c.args.actions below
    c.index_mut.ensures.value changing (have actions others))

pub returns-in_ok-push-in-None-clause-ok : goal.returns-in_ok-push-in-None-clause-ok
returns-in_ok-push-in-None-clause-ok c = λ values have actions others.
    let es = c.args.self.now.equal.items in
    let items : c.push.new.self.items ≡ es ++ record { changing = c.args.actions; count = 1 } ∷ [] =
    search rules in
    rw items
    (counts_pushed (is_hidden actions others) es values c.args.actions (have actions others))

pub returns-in_err-push-in-None-clause-err : goal.returns-in_err-push-in-None-clause-err
returns-in_err-push-in-None-clause-err c = λ values have.
    let items : c.push.new.self.items ≡ c.args.self.now.equal.items = search rules in
    let because = err_from_is_err_and c.from_residual.result c.from_residual.ensures.1 in
    rw (items, because.1) have
