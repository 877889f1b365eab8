use Rattle.std.proofs.Common.{rules, ◌≡◌, ◌∙◌, ap, Err, take, ◌+◌, ◌++◌, ◌∷◌, []}
use Rattle.dap_rename.specs.Tables.{lists, limits}
use Rattle.dap_rename.specs.declared.name_table.NameFault.TheVariants.{Full}
use Rattle.std.proofs.lemmas.Result.{err_from_is_err_and}
use Rattle.dap_rename.proofs.ListGrowth.{all_begin, grown_step, named_step, over_step}
use Rattle.dap_rename.proofs.tables.Tables.name_all.Goals as goal

pub returns-in_err-name-clause-begins : goal.returns-in_err-name-clause-begins
returns-in_err-name-clause-begins g c =
    rw (c.in_err-name.ensures.refused, c.loop-id.invariant.grown)
    (all_begin (lists g.T.NameTable.numbers c.args.self.now)
    (take c.loop-id.id-index c.args.ids.now))

pub returns-then-is_err-clause-begins : goal.returns-then-is_err-clause-begins
returns-then-is_err-clause-begins g c =
    let L = lists g.T.NameTable.numbers in
    let e = grown_step (L c.args.self.now) (L c.loop-id.self) (L c.name.new.self) c.args.ids.now
    c.loop-id.id-index _ c.loop-id-test.true c.loop-id.invariant.grown
    c.in_ok-name.ensures.grown in
    rw e (all_begin (L c.args.self.now) (take (c.loop-id.id-index + 1) c.args.ids.now))

pub loop-id-preserved : goal.loop-id-preserved
loop-id-preserved g c =
    let L = lists g.T.NameTable.numbers in
    let pushed : c.push.new.self.items ≡ c.loop-id.names.items ++ c.in_ok-name.name ∷ [] =
    search rules in
    record {
      named = named_step (L c.args.self.now) (L c.loop-id.self) c.args.ids.now c.loop-id.id-index _
          c.loop-id.names.items c.push.new.self.items c.in_ok-name.name c.loop-id-test.true
          c.loop-id.invariant.grown c.loop-id.invariant.named c.in_ok-name.ensures.named pushed;
      grown = grown_step (L c.args.self.now) (L c.loop-id.self) (L c.name.new.self) c.args.ids.now
          c.loop-id.id-index _ c.loop-id-test.true c.loop-id.invariant.grown
          c.in_ok-name.ensures.grown;
      same_limits = c.in_ok-name.ensures.same_limits ∙ c.loop-id.invariant.same_limits;
    }

pub returns-clause-begins : goal.returns-clause-begins
returns-clause-begins g c =
    rw c.loop-id.invariant.grown
    (all_begin (lists g.T.NameTable.numbers c.args.self.now)
    (take c.loop-id.id-index c.args.ids.now))

pub returns-in_err-name-clause-full : goal.returns-in_err-name-clause-full
returns-in_err-name-clause-full g c e =
    let p = err_from_is_err_and c.from_residual.result c.from_residual.ensures.1 in
    let is_full : c.in_err-name.field-0.0 ≡ Full = cc (p.1, p.2, e) in
    over_step (limits g.T.NameTable.limit c.args.self.now)
    (limits g.T.NameTable.limit c.loop-id.self) (lists g.T.NameTable.numbers c.args.self.now)
    (lists g.T.NameTable.numbers c.loop-id.self)
    c.args.ids.now c.loop-id.id-index _ c.loop-id-test.true c.loop-id.invariant.grown
    c.loop-id.invariant.same_limits
    (c.in_err-name.ensures.full (ap Err is_full))
