use Rattle.std.proofs.Common.{◌<◌, ◌≤◌, ◌++◌, take, length, sym, subst, arith}
use Rattle.std.proofs.lemmas.List.{append-nil, take_all}
use Rattle.dap_recording.specs.Count.{IsCountOf}
use Rattle.dap_recording.proofs.TraceSteps.{on, ended_at}
use Rattle.dap_recording.proofs.count.count_end.Goals as goal

pub loop-at-init : goal.loop-at-init
loop-at-init c = record {
  within = omega arith;
  counted = λ text was. subst (IsCountOf c.args.start) (sym (append-nil text)) was;
}

pub loop-at-preserved : goal.loop-at-preserved
loop-at-preserved c =
    let inside : c.loop-at.at < length c.args.rest.now = omega arith in
    record {
      within = omega arith;
      counted = λ text was. on c.in-More.next text c.args.rest.now c.loop-at.at inside
          (c.in-More.ensures (text ++ take c.loop-at.at c.args.rest.now)
          (c.loop-at.invariant.counted text was));
    }

pub returns-in-Ended-clause-ends : goal.returns-in-Ended-clause-ends
returns-in-Ended-clause-ends c = λ text was.
    let inside : c.loop-at.at < length c.args.rest.now = omega arith in
    let had = c.loop-at.invariant.counted text was in
    let got = c.in-Ended.ensures (text ++ take c.loop-at.at c.args.rest.now) had in (
      text ++ take c.loop-at.at c.args.rest.now,
      ended_at text c.args.rest.now c.loop-at.at inside got.0,
      got.1,
      had.number,
    )

pub returns-in-Bad-clause-ends : goal.returns-in-Bad-clause-ends
returns-in-Bad-clause-ends c = λ text was.
    let inside : c.loop-at.at < length c.args.rest.now = omega arith in
    let had = c.loop-at.invariant.counted text was in
    (c.loop-at.at, inside, c.in-Bad.ensures (text ++ take c.loop-at.at c.args.rest.now) had)

pub returns-clause-ends : goal.returns-clause-ends
returns-clause-ends c = λ text was.
    let all : length c.args.rest.now ≤ c.loop-at.at = omega arith in
    subst (λ xs. IsCountOf c.loop-at.count (text ++ xs)) (take_all c.loop-at.at c.args.rest.now all)
    (c.loop-at.invariant.counted text was)
