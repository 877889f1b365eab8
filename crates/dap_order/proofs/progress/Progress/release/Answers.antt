use Rattle.std.proofs.Common.{get_or, ap, arith, sym, ◌∙◌, ◌+◌}
use Rattle.std.proofs.lemmas.List.{get_or-set_other, get_or-set_same}
use Rattle.dap_order.proofs.Standing.{released_held}
use Rattle.dap_order.proofs.progress.Progress.release.Goals as goal

pub returns-then-is_held : goal.returns-then-is_held
returns-then-is_held c =
    let so_far = c.loop-place.invariant in
    record {
      represents = so_far.represents;
      written = so_far.written;
      others = so_far.others;
      done = released_held c.args.plan.now c.loop-place.self c.args.group c.loop-place.place
          so_far.here (sym c.is_held.ensures ∙ c.if-is_held.true);
      listed = so_far.listed;
    }

pub loop-place-preserved : goal.loop-place-preserved
loop-place-preserved c =
    let so_far = c.loop-place.invariant in
    let one = c.in_ok-release_place.ensures in
    let was = c.loop-place.self.released.items in
    let next = c.loop-place.place + 1 in
    record {
      represents = one.represents;
      written = one.written ∙ so_far.written;
      others = λ other apart. ap (λ v. get_or v other 0) one.released
          ∙ get_or-set_other was c.args.group other next 0 apart ∙ so_far.others other apart;
      here = ap (λ v. get_or v c.args.group 0) one.released
          ∙ get_or-set_same was c.args.group next 0
          (omega (arith, so_far.represents.released_len, c.requires.in_range));
      listed = λ other low was. one.listed other low (so_far.listed other low was);
    }
