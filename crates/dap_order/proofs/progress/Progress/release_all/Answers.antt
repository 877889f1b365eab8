use Rattle.std.proofs.Common.{◌+◌, ◌≡◌, ◌≤◌, ℕ, get_or, inl, inr, sym, arith, subst, ap, ◌∙◌}
use Rattle.std.proofs.lemmas.Bool.{cases_eq}
use Rattle.std.proofs.lemmas.List.{get_or_read}
use Rattle.dap_order.specs.Progress.{IsReleased}
use Rattle.dap_order.proofs.Standing.{released_stays}
use Rattle.dap_order.proofs.progress.Progress.release_all.Goals as goal
use Rattle.dap_order.proofs.progress.Progress.release_all.Goals.{then-index-next+in_ok-release}
use Rattle.dap_order.proofs.progress.Progress.release_all.Goals.{else-index-next}

pub loop-group-preserved : goal.loop-group-preserved
loop-group-preserved c =
    let so_far = c.loop-group.invariant.below in
    let rest = c.loop-group.invariant.rest in
    let plan = c.args.plan.now in
    let old = c.loop-group.self in
    let at = c.loop-group.group in
    elim c.if-index-next.branch [
      | then-index-next+in_ok-release w ↦ (
          let one = w.in_ok-release.ensures in
          rw w.self-is (record {
            below = record {
              represents = one.represents;
              written = one.written ∙ so_far.written;
              done = λ group below. elim (cases_eq group at) [
                | inl same ↦ subst (IsReleased plan w.release.new.self) (sym same) one.done
                | inr apart ↦ released_stays plan old w.release.new.self group
                    (one.others group apart) one.written (so_far.done group (omega arith))
              ];
              listed = λ other low was. one.listed other low (so_far.listed other low was);
            };
            rest = λ other above. one.others other (omega arith) ∙ rest other (omega arith);
          })
          )
      | else-index-next w ↦ (
          let low = c.loop-group-test.true in
          let same = rest at (omega arith) in
          let is = get_or_read old.released.items at c.index.result.now
          (omega (arith, low, so_far.represents.released_len, plan.blocks.ok.0)) c.index.ensures 0 in
          rw w.self-is (record {
            below = record {
              represents = so_far.represents;
              written = so_far.written;
              done = λ group below. elim (cases_eq group at) [
                | inl here ↦ subst (IsReleased plan old) (sym here)
                    (released_stays plan c.args.self.now old at same so_far.written
                    (c.requires.released at (omega (arith, low, plan.blocks.ok.0))
                    (λ e. w.if-index-next.false (is ∙ same ∙ e))))
                | inr apart ↦ so_far.done group (omega arith)
              ];
              listed = so_far.listed;
            };
            rest = λ other above. rest other (omega arith);
          })
          )
    ]
