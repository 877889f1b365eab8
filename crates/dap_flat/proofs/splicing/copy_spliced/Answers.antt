use Rattle.std.proofs.Common.{◌≡◌, ◌<◌, ◌≤◌, ◌++◌, cond, length, take, drop, ap, sym, ◌∙◌}
use Rattle.std.proofs.Common.{arith, Result, Ok, Err, is_ok, OnOk, OnErr}
use Rattle.std.proofs.lemmas.List.{at_drop_all}
use Rattle.std.proofs.lemmas.Result.{on_ok_weaker}
use Rattle.dap_flat.specs.Marks.{spliced}
use Rattle.dap_flat.proofs.Marked.{extends_more, extends_through, number_copied}
use Rattle.dap_flat.proofs.splicing.copy_spliced.Goals as goal

on_err : {T E P : Type 0} (r : Result T E) → P → OnErr r P
on_err (Ok x) p = tt
on_err (Err e) p = p

on_ok_by_test : {T E X : Type 0} (r : Result T E) (x y z : X) → x ≡ cond (is_ok r) y z
    → OnOk r (x ≡ y)
on_ok_by_test (Ok t) x y z is = is
on_ok_by_test (Err e) x y z is = tt

pub returns-in_err-copy_to_mark-clause-err : goal.returns-in_err-copy_to_mark-clause-err
returns-in_err-copy_to_mark-clause-err c =
    on_err c.from_residual.result
    (extends_through c.args.out.now.items c.loop-mark.out.items c.copy_to_mark.new.out.items
    c.loop-mark.invariant.more c.in_err-copy_to_mark.ensures.err)

pub loop-mark-preserved : goal.loop-mark-preserved
loop-mark-preserved c =
    let l = c.loop-mark in
    let ms = c.args.marks.now in
    let within : l.mark-index < length ms = omega (arith, c.loop-mark-test.true) in
    record {
      all = number_copied _ l.out.items c.copy_to_mark.new.out.items l.at c.in_ok-at.at l.left.now
          c.after_mark-left.result.now ms l.mark-index _ l.rest.now c.after_first-rest.result.now
          within c.in_ok-copy_to_mark.ensures.ok c.after_first-rest.ensures
          c.after_mark-left.ensures c.in_ok-at.ensures l.invariant.all;
      more = ap (take (length c.args.out.now.items)) c.in_ok-copy_to_mark.ensures.ok
          ∙ extends_more c.args.out.now.items l.out.items _ l.invariant.more;
    }

pub returns-clause-text : goal.returns-clause-text
returns-clause-text c =
    let l = c.loop-mark in
    let ms = c.args.marks.now in
    let ended : length ms ≤ l.mark-index = omega (arith, c.loop-mark-test.false) in
    let last : spliced l.at l.left.now (drop l.mark-index ms) l.rest.now ≡ l.left.now =
    at_drop_all (λ ks. spliced l.at l.left.now ks l.rest.now) ms l.mark-index ended in
    let put : OnOk c.extend_from_slice.result
    (c.extend_from_slice.new.self.items ≡ l.out.items ++ l.left.now) =
    on_ok_by_test c.extend_from_slice.result _ _ _ c.extend_from_slice.ensures.items in
    on_ok_weaker c.extend_from_slice.result
    (λ is. is ∙ ap (λ xs. l.out.items ++ xs) (sym last) ∙ l.invariant.all) put
