use Rattle.std.proofs.Common.{[], ◌∷◌}
use Rattle.std.proofs.lemmas.Result.{IfOk-weaker}
use Rattle.dap_profile.specs.PlaceSteps.{named}
use Rattle.dap_flat_message.specs.Judging.{Judges}
use Rattle.dap_flat_message.proofs.Judged.{through, nothing_inside}
use Rattle.dap_flat_message.proofs.rows.judge_below.Goals as goal

pub returns-in-Some : goal.returns-in-Some
returns-in-Some c =
    let ns = c.args.nodes.now in
    let k = c.args.outer.now in
    IfOk-weaker c.judge_member.result
    (Judges ns c.in-Some.place (named c.args.inner.now ∷ []) c.args.want c.args.needed)
    (Judges ns c.args.at (named k ∷ named c.args.inner.now ∷ []) c.args.want c.args.needed)
    (λ found judged. through ns c.args.at c.in-Some.place k (named c.args.inner.now) ([])
    c.args.want c.args.needed
    found c.in_ok-place.field-0 c.in_ok-place.ensures c.in-Some.is judged)
    c.judge_member.ensures

pub returns-in-None : goal.returns-in-None
returns-in-None c =
    nothing_inside c.args.nodes.now c.args.at c.args.outer.now (named c.args.inner.now) ([])
    c.args.want
    c.args.needed c.in_ok-place.field-0 c.in_ok-place.ensures c.in-None.is
