use Rattle.std.proofs.Common.{[], ◌∷◌}
use Rattle.std.proofs.lemmas.Result.{IfOk-weaker}
use Rattle.dap_profile.specs.PlaceSteps.{named, each}
use Rattle.dap_flat_message.specs.Judging.{Judges, JudgesTop}
use Rattle.dap_flat_message.proofs.Judged.{through_top, nothing_top}
use Rattle.dap_flat_message.proofs.rows.judge_parts.Goals as goal

pub returns-in-Some : goal.returns-in-Some
returns-in-Some c =
    let ns = c.args.nodes.now in
    let e = c.args.found.now in
    let k = c.args.outer.now in
    let p = named c.args.inner.now in
    let ps = each ∷ named c.args.part.now ∷ [] in
    IfOk-weaker c.judge_list_in.result
    (Judges ns c.in-Some.place (p ∷ ps) c.args.want c.args.needed)
    (JudgesTop ns e (named k ∷ p ∷ ps) c.args.want c.args.needed)
    (λ found judged. through_top ns e c.in-Some.place k p ps c.args.want c.args.needed found
    c.in_ok-place.field-0 c.in_ok-place.ensures c.in-Some.is judged)
    c.judge_list_in.ensures

pub returns-in-None : goal.returns-in-None
returns-in-None c =
    nothing_top c.args.nodes.now c.args.found.now c.args.outer.now (named c.args.inner.now)
    (each ∷ named c.args.part.now ∷ [])
    c.args.want c.args.needed c.in_ok-place.field-0 c.in_ok-place.ensures c.in-None.is
