use Rattle.std.proofs.Common.{[], ◌∷◌, sym}
use Rattle.std.proofs.lemmas.Result.{IfOk-weaker}
use Rattle.dap_profile.specs.PlaceSteps.{named}
use Rattle.dap_flat.specs.declared.node.Node.TheVariants as node
use Rattle.dap_flat_message.specs.Judging.{Judges, JudgesTop}
use Rattle.dap_flat_message.proofs.Judged.{top_judged, absent_top}
use Rattle.dap_flat_message.proofs.rows.judge_top.Goals as goal

pub returns-in-Some : goal.returns-in-Some
returns-in-Some c =
    let ns = c.args.nodes.now in
    let e = c.args.found.now in
    let k = c.args.name.now in
    IfOk-weaker c.judge_value.result (Judges ns c.in-Some.place [] c.args.want c.args.needed)
    (JudgesTop ns e (named k ∷ []) c.args.want c.args.needed)
    (λ found judged. top_judged ns e c.in-Some.place node.Null k c.args.want c.args.needed
    found c.in_ok-place.field-0 c.in_ok-place.ensures c.in-Some.is
    (sym c.if-not-is_object.ensures) judged)
    c.judge_value.ensures

pub returns-in-None : goal.returns-in-None
returns-in-None c =
    absent_top c.args.nodes.now c.args.found.now node.Null c.args.name.now c.args.want
    c.args.needed c.judge_absent.result c.in_ok-place.field-0 c.in_ok-place.ensures c.in-None.is
    (sym c.if-not-is_object.ensures) (λ n. c.judge_absent.ensures n c.args.want)
