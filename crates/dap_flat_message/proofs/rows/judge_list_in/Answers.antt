use Rattle.std.proofs.Common.{◌∷◌, option_map}
use Rattle.std.proofs.lemmas.Result.{IfOk-weaker}
use Rattle.dap_profile.specs.PlaceSteps.{named, each}
use Rattle.dap_flat_message.specs.Judging.{Judges, part_steps}
use Rattle.dap_flat_message.proofs.Judged.{through, nothing_inside}
use Rattle.dap_flat_message.proofs.rows.judge_list_in.Goals as goal

pub returns-in-Some : goal.returns-in-Some
returns-in-Some c =
    let ns = c.args.nodes.now in
    let k = c.args.name.now in
    IfOk-weaker c.judge_list.result
    (Judges ns c.in-Some.place (each ∷ (part_steps (option_map (λ s. s.now) c.args.part)))
    c.args.want c.args.needed)
    (Judges ns c.args.at (named k ∷ each ∷ (part_steps (option_map (λ s. s.now) c.args.part)))
    c.args.want c.args.needed)
    (λ found judged. through ns c.args.at c.in-Some.place k (each)
    ((part_steps (option_map (λ s. s.now) c.args.part))) c.args.want c.args.needed
    found c.in_ok-place.field-0 c.in_ok-place.ensures c.in-Some.is judged)
    c.judge_list.ensures

pub returns-in-None : goal.returns-in-None
returns-in-None c =
    nothing_inside c.args.nodes.now c.args.at c.args.name.now (each)
    ((part_steps (option_map (λ s. s.now) c.args.part))) c.args.want
    c.args.needed c.in_ok-place.field-0 c.in_ok-place.ensures c.in-None.is
