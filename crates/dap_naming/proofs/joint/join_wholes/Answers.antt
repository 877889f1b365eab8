use mir.Val.{SFits}
use Rattle.std.specs.Int.{w128}
use Rattle.std.proofs.Common.{◌∙◌, ap, rules, Bor, List, ℕ}
use Rattle.std.proofs.lemmas.Int.{to_z-of_z}
use Rattle.std.proofs.lemmas.Result.{on_ok_weaker}
use Rattle.std.specs.Option.{option_map}
use Rattle.dap_naming.specs.Documents.{integer_text}
use Rattle.dap_naming.specs.Joint.{id_of}
use Rattle.dap_naming.proofs.Joining.{wholes_joined}
use Rattle.dap_naming.proofs.joint.join_wholes.Goals as goal

pub returns-clause-joined : goal.returns-clause-joined
returns-clause-joined c =
    let fits_a : SFits w128 c.args.a = search rules in
    let fits_b : SFits w128 c.args.b = search rules in
    let a = c.in-Some-Some in
    let now = option_map (λ (l : Bor (List ℕ)). l.now) in
    on_ok_weaker c.join_ids.result
    (wholes_joined c.args.names.now c.join_ids.new.names (now c.args.label_a)
    (now c.args.label_b) a.label_a.now a.label_b.now c.args.a c.args.b
    (id_of c.in_ok-token_a.token_a) (id_of c.in_ok-token_b.token_b) (ap now a.is-0)
    (ap now a.is-1)
    (c.in_ok-token_a.ensures
    ∙ ap (λ z. (a.label_a.now, integer_text z)) (to_z-of_z w128 c.args.a fits_a))
    (c.in_ok-token_b.ensures
    ∙ ap (λ z. (a.label_b.now, integer_text z)) (to_z-of_z w128 c.args.b fits_b)))
    c.join_ids.ensures.joined
