use Rattle.std.proofs.Common.{option_and_then, ap, ◌∙◌}
use Rattle.dap_tree.specs.View.{view}
use Rattle.dap_profile.specs.PlaceSteps.{steps_of}
use Rattle.dap_message.specs.FirstBreak.{Found}
use Rattle.dap_message.specs.Rows.{cause_against}
use Rattle.dap_message.proofs.FirstBreaks.{cause_of_break}
use Rattle.dap_message.proofs.broken_rows.cause_of.Goals as goal

pub returns-in-Some : goal.returns-in-Some
returns-in-Some c =
    let row = c.args.row.now in
    c.judge.ensures
    ∙ ap (option_and_then (λ (f : Found). cause_against row.want row.needed f.1)) c.in-Some.ensures
    ∙ cause_of_break (steps_of row.place) row.want row.needed (view c.args.tree.now)

pub returns-in-None : goal.returns-in-None
returns-in-None c =
    let row = c.args.row.now in
    ap (option_and_then (λ (f : Found). cause_against row.want row.needed f.1)) c.in-None.ensures
    ∙ cause_of_break (steps_of row.place) row.want row.needed (view c.args.tree.now)
