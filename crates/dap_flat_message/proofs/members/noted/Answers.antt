use Rattle.std.proofs.Common.{◌∙◌, sym, ap}
use Rattle.dap_flat_message.specs.Heads.{note}
use Rattle.dap_flat_message.specs.Places.{place_at, word}
use Rattle.dap_flat_message.proofs.Heads.{put_noted, none_noted}
use Rattle.dap_flat_message.proofs.members.noted.Goals as goal

pub returns-in-Some : goal.returns-in-Some
returns-in-Some c j =
    let e = c.args.found in
    let k = c.in-Some.key in
    ap (place_at j) c.with.ensures ∙ put_noted k j c.args.place e
    ∙ ap (λ l. note (word j) l c.args.place (place_at j e)) (sym c.in-Some.ensures)

pub returns-in-None : goal.returns-in-None
returns-in-None c j =
    none_noted j c.args.name.now c.args.place c.args.found (c.in-None.ensures j)
