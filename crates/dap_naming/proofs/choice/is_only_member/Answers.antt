use Rattle.std.proofs.Common.{◌∙◌, ap, option_map, sym}
use Rattle.dap_mask.specs.Rules.{place_of}
use Rattle.dap_naming.proofs.Choosing.{only_member, place_here}
use Rattle.dap_naming.proofs.choice.is_only_member.Goals as goal

pub returns-in-Some : goal.returns-in-Some
returns-in-Some c =
    c.is_empty.ensures ∙ sym (place_here c.in-Some.rest.now)
    ∙ only_member c.args.name.now (place_of c.args.place.now) _
    (ap (option_map (λ p. place_of p.now)) (sym c.in-Some.is) ∙ c.after_member.ensures)

pub returns-in-None : goal.returns-in-None
returns-in-None c =
    only_member c.args.name.now (place_of c.args.place.now) _
    (ap (option_map (λ p. place_of p.now)) (sym c.in-None.is) ∙ c.after_member.ensures)
