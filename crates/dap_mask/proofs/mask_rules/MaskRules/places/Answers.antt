use Rattle.std.proofs.Common.{option_map, sym, ap, ◌∙◌}
use Rattle.dap_mask.specs.Index.{positions}
use Rattle.dap_mask.specs.KeptRules.{changes_of}
use Rattle.dap_mask.proofs.mask_rules.MaskRules.places.Goals as goal

pub returns-in-Request : goal.returns-in-Request
returns-in-Request c =
    let name = option_map (λ s. s.now) c.args.name in
    let rules = changes_of c.args.self.now in
    c.places.ensures
    ∙ c.args.self.now.requests_found name
    ∙ ap (λ k. positions k name rules) (sym c.in-Request.is)

pub returns-in-Response : goal.returns-in-Response
returns-in-Response c =
    let name = option_map (λ s. s.now) c.args.name in
    let rules = changes_of c.args.self.now in
    c.places-in-Response.ensures
    ∙ c.args.self.now.responses_found name
    ∙ ap (λ k. positions k name rules) (sym c.in-Response.is)

pub returns-in-Event : goal.returns-in-Event
returns-in-Event c =
    let name = option_map (λ s. s.now) c.args.name in
    let rules = changes_of c.args.self.now in
    c.places-in-Event.ensures
    ∙ c.args.self.now.events_found name
    ∙ ap (λ k. positions k name rules) (sym c.in-Event.is)
