use Rattle.std.proofs.Common.{◌∙◌, arith}
use Rattle.std.proofs.lemmas.List.{get_or_read}
use Rattle.dap_order.proofs.Releasing.{releasing_stands, released_another, released_here}
use Rattle.dap_order.proofs.progress.Progress.release_place.Goals as goal

pub consider-requires-clause-represents : goal.consider-requires-clause-represents
consider-requires-clause-represents c =
    let r = c.requires in
    releasing_stands c.args.plan.now c.args.self.now c.args.group c.args.place r.represents
    r.in_range r.group_in_range r.next r.not_held

pub returns-in_ok-consider : goal.returns-in_ok-consider
returns-in_ok-consider c =
    let r = c.requires in
    released_here c.args.plan.now c.args.self.now c.args.group c.args.place c.args.links.now
    c.consider.new.self r.represents r.group_in_range r.next c.in_ok-consider.ensures

pub returns-else-index-group : goal.returns-else-index-group
returns-else-index-group c =
    let r = c.requires in
    let plan = c.args.plan.now in
    let is =
    get_or_read plan.groups.items c.args.place c.index.result.now (omega (arith, r.in_range))
    c.index.ensures 0 in
    released_another plan c.args.self.now c.args.group c.args.place c.args.links.now r.represents
    r.in_range r.group_in_range r.next r.not_held (λ e. c.if-index-group.false (is ∙ e))
