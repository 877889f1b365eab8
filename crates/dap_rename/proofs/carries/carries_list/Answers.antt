use Rattle.std.proofs.Common.{rules, ◌≤◌, length}
use Rattle.dap_rename.specs.Modes.{stop_in}
use Rattle.dap_rename.proofs.CarriesTest.{list_at_end}
use Rattle.dap_rename.proofs.carries.carries_list.Goals as goal

pub returns : goal.returns
returns c =
    let ended : length c.args.from.now ≤ c.loop-message.message-index = search rules in
    list_at_end c.args.renaming.now.pairs.items (stop_in c.args.mode) c.loop-message.stops
    c.args.from.now c.loop-message.rest.now c.loop-message.message-index c.is_empty.result
    c.args.to.now ended c.loop-message.invariant.same c.is_empty.ensures
