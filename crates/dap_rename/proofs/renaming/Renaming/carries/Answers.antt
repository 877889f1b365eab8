use Rattle.std.proofs.Common.{◌≡◌, ◌∙◌, sym, map}
use Rattle.dap_message.specs.Message.{sent}
use Rattle.dap_rename.specs.Carrying.{carries_list}
use Rattle.dap_rename.specs.Modes.{stop_in}
use Rattle.dap_rename.proofs.CarriesTest.{list_carried, carried_list}
use Rattle.dap_rename.proofs.Stops.{mode_is_told}
use Rattle.dap_rename.proofs.renaming.Renaming.carries.Goals as goal

pub returns : goal.returns
returns c =
    let ps = c.args.self.now.pairs.items in
    let stop = stop_in c.args.mode in
    let reported = mode_is_told c.args.mode in
    let ms = map sent c.args.from.now in
    let ns = map sent c.args.to.now in
    let e : c.carries_list.result ≡ carries_list ps stop 0 ms ns = c.carries_list.ensures in (
      (λ h. list_carried ps stop reported 0 ms ns (sym e ∙ h)),
      (λ h. e ∙ carried_list ps stop reported 0 ms ns h.0 h.1),
    )
