use Rattle.std.proofs.Common.{◌≡◌, None, option_map, ap, ◌∙◌, w64}
use Rattle.std.specs.Ordering.{int_cmp}
use Rattle.std.specs.BTreeMap.{is_at}
use Rattle.std.specs.Map.{lookup}
use Rattle.std.proofs.lemmas.Int.{to_z-of_z}
use Rattle.dap_session.specs.SessionState.{held_slot, found_at}
use Rattle.dap_session.specs.Stored.{stored}
use Rattle.dap_session.proofs.StoredSlots.{lent_other}
use Rattle.dap_session.proofs.store.Store.find.Goals as goal

pub returns-in-None : goal.returns-in-None
returns-in-None c =
    let none : None ≡ held_slot c.args.number (stored c.args.self.now) =
    rw (to_z-of_z w64 c.args.number c.ranges.number) at c.in-None.ensures.slot in
    let got : option_map (λ r. r.now) c.get.result
    ≡ lookup (is_at (int_cmp c.args.number)) c.args.self.now.others.entries =
    rw (to_z-of_z w64 c.args.number c.ranges.number) at c.get.ensures.value in
    lent_other c.args.number c.args.self.now.others.entries c.get.result got
    ∙ ap (λ i. found_at i c.args.number (stored c.args.self.now)) none
