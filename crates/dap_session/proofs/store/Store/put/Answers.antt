use Rattle.std.proofs.Common.{◌≡◌, ◌==◌, ap, ◌∙◌, w64}
use Rattle.std.specs.Ordering.{int_cmp}
use Rattle.std.specs.BTreeMap.{insert_entry}
use Rattle.std.proofs.lemmas.Int.{to_z-of_z}
use Rattle.dap_session.specs.SessionState.{Others, index_from}
use Rattle.dap_session.specs.Stored.{slots_of}
use Rattle.dap_session.proofs.StoredSlots.{other_put, others_put}
use Rattle.dap_session.proofs.store.Store.put.Goals as goal

pub returns-in_ok-insert-in-None-clause-ok : goal.returns-in_ok-insert-in-None-clause-ok
returns-in_ok-insert-in-None-clause-ok c =
    let entries : c.insert.new.self.entries
    ≡ insert_entry int_cmp c.args.self.now.others.entries c.args.number c.args.request =
    rw (to_z-of_z w64 c.args.number c.ranges.number) at c.in_ok-insert-in-None.ensures.entries in
    let at : c.index_of.result ≡ index_from c.args.self.now.first c.args.number =
    rw (to_z-of_z w64 c.args.number c.ranges.number) at c.index_of.ensures in
    let count = c.args.self.now.slots.ok.0 in
    ap (λ (xs : Others). record {
      first = c.args.self.now.first;
      slots = slots_of c.args.self.now.slots.items;
      others = xs;
    })
    (other_put c.args.number c.args.self.now.others.entries c.insert.new.self.entries
    c.args.request entries)
    ∙ others_put c.args.number c.args.request c.args.self.now.first
    c.args.self.now.slots.items c.args.self.now.others.entries c.index_of.result c.len.result
    (c.len.ensures ∙ count) (c.if-is_empty.ensures ∙ ap (λ k. k == 0) count) at
    c.in-None.ensures.slot
