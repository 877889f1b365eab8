use Rattle.std.proofs.Common.{[], refl, sym, subst, arith, take_all}
use Rattle.dap_stored.specs.Sessions.{messages_of, stored_sent}
use Rattle.dap_compare.proofs.SessionComparing.{none_past}
use Rattle.dap_diff.proofs.EntryLists.{AreUpTo, are_entries, one_more}
use Rattle.dap_diff.proofs.entries.entries_of.Goals as goal

pub loop-place-init : goal.loop-place-init
loop-place-init c =
    subst (λ es. AreUpTo stored_sent c.args.mode 0 1 [] es 0) (sym c.in_ok-entries.ensures.items)
    refl

pub unreachable-requires : goal.unreachable-requires
unreachable-requires c =
    let past =
    none_past (messages_of c.args.session.now) c.loop-place.place (sym c.in_default.ensures) in
    omega (arith, past, c.loop-place-test.true, c.len-place-end.ensures)

pub loop-place-preserved : goal.loop-place-preserved
loop-place-preserved c =
    one_more stored_sent c.args.mode (messages_of c.args.session.now) c.loop-place.place
    (stored_sent c.in-Some.message) c.loop-place.entries.items c.push.new.self.items
    c.loop-place.stop _ c.in_ok-new.field-0 c.in-Some.ensures c.loop-place.invariant
    c.in_ok-new.ensures c.in_ok-push.ensures.items c.stop_after-stop.ensures

pub returns : goal.returns
returns c =
    let ms = messages_of c.args.session.now in
    are_entries stored_sent c.args.mode 0 1 ms c.loop-place.entries.items c.loop-place.stop
    (subst (λ xs. AreUpTo stored_sent c.args.mode 0 1 xs c.loop-place.entries.items
    c.loop-place.stop)
    (take_all c.loop-place.place ms
    (omega (arith, c.loop-place-test.false, c.len-place-end.ensures))) c.loop-place.invariant)
