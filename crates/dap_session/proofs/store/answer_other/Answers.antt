use Rattle.std.proofs.Common.{◌≡◌, Some, None, refl, w64, true}
use Rattle.std.specs.Ordering.{int_cmp}
use Rattle.std.specs.BTreeMap.{is_at}
use Rattle.std.specs.Map.{lookup, set_value}
use Rattle.std.proofs.lemmas.Int.{to_z-of_z}
use Rattle.dap_session.specs.declared.store.Request.{Request}
use Rattle.dap_session.proofs.StoredSlots.{other_answered, none_other}
use Rattle.dap_session.proofs.store.answer_other.Goals as goal

pub returns-in-Some : goal.returns-in-Some
returns-in-Some c =
    λ command asked.
    let new : Request = record { command = c.in-Some.request.now.command; answered = true } in
    let found_it : Some c.in-Some.request.now
    ≡ lookup (is_at (int_cmp c.args.number)) c.args.others.now.entries =
    rw (to_z-of_z w64 c.args.number c.ranges.number) at c.in-Some.ensures.value in
    let put : (c.get_mut.follows.lender new).entries
    ≡ set_value (is_at (int_cmp c.args.number)) c.args.others.now.entries new =
    rw (to_z-of_z w64 c.args.number c.ranges.number) at (c.get_mut.follows.holds new).0 in
    other_answered c.args.number c.args.others.now.entries (c.get_mut.follows.lender new).entries
    c.in-Some.request.now new command found_it asked put refl

pub returns-in_default : goal.returns-in_default
returns-in_default c =
    λ command asked.
    let none : None ≡ lookup (is_at (int_cmp c.args.number)) c.args.others.now.entries =
    rw (to_z-of_z w64 c.args.number c.ranges.number) at c.in_default.ensures.value in
    let there = none_other c.args.number c.args.others.now.entries none in
    absurd (cc (asked, there))
