use Rattle.std.proofs.Common.{◌∙◌, sym, refl}
use Rattle.dap_tree.specs.View.{view}
use Rattle.dap_tree.proofs.Views.{child_written, child_absent, child_found, child_missing}
use Rattle.dap_tree.proofs.Views.{change_nothing}
use Rattle.dap_tree.proofs.tree.Tree.with_child.Goals as goal

pub returns-in-Some-get_mut-clause-changed : goal.returns-in-Some-get_mut-clause-changed
returns-in-Some-get_mut-clause-changed g c = λ change does.
    child_written c.args.name.now change (view c.args.self.now) c.in-Some.members.now _
    c.in-Some-get_mut.member.now c.f.new.arg2 c.in-Some.ensures.value
    (sym c.in-Some-get_mut.ensures.value)
    (does c.in-Some-get_mut.member.now c.f.new.arg2
    (record { shown = _; shows = refl; left = _; met = c.f.ensures; leaves = refl }))
    (c.get_mut.follows.holds c.f.new.arg2).0

pub returns-in-Some-get_mut-clause-called : goal.returns-in-Some-get_mut-clause-called
returns-in-Some-get_mut-clause-called g c =
    let d = view c.args.self.now in
    let lent = c.in-Some-get_mut.member.now in
    let left = c.f.new.arg2 in
    let written =
    child_written c.args.name.now (λ _. view left) d c.in-Some.members.now _ lent left
    c.in-Some.ensures.value (sym c.in-Some-get_mut.ensures.value) refl
    (c.get_mut.follows.holds left).0 in
    rw (child_found c.args.name.now d c.in-Some.members.now.entries lent c.in-Some.ensures.value
    (sym c.in-Some-get_mut.ensures.value)) (
      lent,
      left,
      refl,
      record { shown = _; shows = refl; left = _; met = c.f.ensures; leaves = refl },
      written,
    )

pub returns-in_default-get_mut-clause-changed : goal.returns-in_default-get_mut-clause-changed
returns-in_default-get_mut-clause-changed g c = λ change does.
    child_absent c.args.name.now change (view c.args.self.now) c.in-Some.members.now _
    c.in-Some.ensures.value (sym c.in_default-get_mut.ensures.value)
    c.get_mut.follows.holds-at-none

pub returns-in_default-get_mut-clause-called : goal.returns-in_default-get_mut-clause-called
returns-in_default-get_mut-clause-called g c =
    let d = view c.args.self.now in
    let same = child_absent c.args.name.now (λ e. e) d c.in-Some.members.now _
    c.in-Some.ensures.value (sym c.in_default-get_mut.ensures.value)
    c.get_mut.follows.holds-at-none in
    rw (child_missing c.args.name.now d c.in-Some.members.now.entries c.in-Some.ensures.value
    (sym c.in_default-get_mut.ensures.value)) (same ∙ change_nothing c.args.name.now d)
