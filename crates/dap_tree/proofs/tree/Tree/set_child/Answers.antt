use Rattle.std.proofs.Common.{◌∙◌, ap, sym, refl, Some}
use Rattle.dap_tree.specs.View.{view}
use Rattle.dap_tree.proofs.Views.{child_written, child_absent, child_found, child_missing}
use Rattle.dap_tree.proofs.tree.Tree.set_child.Goals as goal

pub returns-in-Some-get_mut-clause-changed : goal.returns-in-Some-get_mut-clause-changed
returns-in-Some-get_mut-clause-changed c =
    child_written c.args.name.now (λ _. view c.args.tree) (view c.args.self.now)
    c.in-Some.members.now _ c.in-Some-get_mut.member.now c.replace.new.dest
    c.in-Some.ensures.value (sym c.in-Some-get_mut.ensures.value)
    (ap view c.replace.ensures.after) (c.get_mut.follows.holds c.replace.new.dest).0

pub returns-in-Some-get_mut-clause-ok : goal.returns-in-Some-get_mut-clause-ok
returns-in-Some-get_mut-clause-ok c =
    child_found c.args.name.now (view c.args.self.now) c.in-Some.members.now.entries
    c.in-Some-get_mut.member.now c.in-Some.ensures.value (sym c.in-Some-get_mut.ensures.value)
    ∙ ap (λ t. Some (view t)) (sym c.replace.ensures.value)

pub returns-in-None-get_mut-clause-changed : goal.returns-in-None-get_mut-clause-changed
returns-in-None-get_mut-clause-changed c =
    child_absent c.args.name.now (λ _. view c.args.tree) (view c.args.self.now)
    c.in-Some.members.now _ c.in-Some.ensures.value (sym c.in-None-get_mut.ensures.value)
    c.get_mut.follows.holds-at-none

pub returns-in-None-get_mut-clause-err : goal.returns-in-None-get_mut-clause-err
returns-in-None-get_mut-clause-err c = (
  child_missing c.args.name.now (view c.args.self.now) c.in-Some.members.now.entries
      c.in-Some.ensures.value (sym c.in-None-get_mut.ensures.value),
  refl,
)
