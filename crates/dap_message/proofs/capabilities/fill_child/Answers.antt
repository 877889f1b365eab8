use Rattle.dap_tree.specs.View.{view}
use Rattle.dap_tree.proofs.Views.{child_written, child_absent}
use Rattle.std.proofs.Common.{sym, map}
use Rattle.std.specs.Prelude.{codes}
use Rattle.dap_message.specs.Capabilities.{false_at}
use Rattle.dap_message.proofs.capabilities.fill_child.Goals as goal

pub returns-in_ok-fill_body-in-Some-get_mut : goal.returns-in_ok-fill_body-in-Some-get_mut
returns-in_ok-fill_body-in-Some-get_mut c =
    child_written (codes "body") (false_at (map (λ n. n.now) c.args.names.now))
    (view c.args.tree.now) c.in-Some.members.now _ c.in-Some-get_mut.body.now
    c.fill_body.new.body c.in-Some.ensures.value (sym c.in-Some-get_mut.ensures.value)
    c.in_ok-fill_body-in-Some-get_mut.ensures
    (c.get_mut.follows.holds c.fill_body.new.body).0

pub returns-in-None-get_mut : goal.returns-in-None-get_mut
returns-in-None-get_mut c =
    child_absent (codes "body") (false_at (map (λ n. n.now) c.args.names.now))
    (view c.args.tree.now) c.in-Some.members.now _ c.in-Some.ensures.value
    (sym c.in-None-get_mut.ensures.value) c.get_mut.follows.holds-at-none
