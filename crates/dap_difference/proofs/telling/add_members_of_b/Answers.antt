use Rattle.std.proofs.Common.{◌∷◌, ◌++◌, map, Some, None, sym, ap, ◌∙◌}
use Rattle.dap_tree.specs.Path.{name}
use Rattle.dap_tree.specs.View.{view, members_view}
use Rattle.dap_difference.specs.Shown.{path_of, shown_differences}
use Rattle.dap_difference.specs.Telling.{below, members_of_b, only_b}
use Rattle.dap_difference.specs.declared.difference.Step.TheVariants.{Member}
use Rattle.dap_difference.proofs.TreeSteps.{appended_one}
use Rattle.dap_difference.proofs.telling.add_members_of_b.Goals as goal

pub loop-name-preserved : goal.loop-name-preserved
loop-name-preserved c =
    let l = c.loop-name in
    let root = c.args.path.now.items in
    let tree = c.in-Some.member.now in
    let rest = members_of_b (members_view c.next.new.self) in
    let added = c.in_ok-add_behind.ensures in
    record {
      told_so_far = appended_one root l.path.items (Member c.as_str.result) None (Some (view tree))
          l.found.items c.add_behind.new.found.items rest l.invariant.path added.found
          ∙ ap (λ k. shown_differences l.found.items
          ++ map (below (path_of root)) (only_b (name k) (view tree) ∷ rest)) c.as_str.ensures.value
          ∙ ap (λ es. shown_differences l.found.items
          ++ map (below (path_of root)) (members_of_b (members_view es)))
          (sym c.in-Some.ensures.steps)
          ∙ l.invariant.told_so_far;
      path = added.path ∙ l.invariant.path;
    }
