use Rattle.std.proofs.Common.{◌∙◌, ap}
use Rattle.dap_tree.specs.View.{view}
use Rattle.std.specs.Option.{option_map}
use Rattle.dap_tree.proofs.Views.{view-Object, view-lookup, view_of_ref}
use Rattle.dap_tree.proofs.tree.Tree.child.Goals as goal

pub returns-in-Object : goal.returns-in-Object
returns-in-Object c =
    rw (c.in-Object.is, view-Object c.in-Object.members)
    (view_of_ref c.get.result ∙ ap (option_map view) c.get.ensures.value
    ∙ view-lookup c.args.name.now c.in-Object.members.entries)
