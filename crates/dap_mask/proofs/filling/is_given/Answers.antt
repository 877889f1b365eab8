use Rattle.dap_tree.specs.View.{view}
use Rattle.dap_tree.proofs.Views.{view-lookup, view_of_ref}
use Rattle.std.proofs.Common.{◌∙◌, ap}
use Rattle.std.specs.Option.{option_map}
use Rattle.dap_message.specs.Capabilities.{is_given}
use Rattle.dap_mask.proofs.filling.is_given.Goals as goal

pub returns : goal.returns
returns c =
    c.is_more_than_null.ensures
    ∙ ap is_given (view_of_ref c.get.result ∙ ap (option_map view) c.get.ensures.value
    ∙ view-lookup c.args.name.now c.args.members.now.entries)
