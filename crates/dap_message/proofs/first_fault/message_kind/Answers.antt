use Rattle.dap_tree.specs.View.{view}
use Rattle.dap_tree.proofs.Views.{view-Object}
use Rattle.std.proofs.Common.{◌≡◌, true, sym}
use Rattle.dap_message.specs.Places.{is_object}
use Rattle.dap_message.proofs.AskedRows.{fault-asked}
use Rattle.dap_message.proofs.first_fault.message_kind.Goals as goal

pub returns-in-Some-clause-rows : goal.returns-in-Some-clause-rows
returns-in-Some-clause-rows c =
    let object : is_object (view c.args.tree.now) ≡ true = rw (c.in-Object.is, view-Object) in
    fault-asked (view c.args.tree.now) c.in-Some.kind object (sym c.in-Some.ensures)
