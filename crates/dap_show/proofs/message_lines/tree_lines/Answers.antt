use Rattle.std.proofs.Common.{ap}
use Rattle.std.specs.List.{flat_map}
use Rattle.dap_message.specs.Message.{doc_of}
use Rattle.dap_message.specs.ViewItems.{variables_left}
use Rattle.dap_show.specs.Showing.{listed_lines, variable_line}
use Rattle.dap_show.proofs.AppendedLines.{one_part}
use Rattle.dap_show.proofs.message_lines.tree_lines.Goals as goal

pub loop-variable-preserved : goal.loop-variable-preserved
loop-variable-preserved c =
    one_part c.loop-variable.lines.items c.push_variable.new.out.items _
    (flat_map variable_line (variables_left c.next-in-loop-variable.new.self))
    (flat_map variable_line (variables_left c.loop-variable.variable-iterator))
    (listed_lines (doc_of c.args.message.now)) c.in_ok-push_variable.ensures
    (ap (flat_map variable_line) c.in-Some-variable.ensures.steps) c.loop-variable.invariant
