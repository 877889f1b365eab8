use Rattle.std.proofs.Common.{◌≡◌, ◌++◌}
use Rattle.std.specs.List.{flat_map}
use Rattle.dap_message.specs.Message.{doc_of}
use Rattle.dap_message.specs.ViewItems.{frames_left, scopes_left, variables_left}
use Rattle.dap_message.specs.Views.{frames_of, scopes_of}
use Rattle.dap_show.specs.Showing.{frame_line, listed_lines, scope_line, variable_line}
use Rattle.dap_show.proofs.message_lines.tree_lines.Given as goal

-- The lines so far, followed by those of the remaining elements, are all lines.
abbrev pub invariant-loop-frame : goal.invariant-loop-frame
invariant-loop-frame l =
    l.lines.items ++ flat_map frame_line (frames_left l.frame-iterator)
    ≡ flat_map frame_line (frames_of (doc_of l.message))

abbrev pub invariant-loop-scope : goal.invariant-loop-scope
invariant-loop-scope l =
    l.lines.items ++ flat_map scope_line (scopes_left l.scope-iterator)
    ≡ flat_map frame_line (frames_of (doc_of l.message))
    ++ flat_map scope_line (scopes_of (doc_of l.message))

abbrev pub invariant-loop-variable : goal.invariant-loop-variable
invariant-loop-variable l =
    l.lines.items ++ flat_map variable_line (variables_left l.variable-iterator)
    ≡ listed_lines (doc_of l.message)
