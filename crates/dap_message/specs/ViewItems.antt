-- The model of the iterators over the views, and of their items.
use Rattle.dap_tree.specs.View.{view}
use Rattle.std.specs.Prelude.{List, map, filter_map}
use Rattle.dap_message.specs.Views.{StackFrame, Scope, Variable, frame_of, scope_of, variable_of}
use Rattle.dap_message.specs.declared.views.FrameView.{FrameView}
use Rattle.dap_message.specs.declared.views.ScopeView.{ScopeView}
use Rattle.dap_message.specs.declared.views.VariableView.{VariableView}
use Rattle.dap_message.specs.declared.listing.Frames.{Frames}
use Rattle.dap_message.specs.declared.listing.Scopes.{Scopes}
use Rattle.dap_message.specs.declared.listing.Variables.{Variables}

-- The view that an item represents.
abbrev pub frame_shown : FrameView → StackFrame
frame_shown v = record { id = v.id; name = v.name.now; line = v.line; column = v.column }

abbrev pub scope_shown : ScopeView → Scope
scope_shown v = record { name = v.name.now; reference = v.reference }

abbrev pub variable_shown : VariableView → Variable
variable_shown v = record { name = v.name.now; value = v.value.now; reference = v.reference }

-- The items that the iterator has not returned yet.
abbrev pub frames_left : Frames → List StackFrame
frames_left it = filter_map frame_of (map view it.elements.now)

abbrev pub scopes_left : Scopes → List Scope
scopes_left it = filter_map scope_of (map view it.elements.now)

abbrev pub variables_left : Variables → List Variable
variables_left it = filter_map variable_of (map view it.elements.now)
