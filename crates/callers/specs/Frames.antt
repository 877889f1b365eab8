-- The stack frames in a content. Source: DAP specification, `StackTraceResponse`, over the
-- library's view of a message.
use Rattle.std.specs.Prelude.{◌≡◌, ℕ, ℤ, List, map, string_bytes}
use Rattle.dap_tree.specs.Doc.{Doc}
use Rattle.dap_tree.specs.Json.{IsRead, ExplainsText}
use Rattle.dap_tree.specs.declared.side.Side.TheVariants.{Adapter}
use Rattle.dap_message.specs.Message.{IsTypedContent, Refuses}
use Rattle.dap_message.specs.Views.{StackFrame, frames_of}
use Rattle.callers.specs.declared.told_frames.Place.{Place}
use Rattle.callers.specs.declared.told_frames.NoFrames.{NoFrames}
use Rattle.callers.specs.declared.told_frames.NoFrames.TheVariants.{Tree, Message, Memory}

-- The two parts of a location: the bytes of the function's name, and the line.
abbrev pub reported : Place → List ℕ × ℤ
reported place = (string_bytes place.function, place.line)

-- The same two parts of a stack frame.
abbrev pub place_of_frame : StackFrame → List ℕ × ℤ
place_of_frame frame = (frame.name, frame.line)

-- The content is a message of an adapter, and these are the locations of the frames that it lists,
-- in its order.
pub record TellsFrames (content : List ℕ) (places : List Place) : Type 0 where
  pub message : Doc
  pub is_message : IsTypedContent Adapter content message
  pub same : map reported places ≡ map place_of_frame (frames_of message)

-- The content is not a tree, or the tree is not a message, for this reason.
abbrev pub Explains : List ℕ → NoFrames → Type 0
Explains content (Tree fault) = ExplainsText content fault
Explains content (Message fault) = (d : Doc) × IsRead content d × Refuses d fault
Explains content Memory = Unit {0}
