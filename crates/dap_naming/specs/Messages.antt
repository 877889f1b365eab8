-- Lists of messages with declared ids. A message is a document with the rules that apply to it.
use Rattle.std.specs.Prelude.{Bool, true, ◌&&◌, List, [], ◌∷◌, ◌++◌, map}
use Rattle.dap_tree.specs.Doc.{Doc}
use Rattle.dap_tokens.specs.Naming.{Id, Numbering}
use Rattle.dap_naming.specs.Numbers.{number}
use Rattle.dap_naming.specs.Documents.{Declared, ids_of, named_doc, skeleton_doc, are_sound}

abbrev pub Message : Type 0
Message = List Declared × Doc

abbrev pub all_sound : List Message → Bool
all_sound [] = true
all_sound (m ∷ ms) = are_sound m.0 && all_sound ms

-- The declared ids of all messages, in order.
abbrev pub ids_of_all : List Message → List Id
ids_of_all [] = []
ids_of_all (m ∷ ms) = ids_of m.0 m.1 ++ ids_of_all ms

abbrev pub named_each : Numbering → List Message → List Message
named_each number ms = map (λ m. (m.0, named_doc m.0 number m.1)) ms

-- The list with each id replaced by its name (own): its number among the ids of the whole list.
abbrev pub named_all : List Message → List Message
named_all ms = named_each (number (ids_of_all ms)) ms

-- The list with each id replaced by the name of 1.
abbrev pub skeletons : List Message → List Message
skeletons ms = map (λ m. (m.0, skeleton_doc m.0 m.1)) ms
