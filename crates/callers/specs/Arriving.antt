-- The model of an input that arrives in chunks.
use Rattle.std.specs.Prelude.{ℕ, ◌<◌, List, [], ◌∷◌, drop, length}
use Rattle.std.specs.Borrow.{Bor}
use Rattle.callers.specs.declared.judged_pieces.Arriving.{Arriving}
use Rattle.callers.specs.Pieces.{joined}

-- The bytes that have not been read.
abbrev pub bytes_left : Arriving → List ℕ
bytes_left input = drop input.read (joined (drop input.at input.pieces.now))

-- The number of bytes that the input has delivered.
abbrev pub given_so_far : Arriving → ℕ
given_so_far input = input.given

-- The first chunk has more than `read` bytes, or there is no chunk.
abbrev pub HasBytes : ℕ → List (Bor (List ℕ)) → Type 0
HasBytes read [] = Unit {0}
HasBytes read (piece ∷ later) = read < length piece.now
