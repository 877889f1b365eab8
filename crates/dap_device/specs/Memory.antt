-- The models of the readers and writers over memory.
use Rattle.std.specs.Prelude.{ℕ, ◌-◌, Bool, List, length, min}

-- the remaining bytes, and the number of bytes delivered
pub record GivenBytes : Type 0 where
  pub left : List ℕ
  pub given : ℕ

-- the bytes written, the size of the buffer, whether a flush is due, and the number of failed
-- writes
pub record TakenBytes : Type 0 where
  pub out : List ℕ
  pub room : ℕ
  pub unflushed : Bool
  pub failures : ℕ

-- the number of these bytes that a write accepts: as many as fit into the buffer
abbrev pub count_that_fits : TakenBytes → List ℕ → ℕ
count_that_fits sink bytes = min (length bytes) (sink.room - length sink.out)
