-- The model of a sink that writes into memory, and when a command function that writes to it is out
-- of memory. Source: own.
use Rattle.std.specs.Prelude.{ℕ, Bool, List}
use Rattle.dap_input.specs.declared.refused.Refused.{Refused}
use Rattle.dap_input.specs.declared.refused.Refused.TheVariants.{Memory, WriteFault}

-- The bytes that were written, whether some of them have not been flushed, and the number of writes
-- that failed.
pub record WrittenBytes : Type 0 where
  pub out : List ℕ
  pub unflushed : Bool
  pub failures : ℕ

-- An allocation failed: in the command function, or in a write.
abbrev pub IsOutOfMemory : Refused → Type 0
IsOutOfMemory Memory = Unit {0}
IsOutOfMemory WriteFault = Unit {0}
IsOutOfMemory refused = ⊥
