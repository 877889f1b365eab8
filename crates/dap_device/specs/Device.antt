-- The effect of one call of a reader or writer on its bytes, its counts, and whether a flush is
-- due. Source: own. Bytes are `None` if a reader or writer does not report them; a statement about
-- them then claims nothing. The clauses of the traits name these definitions with the members of a
-- reader or writer one by one. The consequences for a complete input or output are stated for the
-- record of its members (`Reading`, `Pieces`, `Written`).
use Rattle.std.specs.Prelude.{◌≡◌, ℕ, ◌+◌, ◌<◌, ◌≤◌, Bool, true, false, List, length, take}
use Rattle.std.specs.Prelude.{Option, Result, Ok, Err}
use Rattle.std.specs.Io.KnownBytes.{Consumes, Keeps, Appends, IsAtEnd}
use Rattle.dap_device.specs.declared.device.DeviceFault.{DeviceFault}

module _ {S : Type 0} (left : S → Option (List ℕ)) (given failures : S → ℕ) where
  -- The read delivered `count` bytes. If it delivered no bytes into a nonempty buffer, no bytes
  -- remain.
  pub record HasGiven (old new : S) (count : ℕ) (buffer : List ℕ) : Type 0 where
    pub fits : count ≤ length buffer
    pub bytes : Consumes (left old) (left new) (take count buffer)
    pub end : count ≡ 0 → 0 < length buffer → IsAtEnd (left new)
    pub counted : given new ≡ given old + count
    pub no_failure : failures new ≡ failures old

  -- The read delivered no bytes, and the failure is counted.
  pub record HasGivenNothing (old new : S) : Type 0 where
    pub bytes : Keeps (left old) (left new)
    pub counted : given new ≡ given old
    pub failure : failures new ≡ failures old + 1

  abbrev pub HasRead : S → S → Result ℕ DeviceFault → List ℕ → Type 0
  HasRead old new (Ok count) buffer = HasGiven old new count buffer
  HasRead old new (Err fault) buffer = HasGivenNothing old new

-- If bytes were written, a flush is due. Otherwise, this is unchanged.
pub record AwaitFlush {S : Type 0} (unflushed : S → Bool) (old new : S) (count : ℕ) : Type 0 where
  pub some : 0 < count → unflushed new ≡ true
  pub none : count ≡ 0 → unflushed new ≡ unflushed old

-- No flush is due.
abbrev pub IsFlushed : {S : Type 0} → (S → Bool) → S → Type 0
IsFlushed unflushed sink = unflushed sink ≡ false

module _ {S : Type 0} (out : S → Option (List ℕ)) (unflushed : S → Bool) (failures : S → ℕ) where
  -- `count` bytes were written. If there were bytes to write and none was written, this is counted
  -- as a failure.
  pub record HasTaken (old new : S) (count : ℕ) (bytes : List ℕ) : Type 0 where
    pub fits : count ≤ length bytes
    pub appended : Appends (out old) (out new) (take count bytes)
    pub awaits : AwaitFlush unflushed old new count
    pub nothing : count ≡ 0 → 0 < length bytes → failures new ≡ failures old + 1
    pub something : 0 < count → failures new ≡ failures old
    pub none_wanted : length bytes ≡ 0 → failures new ≡ failures old

  -- Nothing was written, whether a flush is due is unchanged, and the failure is counted.
  pub record HasTakenNothing (old new : S) : Type 0 where
    pub kept : Keeps (out old) (out new)
    pub awaits : unflushed new ≡ unflushed old
    pub failure : failures new ≡ failures old + 1

  abbrev pub HasWritten : S → S → Result ℕ DeviceFault → List ℕ → Type 0
  HasWritten old new (Ok count) bytes = HasTaken old new count bytes
  HasWritten old new (Err fault) bytes = HasTakenNothing old new

  -- The bytes written are unchanged, and no flush is due.
  pub record HasFlushedAll (old new : S) : Type 0 where
    pub kept : Keeps (out old) (out new)
    pub flushed : IsFlushed unflushed new
    pub no_failure : failures new ≡ failures old

  abbrev pub HasFlushed : {U : Type 0} → S → S → Result U DeviceFault → Type 0
  HasFlushed old new (Ok done) = HasFlushedAll old new
  HasFlushed old new (Err fault) = HasTakenNothing old new
