-- The effect of writing a complete output on its sink. Source: own.
use Rattle.std.specs.Prelude.{◌≡◌, ℕ, ◌+◌, ◌≤◌, List, length, take, Result, Ok, Err}
use Rattle.std.specs.Io.KnownBytes.{Appends}
use Rattle.dap_device.specs.Device.{AwaitFlush, IsFlushed}
use Rattle.dap_device.specs.declared.device.DeviceFault.{DeviceFault}
use Rattle.dap_device.specs.declared.device.Sink.{Ghosts as Sink}

module _ {S : Type 0} (sink : Sink S) where
  -- All bytes were written; a flush is due for them.
  pub record AllWritten (old new : S) (bytes : List ℕ) : Type 0 where
    pub appended : Appends (sink.out old) (sink.out new) bytes
    pub awaits : AwaitFlush sink.unflushed old new (length bytes)
    pub no_failure : sink.failures new ≡ sink.failures old

  -- All bytes were written and flushed.
  pub record AllSent (old new : S) (bytes : List ℕ) : Type 0 where
    pub appended : Appends (sink.out old) (sink.out new) bytes
    pub flushed : IsFlushed sink.unflushed new
    pub no_failure : sink.failures new ≡ sink.failures old

  -- A prefix of the bytes, possibly all of them, was written; a flush is due for it. Then the sink
  -- failed.
  pub record PrefixWritten (old new : S) (bytes : List ℕ) : Type 0 where
    pub count : ℕ
    pub within : count ≤ length bytes
    pub appended : Appends (sink.out old) (sink.out new) (take count bytes)
    pub awaits : AwaitFlush sink.unflushed old new count
    pub failure : sink.failures new ≡ sink.failures old + 1

  -- All bytes were written; or a prefix of them was, and the sink failed.
  abbrev pub HasWrittenAll : {U : Type 0} → S → S → Result U DeviceFault → List ℕ → Type 0
  HasWrittenAll old new (Ok done) bytes = AllWritten old new bytes
  HasWrittenAll old new (Err fault) bytes = PrefixWritten old new bytes

  -- All bytes were written and flushed; or a prefix of them, possibly all, was written, and the
  -- sink failed.
  abbrev pub HasSentAll : {U : Type 0} → S → S → Result U DeviceFault → List ℕ → Type 0
  HasSentAll old new (Ok done) bytes = AllSent old new bytes
  HasSentAll old new (Err fault) bytes = PrefixWritten old new bytes
