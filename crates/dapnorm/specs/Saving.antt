-- What the program does with an output that goes to a file. Source: own.
use Rattle.std.specs.Prelude.{◌≡◌, ℕ, ◌+◌, false, List, [], Some, None, codes, if◌then◌else◌}
use Rattle.std.specs.Prelude.{Result, Ok, Err}
use Rattle.dap_device.specs.{Crash.LeavesOnly, Replacing.{HasFailedAt, HasReplaced, IsOldOrNew}}
use Rattle.dap_device.specs.declared.device.Sink.{Ghosts as Sink}
use Rattle.dap_device.specs.declared.file.Replaceable.{Ghosts as Replaceable}
use Rattle.dap_device.specs.declared.file.Step.{Step, TheVariants.SyncFolder}
use Rattle.dap_device.specs.declared.replacing.ReplaceFault.{ReplaceFault}
use Rattle.dap_rules.specs.Memory.{WrittenBytes}

-- what the line says after the name if this step of a replacement failed; after the rename, the
-- file has the new bytes
abbrev pub unsaved_words : Step → List ℕ
unsaved_words SyncFolder = codes ": replaced, but not synced"
unsaved_words step = codes ": write fault"

-- an output that is held in memory, of which no write fails but for memory
abbrev pub text_sink : Sink WrittenBytes
text_sink = record {
  out = λ s. Some s.out;
  unflushed = λ s. s.unflushed;
  failures = λ s. s.failures;
}

-- no text yet
abbrev pub no_text : WrittenBytes
no_text = record { out = []; unflushed = false; failures = 0 }

module _ {F : Type 0} (file : Replaceable F) (bytes : List ℕ) (old new : F) where
  -- A step failed. The temporary file is removed, unless that failed too.
  pub record IsUnsaved (fault : ReplaceFault) : Type 0 where
    pub failed : file.is_known old → HasFailedAt file fault.step old new bytes
    pub removed : file.is_known old → fault.is_left ≡ false → file.temporary new ≡ None
    pub counted : file.failures new ≡ file.failures old + (if fault.is_left then 2 else 1)

  -- The file has the bytes, or a step of the replacement failed.
  abbrev pub IsSaved : Result (Unit {0}) ReplaceFault → Type 0
  IsSaved (Ok done) = file.is_known old → HasReplaced file new bytes
  IsSaved (Err fault) = IsUnsaved fault

  -- It is saved. A crash, the end of the process or a loss of power at any moment leaves what it
  -- could have left before, or the bytes, whole.
  pub record Saves (outcome : Result (Unit {0}) ReplaceFault) : Type 0 where
    pub saved : IsSaved outcome
    pub any_moment : file.is_known old
        → LeavesOnly file.moment file.left_since (IsOldOrNew file old bytes) old new
