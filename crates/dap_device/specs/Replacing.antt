-- The effect of a replacement. Source: own.
use Rattle.std.specs.Prelude.{◌≡◌, ◌⊎◌, ℕ, List, Some, None, Result, Ok, Err}
use Rattle.std.specs.Prelude.{if◌then◌else◌}
use Rattle.dap_device.specs.Crash.{Content, LeavesOnly, Only}
use Rattle.dap_device.specs.Calls.{KeepsTarget}
use Rattle.dap_device.specs.declared.file.Replaceable.{Ghosts as Replaceable}
use Rattle.dap_device.specs.declared.replacing.ReplaceFault.{ReplaceFault}
use Rattle.dap_device.specs.declared.file.Step.{Step}
use Rattle.dap_device.specs.declared.file.Step.TheVariants.{Create, Write, Sync, Rename, SyncFolder}

-- The number of failures that a replacement counts: that of its step, and that of the removal.
abbrev pub replace_failures : {T : Type 0} → Result T ReplaceFault → ℕ
replace_failures (Ok done) = 0
replace_failures (Err fault) = if fault.is_left then 2 else 1

-- The number of failures that a step counts.
abbrev pub step_failures : {T E : Type 0} → Result T E → ℕ
step_failures (Ok done) = 0
step_failures (Err fault) = 1

module _ {F : Type 0} (file : Replaceable F) where
  -- The calls from old to new left the file under the name unchanged at every moment.
  pub record IsUntouched (old new : F) : Type 0 where
    pub kept : KeepsTarget file.target file.may_leave old new
    pub any_moment : LeavesOnly file.moment file.left_since (file.may_leave old) old new

  -- The file has these bytes, and no temporary file remains.
  pub record IsInstalled (new : F) (bytes : List ℕ) : Type 0 where
    pub replaced : file.target new ≡ Some bytes
    pub removed : file.temporary new ≡ None

  -- The file has these bytes, a crash leaves no other content, and no temporary file remains.
  pub record HasReplaced (new : F) (bytes : List ℕ) : Type 0 where
    pub replaced : file.target new ≡ Some bytes
    pub durable : Only (Some bytes) (file.may_leave new)
    pub removed : file.temporary new ≡ None

  -- The contents that a crash during a replacement may leave: those that it could leave before, or
  -- all of these bytes.
  abbrev pub IsOldOrNew : F → List ℕ → Content → Type 0
  IsOldOrNew old bytes c = file.may_leave old c ⊎ (c ≡ Some bytes)

  -- The file after this step failed: unchanged before the rename, and these bytes after it. After a
  -- failed rename it is one of the two.
  abbrev pub HasFailedAt : Step → F → F → List ℕ → Type 0
  HasFailedAt Create old new bytes = KeepsTarget file.target file.may_leave old new
  HasFailedAt Write old new bytes = KeepsTarget file.target file.may_leave old new
  HasFailedAt Sync old new bytes = KeepsTarget file.target file.may_leave old new
  HasFailedAt Rename old new bytes = (file.target new ≡ file.target old)
      ⊎ (file.target new ≡ Some bytes)
  HasFailedAt SyncFolder old new bytes = file.target new ≡ Some bytes
