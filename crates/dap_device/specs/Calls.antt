-- The effect of the calls of a replaceable file on the file under the name and on the temporary
-- file. Source: own.
use Rattle.std.specs.Prelude.{◌≡◌, ◌⊎◌, ◌<◌, ◌≤◌, ℕ, length, Option, Some, None}
use Rattle.std.specs.Prelude.{Result, Ok, Err, Vec}
use Rattle.std.specs.declared.alloc.Global.{Global}
use Rattle.dap_device.specs.Crash.{Content}
use Rattle.dap_device.specs.declared.file.FileFault.{FileFault}
use Rattle.dap_device.specs.declared.file.Step.{Step}
use Rattle.dap_device.specs.declared.file.ReadFault.{ReadFault}
use Rattle.dap_device.specs.declared.file.ReadFault.TheVariants.{Failed, TooLong, Memory}

-- The model of a file of the operating system: the number of calls that failed, and the step at
-- which one last failed.
pub record FileCounts : Type 0 where
  pub failures : ℕ
  pub failed_at : Option Step

-- The number of failures that a call counts.
abbrev pub call_failures : {T : Type 0} → Result T FileFault → ℕ
call_failures (Ok x) = 0
call_failures (Err fault) = 1

-- A read counts as a failure unless the file is too long or an allocation failed.
abbrev pub read_failures : {T : Type 0} → Result T ReadFault → ℕ
read_failures (Ok x) = 0
read_failures (Err Failed) = 1
read_failures (Err TooLong) = 0
read_failures (Err Memory) = 0

-- The step at which a call last failed, after a call of this step.
abbrev pub step_after : {T : Type 0} → Step → Result T FileFault → Option Step → Option Step
step_after step (Ok x) before = before
step_after step (Err fault) before = Some step

-- The content that was read.
abbrev pub content_of : Option (Vec ℕ Global) → Content
content_of None = None
content_of (Some bytes) = Some bytes.items

-- The file exists and has more bytes than this.
abbrev pub IsLonger : ℕ → Content → Type 0
IsLonger limit None = ⊥
IsLonger limit (Some bytes) = limit < length bytes

-- The file exists and has at most this many bytes.
abbrev pub FitsIn : ℕ → Content → Type 0
FitsIn limit None = ⊥
FitsIn limit (Some bytes) = length bytes ≤ limit

-- The file exists and is not empty.
abbrev pub HasBytes : Content → Type 0
HasBytes None = ⊥
HasBytes (Some bytes) = 0 < length bytes

module _ {F : Type 0} (target : F → Content) where
  -- The content under the name is unchanged, and a crash leaves only contents that it could leave
  -- before.
  pub record KeepsTarget (may_leave : F → Content → Type 0) (old new : F) : Type 0 where
    pub same : target new ≡ target old
    pub crash : (c : Content) → may_leave new c → may_leave old c

  -- The temporary file now has the name.
  pub record IsRenamed (temporary : F → Content) (old new : F) : Type 0 where
    pub moved : target new ≡ temporary old
    pub gone : temporary new ≡ None

  -- Both files are unchanged.
  pub record IsUnchanged (temporary : F → Content) (old new : F) : Type 0 where
    pub same : target new ≡ target old
    pub kept : temporary new ≡ temporary old

-- A crash after a rename leaves a content that it could leave before, or one that it could leave in
-- the temporary file.
abbrev pub MayBeRenamed : {F : Type 0} → (F → Content → Type 0) → (F → Content → Type 0) → F → F
    → Type 0
MayBeRenamed may_leave may_hold old new =
    (c : Content) → may_leave new c → may_leave old c ⊎ may_hold old c
