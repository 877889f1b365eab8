-- The model of a file over a cache: a crash loses what is not synced. Source: own.
use Rattle.std.specs.Prelude.{◌≡◌, ◌⊎◌, ◌++◌, ℕ, Bool, true, false, List, [], ◌∷◌, Option, None}
use Rattle.std.specs.Prelude.{◌≤◌, drop, length}
use mathlib.Core.Logic.{inl, inr}
use Rattle.dap_device.specs.Crash.{Content}
use Rattle.dap_device.specs.Past.{OneOf, since_earlier}
use Rattle.dap_device.specs.declared.file.Step.{Step}

-- A file, or no file, and whether its content is synced.
pub record VersionState : Type 0 where
  pub content : Content
  pub is_synced : Bool

-- The file with this content, which is synced.
abbrev pub synced_file : Content → VersionState
synced_file content = record { content = content; is_synced = true }

-- The file with this content, which is not synced.
abbrev pub unsynced_file : Content → VersionState
unsynced_file content = record { content = content; is_synced = false }

-- What a crash leaves of a file: its content if it is synced, and otherwise any content, or none.
abbrev pub Leaves : VersionState → Content → Type 0
Leaves v c = v.is_synced ≡ true → c ≡ v.content

-- The two files, the files that had the name before from the oldest on, how many of those a crash
-- cannot leave any more, the number of calls that failed, and the step at which one last failed.
pub record CachedState : Type 0 where
  pub target : VersionState
  pub temporary : VersionState
  pub past : List VersionState
  pub settled : ℕ
  pub failures : ℕ
  pub failed_at : Option Step

-- The contents that a crash could have left when t earlier files were settled, or later: what it
-- leaves of the current file, or of an earlier one that was not settled then.
abbrev pub LeavesSince : CachedState → ℕ → Content → Type 0
LeavesSince m t c = Leaves m.target c ⊎ OneOf (λ v. Leaves v c) (drop t m.past)

-- The contents that a crash now may leave under the name. A rename whose folder is not synced may
-- or may not have taken place.
abbrev pub MayLeave : CachedState → Content → Type 0
MayLeave m c = LeavesSince m m.settled c

-- What a crash may leave now, it may leave since any earlier moment.
pub since_now : (m : CachedState) (t : ℕ) (c : Content) → t ≤ m.settled → MayLeave m c
    → LeavesSince m t c
since_now m t c le (inl now) = inl now
since_now m t c le (inr had) = inr (since_earlier (λ v. Leaves v c) t m.settled m.past le had)

-- The temporary file now has the name. Neither the earlier file nor the new one is settled.
abbrev pub after_rename : CachedState → CachedState
after_rename m = record m {
  target = m.temporary;
  temporary = synced_file None;
  past = m.past ++ m.target ∷ [];
}

-- The folder is synced, so that a crash leaves no earlier file.
abbrev pub after_folder_sync : CachedState → CachedState
after_folder_sync m = record m { settled = length m.past }
