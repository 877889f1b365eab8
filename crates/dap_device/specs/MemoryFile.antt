-- The model of a file in memory. Source: own.
use Rattle.std.specs.Prelude.{◌≡◌, ◌⊎◌, ℕ, List, Option, drop, length}
use mathlib.Core.Logic.{inl, inr}
use Rattle.dap_device.specs.Crash.{Content}
use Rattle.dap_device.specs.Past.{OneOf, none_since}
use Rattle.dap_device.specs.declared.file.Step.{Step}

-- The two files, the earlier contents under the name from the oldest on, the number of calls that
-- failed, and the step at which one last failed.
pub record MemoryState : Type 0 where
  pub target : Content
  pub temporary : Content
  pub past : List Content
  pub failures : ℕ
  pub failed_at : Option Step

-- The contents that a crash since t could have left: the current one, or one that was under the
-- name since t.
abbrev pub MightHaveLeft : MemoryState → ℕ → Content → Type 0
MightHaveLeft m t c = (c ≡ m.target) ⊎ OneOf (λ earlier. c ≡ earlier) (drop t m.past)

-- The current content is the only one since now.
pub only_target : (m : MemoryState) (c : Content) → MightHaveLeft m (length m.past) c → c ≡ m.target
only_target m c (inl now) = now
only_target m c (inr had) = absurd (none_since (λ earlier. c ≡ earlier) m.past had)
