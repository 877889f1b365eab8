-- What a crash leaves under a name, and how time passes. A crash is the end of the process, of the
-- operating system or of the power at any moment, including during a call. Source: own.
use Rattle.std.specs.Prelude.{◌≡◌, ◌⊎◌, ◌≤◌, ℕ, List, Option}

-- The content that a reader finds under a name: the bytes of a file, or no file.
abbrev pub Content : Type 0
Content = Option (List ℕ)

-- This content is the only possible one.
abbrev pub Only : Content → (Content → Type 0) → Type 0
Only content may_be = (c : Content) → may_be c → c ≡ content

module _ {F : Type 0} (moment : F → ℕ) (left_since : F → ℕ → Content → Type 0) where
  -- Time passes: a crash since t could have left what it could have left before, or what it may
  -- leave now.
  pub record Elapses (may_leave : F → Content → Type 0) (old new : F) : Type 0 where
    pub later : moment old ≤ moment new
    pub nothing_else : (t : ℕ) (c : Content) → t ≤ moment old → left_since new t c
        → left_since old t c ⊎ may_leave new c
    pub keeps : (t : ℕ) (c : Content) → t ≤ moment old → left_since old t c → left_since new t c

  -- Every content that a crash at any moment from old to new leaves satisfies P.
  pub record LeavesOnly (P : Content → Type 0) (old new : F) : Type 0 where
    pub later : moment old ≤ moment new
    pub each : (c : Content) → left_since new (moment old) c → P c
    -- For a run that started earlier.
    pub before : (t : ℕ) (c : Content) → t ≤ moment old → left_since new t c
        → left_since old t c ⊎ P c
