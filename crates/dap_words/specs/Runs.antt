-- Runs of bytes of one class.
use Rattle.std.specs.Prelude.{◌≡◌, ℕ, Bool, true, false, ◌&&◌, ◌||◌, List, [], ◌∷◌}

-- Each byte of the list is of the class.
abbrev pub all_of : (ℕ → Bool) → List ℕ → Bool
all_of class [] = true
all_of class (b ∷ s) = class b && all_of class s

-- Some byte of the list is of the class.
abbrev pub some_of : (ℕ → Bool) → List ℕ → Bool
some_of class [] = false
some_of class (b ∷ s) = class b || some_of class s

-- The text starts with a byte of the class.
abbrev pub begins_with : (ℕ → Bool) → List ℕ → Bool
begins_with class [] = false
begins_with class (b ∷ s) = class b

-- A run of a class and the rest after it: one byte or more, and the rest does not start with a byte
-- of the class.
pub record IsRun (class : ℕ → Bool) (run rest : List ℕ) : Type 0 where
  pub some : begins_with class run ≡ true
  pub all : all_of class run ≡ true
  pub ends : begins_with class rest ≡ false
