-- The devices of a run: as they were opened, and as the run leaves them. Source: own.
use Rattle.std.specs.Prelude.{◌≡◌, ℕ, ◌≤◌, Option, Some, None}
use Rattle.dap_device.specs.declared.device.{Sink.Ghosts as Sink, Source.Ghosts as Source}
use Rattle.dap_device.specs.declared.file.Replaceable.{Ghosts as Replaceable}
use Rattle.dap_host.specs.Files.{Files}
use Rattle.dapnorm.specs.declared.desk.Desk.{Desk}

-- The place of a run: the files that names lead to, and what is known of a device of each kind.
pub record Place (I O T : Type 0) : Type 1 where
  pub files : Files I O T
  pub source : Source I
  pub sink : Sink O
  pub file : Replaceable T

abbrev pub here : {I O T : Type 0} → Files I O T → Source I → Sink O → Replaceable T → Place I O T
here files source sink file = record { files = files; source = source; sink = sink; file = file }

-- only inputs were opened, or no device
abbrev pub inputs : {I O T : Type 0} → Option I → Option I → Desk I O T
inputs a b = record { a = a; b = b; output = None; target = None }

abbrev pub empty : {I O T : Type 0} → Desk I O T
empty = inputs None None

-- A device was opened, it is left in this place, and `Does` holds of its two states.
pub record IsLeft {D : Type 0} (opened : D → Type 0) (left : Option D) (Does : D → D → Type 0)
    : Type 0 where
  pub old : D
  pub new : D
  pub opens : opened old
  pub is : left ≡ Some new
  pub does : Does old new

-- Nothing was done to the device.
abbrev pub IsUnused : {D : Type 0} → D → D → Type 0
IsUnused old new = new ≡ old

-- At most that many bytes were taken of the input, if it was opened.
abbrev pub TakesAtMost : {I : Type 0} → (I → ℕ) → ℕ → Option I → Type 0
TakesAtMost given most None = Unit {0}
TakesAtMost given most (Some input) = given input ≤ most
