-- What a run keeps: a device that it opened, or a file that is saved.
use Rattle.std.proofs.Common.{◌≡◌, ℕ, List, Some, Result, refl, subst}
use Rattle.dap_device.specs.{Crash.LeavesOnly, Replacing.IsOldOrNew}
use Rattle.dap_device.specs.declared.file.Replaceable.{Ghosts as Replaceable}
use Rattle.dap_device.specs.declared.replacing.ReplaceFault.{ReplaceFault}
use Rattle.dapnorm.specs.{Desks.IsLeft, Saving.{IsSaved, Saves}}

-- A device was opened, and is left in its place.
pub is_left : {D : Type 0} {opened : D → Type 0} {Does : D → D → Type 0} (old new : D)
    → opened old → Does old new → IsLeft opened (Some new) Does
is_left old new opens does =
    record { old = old; new = new; opens = opens; is = refl; does = does }

-- `replace` ran on the bytes of a text.
pub saves : {F : Type 0} (file : Replaceable F) (bytes text : List ℕ) (old new : F)
    (outcome : Result (Unit {0}) ReplaceFault)
    → bytes ≡ text → IsSaved file bytes old new outcome
    → (file.is_known old
    → LeavesOnly file.moment file.left_since (IsOldOrNew file old bytes) old new)
    → Saves file text old new outcome
saves file bytes text old new outcome text_is saved any_moment = record {
  saved = subst (λ (one : List ℕ). IsSaved file one old new outcome) text_is saved;
  any_moment = subst (λ (one : List ℕ). file.is_known old
      → LeavesOnly file.moment file.left_since (IsOldOrNew file old one) old new) text_is
      any_moment;
}
