-- The test `same_side` decides whether two sides are equal.
use Rattle.std.proofs.Common.{◌≡◌, refl}
use Rattle.std.specs.Bool.{Decides}
use Rattle.dap_tree.specs.Side.{same_side}
use Rattle.dap_tree.specs.declared.side.Side.{Side}
use Rattle.dap_tree.specs.declared.side.Side.TheVariants.{Client, Adapter}

pub same_side_decides : (s t : Side) → Decides (same_side s t) (s ≡ t)
same_side_decides Client Client = (λ h. refl, λ h. refl)
same_side_decides Client Adapter = (λ h. absurd (cc), λ h. absurd (cc))
same_side_decides Adapter Client = (λ h. absurd (cc), λ h. absurd (cc))
same_side_decides Adapter Adapter = (λ h. refl, λ h. refl)
