-- The sides of a session.
use Rattle.std.specs.Prelude.{ℕ, Bool, true, false, List, codes}
use Rattle.dap_tree.specs.declared.side.Side.{Side}
use Rattle.dap_tree.specs.declared.side.Side.TheVariants.{Client, Adapter}

-- The name of a side in output (own).
abbrev pub side_text : Side → List ℕ
side_text Client = codes "client"
side_text Adapter = codes "adapter"

-- The two sides are the same.
abbrev pub same_side : Side → Side → Bool
same_side Client Client = true
same_side Client Adapter = false
same_side Adapter Client = false
same_side Adapter Adapter = true
