-- The bytes that represent the two sides. A byte is its number: 62 is `>`, 60 is `<`.
use Rattle.std.specs.Prelude.{◌≡◌, ◌≢◌, ℕ, Result, Ok, Err}
use Rattle.dap_frame.specs.Grammar.{Grammar}
use Rattle.dap_frame.specs.Combinators.{one_byte}
use Rattle.dap_tree.specs.declared.side.Side.{Side}
use Rattle.dap_tree.specs.declared.side.Side.TheVariants.{Client, Adapter}

-- the first byte of a side's records and pieces: `>` for the client, `<` for the adapter (own)
abbrev pub marker : Side → ℕ
marker Client = 62
marker Adapter = 60

-- The byte is not a marker.
abbrev pub IsNoMarker : ℕ → Type 0
IsNoMarker byte = (byte ≢ 62) × (byte ≢ 60)

-- a byte is the marker of a side, or it proves this error
abbrev pub SaysSide : {F : Type 0} → F → ℕ → Result Side F → Type 0
SaysSide bad byte (Ok side) = byte ≡ marker side
SaysSide bad byte (Err fault) = IsNoMarker byte × (fault ≡ bad)

-- markers as items
abbrev pub markers : {F : Type 0} → F → Grammar Side F
markers bad = one_byte (SaysSide bad)
