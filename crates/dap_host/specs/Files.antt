-- The files that names lead to. Source: own.
use Rattle.std.specs.{Prelude.{ℕ, Bool, List, codes}, Str.bytes_eq}
use Rattle.dap_host.specs.{declared.host.OpenFault.OpenFault, declared.host.Purpose.Purpose}
use Rattle.dap_host.specs.declared.host.Stream.{Stream}

-- the name of standard input and of standard output
abbrev pub is_standard : List ℕ → Bool
is_standard name = bytes_eq name (codes "-")

-- Which input, output and target a name leads to, or why it leads to none.
pub record Files (I O T : Type 0) : Type 1 where
  -- The name leads to this file, and nothing was read of it; or it does not open, for this reason.
  pub opens : Purpose → List ℕ → I → Type 0
  pub closed : Purpose → List ℕ → OpenFault → Type 0
  -- This is the standard stream, and nothing was written to it.
  pub streams : Stream → O → Type 0
  -- The name leads to this device, and nothing was written to it; or it does not open.
  pub devices : List ℕ → O → Type 0
  pub no_device : List ℕ → OpenFault → Type 0
  -- The name leads to this file, and nothing was done to it; or to none that can be replaced, or
  -- read.
  pub targets : Bool → List ℕ → T → Type 0
  pub no_target : Bool → List ℕ → OpenFault → Type 0
  -- An output of this name is written directly.
  pub is_device : List ℕ → Bool → Type 0
  -- An output and an input of these names are one file.
  pub are_same : List ℕ → List ℕ → Bool → Type 0
