-- The rejections about which there is nothing to explain. Source: own.
use Rattle.std.specs.Prelude.{◌≡◌, [], Result, Ok, Err, String, string_bytes}
use Rattle.std.specs.declared.alloc.Global.{Global}
use Rattle.dap_input.specs.declared.refused.Refused.{Refused}
use Rattle.dap_input.specs.declared.refused.Refused.TheVariants.{ReadFault, WriteFault, Memory}

-- The explanation is empty, and no allocation failed for it.
abbrev pub IsEmpty : {E : Type 0} → Result (String Global) E → Type 0
IsEmpty (Ok text) = string_bytes text ≡ []
IsEmpty (Err failed) = ⊥

-- A reader, a writer or an allocation failed.
abbrev pub IsFailure : Refused → Type 0
IsFailure ReadFault = Unit {0}
IsFailure WriteFault = Unit {0}
IsFailure Memory = Unit {0}
IsFailure refused = ⊥
