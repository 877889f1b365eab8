-- A recording that arrives in chunks. Source: own, over the recordings that the library accepts.
use Rattle.std.specs.Prelude.{ℕ, List}
use Rattle.std.specs.Borrow.{Bor}
use Rattle.std.specs.List.{flat_map}
use Rattle.dap_message.specs.Message.{Sent}
use Rattle.dap_rename.specs.declared.mode.Mode.{Mode}
use Rattle.dap_input.specs.declared.limits.Limits.{Limits}
use Rattle.dap_normalise.specs.Accepting.{IsAccepted}
use Rattle.dap_normalise.specs.Checking.{AreCounted}
use Rattle.dap_normalise.specs.declared.checked.Checked.{Checked}

-- The bytes of the chunks, in order.
abbrev pub joined : List (Bor (List ℕ)) → List ℕ
joined pieces = flat_map (λ piece. piece.now) pieces

-- The bytes are an accepted recording with these counts.
pub record IsJudged (limits : Limits) (mode : Mode) (bytes : List ℕ) (checked : Checked) : Type 0
  where
    pub messages : List Sent
    pub accepts : IsAccepted limits mode bytes messages
    pub counted : AreCounted checked messages
