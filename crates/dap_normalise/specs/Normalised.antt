-- The messages that an output represents. Source: own.
use Rattle.std.specs.{Prelude.{◌≡◌, ℕ, List}, List.AllByRecursion}
use Rattle.dap_message.specs.Message.{Sent, IsTypedContent}
use Rattle.dap_rename.specs.{Messages.IsNormal, Modes.stop_in, declared.mode.Mode.Mode}
use Rattle.dap_normalise.specs.Accepting.{text}

-- Each message is that of some content.
abbrev pub AreTyped : List Sent → Type 0
AreTyped messages =
    AllByRecursion (λ message. (content : List ℕ)
    × IsTypedContent message.side content message.doc) messages

-- An output, and the mode of its canonical numbers.
pub record NormalText : Type 0 where
  pub mode : Mode
  pub bytes : List ℕ

-- The output represents these messages: they are typed, and it is the text of their normal form in
-- its mode.
pub record Holds (one : NormalText) (messages : List Sent) : Type 0 where
  pub typed : AreTyped messages
  pub normal : List Sent
  pub is_normal : IsNormal (stop_in one.mode) messages normal
  pub text_is : one.bytes ≡ text normal

-- The output represents some messages.
abbrev pub HoldsSome : NormalText → Type 0
HoldsSome one = (messages : List Sent) × Holds one messages
