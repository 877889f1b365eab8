-- The rules as statements over the positions of a list of messages, from 0.
use Rattle.std.specs.Prelude.{◌≡◌, ℕ, ◌<◌, ℤ, true, List, Some, codes}
use Rattle.std.specs.List.{slice_get}
use Rattle.dap_tree.specs.declared.side.Side.{Side}
use Rattle.dap_tree.specs.declared.side.Side.TheVariants.{Client, Adapter}
use Rattle.dap_profile.specs.declared.profile.Kind.TheVariants.{Request, Response, Event}
use Rattle.dap_message.specs.Message.{Sent}
use Rattle.dap_session.specs.declared.rule.Rule.{Rule}
use Rattle.dap_session.specs.declared.rule.Rule.TheVariants.{EventFromClient, NotInitialized}
use Rattle.dap_session.specs.declared.rule.Rule.TheVariants.{StillInitializing, InitializeTwice}
use Rattle.dap_session.specs.declared.rule.Rule.TheVariants.{AfterDisconnect, SeqUsed}
use Rattle.dap_session.specs.declared.rule.Rule.TheVariants.{ConfiguredEarly, ConfiguredTwice}
use Rattle.dap_session.specs.declared.rule.Rule.TheVariants.{NoRequest, AnsweredTwice, OtherCommand}
use Rattle.dap_session.specs.Messages.{side_of, kind_of, name_of, seq_of, request_seq_of}
use Rattle.dap_session.specs.Messages.{success_of, other}
use Rattle.dap_session.specs.Rules.{rules}

-- This side sent the message.
abbrev pub IsFrom : Side → Sent → Type 0
IsFrom side m = side ≡ side_of m

-- The message is a request, a response, an event (DAP specification, ProtocolMessage.type).
abbrev pub IsRequest : Sent → Type 0
IsRequest m = Request ≡ kind_of m

abbrev pub IsResponse : Sent → Type 0
IsResponse m = Response ≡ kind_of m

abbrev pub IsEvent : Sent → Type 0
IsEvent m = Event ≡ kind_of m

-- The message has this command or, if it is an event, this name.
abbrev pub IsNamed : List ℕ → Sent → Type 0
IsNamed name m = name_of m ≡ name

-- The message is an `initialize` request (DAP specification, InitializeRequest).
abbrev pub IsInitialize : Sent → Type 0
IsInitialize m = IsRequest m × IsNamed (codes "initialize") m

-- The message is an `initialize` request of the client.
abbrev pub IsClientInitialize : Sent → Type 0
IsClientInitialize m = IsFrom Client m × IsInitialize m

-- The message is a `configurationDone` request of the client (DAP specification,
-- ConfigurationDoneRequest).
abbrev pub IsConfigurationDone : Sent → Type 0
IsConfigurationDone m = (IsFrom Client m × IsRequest m) × IsNamed (codes "configurationDone") m

-- The message is an `initialized` event (DAP specification, InitializedEvent).
abbrev pub IsInitialized : Sent → Type 0
IsInitialized m = IsEvent m × IsNamed (codes "initialized") m

-- The message is a successful `disconnect` response of the adapter (DAP specification,
-- DisconnectResponse).
abbrev pub IsDisconnectSuccess : Sent → Type 0
IsDisconnectSuccess m = ((IsFrom Adapter m × IsResponse m) × IsNamed (codes "disconnect") m)
    × (success_of m ≡ Some true)

-- The message is a request of this side with this number.
abbrev pub IsRequestOf : Side → ℤ → Sent → Type 0
IsRequestOf side n m = (IsRequest m × IsFrom side m) × (n ≡ seq_of m)

-- The message is a response of this side, and its `request_seq` is this number.
abbrev pub IsResponseOf : Side → ℤ → Sent → Type 0
IsResponseOf side n m = (IsResponse m × IsFrom side m) × (request_seq_of m ≡ Some n)

-- The message m is at position k.
abbrev pub At : List Sent → ℕ → Sent → Type 0
At ms k m = slice_get ms k ≡ Some m

-- P holds for some message before position k.
abbrev pub Earlier : (Sent → Type 0) → List Sent → ℕ → Type 0
Earlier P ms k = (j : ℕ) × (q : Sent) × (j < k) × At ms j q × P q

-- P holds for no message between positions j and k.
abbrev pub NoneBetween : (Sent → Type 0) → List Sent → ℕ → ℕ → Type 0
NoneBetween P ms j k = (i : ℕ) (r : Sent) → j < i → i < k → At ms i r → P r → ⊥

-- There is an `initialize` request of the client before position k. No response of the adapter to
-- it is between the two.
abbrev pub IsInitializingAt : List Sent → ℕ → Type 0
IsInitializingAt ms k = (j : ℕ) × (q : Sent) × (j < k) × At ms j q × IsClientInitialize q
    × NoneBetween (IsResponseOf Adapter (seq_of q)) ms j k

-- The message has a `request_seq`, and P holds for it.
abbrev pub OfRequestSeq : Sent → (ℤ → Type 0) → Type 0
OfRequestSeq m P = (n : ℤ) × (request_seq_of m ≡ Some n) × P n

-- The message m at position k of ms breaks the rule. `Rules` names the sources at its tests.
abbrev pub BreaksAt : Rule → List Sent → ℕ → Sent → Type 0
BreaksAt EventFromClient ms k m = IsFrom Client m × IsEvent m
BreaksAt NotInitialized ms k m = ¬ IsClientInitialize m × ¬ Earlier IsClientInitialize ms k
BreaksAt StillInitializing ms k m = IsInitializingAt ms k × ¬ (IsFrom Adapter m × IsResponse m)
BreaksAt InitializeTwice ms k m = IsInitialize m × Earlier IsClientInitialize ms k
BreaksAt AfterDisconnect ms k m = (IsFrom Client m × IsRequest m) × Earlier IsDisconnectSuccess ms k
BreaksAt SeqUsed ms k m = IsRequest m × Earlier (IsRequestOf (side_of m) (seq_of m)) ms k
BreaksAt ConfiguredEarly ms k m = IsConfigurationDone m × ¬ Earlier IsInitialized ms k
BreaksAt ConfiguredTwice ms k m = IsConfigurationDone m × Earlier IsConfigurationDone ms k
BreaksAt NoRequest ms k m = IsResponse m
    × ¬ OfRequestSeq m (λ n. Earlier (IsRequestOf (other (side_of m)) n) ms k)
BreaksAt AnsweredTwice ms k m = IsResponse m
    × OfRequestSeq m (λ n. Earlier (IsResponseOf (side_of m) n) ms k)
BreaksAt OtherCommand ms k m = IsResponse m
    × OfRequestSeq m
    (λ n. Earlier (λ q. IsRequestOf (other (side_of m)) n q × ¬ (name_of q ≡ name_of m)) ms k)

-- The message is an `output` event of the adapter (DAP specification, OutputEvent).
abbrev pub IsOutput : Sent → Type 0
IsOutput m = (IsFrom Adapter m × IsEvent m) × IsNamed (codes "output") m

-- The message m at position k of ms breaks no rule, or is an `output` event of the adapter.
abbrev pub BreaksNone : List Sent → ℕ → Sent → Type 0
BreaksNone ms k m = ¬ IsOutput m → (rule : Rule) → ¬ BreaksAt rule ms k m

-- The message is not such an event. It breaks this rule, and no rule that is before it in the list
-- of rules.
abbrev pub BreaksFirst : Rule → List Sent → ℕ → Sent → Type 0
BreaksFirst rule ms k m =
    (i : ℕ) × (slice_get rules i ≡ Some rule) × (¬ IsOutput m) × BreaksAt rule ms k m
    × ((j : ℕ) (other_rule : Rule) → j < i → slice_get rules j ≡ Some other_rule
    → ¬ BreaksAt other_rule ms k m)
