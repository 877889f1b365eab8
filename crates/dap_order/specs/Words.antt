-- Freeness, defined by relations instead of tests. The law `FreeInWords` states that the test
-- `free` decides it.
use Rattle.std.specs.Prelude.{◌≡◌, ◌⊎◌, ℕ, List, Option, Some, None, Contains, codes}
use Rattle.dap_tree.specs.declared.side.Side.TheVariants.{Client, Adapter}
use Rattle.dap_message.specs.{Message.Sent, SwapRules.{Half, SwapRule}}
use Rattle.dap_session.specs.Messages.{side_of, kind_of, seq_of, other}
use Rattle.dap_session.specs.Positions.{IsFrom, IsRequest, IsResponse, IsNamed, IsClientInitialize}
use Rattle.dap_session.specs.Positions.{IsConfigurationDone, IsInitialized, IsDisconnectSuccess}
use Rattle.dap_session.specs.Positions.{IsOutput, IsResponseOf}
use Rattle.dap_order.specs.Free.{class_of}

-- The half has no name, or its name is that of the message.
abbrev pub FitsName : Option (List ℕ) → Sent → Type 0
FitsName None m = Unit {0}
FitsName (Some name) m = IsNamed name m

-- The half names the message.
abbrev pub FitsHalf : Half → Sent → Type 0
FitsHalf h m = (h.kind ≡ kind_of m) × FitsName h.name m

-- One half names x and the other half names y.
abbrev pub NamesBoth : SwapRule → Sent → Sent → Type 0
NamesBoth r x y =
    (FitsHalf r.one x × FitsHalf r.another y) ⊎ (FitsHalf r.one y × FitsHalf r.another x)

-- The order of x and y is fixed. One of these holds:
--   they are in the same class;
--   x is a response to the request y;
--   x is the client's `initialize` request or the adapter's response to `initialize`, and y is not
--   an `output` event of the adapter;
--   x is an `initialized` event, and y is the client's `configurationDone` request;
--   x is a successful `disconnect` response of the adapter, and y is a request of the client.
abbrev pub Depends : Sent → Sent → Type 0
Depends x y =
    (class_of x ≡ class_of y)
    ⊎ ((IsRequest y × IsResponseOf (other (side_of y)) (seq_of y) x)
    ⊎ (((IsClientInitialize x
    ⊎ ((IsFrom Adapter x × IsResponse x) × IsNamed (codes "initialize") x))
    × ¬ IsOutput y)
    ⊎ ((IsInitialized x × IsConfigurationDone y)
    ⊎ (IsDisconnectSuccess x × (IsFrom Client y × IsRequest y)))))

-- The messages may be swapped if they are neighbours: a rule names both of them, and their order is
-- not fixed.
abbrev pub IsFree : List SwapRule → Sent → Sent → Type 0
IsFree rules x y =
    ((r : SwapRule) × Contains rules r × NamesBoth r x y) × (¬ Depends x y × ¬ Depends y x)
