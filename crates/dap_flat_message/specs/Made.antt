-- For private clauses: what a flat message is made of.
use Rattle.std.specs.Prelude.{◌≡◌, ℤ, Bool, List, true, Option, is_some}
use Rattle.dap_tree.specs.{Doc.{Doc, is_plain}, declared.side.Side.Side}
use Rattle.dap_profile.specs.declared.profile.Kind.TheVariants.{Response}
use Rattle.dap_message.specs.{Envelope.{request_seq_of, success_of}, Faults.Fits}
use Rattle.dap_message.specs.{Message.message_of, Rows.is_of_kind}
use Rattle.dap_flat.specs.declared.node.Node.{Node}
use Rattle.dap_flat_message.specs.{Places.Locates, declared.members.Envelope.Envelope}

-- The nodes represent the message that some document is on this side, and the envelope has the
-- places of its members.
abbrev pub IsMadeOf : Side → List Node → Envelope → Type 0
IsMadeOf side ns e =
    (d : Doc) × (is_plain d ≡ true) × Fits d × Locates ns e (message_of side d)

-- The number that a response answers, and whether it reports success.
pub record Answers (a : Option ℤ × Option Bool) (d : Doc) : Type 0 where
  pub number : a.0 ≡ request_seq_of d
  pub number_there : is_some a.0 ≡ is_of_kind Response d
  pub success : a.1 ≡ success_of d
  pub success_there : is_some a.1 ≡ is_of_kind Response d
