use Rattle.std.proofs.Common.{map, take}
use Rattle.std.specs.List.{All}
use Rattle.dap_stored.specs.Heads.{IsStored, message_at}
use Rattle.dap_stored.specs.Sessions.{AreAt, messages_of}
use Rattle.dap_stored.proofs.session.StoredSession.arrange.Given as goal

-- The heads so far are those of the messages at the first places.
abbrev pub invariant-loop-place : goal.invariant-loop-place
invariant-loop-place l = record {
  at : AreAt (messages_of l.self) (take l.place-index l.places)
      (map (message_at l.self.parts) l.heads.items);
  stored : ∥ All (IsStored l.self.parts) l.heads.items ∥₁;
}
