use Rattle.dap_mask.specs.Declarations.{declarations_of}
use Rattle.dap_stored.specs.Sessions.{messages_of}
use Rattle.dap_rules.proofs.NamedPlaces.{Going}
use Rattle.dap_rules.proofs.named_session.named_places.Given as goal

abbrev pub invariant-loop-place : goal.invariant-loop-place
invariant-loop-place l =
    Going l.fn.limits (declarations_of l.fn.declarations) (messages_of l.fn.session) l.place
    (messages_of l.session) l.places.items l.numbers
