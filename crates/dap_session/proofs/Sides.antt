-- A message has one kind and one side.
use Rattle.std.proofs.Common.{◌≡◌, true, false, refl}
use Rattle.dap_tree.specs.Side.{same_side}
use Rattle.dap_tree.specs.declared.side.Side.{Side}
use Rattle.dap_tree.specs.declared.side.Side.TheVariants.{Client, Adapter}
use Rattle.dap_tree.proofs.Sides.{same_side_decides}
use Rattle.dap_profile.specs.declared.profile.Kind.{Kind}
use Rattle.dap_profile.specs.declared.profile.Kind.TheVariants.{Request, Response, Event}
use Rattle.dap_message.specs.Message.{Sent}
use Rattle.dap_session.specs.Messages.{side_of, kind_of, other, same_kind, is_request}
use Rattle.dap_session.specs.Messages.{is_response, is_event, is_from}

-- a message from a side has that side
pub from_side : (side : Side) (m : Sent) → is_from side m ≡ true → side ≡ side_of m
from_side side m h = (same_side_decides side (side_of m)).0 h

other_side : (s r : Side) → same_side s r ≡ false → same_side (other s) r ≡ true
other_side Client Client h = absurd (cc)
other_side Client Adapter h = refl
other_side Adapter Client h = refl
other_side Adapter Adapter h = absurd (cc)

pub from_other : (side : Side) (m : Sent) → is_from side m ≡ false → is_from (other side) m ≡ true
from_other side m h = other_side side (side_of m) h

no_response_kind : (k : Kind) → same_kind Request k ≡ true → same_kind Response k ≡ false
no_response_kind Request h = refl
no_response_kind Response h = absurd (cc)
no_response_kind Event h = refl

pub no_response : (m : Sent) → is_request m ≡ true → is_response m ≡ false
no_response m h = no_response_kind (kind_of m) h

no_request_kind : (k : Kind) → same_kind Response k ≡ true → same_kind Request k ≡ false
no_request_kind Request h = absurd (cc)
no_request_kind Response h = refl
no_request_kind Event h = refl

pub no_request : (m : Sent) → is_response m ≡ true → is_request m ≡ false
no_request m h = no_request_kind (kind_of m) h

event_kind : (k : Kind) → same_kind Event k ≡ true
    → (same_kind Request k ≡ false) × (same_kind Response k ≡ false)
event_kind Request h = absurd (cc)
event_kind Response h = absurd (cc)
event_kind Event h = (refl, refl)

pub event_alone : (m : Sent) → is_event m ≡ true → (is_request m ≡ false) × (is_response m ≡ false)
event_alone m h = event_kind (kind_of m) h

pub other_other : (s : Side) → other (other s) ≡ s
other_other Client = refl
other_other Adapter = refl
