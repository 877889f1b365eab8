use Rattle.dap_message.proofs.Contents.{typed_proper, typed_sound, typed_enveloped, typed_ordered}
use Rattle.dap_message.proofs.Contents.{typed_utf8, content_well_formed}
use Rattle.dap_message.proofs.laws.typed_keeps.Goals as goal

pub returns-clause-side : goal.returns-clause-side
returns-clause-side c = λ side d m h. h.0

pub returns-clause-proper : goal.returns-clause-proper
returns-clause-proper c = typed_proper

pub returns-clause-sound : goal.returns-clause-sound
returns-clause-sound c = typed_sound

pub returns-clause-enveloped : goal.returns-clause-enveloped
returns-clause-enveloped c = typed_enveloped

pub returns-clause-ordered : goal.returns-clause-ordered
returns-clause-ordered c = typed_ordered

pub returns-clause-utf8 : goal.returns-clause-utf8
returns-clause-utf8 c = typed_utf8

pub returns-clause-content : goal.returns-clause-content
returns-clause-content c = content_well_formed
