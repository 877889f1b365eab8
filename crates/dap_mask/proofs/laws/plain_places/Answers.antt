use Rattle.dap_mask.proofs.PlainPlaces.{plain_places}
use Rattle.dap_mask.proofs.laws.plain_places.Goals as goal

pub returns : goal.returns
returns c = plain_places
