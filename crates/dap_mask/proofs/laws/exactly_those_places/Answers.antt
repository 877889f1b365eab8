use Rattle.dap_mask.proofs.ByPath.{masked_by_path, one_masked, keeps_others, none_new}
use Rattle.dap_mask.proofs.ByPath.{dropped-masked, ordered-masked}
use Rattle.dap_mask.proofs.Dropping.{stays_in}
use Rattle.dap_mask.proofs.Keeping.{sound_masked, utf8_masked}
use Rattle.dap_mask.proofs.laws.exactly_those_places.Goals as goal

pub returns : goal.returns
returns c = record {
  paths = masked_by_path;
  one = one_masked;
  others = keeps_others;
  none_new = none_new;
  dropped = dropped-masked;
  stays = stays_in;
  ordered = ordered-masked;
  sound = sound_masked;
  utf8 = utf8_masked;
}
