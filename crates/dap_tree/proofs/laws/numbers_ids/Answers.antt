use Rattle.dap_tree.proofs.IdNumbers.{ids-no_id, no_id-ids, count_ids, numbers-with}
use Rattle.dap_tree.proofs.IdNumbers.{ids-with_numbers, with_own, sound_with}
use Rattle.dap_tree.proofs.laws.numbers_ids.Goals as goal

pub returns : goal.returns
returns c = record {
  none = λ d. (ids-no_id d, no_id-ids d);
  count = count_ids;
  numbers = numbers-with;
  ids = ids-with_numbers;
  own = with_own;
  sound = sound_with;
}
