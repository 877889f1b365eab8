use Rattle.dap_mask.proofs.LooseReading.{one_loose_reading, loosely_ordered, left_is_read}
use Rattle.dap_mask.proofs.laws.left_is_read.Goals as goal

pub returns : goal.returns
returns c = record { one = one_loose_reading; ordered = loosely_ordered; left = left_is_read }
