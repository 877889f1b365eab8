use Rattle.dap_naming.proofs.Numbers.{numbers_stay, numbers_are_fresh}
use Rattle.dap_naming.proofs.laws.numbers.Goals as goal

pub returns : goal.returns
returns c = record {
  stay = numbers_stay;
  fresh = numbers_are_fresh;
}
