use Rattle.std.proofs.{Common.arith, lemmas.Str.Pattern.split_once_first}
use Rattle.dapnorm.proofs.words.parts.Goals as goal

pub returns : goal.returns
returns c =
    split_once_first 61 c.args.value.now _ c.split_once.ensures.cases (omega arith)
