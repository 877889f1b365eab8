use Rattle.std.proofs.Common.{refl, arith}
use Rattle.std.proofs.lemmas.Iterator.{YieldsList-from_range, items_from_collect}
use Rattle.dap_rename.proofs.pair_index.places_below.Goals as goal

pub returns-clause-places : goal.returns-clause-places
returns-clause-places c =
    items_from_collect _ c.collect.ensures.ran
    (YieldsList-from_range 0 c.args.count c.args.count refl (omega arith))
