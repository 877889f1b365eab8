use Rattle.std.proofs.Common.{sym}
use Rattle.dap_naming.proofs.flat_rules.kind_rules.Goals as goal

pub returns-clause-told : goal.returns-clause-told
returns-clause-told c d h =
    c.in_ok-applying.ensures.told d (sym (c.requires.kind d h)) (sym (c.in_ok-name.ensures d h))
    (sym (c.in_ok-category.ensures d h))
