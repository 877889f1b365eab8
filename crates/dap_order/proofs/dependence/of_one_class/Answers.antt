use Rattle.std.proofs.Common.{ap, ap₂, ◌∙◌}
use Rattle.std.specs.Ordering.{is_eq}
use Rattle.dap_order.specs.Partners.{key_cmp}
use Rattle.dap_order.proofs.dependence.of_one_class.Goals as goal

pub returns : goal.returns
returns g c =
    c.is_eq.ensures ∙ ap is_eq (c.cmp.ensures ∙ ap₂ key_cmp c.class_key.ensures c.class_key-2.ensures)
