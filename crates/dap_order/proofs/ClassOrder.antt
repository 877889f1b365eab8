-- The order of the classes.
use Rattle.std.specs.Cmp.Lexicographic.{options_total}
use Rattle.std.specs.Cmp.{IsTotalOrder}
use Rattle.std.proofs.lemmas.Cmp.{nat_cmp_total, int_cmp_total, nat_list_cmp_total, on_total}
use Rattle.std.proofs.lemmas.Cmp.{then_total}
use Rattle.dap_order.specs.Free.{class_rank, class_number, class_name, class_cmp}

pub class_total : IsTotalOrder class_cmp
class_total =
    then_total (on_total class_rank nat_cmp_total)
    (then_total (on_total class_number (options_total int_cmp_total))
    (on_total class_name nat_list_cmp_total))
