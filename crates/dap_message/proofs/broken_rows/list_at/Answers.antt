use Rattle.std.proofs.Common.{sym}
use Rattle.dap_message.proofs.Elements.{list_view}
use Rattle.dap_message.proofs.broken_rows.list_at.Goals as goal

pub returns-in-List : goal.returns-in-List
returns-in-List c =
    rw (← c.in_ok-child.ensures, ← c.in_ok-elements.ensures, c.in-List.is, c.as_slice.ensures.value)
    (sym (list_view c.in-List.elements))
