use Rattle.dap_flat_message.proofs.row_marks.mark_place.Goals as goal

pub returns-in-Member : goal.returns-in-Member
returns-in-Member c = rw c.in-Member.is c.mark_top.ensures

pub returns-in-Inner : goal.returns-in-Inner
returns-in-Inner c = rw c.in-Inner.is c.mark_top-in-Inner.ensures

pub returns-in-Element : goal.returns-in-Element
returns-in-Element c = rw c.in-Element.is c.mark_top-in-Element.ensures

pub returns-in-Part : goal.returns-in-Part
returns-in-Part c = rw c.in-Part.is c.mark_top-in-Part.ensures

pub returns-in-Deep : goal.returns-in-Deep
returns-in-Deep c = rw c.in-Deep.is c.mark_top-in-Deep.ensures
