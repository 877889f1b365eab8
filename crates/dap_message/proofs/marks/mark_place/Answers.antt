use Rattle.dap_message.proofs.marks.mark_place.Goals as goal

pub returns-in-Part : goal.returns-in-Part
returns-in-Part c = rw c.in-Part.is c.mark_path-in-Part.ensures

pub returns-in-Deep : goal.returns-in-Deep
returns-in-Deep c = rw c.in-Deep.is c.mark_path-in-Deep.ensures
