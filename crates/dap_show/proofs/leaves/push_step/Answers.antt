use Rattle.std.proofs.lemmas.Result.{on_ok_weaker}
use Rattle.dap_show.proofs.LeafLines.{member_step, place_step}
use Rattle.dap_show.proofs.leaves.push_step.Goals as goal

pub returns-in_ok-extend_from_slice-in-Member : goal.returns-in_ok-extend_from_slice-in-Member
returns-in_ok-extend_from_slice-in-Member c =
    on_ok_weaker c.push_path.result
    (λ is. member_step c.args.step c.in-Member.field-0 c.args.path.now.items
    c.extend_from_slice.new.self.items c.push_path.new.out.items c.in-Member.is
    c.in_ok-extend_from_slice-in-Member.ensures.items is)
    c.push_path.ensures

pub returns-in-Item : goal.returns-in-Item
returns-in-Item c =
    on_ok_weaker c.push_path-in-Item.result
    (λ is. place_step c.args.step c.in-Item.field-0 c.args.path.now.items
    c.push_path-in-Item.new.out.items c.in-Item.is is)
    c.push_path-in-Item.ensures
