use Rattle.dap_transcript.proofs.WrittenMembers.{waiting_written}
use Rattle.dap_transcript.proofs.members.write_waiting.Goals as goal

pub returns : goal.returns
returns c r is =
    waiting_written c.args.waiting r c.args.out.now.items c.push_margin.new.out.items
    c.extend_from_slice.new.self.items c.extend_from_slice-2.new.self.items
    c.push_part.new.out.items c.in_ok-push_part.field-0.now c.in_ok-push_margin.ensures
    c.in_ok-extend_from_slice.ensures.items c.in_ok-extend_from_slice-2.ensures.items
    c.in_ok-push_part.ensures.lines is
