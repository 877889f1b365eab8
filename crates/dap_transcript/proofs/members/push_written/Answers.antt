use Rattle.std.proofs.Common.{◌∙◌, sym}
use Rattle.std.proofs.lemmas.Result.{on_ok_weaker}
use Rattle.dap_transcript.specs.Members.{omits}
use Rattle.dap_transcript.proofs.TextLines.{found_byte}
use Rattle.dap_transcript.proofs.WrittenMembers.{written_last, written_then}
use Rattle.dap_transcript.proofs.members.push_written.Goals as goal

pub returns-then-is_some : goal.returns-then-is_some
returns-then-is_some c =
    let l = c.loop-name in
    let step = c.in_ok-after in
    let found = found_byte c.after_byte.result step.after.now 125 c.after_byte.ensures
    (sym c.is_some.ensures ∙ c.if-is_some.true) in
    let mid = c.pass_one.new.out.items in
    let new = c.finish.new.out.items in
    on_ok_weaker c.finish.result
    (λ finished. l.invariant new
    (written_last (omits c.args.omitted) l.waiting step.still l.left.now c.in-Some.name.now
    c.in-Some.value.now step.after.now l.out.items mid c.in-Some.ensures.name step.ensures.passes
    found.0 new found.1 finished))
    c.finish.ensures

pub loop-name-preserved : goal.loop-name-preserved
loop-name-preserved c new later =
    let l = c.loop-name in
    let step = c.in_ok-after in
    l.invariant new
    (written_then (omits c.args.omitted) l.waiting step.still l.left.now c.in-Some.name.now
    c.in-Some.value.now step.after.now l.out.items c.pass_one.new.out.items
    c.in-Some.ensures.name step.ensures.passes c.in-Some-after_byte.next.now new
    c.in-Some-after_byte.ensures later)
