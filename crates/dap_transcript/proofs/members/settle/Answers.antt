use Rattle.std.proofs.Common.{◌∙◌, sym, subst}
use Rattle.dap_transcript.specs.Members.{Waits}
use Rattle.dap_transcript.proofs.WrittenMembers.{still_waits, waits_no_more}
use Rattle.dap_transcript.proofs.members.settle.Goals as goal

pub returns-then-comes_after : goal.returns-then-comes_after
returns-then-comes_after c k before own w =
    still_waits c.in-Some.member k c.args.name.now c.args.out.now.items before own
    (subst (λ o. Waits o before) c.in-Some.is w)
    (sym c.comes_after.ensures ∙ c.if-comes_after.true)

pub returns : goal.returns
returns c k before own w =
    waits_no_more c.in-Some.member k c.args.name.now c.args.out.now.items
    c.write_waiting.new.out.items before own (subst (λ o. Waits o before) c.in-Some.is w)
    (sym c.comes_after.ensures ∙ c.if-comes_after.false) c.in_ok-write_waiting.ensures
