use Rattle.std.proofs.Common.{subst}
use Rattle.std.proofs.lemmas.Result.{on_ok_weaker}
use Rattle.dap_transcript.specs.Members.{Waits}
use Rattle.dap_transcript.proofs.WrittenMembers.{last_written, none_written}
use Rattle.dap_transcript.proofs.members.finish.Goals as goal

pub returns-in-Some : goal.returns-in-Some
returns-in-Some c =
    on_ok_weaker c.write_waiting.result
    (λ written still w. last_written c.in-Some.member c.args.out.now.items
    c.write_waiting.new.out.items still (subst (λ o. Waits o still) c.in-Some.is w) written)
    c.write_waiting.ensures

pub returns-in-None : goal.returns-in-None
returns-in-None c still w =
    none_written c.args.out.now.items still (subst (λ o. Waits o still) c.in-None.is w)
