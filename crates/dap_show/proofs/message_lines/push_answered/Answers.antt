use Rattle.std.proofs.Common.{rules, codes}
use Rattle.dap_show.specs.Showing.{answered_words}
use Rattle.dap_show.proofs.AppendedLines.{regrouped}
use Rattle.dap_show.proofs.message_lines.push_answered.Goals as goal

pub returns-in-Some : goal.returns-in-Some
returns-in-Some c =
    regrouped c.push_number.result c.args.out.now.items (codes " request_seq=") _
    c.push_number.new.out.items (answered_words c.args.answered) c.push_number.ensures
    (rw c.in-Some.is (search rules))
