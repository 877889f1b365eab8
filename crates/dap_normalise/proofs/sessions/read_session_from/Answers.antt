use Rattle.std.proofs.Common.{false}
use Rattle.dap_normalise.proofs.StreamAnswers.{check_gives_up}
use Rattle.dap_normalise.proofs.sessions.read_session_from.Goals as goal

pub returns-in_default-clause-err : goal.returns-in_default-clause-err
returns-in_default-clause-err g c =
    check_gives_up g.R.Source c.args.limits c.args.mode false c.args.reader.now
