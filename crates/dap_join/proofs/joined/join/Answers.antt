use Rattle.dap_join.proofs.Reading.{has_grown, has_joined}
use Rattle.dap_join.proofs.joined.join.Goals as goal

pub returns-in-Some-clause-err : goal.returns-in-Some-clause-err
returns-in-Some-clause-err c =
    has_grown c.args.limits c.args.joining c.args.recording.now c.join_records.new.joiner
    c.end_segment.new.self c.in_ok-join_records.ensures.ok c.in-Ok.ensures c.in-Some.number
    c.in-Some.is

pub returns-in-None-clause-ok : goal.returns-in-None-clause-ok
returns-in-None-clause-ok c =
    has_joined c.args.limits c.args.joining c.args.recording.now c.join_records.new.joiner
    c.end_segment.new.self c.in_ok-join_records.ensures.ok c.in-Ok.ensures c.in-None.is
