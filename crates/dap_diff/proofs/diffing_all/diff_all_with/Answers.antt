use Rattle.std.proofs.lemmas.Result.{err_from_is_err_and}
use Rattle.dap_stored.specs.Sessions.{messages_of}
use Rattle.dap_diff.proofs.Differing.{a_refused, b_refused, differs_all, gave_up}
use Rattle.dap_diff.proofs.diffing_all.diff_all_with.Goals as goal

pub returns-in-Err-clause-outcome : goal.returns-in-Err-clause-outcome
returns-in-Err-clause-outcome g c =
    a_refused g.A.Source g.B.Source c.args.limits c.args.mode c.args.reader_a.now
    c.read_session_from.new.reader c.args.reader_b.now c.in-Err.refused c.of.result
    c.in-Err.ensures.err c.of.ensures

pub returns-in-Err-read_session_from-clause-outcome : goal.returns-in-Err-read_session_from-clause-outcome
returns-in-Err-read_session_from-clause-outcome g c =
    let of = c.of-in-Err-read_session_from in
    b_refused g.A.Source g.B.Source c.args.limits c.args.mode c.args.reader_a.now
    c.read_session_from.new.reader c.args.reader_b.now c.read_session_from-2.new.reader
    (messages_of c.in-Ok.session) c.in-Ok.ensures.ok c.in-Err-read_session_from.refused of.result
    c.in-Err-read_session_from.ensures.err of.ensures

pub diff_all_sessions-requires-clause-accepted_a : goal.diff_all_sessions-requires-clause-accepted_a
diff_all_sessions-requires-clause-accepted_a g c =
    let accepts = c.in-Ok.ensures.ok in (accepts.whole, accepts.gives)

pub diff_all_sessions-requires-clause-accepted_b : goal.diff_all_sessions-requires-clause-accepted_b
diff_all_sessions-requires-clause-accepted_b g c =
    let accepts = c.in-Ok-read_session_from.ensures.ok in (accepts.whole, accepts.gives)

pub returns-clause-outcome : goal.returns-clause-outcome
returns-clause-outcome g c =
    differs_all g.A.Source g.B.Source c.args.limits c.args.mode c.args.reader_a.now
    c.read_session_from.new.reader c.args.reader_b.now c.read_session_from-2.new.reader
    (messages_of c.in-Ok.session) c.in-Ok.ensures.ok
    (messages_of c.in-Ok-read_session_from.session) c.in-Ok-read_session_from.ensures.ok
    c.requires.limits c.in_ok-diff_all_sessions.field-0 c.in_ok-diff_all_sessions.ensures

pub returns-in_err-diff_all_sessions-clause-outcome : goal.returns-in_err-diff_all_sessions-clause-outcome
returns-in_err-diff_all_sessions-clause-outcome g c =
    let because = err_from_is_err_and c.from_residual.result c.from_residual.ensures.1 in
    rw (because.1, because.2)
    (gave_up g.A.Source g.B.Source c.args.limits c.args.mode c.args.reader_a.now
    c.read_session_from.new.reader c.args.reader_b.now c.read_session_from-2.new.reader
    (messages_of c.in-Ok.session) c.in-Ok.ensures.ok
    (messages_of c.in-Ok-read_session_from.session) c.in-Ok-read_session_from.ensures.ok)
