use Rattle.std.proofs.Common.{◌≡◌, refl, sym, Some, slice_get, take}
use Rattle.dap_stored.specs.Sessions.{messages_of, stored_sent}
use Rattle.dap_normalise.specs.JudgingSteps.{judge_limits, judge_mode}
use Rattle.dap_compare.proofs.SessionComparing.{accepted_at, has_appended, never_rejected}
use Rattle.dap_compare.proofs.SessionComparing.{none_past}
use Rattle.dap_compare.proofs.sessions.append_next.Goals as goal

pub returns-in_default-clause-next : goal.returns-in_default-clause-next
returns-in_default-clause-next g c = λ normal represents. record {
  past = none_past (messages_of c.args.session.now) c.args.place (sym c.in_default.ensures);
  judge_is = refl;
  kept = refl;
}

pub returns-in-Ok-clause-next : goal.returns-in-Ok-clause-next
returns-in-Ok-clause-next g c = λ normal represents.
    let messages = messages_of c.args.session.now in
    let place = c.args.place in
    let m = stored_sent c.in-Some.message in
    let is_at : slice_get messages place ≡ Some m = sym c.in-Some.ensures in
    let next =
    accepted_at (judge_limits c.args.judge.now) (judge_mode c.args.judge.now) messages place m is_at
    c.requires.accepted in
    has_appended {longer = c.judge_message.new.out.items} is_at next.1.is_message
    (c.in-Ok.ensures.judges (take place messages) normal next.0 represents next.1.is_message)

pub unreachable-requires : goal.unreachable-requires
unreachable-requires g c =
    let messages = messages_of c.args.session.now in
    let place = c.args.place in
    let m = stored_sent c.in-Some.message in
    let is_at : slice_get messages place ≡ Some m = sym c.in-Some.ensures in
    let next =
    accepted_at (judge_limits c.args.judge.now) (judge_mode c.args.judge.now) messages place m is_at
    c.requires.accepted in
    let was = c.requires.represents in
    never_rejected (judge_limits c.args.judge.now) (judge_mode c.args.judge.now)
    (take place messages) next.0 m next.1 _ c.in-Err.refused c.in_default-refused.not-Memory
    (c.in-Err.ensures.judges (take place messages) was.normal next.0 was.represents
    next.1.is_message)
