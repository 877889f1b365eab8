use Rattle.std.proofs.Common.{◌≡◌, ◌+◌, ◌≤◌, inr, Some, length, vec_capacity, vec_len, arith}
use Rattle.dap_frame.specs.Reading.{limits_of}
use Rattle.dap_recording.proofs.RecorderSteps.{frame_short, on_err, on_ok}
use Rattle.dap_recording.proofs.one_side.make_room.Goals as goal

pub returns-then-room-saturating_sub-clause-room : goal.returns-then-room-saturating_sub-clause-room
returns-then-room-saturating_sub-clause-room c = λ rest content used represents within frame.
    let held = c.held.ensures.rest rest represents in
    let short = frame_short (limits_of c.args.framer.now) rest c.args.piece.now content used within
    frame in
    omega (arith, held, short)

pub returns-in-Some-clause-room : goal.returns-in-Some-clause-room
returns-in-Some-clause-room c =
    on_ok _ c.reserve.result
    (vec_len c.reserve.new.self + (c.in-Some.len + 32) ≤ vec_capacity c.reserve.new.self) _
    (λ fits rest content used represents within frame.
    let same : Some c.in-Some.len ≡ Some (length content) =
    c.in-Some.ensures.len rest content used represents frame in
    let len : c.in-Some.len ≡ length content = cc in
    omega (arith, fits, len)) c.reserve.ensures.ok

pub returns-in-Some-clause-wanted : goal.returns-in-Some-clause-wanted
returns-in-Some-clause-wanted c =
    on_err _ c.reserve.result _
    (λ rest represents.
    let ends = c.in-Some.ensures.ends rest represents in
    (ends.0, inr ends.1))

pub returns-in-None-clause-room : goal.returns-in-None-clause-room
returns-in-None-clause-room c = λ rest content used represents within frame.
    absurd (let none = c.in-None.ensures.len rest content used represents frame in cc)
