use Rattle.std.proofs.Common.{◌≡◌, ◌+◌, ◌≤◌, [], inl, inr, ◌++◌, length, take, Err, vec_len}
use Rattle.std.proofs.Common.{vec_capacity, refl, sym, ap, ◌∙◌, subst, arith}
use Rattle.dap_frame.specs.declared.fault.FrameFault.{FrameFault}
use Rattle.dap_frame.specs.Frame.{IsFrame}
use Rattle.dap_frame.specs.Limits.{IsSound}
use Rattle.dap_frame.specs.Reading.{Represents, limits_of}
use Rattle.dap_recording.specs.OneSide.{WantsMemory}
use Rattle.dap_recording.specs.Recording.{record_text}
use Rattle.dap_frame.specs.declared.limits.FrameLimits.{FrameLimits}
use Rattle.dap_frame.proofs.Frames.{content_small}
use Rattle.dap_recording.proofs.FramerSteps.{fed_frame}
use Rattle.dap_recording.proofs.RecorderSteps.{from_err, from_ok, not_both, takes_all}
use Rattle.dap_recording.proofs.RecorderSteps.{takes_fault}
use Rattle.dap_recording.proofs.one_side.record_frame.Goals as goal

pub make_room-requires : goal.make_room-requires
make_room-requires c = subst IsSound (sym c.requires.same) c.requires.sound

pub returns-then-is_err-clause-takes : goal.returns-then-is_err-clause-takes
returns-then-is_err-clause-takes c = λ rest represents.
    let wanted =
    from_err _ c.make_room.result _ (sym c.is_err.ensures.value ∙ c.if-is_err.true)
    c.make_room.ensures.wanted in
    record {
      text = c.make_room.ensures.items;
      memory = λ _. refl;
      wanted = λ _. subst (λ l. WantsMemory l rest c.args.piece.now) c.requires.same
          (wanted rest represents);
      shown = λ apart. absurd (apart refl);
    }

pub returns-in-Err-clause-takes : goal.returns-in-Err-clause-takes
returns-in-Err-clause-takes c = λ rest represents.
    takes_fault c.args.limits (limits_of c.args.framer.now) rest c.args.piece.now
    c.args.text.now.items c.make_room.new.text.items c.args.framer.now c.feed.new.self
    c.in-Err.fault
    c.requires.same (c.in-Err.ensures.gives rest represents) c.make_room.ensures.items
    (λ e. c.in-Err.ensures.memory (ap Err e))
    (λ e. (
      c.in-Err.ensures.memory_for_bytes (ap Err e) rest represents,
      inl (c.in-Err.ensures.memory_for_content (ap Err e) rest represents),
    ))

pub returns-in-None-clause-takes : goal.returns-in-None-clause-takes
returns-in-None-clause-takes c = λ rest represents.
    inl (takes_all (limits_of c.args.framer.now) rest c.args.piece.now c.args.text.now.items
    c.make_room.new.text.items c.in-Ok.fed c.feed.new.self c.in-None.is
    (c.in-Ok.ensures.gives rest represents) c.make_room.ensures.items)

pub returns-then-is_err-2-clause-takes : goal.returns-then-is_err-2-clause-takes
returns-then-is_err-2-clause-takes c = λ rest represents.
    let gives = c.in-Ok.ensures.gives rest represents in
    let got = fed_frame (limits_of c.args.framer.now) rest c.args.piece.now c.in-Ok.fed
    c.feed.new.self gives c.in-Some.content c.in-Some.is in
    let small = (content_small (limits_of c.args.framer.now) _ c.in-Some.content got.0).0 in
    let same : c.as_slice.result.now ≡ c.in-Some.content =
    c.as_slice.ensures ∙ c.in-Some.content-is in
    let rooms =
    from_ok _ c.make_room.result _ (sym c.is_err.ensures.value ∙ c.if-is_err.false)
    c.make_room.ensures.room in
    let room : vec_len c.make_room.new.text + length c.in-Some.content + 32
    ≤ vec_capacity c.make_room.new.text =
    rooms rest c.in-Some.content c.in-Ok.fed.used represents gives.0 got.0 in
    let low : length c.as_slice.result.now ≤ c.args.limits.content =
    omega (arith, ap length same, small, ap (λ (l : FrameLimits). l.content) c.requires.same) in
    let fits : vec_len c.make_room.new.text + length c.as_slice.result.now + 32
    ≤ vec_capacity c.make_room.new.text = omega (arith, ap length same, room) in
    absurd (not_both FrameFault c.write_record.result (sym c.is_err-in-Some.ensures.value
    ∙ c.if-is_err-2.true) (c.write_record.ensures.room low fits))

pub returns-else-is_err-2-clause-takes : goal.returns-else-is_err-2-clause-takes
returns-else-is_err-2-clause-takes c = λ rest represents.
    let gives = c.in-Ok.ensures.gives rest represents in
    let got = fed_frame (limits_of c.args.framer.now) rest c.args.piece.now c.in-Ok.fed
    c.feed.new.self gives c.in-Some.content c.in-Some.is in
    let same : c.as_slice.result.now ≡ c.in-Some.content =
    c.as_slice.ensures ∙ c.in-Some.content-is in
    let wrote : c.write_record.new.out.items
    ≡ c.make_room.new.text.items ++ record_text c.args.side c.as_slice.result.now =
    from_ok FrameFault c.write_record.result _ (sym c.is_err-in-Some.ensures.value
    ∙ c.if-is_err-2.false) c.write_record.ensures.ok in
    inr (record {
      content = c.in-Some.content;
      is_frame = subst
          (λ l. IsFrame l (rest ++ take c.in-Ok.fed.used c.args.piece.now) c.in-Some.content)
          c.requires.same got.0;
      text = wrote ∙ ap (λ xs. c.make_room.new.text.items ++ record_text c.args.side xs) same
          ∙ ap (λ xs. xs ++ record_text c.args.side c.in-Some.content) c.make_room.ensures.items;
      represents = subst (λ framer. Represents framer []) (sym c.recycle.ensures) got.1;
    })
