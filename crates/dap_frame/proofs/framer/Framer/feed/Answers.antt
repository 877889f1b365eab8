use Rattle.std.proofs.Common.{arith, ◌≡◌, sym, ap, ◌∙◌, subst, refl, ◌+◌, take, ◌++◌, ℕ, [], Vec}
use Rattle.std.proofs.Common.{Global}
use Rattle.std.proofs.lemmas.List.{length-drop, take_rest}
use Rattle.dap_frame.specs.Frame.{IsFrame, HasContentByte}
use Rattle.dap_frame.specs.Reading.{Reading}
use Rattle.dap_frame.specs.Framer.{IsKeptIn}
use Rattle.dap_frame.proofs.FedSteps.{kept_of, fed_open, fed_frame, content_byte}
use Rattle.dap_frame.proofs.Frames.{open_at_first}
use Rattle.dap_frame.proofs.framer.Framer.feed.Goals as goal

pub invariant_of-self-then-len-content_len : goal.invariant_of-self-then-len-content_len
invariant_of-self-then-len-content_len c =
    let whole =
    subst (IsKeptIn c.self.inside.limits c.self.inside.bytes.items) c.in-Open.is
    c.self.invariant.kept in
    let begun = rw c.in-Ok-Ended.field-0-is at c.in-Ok-Ended.ensures in
    let took = rw (take_rest c.args.piece.now c.in-Ok-Ended.used) at c.in-Ok.ensures.ok in
    let got = fed_open c.self.inside.limits c.self.inside.bytes.items whole.0 c.args.piece.now
    c.take_content.new.bytes.items
    c.in-Ok-Ended.header_len c.in-Ok-Ended.content_len c.in-Ok-Ended.used c.in-Ok.more
    (begun c.self.inside.bytes.items whole.0 whole.1) took.0 took.1 (omega arith) in
    record { sound = c.self.invariant.sound; kept = (whole.0 ++ c.args.piece.now, got.0) }

pub returns-then-len-content_len-clause-gives : goal.returns-then-len-content_len-clause-gives
returns-then-len-content_len-clause-gives c = λ rest represents.
    let kept = kept_of c.self.inside c.args.self.now c.in-Open.progress rest c.self.view_is
    c.in-Open.is represents in
    let begun = rw c.in-Ok-Ended.field-0-is at c.in-Ok-Ended.ensures in
    let took = rw (take_rest c.args.piece.now c.in-Ok-Ended.used) at c.in-Ok.ensures.ok in
    let got = fed_open c.self.inside.limits c.self.inside.bytes.items rest c.args.piece.now
    c.take_content.new.bytes.items
    c.in-Ok-Ended.header_len c.in-Ok-Ended.content_len c.in-Ok-Ended.used c.in-Ok.more
    (begun c.self.inside.bytes.items rest kept) took.0 took.1 (omega arith) in
    (omega arith, (refl, record { going = refl; kept = got.0; is_open = got.1 }))

pub returns-in_default-clause-memory_for_content : goal.returns-in_default-clause-memory_for_content
returns-in_default-clause-memory_for_content c = λ memory rest represents.
    let kept = kept_of c.self.inside c.args.self.now c.in-Open.progress rest c.self.view_is
    c.in-Open.is represents in
    let limits : c.self.inside.limits ≡ c.args.self.now.limits =
    ap (λ (r : Reading). r.limits) c.self.view_is in
    let begun = rw c.in-Ok-Ended.field-0-is at c.in-Ok-Ended.ensures in
    let some = rw (take_rest c.args.piece.now c.in-Ok-Ended.used) at c.in_default.ensures.refused in
    subst (λ l. HasContentByte l (rest ++ c.args.piece.now)) limits
    (content_byte c.self.inside.limits c.self.inside.bytes.items rest c.args.piece.now
    c.in-Ok-Ended.header_len c.in-Ok-Ended.content_len c.in-Ok-Ended.used
    (begun c.self.inside.bytes.items rest kept) (omega (arith, c.in_default.ensures.wanted)) some)

pub returns-in_default-clause-memory_for_bytes : goal.returns-in_default-clause-memory_for_bytes
returns-in_default-clause-memory_for_bytes c = λ memory rest represents.
    let some = rw (take_rest c.args.piece.now c.in-Ok-Ended.used) at c.in_default.ensures.refused in
    omega (arith, some, length-drop c.in-Ok-Ended.used c.args.piece.now)

pub returns-clause-gives : goal.returns-clause-gives
returns-clause-gives c = λ rest represents.
    let kept = kept_of c.self.inside c.args.self.now c.in-Open.progress rest c.self.view_is
    c.in-Open.is represents in
    let limits : c.self.inside.limits ≡ c.args.self.now.limits =
    ap (λ (r : Reading). r.limits) c.self.view_is in
    let begun = rw c.in-Ok-Ended.field-0-is at c.in-Ok-Ended.ensures in
    let took = rw (take_rest c.args.piece.now c.in-Ok-Ended.used) at c.in-Ok.ensures.ok in
    let got = fed_frame c.self.inside.limits c.self.inside.bytes.items rest c.args.piece.now
    c.take_content.new.bytes.items
    c.in-Ok-Ended.header_len c.in-Ok-Ended.content_len c.in-Ok-Ended.used c.in-Ok.more
    (begun c.self.inside.bytes.items rest kept) took.0 took.1 (omega arith) in
    let content : c.take_content.new.bytes.items ≡ c.from_vec.result =
    sym (c.from_vec.ensures ∙ ap (λ (v : Vec ℕ Global). v.items) c.replace-bytes.ensures.value)
    in
    let empty : c.replace-bytes.new.dest.items ≡ [] =
    ap (λ (v : Vec ℕ Global). v.items) c.replace-bytes.ensures.after ∙ c.new.ensures.items in
    let low = c.self.invariant.sound.header_low in
    let frame =
    subst (λ text. IsFrame c.self.inside.limits (rest
    ++ take (c.in-Ok-Ended.used + c.in-Ok.more) c.args.piece.now) text) content got.1 in (
      got.0,
      (
        subst (λ l. IsFrame l (rest ++ take (c.in-Ok-Ended.used + c.in-Ok.more) c.args.piece.now)
            c.from_vec.result) limits frame,
        record {
          going = refl;
          kept = (empty, c.start.ensures c.self.inside.limits, omega arith);
          is_open = open_at_first c.self.inside.limits (omega arith);
        },
      ),
    )
