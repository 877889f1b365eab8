use Rattle.std.proofs.Common.{◌+◌, ◌++◌, take, ap, subst, arith, Some, sym}
use Rattle.dap_frame.specs.Frame.{HasFrame, IsFrame}
use Rattle.dap_frame.specs.Framer.{IsKeptIn}
use Rattle.dap_frame.specs.Reading.{Reading}
use Rattle.dap_frame.proofs.FedSteps.{content_len_is, ends_in, kept_of, not_faulty, not_short}
use Rattle.dap_frame.proofs.FedSteps.{not_unfinished}
use Rattle.dap_frame.proofs.framer.Framer.content_len_in.Goals as goal

pub overflow_sub-missing : goal.overflow_sub-missing
overflow_sub-missing c =
    let whole =
    subst (IsKeptIn c.self.inside.limits c.self.inside.bytes.items) c.in-Open.is
    c.self.invariant.kept in
    let begun = rw c.in-Ok-Ended.field-0-is at c.in-Ok-Ended.ensures in
    let room = (begun c.self.inside.bytes.items whole.0 whole.1).room in
    omega (arith, room)

pub overflow_sub-left : goal.overflow_sub-left
overflow_sub-left c =
    let whole =
    subst (IsKeptIn c.self.inside.limits c.self.inside.bytes.items) c.in-Open.is
    c.self.invariant.kept in
    let begun = rw c.in-Ok-Ended.field-0-is at c.in-Ok-Ended.ensures in
    let within = (begun c.self.inside.bytes.items whole.0 whole.1).within in
    omega (arith, within)

pub returns-then-missing-left-clause-ends : goal.returns-then-missing-left-clause-ends
returns-then-missing-left-clause-ends c = λ rest represents.
    let kept = kept_of c.self.inside c.args.self.now c.in-Open.progress rest c.self.view_is
    c.in-Open.is represents in
    let begun = rw c.in-Ok-Ended.field-0-is at c.in-Ok-Ended.ensures in
    let got = ends_in c.self.inside.limits c.self.inside.bytes.items rest c.args.piece.now
    _ c.in-Ok-Ended.content_len c.in-Ok-Ended.used (begun c.self.inside.bytes.items rest kept)
    (omega arith) in (
      got.0,
      subst (λ l. HasFrame l (rest ++ c.args.piece.now))
          (ap (λ (r : Reading). r.limits) c.self.view_is) got.1,
    )

pub returns-then-missing-left-clause-len : goal.returns-then-missing-left-clause-len
returns-then-missing-left-clause-len c = λ rest content used represents frame.
    let kept = kept_of c.self.inside c.args.self.now c.in-Open.progress rest c.self.view_is
    c.in-Open.is represents in
    let begun = rw c.in-Ok-Ended.field-0-is at c.in-Ok-Ended.ensures in
    ap Some (content_len_is c.self.inside.limits c.self.inside.bytes.items rest c.args.piece.now
    _ c.in-Ok-Ended.content_len c.in-Ok-Ended.used (begun c.self.inside.bytes.items rest kept)
    content used
    (subst (λ l. IsFrame l (rest ++ take used c.args.piece.now) content)
    (sym (ap (λ (r : Reading). r.limits) c.self.view_is)) frame) (omega arith))

pub returns-then-missing-left-clause-within : goal.returns-then-missing-left-clause-within
returns-then-missing-left-clause-within c =
    let whole =
    subst (IsKeptIn c.self.inside.limits c.self.inside.bytes.items) c.in-Open.is
    c.self.invariant.kept in
    let begun = rw c.in-Ok-Ended.field-0-is at c.in-Ok-Ended.ensures in
    let small = (begun c.self.inside.bytes.items whole.0 whole.1).small in
    omega (arith, small, ap (λ (r : Reading). r.limits.content) c.self.view_is)

pub returns-else-missing-left-clause-len : goal.returns-else-missing-left-clause-len
returns-else-missing-left-clause-len c = λ rest content used represents frame.
    let kept = kept_of c.self.inside c.args.self.now c.in-Open.progress rest c.self.view_is
    c.in-Open.is represents in
    let begun = rw c.in-Ok-Ended.field-0-is at c.in-Ok-Ended.ensures in
    absurd (not_short c.self.inside.limits c.self.inside.bytes.items rest c.args.piece.now
    _ c.in-Ok-Ended.content_len c.in-Ok-Ended.used (begun c.self.inside.bytes.items rest kept)
    content used
    (subst (λ l. IsFrame l (rest ++ take used c.args.piece.now) content)
    (sym (ap (λ (r : Reading). r.limits) c.self.view_is)) frame) (omega arith))

pub returns-in-Ok-Unfinished-clause-len : goal.returns-in-Ok-Unfinished-clause-len
returns-in-Ok-Unfinished-clause-len c = λ rest content used represents frame.
    let kept = kept_of c.self.inside c.args.self.now c.in-Open.progress rest c.self.view_is
    c.in-Open.is represents in
    let begun = rw c.in-Ok-Unfinished.field-0-is at c.in-Ok-Unfinished.ensures in
    absurd (not_unfinished c.self.inside.limits rest c.args.piece.now content used
    (subst (λ l. IsFrame l (rest ++ take used c.args.piece.now) content)
    (sym (ap (λ (r : Reading). r.limits) c.self.view_is)) frame) _
    (begun c.self.inside.bytes.items rest kept).1)

pub returns-in-Err-clause-len : goal.returns-in-Err-clause-len
returns-in-Err-clause-len c = λ rest content used represents frame.
    let kept = kept_of c.self.inside c.args.self.now c.in-Open.progress rest c.self.view_is
    c.in-Open.is represents in
    absurd (not_faulty c.self.inside.limits rest c.args.piece.now content used
    (subst (λ l. IsFrame l (rest ++ take used c.args.piece.now) content)
    (sym (ap (λ (r : Reading). r.limits) c.self.view_is)) frame) _
    (c.in-Err.ensures c.self.inside.bytes.items rest kept).1)
