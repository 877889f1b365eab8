use Rattle.std.proofs.Common.{◌+◌, [], ℕ, List, take, ap, subst, arith}
use Rattle.dap_frame.specs.Reading.{Reading}
use Rattle.dap_frame.specs.Frame.{IsFrame}
use Rattle.dap_frame.proofs.FedSteps.{frame_in}
use Rattle.dap_frame.proofs.framer.Framer.frame_in.Goals as goal

pub overflow_sub-piece : goal.overflow_sub-piece
overflow_sub-piece c =
    let low = c.self.invariant.sound.header_low in
    let ended = (rw c.in-Ok-Ended.field-0-is at c.in-Ok-Ended.ensures) []
    (c.start.ensures c.self.inside.limits) (omega (arith, low)) in
    ended.within

pub returns-then-content_len-piece-clause-within :
    goal.returns-then-content_len-piece-clause-within
returns-then-content_len-piece-clause-within c =
    let low = c.self.invariant.sound.header_low in
    let ended = (rw c.in-Ok-Ended.field-0-is at c.in-Ok-Ended.ensures) []
    (c.start.ensures c.self.inside.limits) (omega (arith, low)) in
    let within = ended.within in
    omega (arith, within)

pub returns-then-content_len-piece-clause-frame : goal.returns-then-content_len-piece-clause-frame
returns-then-content_len-piece-clause-frame c =
    let low = c.self.invariant.sound.header_low in
    let ended = (rw c.in-Ok-Ended.field-0-is at c.in-Ok-Ended.ensures) []
    (c.start.ensures c.self.inside.limits) (omega (arith, low)) in
    subst (λ l. (content : List ℕ)
    × IsFrame l (take (c.in-Ok-Ended.used + c.in-Ok-Ended.content_len) c.args.piece.now) content)
    (ap (λ (r : Reading). r.limits) c.self.view_is)
    (frame_in c.self.inside.limits c.args.piece.now _ c.in-Ok-Ended.content_len c.in-Ok-Ended.used
    ended c.if-content_len-piece.true)
