use Rattle.std.proofs.Common.{◌∙◌, ◌+◌, ap, arith, drop, sym}
use Rattle.callers.specs.Pieces.{joined}
use Rattle.callers.proofs.JoinedPieces.{drop_at, passed}
use Rattle.callers.proofs.judged_pieces.Arriving.go_on.Goals as goal

pub loop-piece-preserved : goal.loop-piece-preserved
loop-piece-preserved c =
    let self = c.loop-piece.self in
    let piece = c.in-Some.piece.now in
    let at = drop_at self.pieces.now self.at piece c.in-Some.ensures.lookup.3.0
    (c.in-Some.ensures.lookup.3.1 piece) in (
      passed piece (drop (self.at + 1) self.pieces.now) self.read
          (omega (arith, c.if-self-piece.false))
          ∙ ap (λ pieces. drop self.read (joined pieces)) (sym at)
          ∙ c.loop-piece.invariant.0,
      c.loop-piece.invariant.1,
    )
