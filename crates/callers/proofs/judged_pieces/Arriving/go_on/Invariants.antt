use Rattle.std.proofs.Common.{◌≡◌, ◌-◌, length}
use Rattle.callers.specs.Arriving.{bytes_left, given_so_far}
use Rattle.callers.proofs.judged_pieces.Arriving.go_on.Given as goal

-- The chunks that were passed do not have unread bytes.
abbrev pub invariant-loop-piece : goal.invariant-loop-piece
invariant-loop-piece l = (bytes_left l.self ≡ bytes_left l.fn.self)
    × (given_so_far l.self ≡ given_so_far l.fn.self)

abbrev pub decreases-loop-piece : goal.decreases-loop-piece
decreases-loop-piece l = length l.self.pieces.now - l.self.at
