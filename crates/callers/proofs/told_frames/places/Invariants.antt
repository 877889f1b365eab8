use Rattle.std.proofs.Common.{◌≡◌, ◌++◌, map}
use Rattle.dap_message.specs.ViewItems.{frames_left}
use Rattle.callers.specs.Frames.{reported, place_of_frame}
use Rattle.callers.proofs.told_frames.places.Given as goal

-- The locations so far, followed by those of the remaining frames, are those of all frames.
abbrev pub invariant-loop-frame : goal.invariant-loop-frame
invariant-loop-frame l =
    map reported l.places.items ++ map place_of_frame (frames_left l.frame-iterator)
    ≡ map place_of_frame (frames_left l.fn.frames)
