-- Engines over bytes in memory: their guarantees for a reader hold for the bytes.
use Rattle.std.proofs.Common.{◌≡◌, ℕ, List, ◌++◌, Option, Some, None, false, refl, ◌∙◌, sym, ap}
use Rattle.std.proofs.Common.{arith, append-nil, true≢false}
use Rattle.dap_device.specs.declared.device.Source.{Ghosts as Source}
use Rattle.dap_device.specs.declared.reading.Stop.{Stop}
use Rattle.dap_device.specs.declared.reading.Stop.TheVariants.{End, Full, Failed}
use Rattle.dap_device.specs.Memory.{GivenBytes}
use Rattle.dap_device.specs.Pieces.{HasReadSoFar}
use Rattle.dap_device.specs.Reading.{HasReadInput}
use Rattle.dap_frame.proofs.Ends.{IsReadable}
use Rattle.dap_input.specs.declared.refused.Refused.{Refused}
use Rattle.dap_input.specs.Inputs.{Fault, Input, IsRefusedAt, refused, read_fault}
use Rattle.dap_input.specs.Validation.{Validation}
use Rattle.dap_input.specs.ReadTo.{IsOf}
use Rattle.dap_input.specs.Refusals.{IsRefused, RefusalMatches}
use Rattle.dap_input.specs.Streaming.{RefusesNext}
use Rattle.dap_input.proofs.Refusals.{refused_as, refused_in}
use Rattle.dap_input.proofs.Runs.{AcceptedFacts, ValueLaws}

-- Bytes in memory as a source.
abbrev pub memory : Source GivenBytes
memory = record {
  left = λ source. Some source.left;
  given = λ source. source.given;
  failures = λ source. 0;
}

-- The source before anything is read.
abbrev pub start : List ℕ → GivenBytes
start bytes = record { left = bytes; given = 0 }

-- All bytes of a reader that did not fail.
abbrev pub all_of : List ℕ → Input
all_of bytes = record { bytes = bytes; failed = false }

-- A rejection of bytes whose reader did not fail.
pub reported : (j : Validation) (bytes : List ℕ) (because : Refused) (number : ℕ) (fault : Fault)
    → RefusalMatches because number fault → IsRefusedAt j (all_of bytes) number fault
    → IsRefused j bytes because
reported j bytes because number (refused why) tells is =
    refused_as j bytes because number why tells is.0
reported j bytes because number read_fault tells is = absurd (true≢false (sym is.0))

module _ (old new : GivenBytes) where
  -- If the reader reached its end, all bytes were read.
  pub all_came : (limit : ℕ) (bytes : List ℕ) → HasReadInput memory old new limit bytes End
      → bytes ≡ old.left
  all_came limit bytes come =
      sym (come.came ∙ ap (λ rest. bytes ++ rest) come.stopped.0 ∙ append-nil bytes)

  -- The bytes read are those of the input, or a prefix of them. The reader did not fail.
  pub came_of : (bytes : List ℕ) (stop : Option Stop) → HasReadSoFar memory old new bytes stop
      → IsOf bytes stop (all_of old.left)
  came_of bytes None come = (new.left, come.came)
  came_of bytes (Some End) come =
      (come.came ∙ ap (λ rest. bytes ++ rest) come.paused.0 ∙ append-nil bytes, refl)
  came_of bytes (Some Full) come = (new.left, come.came)
  came_of bytes (Some Failed) come = absurd (let failed = come.paused in omega (arith, failed))

  module _ (j : Validation) (records : IsReadable j.records) (judged : ValueLaws j)
      (accepted : AcceptedFacts j) (Gives : List ℕ → List ℕ → Type 0) where
    -- A command function that rejects a record rejects the bytes for the same reason.
    pub refused_whole : (because : Refused) (text : List ℕ)
        → RefusesNext j Gives memory old new because text → IsRefused j old.left because
    refused_whole because text next =
        let here = refused_in j records judged accepted next.to.bytes next.number because
        (all_of old.left) next.stop (came_of next.to.bytes next.stop next.to.came) next.refuses
        next.cut in
        reported j old.left because next.number here.fault here.tells here.is_refused
