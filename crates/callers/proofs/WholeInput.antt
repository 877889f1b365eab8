-- The result of `check` for an input that arrives in chunks holds for all of its bytes.
use Rattle.std.proofs.Common.{◌≡◌, ℕ, true, false, List, ◌++◌, Option, Some, None}
use Rattle.std.proofs.Common.{Result, Ok, Err, IfErr, IfOk, sym, ◌∙◌, ap, subst, append-nil, arith}
use Rattle.std.proofs.Common.{true≢false}
use Rattle.dap_device.specs.declared.device.Source.{Ghosts as Source}
use Rattle.dap_device.specs.Pieces.{HasPaused}
use Rattle.dap_device.specs.declared.reading.Stop.{Stop}
use Rattle.dap_device.specs.declared.reading.Stop.TheVariants.{End, Full, Failed}
use Rattle.dap_rename.specs.declared.mode.Mode.{Mode}
use Rattle.dap_input.specs.declared.limits.Limits.{Limits}
use Rattle.dap_input.specs.declared.refused.Refused.{Refused}
use Rattle.dap_input.specs.declared.refused.Refused.TheVariants.{Incomplete, Memory, WriteFault}
use Rattle.dap_input.specs.Inputs.{Fault, IsRefusedAt, read_fault, refused}
use Rattle.dap_input.specs.Validation.{IsFirstRefusal, Reason, cut}
use Rattle.dap_input.specs.Limits.{AreSound}
use Rattle.dap_input.specs.ReadTo.{has_failed, so_far}
use Rattle.dap_input.specs.Refusals.{IsRefused, RefusalMatches, reason_of}
use Rattle.dap_input.proofs.Refusals.{cut_told, refused_as}
use Rattle.dap_normalise.specs.Accepting.{IsAccepted, RecordingRefusalStays, accepting}
use Rattle.dap_normalise.specs.Checking.{Checks, HasChecked}
use Rattle.dap_normalise.specs.Normalising.{RefusesBytes}
use Rattle.dap_normalise.specs.Streaming.{RefusesNext}
use Rattle.dap_normalise.specs.declared.checked.Checked.{Checked}
use Rattle.callers.specs.declared.judged_pieces.Arriving.{Arriving}
use Rattle.callers.specs.Arriving.{bytes_left, given_so_far}
use Rattle.callers.specs.Pieces.{IsJudged}

-- An input that arrives in chunks, as a source.
abbrev pub arriving : Source Arriving
arriving = record { left = λ s. Some (bytes_left s); given = given_so_far; failures = λ s. 0 }

-- The result is that the record is incomplete.
abbrev TellsCut : Option (ℕ × Reason) → Type 0
TellsCut (Some (n, cut)) = Unit {0}
TellsCut reported = ⊥

module _ (limits : Limits) (mode : Mode) (old new : Arriving) where
  pub judged : (checked : Checked) → HasChecked arriving limits mode false old new checked
      → IsJudged limits mode (bytes_left old) checked
  judged checked has = record {
    messages = has.messages;
    accepts = subst (λ bytes. IsAccepted limits mode bytes has.messages)
        (sym (has.accepts.came.came ∙ ap (λ rest. has.accepts.whole ++ rest)
        has.accepts.came.stopped.0 ∙ append-nil has.accepts.whole)) has.accepts.gives;
    counted = has.counted;
  }

  -- The source never fails.
  good : (stop : Option Stop) → HasPaused arriving old new stop → has_failed stop ≡ true → ⊥
  good None paused failed = true≢false (sym failed)
  good (Some End) paused failed = true≢false (sym failed)
  good (Some Full) paused failed = true≢false (sym failed)
  good (Some Failed) paused failed = absurd (omega (arith, paused))

  -- At the end of the input, all of its bytes were read.
  all_came : (bytes : List ℕ) (stop : Option Stop) → HasPaused arriving old new stop
      → stop ≡ Some End → bytes_left old ≡ bytes ++ bytes_left new → bytes ≡ bytes_left old
  all_came bytes None paused end split = absurd (let e = end in cc)
  all_came bytes (Some End) paused end split =
      sym (split ∙ ap (λ rest. bytes ++ rest) paused.0 ∙ append-nil bytes)
  all_came bytes (Some Full) paused end split = absurd (let e = end in cc)
  all_came bytes (Some Failed) paused end split = absurd (let e = end in cc)

  module _ (sound : AreSound limits) (stays : RecordingRefusalStays) (because : Refused)
      (text : List ℕ) (next : RefusesNext arriving limits mode old new because text) where
    is_refused : (why : Reason) → RefusalMatches because next.number (refused why)
        → IsFirstRefusal (accepting limits mode) next.to.bytes next.number why
        → IsRefused (accepting limits mode) (bytes_left old) because
    is_refused cut tells is =
        subst (λ bytes. IsRefused (accepting limits mode) bytes because)
        (all_came next.to.bytes next.stop next.to.came.paused
        (next.cut next.number (cut_told because next.number tells)) next.to.came.came)
        (refused_as (accepting limits mode) next.to.bytes because next.number cut tells is)
    is_refused why tells is =
        subst (λ bytes. IsRefused (accepting limits mode) bytes because) (sym next.to.came.came)
        (stays limits mode sound next.to.bytes (bytes_left new) because
        (λ n same. subst TellsCut (sym (ap reason_of same) ∙ tells) tt)
        (refused_as (accepting limits mode) next.to.bytes because next.number why tells is))

    reported : (fault : Fault) → RefusalMatches because next.number fault
        → IsRefusedAt (accepting limits mode) (so_far next.to.bytes next.stop) next.number fault
        → IsRefused (accepting limits mode) (bytes_left old) because
    reported (refused why) tells is = is_refused why tells is.0
    reported read_fault tells is = absurd (good next.stop next.to.came.paused is.0)

    refuses_next : IsRefused (accepting limits mode) (bytes_left old) because
    refuses_next = reported next.refuses.fault next.refuses.tells next.refuses.is_refused

  pub refuses : AreSound limits → RecordingRefusalStays → (because : Refused)
      → Checks arriving limits mode false old new (Err because)
      → RefusesBytes limits mode (bytes_left old) because
  refuses sound stays Memory outcome = tt
  refuses sound stays WriteFault outcome = absurd outcome
  refuses sound stays (Incomplete client adapter) outcome = absurd (true≢false (sym outcome.asked))
  refuses sound stays because outcome = refuses_next sound stays because outcome.0 outcome.1

  -- The same for every result.
  pub answered : (result : Result Checked Refused) → Checks arriving limits mode false old new
      result
      → IfOk result (IsJudged limits mode (bytes_left old))
  answered (Ok checked) has = judged checked has
  answered (Err because) has = tt

  pub refused_whole : AreSound limits → RecordingRefusalStays → (result : Result Checked Refused)
      → Checks arriving limits mode false old new result
      → IfErr result (RefusesBytes limits mode (bytes_left old))
  refused_whole sound stays (Ok checked) has = tt
  refused_whole sound stays (Err because) has = refuses sound stays because has
