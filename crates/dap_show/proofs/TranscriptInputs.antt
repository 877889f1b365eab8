-- The result of `show_transcript`, given the result for the bytes of its input.
use Rattle.std.proofs.Common.{◌≡◌, ◌⊎◌, inl, inr, ℕ, ◌+◌, List, length, Result, Ok, Err, refl}
use Rattle.std.proofs.Common.{ap, subst, arith, length-append}
use Rattle.std.specs.Prelude.{IfErr, IfOk, Vec}
use Rattle.std.specs.declared.alloc.Global.{Global}
use Rattle.dap_device.specs.declared.device.Sink.{Ghosts as Sink}
use Rattle.dap_device.specs.declared.device.Source.{Ghosts as Source}
use Rattle.dap_device.specs.Reading.{HasReadInput}
use Rattle.dap_device.specs.declared.reading.Stop.{Stop}
use Rattle.dap_device.specs.declared.reading.Stop.TheVariants.{End, Full, Failed}
use Rattle.dap_input.specs.{Engine.Accepts, Refusals.IsRefused, declared.limits.Limits.Limits}
use Rattle.dap_input.specs.declared.refused.Refused.{Refused}
use Rattle.dap_input.specs.declared.refused.Refused.TheVariants.{Memory, ReadFault, Record}
use Rattle.dap_input.specs.declared.refused.Refused.TheVariants.{WriteFault}
use Rattle.dap_normalise.specs.{Accepting.accepting, Normalising.RefusesBytes}
use Rattle.dap_recording.specs.declared.record_fault.RecordCause.TheVariants.{Cut}
use Rattle.dap_rename.specs.declared.mode.Mode.TheVariants.{Whole}
use Rattle.dap_show.specs.Transcripts.{IsTranscriptOf, ShowsTranscript, result_of_input}

abbrev failure : Refused → Result (Vec ℕ Global) Refused
failure because = Err because

module _ (limits : Limits) (bytes : List ℕ) {R : Type 0} (source : Source R) (old new : R) where
  abbrev Came : Stop → Type 0
  Came stop = HasReadInput source old new limits.input bytes stop

  -- The input has a transcript only if the reader reached its end.
  pub accepts : (result : Result (Vec ℕ Global) Refused) (stop : Stop) → Came stop
      → IfOk result (λ text. IsTranscriptOf limits bytes text.items)
      → (text : Vec ℕ Global) → result_of_input result stop ≡ Ok text
      → Accepts source limits.input (IsTranscriptOf limits) old new text.items
  accepts (Ok made) End came gives text is =
      let same : made ≡ text = cc in
      record {
        whole = bytes;
        came = came;
        gives = subst (λ (v : Vec ℕ Global). IsTranscriptOf limits bytes v.items) same gives;
      }
  accepts (Ok made) Full came gives text is =
      let short = gives.1.short in let long = came.has_length in absurd (omega (arith, short, long))
  accepts (Ok made) Failed came gives text is = absurd (let e = is in cc)
  accepts (Err (Record n Cut)) Failed came gives text is = absurd (let e = is in cc)
  accepts (Err because) stop came gives text is = absurd (let e = is in cc)

  -- An input that exceeds its limit is not incomplete.
  not_cut : (n : ℕ) → IsRefused (accepting limits Whole) bytes (Record n Cut)
      → length bytes ≡ limits.input + 1 → ⊥
  not_cut n first long =
      let within = first.refuses.in_time in
      omega (arith, long, within, ap length first.split, length-append first.front first.rest)

  module _ {W : Type 0} (sink : Sink W) (writer : W) where
    abbrev Returns : Refused → Type 0
    Returns because =
        ShowsTranscript {U = Unit {0}} limits source sink old new writer writer (Err because)

    -- The reader failed, and nothing else is wrong.
    reader_failed : Came Failed
        → ((text : List ℕ) × IsTranscriptOf limits bytes text)
        ⊎ ((n : ℕ) × IsRefused (accepting limits Whole) bytes (Record n Cut)) → Returns ReadFault
    reader_failed came other = (
      record { bytes = bytes; came = came; not_refused = other },
      refl,
    )

    -- An error of the bytes. It is that they are incomplete only if the reader reached its end.
    refuses : (because : Refused) (stop : Stop) → Came stop
        → RefusesBytes limits Whole bytes because
        → ((n : ℕ) → because ≡ Record n Cut → stop ≡ End) → Returns because
    refuses Memory stop came is cut = refl
    refuses ReadFault stop came is cut = absurd is
    refuses WriteFault stop came is cut = absurd is
    refuses because stop came is cut = (
      record { bytes = bytes; stop = stop; came = came; is_refused = is; cut = cut },
      refl,
    )

    same_returns : (because other : Refused) → failure because ≡ failure other → Returns because
        → Returns other
    same_returns because other same is =
        let one : because ≡ other = cc in subst Returns one is

    refused : (because : Refused) (stop : Stop) → Came stop
        → RefusesBytes limits Whole bytes because → (other : Refused)
        → result_of_input (failure because) stop ≡ failure other → Returns other
    refused (Record n Cut) End came is other same =
        same_returns (Record n Cut) other same
        (refuses (Record n Cut) End came is (λ m e. refl))
    refused (Record n Cut) Full came is other same = absurd (not_cut n is came.has_length)
    refused (Record n Cut) Failed came is other same =
        same_returns ReadFault other same (reader_failed came (inr (n, is)))
    refused because stop came is other same =
        same_returns because other same
        (refuses because stop came is (λ n e. absurd (let no = e in cc)))

    pub returns_error : (result : Result (Vec ℕ Global) Refused) (stop : Stop) → Came stop
        → IfOk result (λ text. IsTranscriptOf limits bytes text.items)
        → IfErr result (RefusesBytes limits Whole bytes)
        → (because : Refused) → result_of_input result stop ≡ Err because → Returns because
    returns_error (Ok made) End came gives none because is = absurd (let e = is in cc)
    returns_error (Ok made) Full came gives none because is = absurd (let e = is in cc)
    returns_error (Ok made) Failed came gives none because is =
        same_returns ReadFault because is (reader_failed came (inl (made.items, gives)))
    returns_error (Err first) stop came none is because same =
        refused first stop came is because same
