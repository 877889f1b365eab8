-- The result of a command that reads its complete input before it writes a text, for any text and
-- any errors of the input.
use Rattle.std.proofs.Common.{◌≡◌, ◌⊎◌, inl, inr, ℕ, ◌+◌, ◌≤◌, List, length, Result, Ok, Err, refl}
use Rattle.std.proofs.Common.{subst, arith}
use Rattle.std.specs.Prelude.{IfErr, IfOk, Vec}
use Rattle.std.specs.declared.alloc.Global.{Global}
use Rattle.dap_device.specs.declared.device.Sink.{Ghosts as Sink}
use Rattle.dap_device.specs.declared.device.Source.{Ghosts as Source}
use Rattle.dap_device.specs.Reading.{HasReadInput}
use Rattle.dap_device.specs.declared.reading.Stop.{Stop}
use Rattle.dap_device.specs.declared.reading.Stop.TheVariants.{End, Full, Failed}
use Rattle.dap_recording.specs.declared.record_fault.RecordCause.TheVariants.{Cut}
use Rattle.dap_input.specs.Engine.{Accepts, Answers}
use Rattle.dap_input.specs.declared.refused.Refused.{Refused}
use Rattle.dap_input.specs.declared.refused.Refused.TheVariants.{Memory, ReadFault, Record}
use Rattle.dap_input.specs.declared.refused.Refused.TheVariants.{WriteFault}
use Rattle.dap_rules.specs.OrderingSteps.{result_of_input}

abbrev failure : Refused → Result (Vec ℕ Global) Refused
failure because = Err because

module _ (input : ℕ) (Gives : List ℕ → List ℕ → Type 0)
    (IsRefused : List ℕ → Refused → Type 0) (bytes : List ℕ) where
  -- Bytes with a text are within the limit, and incomplete bytes do not exceed it. No error of the
  -- bytes is that of a device.
  pub record IsBounded : Type 0 where
    pub short : (written : List ℕ) → Gives bytes written → length bytes ≤ input
    pub not_cut : (n : ℕ) → IsRefused bytes (Record n Cut) → length bytes ≡ input + 1 → ⊥
    pub no_read_fault : IsRefused bytes ReadFault → ⊥
    pub no_write_fault : IsRefused bytes WriteFault → ⊥

  -- The bytes are rejected for this reason, or an allocation failed.
  abbrev pub Refuses : Refused → Type 0
  Refuses Memory = Unit {0}
  Refuses because = IsRefused bytes because

  module _ (bounded : IsBounded) {R : Type 0} (source : Source R) (old new : R) where
    pub accepts : (result : Result (Vec ℕ Global) Refused) (stop : Stop)
        → HasReadInput source old new input bytes stop
        → IfOk result (λ written. Gives bytes written.items)
        → (written : Vec ℕ Global) → result_of_input result stop ≡ Ok written
        → Accepts source input Gives old new written.items
    accepts (Ok made) End came gives written is =
        let same : made ≡ written = cc in
        record {
          whole = bytes;
          came = came;
          gives = subst (λ (v : Vec ℕ Global). Gives bytes v.items) same gives;
        }
    accepts (Ok made) Full came gives written is =
        let short = bounded.short made.items gives in
        let long = came.has_length in
        absurd (omega (arith, short, long))
    accepts (Ok made) Failed came gives written is = absurd (let e = is in cc)
    accepts (Err (Record n Cut)) Failed came gives written is = absurd (let e = is in cc)
    accepts (Err because) stop came gives written is = absurd (let e = is in cc)

    module _ {W : Type 0} (sink : Sink W) (writer : W) where
      abbrev Returns : Refused → Type 0
      Returns because =
          Answers source sink input Gives IsRefused {U = Unit {0}} old new writer writer
          (Err because)

      -- The reader failed, and nothing else is wrong.
      reader_failed : HasReadInput source old new input bytes Failed
          → ((written : List ℕ) × Gives bytes written)
          ⊎ ((n : ℕ) × IsRefused bytes (Record n Cut)) → Returns ReadFault
      reader_failed came other = (
        record { bytes = bytes; came = came; not_refused = other },
        refl,
      )

      -- An error of the bytes. It is that they are incomplete only if the reader reached its end.
      refuses : (because : Refused) (stop : Stop) → HasReadInput source old new input bytes stop
          → Refuses because → ((n : ℕ) → because ≡ Record n Cut → stop ≡ End) → Returns because
      refuses Memory stop came is cut = refl
      refuses ReadFault stop came is cut = absurd (bounded.no_read_fault is)
      refuses WriteFault stop came is cut = absurd (bounded.no_write_fault is)
      refuses because stop came is cut = (
        record { bytes = bytes; stop = stop; came = came; is_refused = is; cut = cut },
        refl,
      )

      same_returns : (because other : Refused) → failure because ≡ failure other
          → Returns because → Returns other
      same_returns because other same is =
          let one : because ≡ other = cc in subst Returns one is

      refused : (because : Refused) (stop : Stop) → HasReadInput source old new input bytes stop
          → Refuses because → (other : Refused)
          → result_of_input (failure because) stop ≡ failure other → Returns other
      refused (Record n Cut) End came is other same =
          same_returns (Record n Cut) other same
          (refuses (Record n Cut) End came is (λ m e. refl))
      refused (Record n Cut) Full came is other same = absurd (bounded.not_cut n is came.has_length)
      refused (Record n Cut) Failed came is other same =
          same_returns ReadFault other same (reader_failed came (inr (n, is)))
      refused because stop came is other same =
          same_returns because other same
          (refuses because stop came is (λ n e. absurd (let no = e in cc)))

      pub returns_error : (result : Result (Vec ℕ Global) Refused) (stop : Stop)
          → HasReadInput source old new input bytes stop
          → IfOk result (λ written. Gives bytes written.items) → IfErr result Refuses
          → (because : Refused) → result_of_input result stop ≡ Err because → Returns because
      returns_error (Ok made) End came gives none because is = absurd (let e = is in cc)
      returns_error (Ok made) Full came gives none because is = absurd (let e = is in cc)
      returns_error (Ok made) Failed came gives none because is =
          same_returns ReadFault because is (reader_failed came (inl (made.items, gives)))
      returns_error (Err first) stop came none is because same =
          refused first stop came is because same
