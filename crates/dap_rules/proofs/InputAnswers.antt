-- The result of applying rules to an input.
use Rattle.std.proofs.Common.{◌≡◌, inl, inr, ℕ, List, Result, Ok, Err, refl, sym}
use Rattle.std.proofs.Common.{subst, arith}
use Rattle.std.specs.Prelude.{IfErr, IfOk}
use Rattle.dap_device.specs.declared.device.Source.{Ghosts as Source}
use Rattle.dap_device.specs.Reading.{HasReadInput}
use Rattle.dap_device.specs.declared.reading.Stop.{Stop}
use Rattle.dap_device.specs.declared.reading.Stop.TheVariants.{End, Full, Failed}
use Rattle.dap_recording.specs.declared.record_fault.RecordCause.TheVariants.{Cut}
use Rattle.dap_mask.specs.Mask.{Mask}
use Rattle.dap_rename.specs.declared.mode.Mode.{Mode}
use Rattle.dap_input.specs.declared.limits.Limits.{Limits}
use Rattle.dap_input.specs.declared.refused.Refused.{Refused}
use Rattle.dap_input.specs.declared.refused.Refused.TheVariants.{Record}
use Rattle.dap_stored.specs.{Sessions.messages_of, declared.session.StoredSession.StoredSession}
use Rattle.dap_rules.specs.Applying.{IsNotNormalised, IsRefusedByRules, MakesSession}
use Rattle.dap_rules.specs.ApplyingSteps.{result_of_input}
use Rattle.dap_rules.specs.Inputs.{ReadsSessionByRules}
use Rattle.dap_rules.specs.declared.fault.ApplyRefused.{ApplyRefused}
use Rattle.dap_rules.specs.declared.fault.ApplyRefused.TheVariants as because
use Rattle.dap_rules.proofs.JoinOutcomes.{masking_not_cut, short_of_joined}

module _ {R : Type 0} (source : Source R) (limits : Limits) (mode : Mode) (mask : Mask)
    (old new : R) (bytes : List ℕ) where
  abbrev Came : Stop → Type 0
  Came stop = HasReadInput source old new limits.input bytes stop

  abbrev Returns : Result StoredSession ApplyRefused → Type 0
  Returns = ReadsSessionByRules source limits mode mask old new

  refuses : (why : Refused) (stop : Stop) → Came stop
      → IsRefusedByRules limits mode mask bytes (because.Mask why)
      → ((n : ℕ) → why ≡ Record n Cut → stop ≡ End) → Returns (Err (because.Mask why))
  refuses why stop came is cut =
      record { bytes = bytes; stop = stop; came = came; is_refused = is; cut = cut }

  returned : (made : Result StoredSession ApplyRefused) (stop : Stop) → Came stop
      → IfOk made (λ session. MakesSession limits mode mask bytes (messages_of session))
      → IfErr made (IsNotNormalised limits mode mask bytes)
      → Returns (result_of_input made stop)
  returned (Ok made) End came makes none =
      record { whole = bytes; came = came; gives = makes }
  returned (Ok made) Full came makes none =
      let rules = makes.applies in
      let short = short_of_joined limits mask.joining bytes rules.joined rules.numbers rules.joins
      rules.masks.masks.accepts.short in
      let long = came.has_length in
      absurd (omega (arith, short, long))
  returned (Ok made) Failed came makes none =
      record { bytes = bytes; came = came; not_refused = inl (messages_of made, makes) }
  returned (Err (because.Mask (Record n Cut))) End came none is =
      refuses (Record n Cut) End came is (λ m e. refl)
  returned (Err (because.Mask (Record n Cut))) Full came none is =
      absurd (masking_not_cut limits mask bytes n is came.has_length)
  returned (Err (because.Mask (Record n Cut))) Failed came none is =
      record { bytes = bytes; came = came; not_refused = inr (n, is) }
  returned (Err (because.Mask why)) stop came none is =
      refuses why stop came is (λ n e. absurd (let no = e in cc))
  returned (Err (because.Order why)) stop came none is =
      record { bytes = bytes; stop = stop; came = came; is_refused = is }
  returned (Err because.ReadFault) stop came none is = absurd is
  returned (Err because.Memory) stop came none is = inr (bytes, stop, came)

  -- The result, if it follows from the result for the bytes.
  pub answers : (made given : Result StoredSession ApplyRefused) (stop : Stop) → Came stop
      → IfOk made (λ session. MakesSession limits mode mask bytes (messages_of session))
      → IfErr made (IsNotNormalised limits mode mask bytes)
      → given ≡ result_of_input made stop → Returns given
  answers made given stop came makes is same =
      subst Returns (sym same) (returned made stop came makes is)
