-- Consequences of what a rejection means.
use Rattle.std.proofs.Common.{◌≡◌, ◌≢◌, ℕ, Bool, true, false, List, ◌++◌, Option, Some, None}
use Rattle.std.proofs.Common.{MatchOption, refl, sym, ◌∙◌, ap, ap₂, subst, true≢false}
use Rattle.std.specs.Option.{option_map_or}
use Rattle.dap_device.specs.declared.reading.Stop.{Stop}
use Rattle.dap_device.specs.declared.reading.Stop.TheVariants.{End, Full, Failed}
use Rattle.dap_recording.specs.declared.record_fault.RecordCause.{RecordCause}
use Rattle.dap_recording.specs.declared.record_fault.RecordCause.TheVariants.{Cut}
use Rattle.dap_recording.specs.declared.record_fault.RecordCause.TheVariants.{Memory as NoMemory}
use Rattle.dap_frame.proofs.Ends.{IsReadable}
use Rattle.dap_input.specs.Inputs.{Input, Fault, refused, read_fault, IsRefusedAt}
use Rattle.dap_input.specs.Validation.{Validation, ContentError, Reason, faulty, cut, objected}
use Rattle.dap_input.specs.Validation.{IsFirstRefusal}
use Rattle.dap_input.specs.ReadTo.{IsOf, has_failed, so_far}
use Rattle.dap_input.specs.Refusals.{IsObjected, IsRefused, RefusesAt, RefusalMatches}
use Rattle.dap_input.specs.Refusals.{reason_of}
use Rattle.dap_input.specs.declared.refused.Refused.{Refused}
use Rattle.dap_input.specs.declared.refused.Refused.TheVariants.{Record, ReadFault}
use Rattle.dap_input.proofs.Outcomes.{refusal_stays}
use Rattle.dap_input.proofs.Runs.{ValueLaws, AcceptedFacts}

-- The reported reason is that the record is cut.
abbrev TellsCut : Option (ℕ × Reason) → Type 0
TellsCut (Some (n, cut)) = Unit {0}
TellsCut reported = ⊥

-- Only a cut record is reported as cut.
pub cut_told : (because : Refused) (n : ℕ) → reason_of because ≡ Some (n, cut)
    → because ≡ Record n Cut
cut_told (Record m Cut) n reported =
    ap (λ t. Record (option_map_or (λ (of : ℕ × Reason). of.0) t n) Cut) reported
cut_told because n reported = absurd (subst TellsCut (sym reported) tt)

-- The reason is the content of a record, not where it ends.
pub objected_not_cut : (because : Refused) (n m : ℕ) (why : ContentError)
    → reason_of because ≡ Some (n, objected why) → because ≡ Record m Cut → ⊥
objected_not_cut because n m why reported same = subst TellsCut
    (sym (ap reason_of same) ∙ reported) tt

-- Bytes prove neither that a recording ends too early nor an allocation failure.
abbrev pub IsShownCause : RecordCause → Type 0
IsShownCause Cut = ⊥
IsShownCause NoMemory = ⊥
IsShownCause cause = Unit {0}

pub faulty_told : (cause : RecordCause) (n : ℕ) → IsShownCause cause
    → reason_of (Record n cause) ≡ Some (n, faulty cause)
faulty_told Cut n shown = absurd shown
faulty_told NoMemory n shown = absurd shown
faulty_told cause n shown = refl

-- A complete record is rejected for one of the objections.
pub objection_told : (Rejects : ContentError → Type 0) (n : ℕ) (reported : Option (ℕ × Reason))
    → MatchOption reported ⊥ (λ t. (t.0 ≡ n) × IsObjected Rejects t.1)
    → (why : ContentError) × (reported ≡ Some (n, objected why)) × Rejects why
objection_told Rejects n None refuses = absurd refuses
objection_told Rejects n (Some (m, objected why)) (same, objects) =
    (why, ap (λ k. Some (k, objected why)) same, objects)
objection_told Rejects n (Some (m, why)) (same, objects) = absurd objects

-- A value that has no reason, and is not a failure of the reader, reports nothing.
pub untold : (because : Refused) (number : ℕ) (fault : Fault) → reason_of because ≡ None
    → because ≢ ReadFault → RefusalMatches because number fault → ⊥
untold because number (refused why) none other reported =
    subst (λ o. MatchOption o (Unit {0}) (λ t. ⊥)) (sym none ∙ reported) tt
untold because number read_fault none other reported = other reported

module _ (j : Validation) where
  -- The first rejection of an input is the one that reports it.
  pub refused_as : (whole : List ℕ) (because : Refused) (number : ℕ) (why : Reason)
      → reason_of because ≡ Some (number, why) → IsFirstRefusal j whole number why
      → IsRefused j whole because
  refused_as whole because number why is first =
      subst (λ reported. MatchOption reported ⊥ (λ t. IsFirstRefusal j whole t.0 t.1)) (sym is)
      first

  module _ (records : IsReadable j.records) (judged : ValueLaws j) (accepted : AcceptedFacts j)
      (bytes : List ℕ) (number : ℕ) (because : Refused) (input : Input) where
    -- If more may follow, the received bytes are not rejected for where they end.
    stays : (stop : Option Stop) → has_failed stop ≡ false → stop ≢ Some End → (more : List ℕ)
        → input.bytes ≡ bytes ++ more → ((n : ℕ) → because ≡ Record n Cut → stop ≡ Some End)
        → (fault : Fault) → RefusalMatches because number fault
        → IsRefusedAt j (so_far bytes stop) number fault → RefusesAt j input number because
    stays stop still on more split ended read_fault reported is = absurd
        (true≢false (sym is.0 ∙ still))
    stays stop still on more split ended (refused cut) reported is =
        absurd (on (ended number (cut_told because number reported)))
    stays stop still on more split ended (refused why) reported is =
        let other : why ≢ cut = λ e. absurd (let same = e in cc) in
        let first =
        subst (λ t. IsFirstRefusal j t number why) (sym split)
        (refusal_stays j records judged accepted bytes more number why other is.0) in
        record { fault = refused why; tells = reported; is_refused = (first, λ failed. other) }

    -- an input by its parts
    same_input : (failed : Bool) → input.bytes ≡ bytes → input.failed ≡ failed
        → record { bytes = bytes; failed = failed } ≡ input
    same_input failed one two = ap₂ (λ b f. record { bytes = b; failed = f }) (sym one) (sym two)

    -- If the received bytes are rejected, the input is rejected.
    pub refused_in : (stop : Option Stop) → IsOf bytes stop input
        → RefusesAt j (so_far bytes stop) number because
        → ((n : ℕ) → because ≡ Record n Cut → stop ≡ Some End) → RefusesAt j input number because
    refused_in None is said ended =
        stays None refl (λ e. absurd (let same = e in cc)) is.0 is.1 ended said.fault said.tells
        said.is_refused
    refused_in (Some End) is said ended =
        subst (λ i. RefusesAt j i number because) (same_input false is.0 is.1) said
    refused_in (Some Full) is said ended =
        stays (Some Full) refl (λ e. absurd (let same = e in cc)) is.0 is.1 ended said.fault
        said.tells said.is_refused
    refused_in (Some Failed) is said ended =
        subst (λ i. RefusesAt j i number because) (same_input true is.0 is.1) said
