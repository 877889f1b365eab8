-- An input is accepted, or has one rejection, which remains if more bytes follow.
use Rattle.std.proofs.Common.{◌≡◌, ◌≢◌, inl, inr, ⊎_elim, ℕ, List, ◌++◌, Option, Some, None}
use Rattle.std.proofs.Common.{MatchOption, refl, sym, ◌∙◌, ap, ap₂}
use Rattle.dap_frame.specs.Grammar.{FailsAt}
use Rattle.dap_frame.proofs.Ends.{IsReadable}
use Rattle.dap_message.specs.Message.{no_reading, fraction, faulty as profile_fault}
use Rattle.dap_recording.specs.declared.record_fault.RecordCause.{RecordCause}
use Rattle.dap_recording.specs.declared.record_fault.RecordCause.TheVariants.{Cut}
use Rattle.dap_recording.specs.declared.record_fault.RecordCause.TheVariants.{Memory as NoMemory}
use Rattle.dap_input.specs.Validation.{Validation, Reason, faulty, input_too_long, cut, objected}
use Rattle.dap_input.specs.Validation.{no_message, broken, too_many_ids, grew, IsFirstRefusal}
use Rattle.dap_input.specs.Refusals.{HasOneOutcome, IsRefused, RefusalStays, reason_of}
use Rattle.dap_input.specs.declared.refused.Refused.{Refused}
use Rattle.dap_input.specs.declared.refused.Refused.TheVariants.{InputTooLong, Record, Json}
use Rattle.dap_input.specs.declared.refused.Refused.TheVariants.{Fraction, Message, Rule}
use Rattle.dap_input.specs.declared.refused.Refused.TheVariants.{TooManyIds, Grew}
use Rattle.dap_input.proofs.Outcomes.{not_both, one_list, one_refusal, refusal_stays}
use Rattle.dap_input.proofs.Outcomes.{some_outcome_of}
use Rattle.dap_input.proofs.Refusals.{IsShownCause, faulty_told, refused_as}
use Rattle.dap_input.proofs.Runs.{ValueFacts, AcceptedFacts}

-- the rejection of a record for a reason
abbrev refusal_of : ℕ → Reason → Refused
refusal_of n (faulty cause) = Record n cause
refusal_of n input_too_long = InputTooLong n
refusal_of n cut = Record n Cut
refusal_of n (objected (no_message no_reading)) = Json n
refusal_of n (objected (no_message fraction)) = Fraction n
refusal_of n (objected (no_message (profile_fault fault))) = Message n fault
refusal_of n (objected (broken rule)) = Rule n rule
refusal_of n (objected too_many_ids) = TooManyIds n
refusal_of n (objected grew) = Grew n

-- Only this rejection reports the reason, if there is one.
abbrev IsToldBy : Option (ℕ × Reason) → Refused → Type 0
IsToldBy None because = Unit {0}
IsToldBy (Some (n, why)) because = because ≡ refusal_of n why

told_by_one : (because : Refused) → IsToldBy (reason_of because) because
told_by_one (InputTooLong n) = refl
told_by_one (Record n Cut) = refl
told_by_one (Record n NoMemory) = tt
told_by_one (Record n cause) = refl
told_by_one (Json n) = refl
told_by_one (Fraction n) = refl
told_by_one (Message n fault) = refl
told_by_one (Rule n rule) = refl
told_by_one (TooManyIds n) = refl
told_by_one (Grew n) = refl
told_by_one because = tt

module _ (j : Validation) where
  -- the record and the reason of a rejection
  record Told (whole : List ℕ) (because : Refused) : Type 0 where
    pub number : ℕ
    pub why : Reason
    pub is_told : reason_of because ≡ Some (number, why)
    pub is_refusal : because ≡ refusal_of number why
    pub first : IsFirstRefusal j whole number why

  told_behind : (whole : List ℕ) (because : Refused) (reported : Option (ℕ × Reason))
      → reason_of because ≡ reported → IsToldBy reported because
      → MatchOption reported ⊥ (λ t. IsFirstRefusal j whole t.0 t.1) → Told whole because
  told_behind whole because None is by refused = absurd refused
  told_behind whole because (Some (n, why)) is by refused =
      record { number = n; why = why; is_told = is; is_refusal = by; first = refused }

  reported : (whole : List ℕ) (because : Refused) → IsRefused j whole because → Told whole because
  reported whole because = told_behind whole because (reason_of because) refl (told_by_one because)

  module _ (shown : (bytes : List ℕ) (cause : RecordCause) (place : ℕ)
      → FailsAt j.records bytes cause place → IsShownCause cause) where
    -- Each first rejection is reported by a value of `Refused`.
    refused_for : (whole : List ℕ) (number : ℕ) (why : Reason)
        → IsFirstRefusal j whole number why → IsRefused j whole (refusal_of number why)
    refused_for whole n (faulty cause) first =
        let shows = first.refuses in
        let of_bytes = shown first.rest cause shows.place shows.shows in
        refused_as j whole (Record n cause) n (faulty cause) (faulty_told cause n of_bytes) first
    refused_for whole n input_too_long first = first
    refused_for whole n cut first = first
    refused_for whole n (objected (no_message no_reading)) first = first
    refused_for whole n (objected (no_message fraction)) first = first
    refused_for whole n (objected (no_message (profile_fault fault))) first = first
    refused_for whole n (objected (broken rule)) first = first
    refused_for whole n (objected too_many_ids) first = first
    refused_for whole n (objected grew) first = first

    module _ (records : IsReadable j.records) (judged : ValueFacts j) (accepted : AcceptedFacts j)
      where
        one_refusal_of : (whole : List ℕ) (because other : Refused) → IsRefused j whole because
            → IsRefused j whole other → because ≡ other
        one_refusal_of whole because other p q =
            let a = reported whole because p in
            let b = reported whole other q in
            let same =
            one_refusal j records judged.laws accepted whole a.number b.number a.why b.why a.first
            b.first in
            a.is_refusal ∙ ap₂ refusal_of same.0 same.1 ∙ sym b.is_refusal

        pub has_one_outcome : HasOneOutcome j
        has_one_outcome = record {
          some = λ whole.
              ⊎_elim inl
              (λ first. inr (
                refusal_of first.0 first.1,
                refused_for whole first.0 first.1 first.2,
              ))
              (some_outcome_of j records judged accepted whole);
          one_list = one_list j records judged.laws accepted;
          one_refusal = one_refusal_of;
          not_both = λ whole values because taken refused.
              let a = reported whole because refused in
              not_both j whole values a.number a.why taken a.first;
        }

  pub refusal_of_stays : IsReadable j.records → ValueFacts j → AcceptedFacts j → RefusalStays j
  refusal_of_stays records judged accepted whole more because not_cut refused =
      let a = reported whole because refused in
      let other : a.why ≢ cut = λ is. not_cut a.number (a.is_refusal ∙ ap (refusal_of a.number) is)
      in
      refused_as j (whole ++ more) because a.number a.why a.is_told
      (refusal_stays j records judged.laws accepted whole more a.number a.why other a.first)
