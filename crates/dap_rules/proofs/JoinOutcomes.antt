-- Rules join the output of a recording in one way, or cannot join it.
use Rattle.std.proofs.Common.{◌≡◌, inl, inr, ℕ, ◌+◌, ◌≤◌, List, [], ◌∷◌, ◌++◌, length, refl, sym}
use Rattle.std.proofs.Common.{◌∙◌, ap, subst, arith, append_assoc, length-append}
use Rattle.std.specs.Prelude.{Option, Some, None, MatchOption}
use Rattle.dap_join.specs.Joined.{Numbered, joined as joined_records}
use Rattle.dap_join.specs.Joining.{GrowsAt, Joins, payloads, splitting}
use Rattle.dap_mask.specs.declared.joining.Joining.{Joining}
use Rattle.dap_join.proofs.{OneJoined.{one_joined, split_once}, Written.payloads-append}
use Rattle.dap_mask.specs.Mask.{Mask}
use Rattle.dap_recording.specs.declared.record_fault.RecordCause.TheVariants.{Cut}
use Rattle.dap_input.specs.Validation.{IsFirstRefusal, Reason, Validation}
use Rattle.dap_input.specs.Refusals.{IsRefused, reason_of}
use Rattle.dap_input.specs.declared.limits.Limits.{Limits}
use Rattle.dap_input.specs.declared.refused.Refused.{Refused}
use Rattle.dap_input.specs.declared.refused.Refused.TheVariants.{Grew, Memory, ReadFault, Record}
use Rattle.dap_input.specs.declared.refused.Refused.TheVariants.{WriteFault}
use Rattle.dap_normalise.specs.{RecordTexts.FitRecords}
use Rattle.dap_normalise.proofs.RecordTexts.{fit_front}
use Rattle.dap_rename.specs.declared.mode.Mode.{Mode}
use Rattle.dap_rules.specs.Applying.{AppliesRules, IsMaskedByRules, IsNamedByRules}
use Rattle.dap_rules.specs.Applying.{IsNotJoinedBy, IsNotMaskedByRules, JoinsBy, RefusesToMask}
use Rattle.dap_rules.specs.Applying.{RefusesToMaskByRules}
use Rattle.dap_rules.specs.{MaskedRecordings.IsMaskedTo, Masking.masking, Renumbering.renumbered}
use Rattle.dap_rules.proofs.InputTexts.{IsBounded, Refuses}
use Rattle.dap_rules.proofs.MaskOutcomes.{masked_not_refused}

-- An input that is accepted is not rejected.
accepted_not_refused : (j : Validation) (whole : List ℕ) (values : List j.Value)
    (because : Refused) → j.IsAccepted whole values → IsRefused j whole because → ⊥
accepted_not_refused j whole values because accepted = by_reason (reason_of because)
  where
    by_reason : (reported : Option (ℕ × Reason))
        → MatchOption reported ⊥ (λ r. IsFirstRefusal j whole r.0 r.1) → ⊥
    by_reason None is = is
    by_reason (Some reported) is = is.not_accepted values accepted

module _ (limits : Limits) where
  -- Records within the limits do not exceed one.
  fit_or_grow : (all : List Numbered) (number : ℕ) → FitRecords limits (payloads all)
      → GrowsAt limits all number → ⊥
  fit_or_grow all number fits grown =
      let front = grown.before ++ grown.one ∷ [] in
      let split : all ≡ front ++ grown.after =
      grown.is ∙ sym (append_assoc grown.before (grown.one ∷ []) grown.after) in
      grown.grows (fit_front limits (payloads front) (payloads grown.after)
      (subst (FitRecords limits) (ap payloads split ∙ payloads-append front grown.after) fits))

  join_not_refused : (joining : Joining) (recording joined numbers : List ℕ) (because : Refused)
      → Joins limits joining recording joined numbers
      → IsNotJoinedBy limits (Some joining) recording because → ⊥
  join_not_refused joining recording joined numbers (Grew n) joins (items, split, grown) =
      fit_or_grow (joined_records joining joins.items) n joins.fits
      (subst (λ some. GrowsAt limits (joined_records joining some) n)
      (split_once limits recording items joins.items split joins.split) grown)
  join_not_refused joining recording joined numbers because joins is =
      accepted_not_refused (splitting limits) recording joins.split.records because
      (record { short = joins.split.short; recording = joins.split.recording }) is

  pub one_joined_by : (joining : Option Joining) (recording joined numbers other others : List ℕ)
      → JoinsBy limits joining recording joined numbers
      → JoinsBy limits joining recording other others → joined ≡ other
  one_joined_by None recording joined numbers other others one two = one.0 ∙ sym two.0
  one_joined_by (Some joining) recording joined numbers other others one two =
      (one_joined limits joining recording joined other numbers others one two).0

  pub joined_not_refused : (joining : Option Joining) (recording joined numbers : List ℕ)
      (because : Refused) → JoinsBy limits joining recording joined numbers
      → IsNotJoinedBy limits joining recording because → ⊥
  joined_not_refused None recording joined numbers because joins is = is
  joined_not_refused (Some joining) recording joined numbers because joins is =
      join_not_refused joining recording joined numbers because joins is

  -- The recording is not longer than its limit, if the joined recording is not.
  pub short_of_joined : (joining : Option Joining) (recording joined numbers : List ℕ)
      → JoinsBy limits joining recording joined numbers → length joined ≤ limits.input
      → length recording ≤ limits.input
  short_of_joined None recording joined numbers joins short =
      subst (λ bytes. length bytes ≤ limits.input) joins.0 short
  short_of_joined (Some joining) recording joined numbers joins short = joins.split.short

  -- ---- errors

  -- A recording that exceeds its limit is not incomplete.
  pub cut_in_time : (j : Validation) → j.input ≡ limits.input → (bytes : List ℕ) (n : ℕ)
      → IsRefused j bytes (Record n Cut) → length bytes ≡ limits.input + 1 → ⊥
  cut_in_time j same bytes n first long =
      let within = first.refuses.in_time in
      omega (
        arith,
        long,
        within,
        same,
        ap length first.split,
        length-append first.front first.rest,
      )

  pub joining_not_cut : (joining : Option Joining) (recording : List ℕ) (n : ℕ)
      → IsNotJoinedBy limits joining recording (Record n Cut)
      → length recording ≡ limits.input + 1 → ⊥
  joining_not_cut None recording n is long = is
  joining_not_cut (Some joining) recording n is long =
      cut_in_time (splitting limits) refl recording n is long

  pub joining_no_read_fault : (joining : Option Joining) (recording : List ℕ)
      → IsNotJoinedBy limits joining recording ReadFault → ⊥
  joining_no_read_fault None recording is = is
  joining_no_read_fault (Some joining) recording is = is

  pub joining_no_write_fault : (joining : Option Joining) (recording : List ℕ)
      → IsNotJoinedBy limits joining recording WriteFault → ⊥
  joining_no_write_fault None recording is = is
  joining_no_write_fault (Some joining) recording is = is

  module _ (mask : Mask) (recording : List ℕ) where
    module _ (joined numbers : List ℕ)
        (joins : JoinsBy limits mask.joining recording joined numbers) where
      -- The joined recording cannot be masked.
      pub not_masked : (because : Refused) → RefusesToMask limits mask joined because
          → RefusesToMaskByRules limits mask recording (renumbered numbers because)
      not_masked Memory is = tt
      not_masked because is = inr record {
        joined = joined;
        numbers = numbers;
        joins = joins;
        because = because;
        is_refused = is;
        is_renumbered = refl;
      }

      -- The joined recording is masked, and nothing is wrong.
      pub masked_by_not_refused : (masked : List ℕ) (refused : Refused)
          → IsMaskedTo limits mask joined masked
          → IsNotMaskedByRules limits mask recording refused → ⊥
      masked_by_not_refused masked refused masks (inl is) =
          joined_not_refused mask.joining recording joined numbers refused joins is
      masked_by_not_refused masked refused masks (inr cannot) =
          masked_not_refused limits mask cannot.joined masked cannot.because
          (subst (λ bytes. IsMaskedTo limits mask bytes masked)
          (one_joined_by mask.joining recording joined numbers cannot.joined cannot.numbers joins
          cannot.joins) masks) cannot.is_refused

  -- ---- errors of joining and masking

  module _ (mask : Mask) (recording : List ℕ) where
    -- A recording that exceeds its limit is not incomplete.
    pub masking_not_cut : (n : ℕ) → IsNotMaskedByRules limits mask recording (Record n Cut)
        → length recording ≡ limits.input + 1 → ⊥
    masking_not_cut n (inl is) long =
        joining_not_cut mask.joining recording n is long
    masking_not_cut n (inr cannot) long =
        by_error cannot.because cannot.is_refused cannot.is_renumbered
      where
        by_error : (because : Refused) → IsRefused (masking limits mask) cannot.joined because
            → Record n Cut ≡ renumbered cannot.numbers because → ⊥
        by_error (Record m Cut) first same =
            let within = first.refuses.in_time in
            let short = short_of_joined mask.joining recording cannot.joined cannot.numbers
            cannot.joins (omega (
              arith,
              within,
              ap length first.split,
              length-append first.front first.rest,
            )) in
            omega (arith, long, short)
        by_error because first same = absurd (let e = same in cc)

    pub masking_no_read_fault : IsNotMaskedByRules limits mask recording ReadFault → ⊥
    masking_no_read_fault (inl is) = joining_no_read_fault mask.joining recording is
    masking_no_read_fault (inr cannot) =
        by_error cannot.because cannot.is_refused cannot.is_renumbered
      where
        by_error : (because : Refused) → IsRefused (masking limits mask) cannot.joined because
            → ReadFault ≡ renumbered cannot.numbers because → ⊥
        by_error ReadFault is same = is
        by_error because is same = absurd (let e = same in cc)

    pub masking_no_write_fault : IsNotMaskedByRules limits mask recording WriteFault → ⊥
    masking_no_write_fault (inl is) = joining_no_write_fault mask.joining recording is
    masking_no_write_fault (inr cannot) =
        by_error cannot.because cannot.is_refused cannot.is_renumbered
      where
        by_error : (because : Refused) → IsRefused (masking limits mask) cannot.joined because
            → WriteFault ≡ renumbered cannot.numbers because → ⊥
        by_error WriteFault is same = is
        by_error because is same = absurd (let e = same in cc)

    pub bounded : IsBounded limits.input (IsMaskedByRules limits mask)
        (IsNotMaskedByRules limits mask) recording
    bounded = record {
      short = λ written (joined, numbers, joins, masks).
          short_of_joined mask.joining recording joined numbers joins
          masks.masks.accepts.short;
      not_cut = masking_not_cut;
      no_read_fault = masking_no_read_fault;
      no_write_fault = masking_no_write_fault;
    }

    pub refused_mask : (because : Refused) → RefusesToMaskByRules limits mask recording because
        → Refuses limits.input (IsMaskedByRules limits mask) (IsNotMaskedByRules limits mask)
        recording because
    refused_mask Memory is = tt
    refused_mask because is = is

-- A recording that the rules turn into a text is masked by them.
pub masks_of : (limits : Limits) (mode : Mode) (mask : Mask) (recording written : List ℕ)
    (a : AppliesRules limits mode mask recording written)
    → IsMaskedByRules limits mask recording a.masked
masks_of limits mode mask recording written a = (a.joined, a.numbers, a.joins, a.masks)

-- It is masked by them, and its ids are named.
pub names_of : (limits : Limits) (mode : Mode) (mask : Mask) (recording written : List ℕ)
    (a : AppliesRules limits mode mask recording written)
    → IsNamedByRules limits mask recording a.named
names_of limits mode mask recording written a =
    (a.masked, masks_of limits mode mask recording written a, a.names)
