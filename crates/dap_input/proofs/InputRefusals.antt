-- Where an input is rejected, and where it is not. The conditions for equal outcomes.
use Rattle.std.proofs.Common.{◌≡◌, ◌⊎◌, inl, inr, ⊎_elim, ℕ, ◌+◌, ◌≤◌, Bool, true, false, List, []}
use Rattle.std.proofs.Common.{◌∷◌, ◌++◌, length}
use Rattle.std.proofs.Common.{refl, sym, ◌∙◌, ap, subst, arith, append_assoc, append-nil}
use Rattle.std.proofs.Common.{length-append, true≢false, zero-add}
use Rattle.std.proofs.lemmas.List.{length_push}
use Rattle.dap_frame.proofs.Ends.{IsReadable}
use Rattle.dap_input.specs.Validation.{Validation, Reason, faulty, input_too_long, cut, objected}
use Rattle.dap_input.specs.Validation.{IsFirstRefusal, Refuses}
use Rattle.dap_input.specs.Inputs.{Input, Fault, refused, read_fault, EndsAt, IsRefusedAt}
use Rattle.dap_input.specs.Inputs.{IsNotRefusedAt, IsTaken, AcceptedBefore}
use Rattle.dap_input.proofs.Runs.{ValueLaws, AcceptedFacts, PassesAt, run_push, run_goes_on}
use Rattle.dap_input.proofs.Outcomes.{first_of_stop, one_refusal, one_list}

-- The conditions for equal outcomes.
pub record SameFacts (j : Validation) (AreSame : List j.Value → List j.Value → Type 0)
    : Type 0 where
  pub none : AreSame [] []
  pub lengths : (values others : List j.Value) → AreSame values others
      → length values ≡ length others
  pub fronts : (values more others rest : List j.Value) → length values ≡ length others
      → AreSame (values ++ more) (others ++ rest) → AreSame values others
  pub reported : (bytes other : List ℕ) (values others : List j.Value) → j.IsAccepted bytes values
      → j.IsAccepted other others → AreSame values others ⊎ (AreSame values others → ⊥)

module _ (j : Validation) (records : IsReadable j.records) (judged : ValueLaws j)
    (accepted : AcceptedFacts j) where
  -- ---- one input

  -- If the record of this number and those before it are accepted, no rejection is there.
  module _ (input : Input) (front rest : List ℕ) (values : List j.Value) (number : ℕ)
      (split : input.bytes ≡ front ++ rest) (is : j.IsAccepted front values) (early : number
      ≤ length values) where
    no_first : (why : Reason) → IsFirstRefusal j input.bytes number why → ⊥
    no_first why first =
        let most = first.longest front rest values split is in
        let on = run_goes_on j records judged [] 0 front first.front rest first.rest values
        first.values (accepted.run_of_accepted front values is)
        (accepted.run_of_accepted first.front first.values first.accepted) (sym split ∙ first.split)
        most in
        absurd (omega (
          arith,
          early,
          first.is_number,
          ap (λ (t : List j.Value). length t) on.values_are,
          length-append values on.last,
        ))

    no_end : (others : List j.Value) → j.IsAccepted input.bytes others → number ≡ length others + 1
        → ⊥
    no_end others whole is_number =
        let on = run_goes_on j records judged [] 0 front input.bytes rest [] values others
        (accepted.run_of_accepted front values is)
        (accepted.run_of_accepted input.bytes others whole) (sym split
        ∙ sym (append-nil input.bytes))
        (omega (arith, ap length split, length-append front rest)) in
        absurd (omega (
          arith,
          early,
          is_number,
          ap (λ (t : List j.Value). length t) on.values_are,
          length-append values on.last,
        ))

    pub passed : IsNotRefusedAt j input number
    passed (refused why) r = no_first why r.0
    passed read_fault r = ⊎_elim (no_first cut) (λ whole. no_end whole.0 whole.1 whole.2) r.1

  -- An input that is accepted as a whole is not rejected anywhere.
  pub taken_not_refused : (input : Input) (values : List j.Value) (number : ℕ)
      → IsTaken j input values → IsNotRefusedAt j input number
  taken_not_refused input values number taken (refused why) r = r.0.not_accepted values taken.0
  taken_not_refused input values number taken read_fault r = true≢false (sym r.0 ∙ taken.1)

  -- If the record is accepted, it is not rejected.
  pub next_not_refused : (input : Input) (number : ℕ) → AcceptedBefore j input (number + 1)
      → IsNotRefusedAt j input number
  next_not_refused input number next =
      passed input next.front next.rest next.values number next.split next.accepted
      (let is = next.is_number in omega (arith, is))

  module _ (input : Input) (number : ℕ) (before : AcceptedBefore j input number) where
    -- The input has ended after the records before.
    pub ended_taken : before.rest ≡ [] → input.failed ≡ false → IsTaken j input before.values
    ended_taken none whole = (
      subst (λ t. j.IsAccepted t before.values)
          (sym (before.split ∙ ap (λ t. before.front ++ t) none ∙ append-nil before.front))
          before.accepted,
      whole,
    )

    -- It ends there, and its reader failed.
    pub ended_failed : before.rest ≡ [] → input.failed ≡ true
        → IsRefusedAt j input number read_fault
    ended_failed none failed = (
      failed,
      inr (
        before.values,
        subst (λ t. j.IsAccepted t before.values)
            (sym (before.split ∙ ap (λ t. before.front ++ t) none ∙ append-nil before.front))
            before.accepted,
        before.is_number,
      ),
    )

    -- The record of this number, as an accepted one.
    abbrev pub next_accepted : (bytes more : List ℕ) (value : j.Value) → before.rest ≡ bytes ++ more
        → PassesAt j (length before.front) before.values bytes value
        → AcceptedBefore j input (number + 1)
    next_accepted bytes more value is passes = record {
      values = before.values ++ value ∷ [];
      front = before.front ++ bytes;
      rest = more;
      split = before.split ∙ ap (λ t. before.front ++ t) is
          ∙ sym (append_assoc before.front bytes more);
      accepted = accepted.accepted_of_run (before.front ++ bytes) (before.values ++ value ∷ [])
          (run_push j [] 0 before.front before.values bytes value
          (accepted.run_of_accepted before.front before.values before.accepted)
          (rw zero-add passes));
      is_number = omega (arith, before.is_number, length_push before.values value);
    }

    -- The record is rejected, or cut off by a failure of the reader.
    pub refused_there : (why : Reason)
        → Refuses j before.values (length before.front) before.rest why
        → (fault : Fault) × IsRefusedAt j input number fault
    refused_there why refuses = at_end why first input.failed refl
      where
        first : IsFirstRefusal j input.bytes number why
        first =
            subst (λ n. IsFirstRefusal j input.bytes n why) (sym before.is_number)
            (first_of_stop j records judged accepted input.bytes before.front before.rest
            before.values why before.split
            (accepted.run_of_accepted before.front before.values before.accepted) refuses)

        at_end : (w : Reason) → IsFirstRefusal j input.bytes number w → (f : Bool)
            → input.failed ≡ f → (fault : Fault) × IsRefusedAt j input number fault
        at_end (faulty cause) is f e =
            (refused (faulty cause), (is, λ failed same. absurd (let s = same in cc)))
        at_end input_too_long is f e =
            (refused input_too_long, (is, λ failed same. absurd (let s = same in cc)))
        at_end (objected what) is f e =
            (refused (objected what), (is, λ failed same. absurd (let s = same in cc)))
        at_end cut is true e = (read_fault, (e, inl is))
        at_end cut is false e = (refused cut, (is, λ failed. absurd (true≢false (sym failed ∙ e))))

  -- Rejected bytes do not only end.
  refused_not_ended : (input : Input) (number other : ℕ) (why : Reason)
      → IsRefusedAt j input number (refused why) → IsRefusedAt j input other read_fault → ⊥
  refused_not_ended input number other why p q =
      ⊎_elim
      (λ first. p.1 q.0
      (one_refusal j records judged accepted input.bytes number other why cut p.0 first).1)
      (λ whole. p.0.not_accepted whole.0 whole.1) q.1

  one_end : (bytes : List ℕ) (number other : ℕ) → EndsAt j bytes number → EndsAt j bytes other
      → number ≡ other
  one_end bytes number other (inl first) (inl second) =
      (one_refusal j records judged accepted bytes number other cut cut first second).0
  one_end bytes number other (inl first) (inr whole) = absurd (first.not_accepted whole.0 whole.1)
  one_end bytes number other (inr whole) (inl first) = absurd (first.not_accepted whole.0 whole.1)
  one_end bytes number other (inr whole) (inr all) =
      whole.2 ∙ ap (λ (t : List j.Value). length t + 1)
      (one_list j records judged accepted bytes whole.0 all.0 whole.1 all.1) ∙ sym all.2

  -- Two rejections of one input are equal.
  pub one_fault : (input : Input) (number other : ℕ) (fault more : Fault)
      → IsRefusedAt j input number fault → IsRefusedAt j input other more
      → (number ≡ other) × (fault ≡ more)
  one_fault input number other (refused why) (refused because) p q =
      let one = one_refusal j records judged accepted input.bytes number other why because p.0 q.0
      in (one.0, ap refused one.1)
  one_fault input number other (refused why) read_fault p q =
      absurd (refused_not_ended input number other why p q)
  one_fault input number other read_fault (refused why) p q =
      absurd (refused_not_ended input other number why q p)
  one_fault input number other read_fault read_fault p q =
      (one_end input.bytes number other p.1 q.1, refl)
