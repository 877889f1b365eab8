-- An input is accepted as one list of values, or has one first rejection, which remains if more
-- bytes follow.
use Rattle.std.proofs.Common.{◌≡◌, ◌≢◌, ◌⊎◌, inl, inr, ⊎_elim, ℕ, zero, suc, ◌+◌, ◌<◌, ◌≤◌, List}
use Rattle.std.proofs.Common.{[], ◌∷◌, ◌++◌, length, drop}
use Rattle.std.proofs.Common.{refl, sym, ◌∙◌, ap, arith, append_assoc, append-nil, length-append}
use Rattle.std.proofs.Common.{zero-add}
use Rattle.std.proofs.lemmas.Bool.{cases_lt}
use Rattle.std.proofs.lemmas.List.{append_cancel_left}
use Rattle.dap_frame.proofs.Fronts.{same_front, shorter_front}
use Rattle.dap_frame.proofs.Ends.{IsReadable, fault_early, fault_stays}
use Rattle.dap_input.specs.Validation.{Validation, Reason, faulty, input_too_long, cut, objected}
use Rattle.dap_input.specs.Validation.{Refuses}
use Rattle.dap_input.specs.Validation.{IsFirstRefusal}
use Rattle.dap_input.proofs.Runs.{ValueLaws, ValueFacts, AcceptedFacts, Run}
use Rattle.dap_input.proofs.Runs.{run_none, run_push, run_within, run_goes_on, some_bytes, one_run}
use Rattle.dap_input.proofs.NextRecord.{NextPasses, refuses_some, one_reason, run_stops, judge_next}

module _ (j : Validation) where
  pub not_both : (whole : List ℕ) (values : List j.Value) (number : ℕ) (why : Reason)
      → j.IsAccepted whole values → IsFirstRefusal j whole number why → ⊥
  not_both whole values number why taken first = first.not_accepted values taken

  module _ (records : IsReadable j.records) (judged : ValueLaws j) where
    -- No run is longer than the one that ends at a rejected record.
    pub no_longer_run : (front rest other more : List ℕ) (values others : List j.Value)
        (why : Reason)
        → front ++ rest ≡ other ++ more → Run j [] 0 front values
        → Refuses j values (length front) rest why
        → Run j [] 0 other others → length other ≤ length front
    no_longer_run front rest other more values others why same run refuses longer =
        ⊎_elim goes_on (λ le. le) (cases_lt (length front) (length other))
      where
        goes_on : length front < length other → length other ≤ length front
        goes_on less =
            let on = run_goes_on j records judged [] 0 front other rest more values others run
            longer same (omega arith) in
            let split : front ++ rest ≡ front ++ (on.behind ++ more) =
            cc (on.bytes_are, append_assoc front on.behind more) in
            let rest_is : rest ≡ on.behind ++ more =
            append_cancel_left front rest (on.behind ++ more) split in
            let none = run_stops j records values (length front) rest judged why on.behind more
            on.last refuses rest_is (rw zero-add at on.run) in
            omega (arith, ap length on.bytes_are, ap length none, length-append front on.behind)

    module _ (accepted : AcceptedFacts j) where
      -- If a run ends and the next record is rejected, that is the first rejection.
      pub first_of_stop : (whole front rest : List ℕ) (values : List j.Value) (why : Reason)
          → whole ≡ front ++ rest
          → Run j [] 0 front values → Refuses j values (length front) rest why
          → IsFirstRefusal j whole (length values + 1) why
      first_of_stop whole front rest values why split run refuses = record {
        values = values;
        front = front;
        rest = rest;
        split = split;
        accepted = accepted.accepted_of_run front values run;
        longest = λ other more others is taken. no_longer other more others is
            (accepted.run_of_accepted other others taken);
        is_number = refl;
        not_accepted = λ others taken.
            let most = no_longer whole [] others (sym (append-nil whole))
            (accepted.run_of_accepted whole others taken) in
            let some = refuses_some j records values (length front) rest why refuses
            (run_within j front values run) in
            absurd (omega (arith, ap length split, length-append front rest));
        refuses = refuses;
      }
        where
          no_longer : (other more : List ℕ) (others : List j.Value) → whole ≡ other ++ more
              → Run j [] 0 other others → length other ≤ length front
          no_longer other more others is =
              no_longer_run front rest other more values others why (sym split ∙ is) run refuses

      pub one_list : (whole : List ℕ) (values others : List j.Value) → j.IsAccepted whole values
          → j.IsAccepted whole others → values ≡ others
      one_list whole values others taken other =
          one_run j records judged whole values others (accepted.run_of_accepted whole values taken)
          (accepted.run_of_accepted whole others other)

      pub one_refusal : (whole : List ℕ) (number other : ℕ) (why because : Reason)
          → IsFirstRefusal j whole number why → IsFirstRefusal j whole other because
          → (number ≡ other) × (why ≡ because)
      one_refusal whole number other why because p q =
          let least = p.longest q.front q.rest q.values q.split q.accepted in
          let most = q.longest p.front p.rest p.values p.split p.accepted in
          let same : p.front ++ p.rest ≡ q.front ++ q.rest = sym p.split ∙ q.split in
          let fronts : p.front ≡ q.front =
          same_front p.front q.front p.rest q.rest same (omega arith) in
          let values : p.values ≡ q.values =
          one_list p.front p.values q.values p.accepted (rw fronts q.accepted) in
          let rests : p.rest ≡ q.rest =
          append_cancel_left q.front p.rest q.rest (rw fronts at same) in
          let refuses : Refuses j q.values (length q.front) q.rest why =
          rw (← values, ← fronts, ← rests) p.refuses in (
            p.is_number ∙ ap (λ (xs : List j.Value). length xs + 1) values ∙ sym q.is_number,
            one_reason j records q.values (length q.front) q.rest judged why because refuses
                q.refuses,
          )

  -- Rejected bytes remain rejected if more bytes follow, unless the reason is a cut.
  pub refuses_more : (values : List j.Value) (used : ℕ) (rest more : List ℕ) (why : Reason)
      → why ≢ cut → Refuses j values used rest why → Refuses j values used (rest ++ more) why
  refuses_more values used rest more (faulty cause) not_cut r =
      record {
        place = r.place;
        shows = fault_stays rest more cause r.place r.shows;
        in_time = r.in_time;
      }
  refuses_more values used rest more input_too_long not_cut r = record {
    long = omega (arith, r.long, length-append rest more);
    before_faults = λ cause place shown.
        ⊎_elim (λ past. past)
        (λ early. r.before_faults cause place
        (fault_early rest more cause place shown (omega (arith, r.long))))
        (cases_lt j.input (used + place));
    before_end = λ front behind held is is_record.
        ⊎_elim (λ past. past)
        (λ early. r.before_end front (drop (length front) rest) held
        (shorter_front rest front more behind is (omega (arith, r.long))) is_record)
        (cases_lt j.input (used + length front));
  }
  refuses_more values used rest more cut not_cut r = absurd (not_cut refl)
  refuses_more values used rest more (objected why) not_cut r = record {
    front = r.front;
    more = r.more ++ more;
    held = r.held;
    whole = cc (r.whole, append_assoc r.front r.more more);
    is_record = r.is_record;
    in_time = r.in_time;
    objects = r.objects;
  }

  pub refusal_stays : IsReadable j.records → ValueLaws j → AcceptedFacts j
      → (whole more : List ℕ) (number : ℕ) (why : Reason) → why ≢ cut
      → IsFirstRefusal j whole number why → IsFirstRefusal j (whole ++ more) number why
  refusal_stays records judged accepted whole more number why not_cut first =
      let run = accepted.run_of_accepted first.front first.values first.accepted in
      let refuses =
      refuses_more first.values (length first.front) first.rest more why not_cut first.refuses
      in
      let split : whole ++ more ≡ first.front ++ (first.rest ++ more) =
      cc (first.split, append_assoc first.front first.rest more) in
      rw first.is_number
      (first_of_stop records judged accepted (whole ++ more) first.front (first.rest ++ more)
      first.values why split run refuses)

-- The input is accepted, or has a first rejection.
abbrev pub HasOutcome : (j : Validation) → List ℕ → Type 0
HasOutcome j whole =
    ((values : List j.Value) × j.IsAccepted whole values)
    ⊎ ((number : ℕ) × (why : Reason) × IsFirstRefusal j whole number why)

module _ (j : Validation) (records : IsReadable j.records) (judged : ValueFacts j)
    (accepted : AcceptedFacts j) where
  some_outcome_behind : (fuel : ℕ) (whole front rest : List ℕ) (values : List j.Value)
      → length rest < fuel → whole ≡ front ++ rest → Run j [] 0 front values → HasOutcome j whole
  some_outcome_behind zero whole front rest values enough split run = absurd (omega arith)
  some_outcome_behind (suc fuel) whole front [] values enough split run =
      inl (values, accepted.accepted_of_run whole values (rw (split, append-nil) run))
  some_outcome_behind (suc fuel) whole front (byte ∷ rest) values enough split run =
      ⊎_elim
      (λ next. some_outcome_behind fuel whole (front ++ next.front) next.more (values ++ next.value
      ∷ [])
      (fewer next)
      (cc (next.whole, append_assoc front next.front next.more))
      (run_push j [] 0 front values next.front next.value run (rw zero-add next.passes)))
      (λ stop. inr (
        length values + 1,
        stop.0,
        first_of_stop j records judged.laws accepted whole front (byte ∷ rest) values stop.0 split
            run stop.1,
      ))
      (judge_next j records judged front values (byte ∷ rest) run (λ none. absurd cc))
    where
      fewer : (next : NextPasses j values (length front) (byte ∷ rest)) → length next.more < fuel
      fewer next =
          let some = some_bytes j records next.front next.passes.held next.passes.is_record in
          omega (arith, ap length next.whole, length-append next.front next.more)

  -- Each input is accepted, or has a first rejection.
  pub some_outcome_of : (whole : List ℕ) → HasOutcome j whole
  some_outcome_of whole =
      some_outcome_behind (suc (length whole)) whole [] whole [] (omega arith) refl
      (run_none j [] 0)
