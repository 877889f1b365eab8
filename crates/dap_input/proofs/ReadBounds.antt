-- How far beyond a record an input is read, if it was read only as far as the record required.
use Rattle.std.proofs.Common.{◌≡◌, ◌⊎◌, inl, inr, ⊎_elim, ℕ, ◌+◌, ◌<◌, ◌≤◌, List, [], ◌∷◌, ◌++◌}
use Rattle.std.proofs.Common.{length, sym, ◌∙◌, ap, subst, arith, append_assoc, length-append}
use Rattle.std.proofs.lemmas.Bool.{cases_lt}
use Rattle.std.proofs.lemmas.List.{append_cancel_left}
use Rattle.dap_frame.specs.Grammar.{IsItem, FailsAt}
use Rattle.dap_frame.proofs.Ends.{IsReadable, open_shorter, shown_later}
use Rattle.dap_input.specs.Inputs.{EndsAt}
use Rattle.dap_recording.specs.declared.record_fault.RecordCause.{RecordCause}
use Rattle.dap_input.specs.Validation.{Validation, cut, IsFirstRefusal}
use Rattle.dap_input.specs.ReadTo.{IsBounded, IsReadTo}
use Rattle.dap_input.proofs.RunFronts.{no_bytes, same_values}
use Rattle.dap_input.proofs.Runs.{ValueLaws, AcceptedFacts, GoesOn, Run, run_goes_on}

module _ (j : Validation) (records : IsReadable j.records) (judged : ValueLaws j)
    (accepted : AcceptedFacts j) where
  -- More values have more bytes, and those start with a record.
  some_record : (before : List j.Value) (used : ℕ) (bytes : List ℕ) (values : List j.Value)
      → Run j before used bytes values → 0 < length values
      → (whole : List ℕ) × (more : List ℕ) × (held : j.Payload) × (bytes ≡ whole ++ more)
      × IsItem j.records whole held
  unfolding Run
  some_record before used bytes [] run some = absurd (omega (arith, some))
  some_record before used bytes (value ∷ values) (whole, more, is, passes, run) some =
      (whole, more, passes.held, is, passes.is_record)

  module _ (bytes front rest : List ℕ) (values : List j.Value) (number : ℕ) (split : bytes
      ≡ front ++ rest) (is : j.IsAccepted front values) (is_number : number
      ≡ length values + 1) where
    run : Run j [] 0 front values
    run = accepted.run_of_accepted front values is

    module _ (before last : List ℕ) (ends : bytes ≡ before ++ last) (earlier : ℕ) (early : earlier
        ≤ number) where
      -- The bytes end after accepted records, and there are no more records.
      ends_behind : (others : List j.Value) → j.IsAccepted before others
          → earlier ≡ length others + 1 → length before ≤ length front
      ends_behind others accepted_too count =
          ⊎_elim
          (λ less.
          let on = run_goes_on j records judged [] 0 front before rest last values others run
          (accepted.run_of_accepted before others accepted_too) (sym split ∙ ends) (omega arith)
          in
          let none : length on.last ≡ 0 =
          omega (
            arith,
            early,
            count,
            is_number,
            ap (λ (t : List j.Value). length t) on.values_are,
            length-append values on.last,
          ) in
          let empty : on.behind ≡ [] =
          no_bytes j values (0 + length front) on.behind on.last on.run none in
          omega (arith, ap length on.bytes_are, length-append front on.behind, ap length empty))
          (λ le. le)
          (cases_lt (length front) (length before))

      -- The bytes end inside a record: this one or an earlier one.
      module _ (first : IsFirstRefusal j before earlier cut) where
        same : first.front ++ (first.rest ++ last) ≡ front ++ rest
        same = sym (append_assoc first.front first.rest last)
            ∙ ap (λ t. t ++ last) (sym first.split) ∙ sym ends ∙ split

        run_first : Run j [] 0 first.front first.values
        run_first = accepted.run_of_accepted first.front first.values first.accepted

        in_earlier : GoesOn j [] 0 first.front first.values front values → earlier < number
            → length before ≤ length front
        in_earlier on less =
            let more : 0 < length on.last =
            (let count = first.is_number in omega (
              arith,
              less,
              is_number,
              count,
              ap (λ (t : List j.Value). length t) on.values_are,
              length-append first.values on.last,
            )) in
            let next = some_record first.values (0 + length first.front) on.behind on.last on.run
            more in
            let behind : first.rest ++ last ≡ next.0 ++ (next.1 ++ rest) =
            append_cancel_left first.front (first.rest ++ last) (next.0 ++ (next.1 ++ rest))
            (same ∙ ap (λ t. t ++ rest) on.bytes_are ∙ append_assoc first.front on.behind rest
            ∙ ap (λ t. first.front ++ t) (ap (λ t. t ++ rest) next.3
            ∙ append_assoc next.0 next.1 rest)) in
            let short =
            open_shorter records.grammar first.rest last next.0 (next.1 ++ rest) next.2
            first.refuses.is_open behind next.4 in
            omega (
              arith,
              short,
              ap length first.split,
              length-append first.front first.rest,
              ap length on.bytes_are,
              length-append first.front on.behind,
              ap length next.3,
              length-append next.0 next.1,
            )

        ends_inside : (length before ≤ length front)
            ⊎ ((part : List ℕ) × (rest ≡ part ++ last) × j.records.IsOpen part
            × (length before ≡ length front + length part))
        ends_inside =
            ⊎_elim
            (λ less.
            inl (in_earlier (⊎_elim
            (λ shorter.
            let on = run_goes_on j records judged [] 0 front first.front rest (first.rest ++ last)
            values first.values run run_first (sym same) (omega arith) in
            let count = first.is_number in
            absurd (omega (
              arith,
              less,
              is_number,
              count,
              ap (λ (t : List j.Value). length t) on.values_are,
              length-append values on.last,
            )))
            (λ le. run_goes_on j records judged [] 0 first.front front (first.rest ++ last) rest
            first.values values run_first run same le)
            (cases_lt (length front) (length first.front))) less))
            (λ ge.
            let count = first.is_number in
            let one = same_values j records judged first.front front (first.rest ++ last) rest
            first.values values run_first run same (omega (arith, early, ge, count, is_number))
            in
            inr (
              first.rest,
              sym one.2,
              first.refuses.is_open,
              omega (
                arith,
                ap length first.split,
                length-append first.front first.rest,
                ap length one.1,
              ),
            ))
            (cases_lt earlier number)

      -- Before the last chunk, no more was received than those records and an incomplete part of
      -- this one.
      pub reach : EndsAt j before earlier
          → (length before ≤ length front)
          ⊎ ((part : List ℕ) × (rest ≡ part ++ last) × j.records.IsOpen part
          × (length before ≡ length front + length part))
      reach (inl first) = ends_inside first
      reach (inr (others, accepted_too, count)) = inl (ends_behind others accepted_too count)

    module _ (read : IsReadTo j bytes number) where
      length_is : length bytes ≡ length read.before + length read.last
      length_is = ap length read.split ∙ length-append read.before read.last

      bounded : (end : ℕ)
          → ((part : List ℕ) → rest ≡ part ++ read.last → j.records.IsOpen part → length part ≤ end)
          → length bytes ≤ length front + end + 65536
      bounded end inside = by_ends read.ends
        where
          by_reach : (length read.before ≤ length front)
              ⊎ ((part : List ℕ) × (rest ≡ part ++ read.last) × j.records.IsOpen part
              × (length read.before ≡ length front + length part))
              → length bytes ≤ length front + end + 65536
          by_reach (inl le) = let few = read.few in omega (arith, le, few, length_is)
          by_reach (inr (part, is, is_open, count)) = let few = read.few in let within =
              inside part is is_open in omega (arith, few, within, count, length_is)

          by_ends : (read.before ≡ [])
              ⊎ ((earlier : ℕ) × (earlier ≤ number) × EndsAt j read.before earlier)
              → length bytes ≤ length front + end + 65536
          by_ends (inl none) = let few = read.few in omega (arith, few, length_is, ap length none)
          by_ends (inr (earlier, early, ends)) =
              by_reach (reach read.before read.last read.split earlier early ends)

      -- The bound on the bytes read beyond a complete record.
      past_record : (whole more : List ℕ) (held : j.Payload) → rest ≡ whole ++ more
          → IsItem j.records whole held → length bytes ≤ length front + length whole + 65536
      past_record whole more held whole_is is_record =
          bounded (length whole)
          (λ part is is_open. let short = open_shorter records.grammar part read.last whole more
          held is_open (sym is ∙ whole_is) is_record in omega (arith, short))

      -- The bound on the bytes read beyond the byte that proves an error.
      past_fault : (cause : RecordCause) (place : ℕ) → FailsAt j.records rest cause place
          → length bytes ≤ length front + place + 65536
      past_fault cause place shows =
          bounded place (λ part is is_open.
          let later =
          shown_later records.grammar part read.last cause place is_open
          (subst (λ t. FailsAt j.records t cause place) is shows) in omega (arith, later))

-- If no more was read than a record required, the number of bytes read is bounded.
pub is_bounded : (j : Validation) → IsReadable j.records → ValueLaws j → AcceptedFacts j
    → (bytes : List ℕ) (number : ℕ) → IsReadTo j bytes number → IsBounded j bytes number
is_bounded j records judged accepted bytes number read = record {
  past_record = λ before.
      past_record j records judged accepted bytes before.front before.rest before.values number
      before.split before.accepted before.is_number read;
  past_fault = λ before.
      past_fault j records judged accepted bytes before.front before.rest before.values number
      before.split before.accepted before.is_number read;
}
