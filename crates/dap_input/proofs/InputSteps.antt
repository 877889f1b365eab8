-- The effect of the next record of an input on the validation of those before.
use Rattle.std.proofs.Common.{◌≡◌, ◌≢◌, inl, inr, ℕ, ◌+◌, ◌-◌, ◌<◌, ◌≤◌, true, false, List, []}
use Rattle.std.proofs.Common.{◌∷◌, ◌++◌, length, Option, Some, None, Result, Ok, Err, refl, sym}
use Rattle.std.proofs.Common.{◌∙◌, ap, subst, arith, append_assoc, append-nil, length-append}
use Rattle.std.proofs.lemmas.List.{length_push}
use Rattle.dap_device.specs.declared.device.Source.{Ghosts as Source}
use Rattle.dap_device.specs.declared.reading.Stop.{Stop}
use Rattle.dap_device.specs.declared.reading.Stop.TheVariants.{End, Full, Failed}
use Rattle.dap_frame.specs.Grammar.{Grammar, FailsAt, HasItem}
use Rattle.dap_frame.proofs.Ends.{item_not_open}
use Rattle.dap_recording.specs.declared.record_fault.RecordCause.{RecordCause}
use Rattle.dap_recording.specs.declared.record_fault.RecordCause.TheVariants as cause
use Rattle.dap_input.specs.InputSteps.{RefusalHolds}
use Rattle.dap_input.specs.Inputs.{refused, read_fault}
use Rattle.dap_input.specs.Validation.{Validation, faulty, cut, input_too_long, objected}
use Rattle.dap_input.specs.ReadTo.{IsReadTo, has_failed, so_far}
use Rattle.dap_input.specs.RecordSteps.{Finds, HasWhole, IsNeeded, IsTooLong, IsWithin, ReadsNext}
use Rattle.dap_input.specs.Refusals.{RefusesAt, RejectsPayload, reason_of}
use Rattle.dap_input.specs.declared.records.Records.{Records}
use Rattle.dap_input.specs.declared.refused.Refused.{Refused}
use Rattle.dap_input.specs.declared.refused.Refused.TheVariants.{InputTooLong, Record, ReadFault}
use Rattle.dap_input.specs.declared.refused.Refused.TheVariants.{Memory}
use Rattle.dap_input.proofs.InputLoop.{ReadsAs, StandsBehind, read_later, first_faulty}
use Rattle.dap_input.proofs.InputLoop.{first_too_long, first_cut, first_objected, whole_accepted}
use Rattle.dap_input.proofs.InputLoop.{only_ends, next_accepted, some_bytes}
use Rattle.dap_input.proofs.Refusals.{IsShownCause, faulty_told, objected_not_cut}
use Rattle.dap_input.proofs.Refusals.{objection_told}

-- A record that is buffered requires no bytes.
pub nothing_more : {A : Type 0} (j : Validation) (g : Grammar A RecordCause)
    (held_of : A → j.Payload) → ReadsAs j g held_of → (held more : List ℕ) → IsNeeded g held more
    → HasItem g held → more ≡ []
nothing_more j g held_of facts held more (inl none) has = none
nothing_more j g held_of facts held more (inr some) has =
    absurd (item_not_open facts.records.grammar has.item (has.more ++ some.0) (held_of has.value)
    (facts.item_of has.item has.value has.is_item)
    (subst j.records.IsOpen (ap (λ bytes. bytes ++ some.0) has.bytes_are
    ∙ append_assoc has.item has.more some.0) (facts.open_of (held ++ some.0) some.5)))

module _ {I A R : Type 0} (j : Validation) (g : Grammar A RecordCause) (held_of : A → j.Payload)
    (facts : ReadsAs j g held_of) (represents : I → List ℕ → Type 0) (source : Source R)
    (bytes : List ℕ) (old : Records I) (values : List j.Value)
    (was : StandsBehind j represents bytes old values) (new : Records I) (before after : R) where
  module _ {takes : List ℕ → Type 0} (outcome : Result (Option A) Refused)
      (read : ReadsNext g represents takes source old new before after outcome) where
    abbrev pub all : List ℕ
    all = bytes ++ read.more

    abbrev pub rest : List ℕ
    rest = old.pieces.unread ++ read.more

    all_is : all ≡ was.front ++ rest
    all_is = ap (λ t. t ++ read.more) was.came
        ∙ append_assoc was.front old.pieces.unread read.more

    length_all : length all ≡ old.pieces.taken + length read.more
    length_all = let taken = was.taken in omega (arith, taken, length-append bytes read.more)

    -- ---- how much came

    pub within : IsWithin (length all) j.input read.stop
    within =
        subst (λ n. IsWithin n j.input read.stop) (sym length_all)
        (subst (λ n. IsWithin (old.pieces.taken + length read.more) n read.stop) was.limit_is
        read.within)

    within_at : (stop : Option Stop) → read.stop ≡ stop → IsWithin (length all) j.input stop
    within_at stop is = subst (IsWithin (length all) j.input) is within

    within_one : (stop : Option Stop) → IsWithin (length all) j.input stop
        → length all ≤ j.input + 1
    within_one None le = omega (arith, le)
    within_one (Some End) le = omega (arith, le)
    within_one (Some Failed) le = omega (arith, le)
    within_one (Some Full) is = omega (arith, is)

    pub at_most : length all ≤ j.input + 1
    at_most = within_one read.stop within

    -- the bytes received before the last chunk are within the limit
    early_short : (early last : List ℕ) → read.more ≡ early ++ last → 0 < length last
        → length (bytes ++ early) ≤ j.input
    early_short early last more_is some =
        omega (
          arith,
          at_most,
          some,
          ap length more_is,
          length-append early last,
          length-append bytes early,
          length-append bytes read.more,
        )

    early_is : (early : List ℕ) → bytes ++ early ≡ was.front ++ (old.pieces.unread ++ early)
    early_is early =
        ap (λ t. t ++ early) was.came ∙ append_assoc was.front old.pieces.unread early

    pub read_to : IsReadTo j all old.number
    read_to = by_need read.needed
      where
        by_need : IsNeeded g old.pieces.unread read.more → IsReadTo j all old.number
        by_need (inl none) =
            subst (λ t. IsReadTo j t old.number)
            (sym (ap (λ t. bytes ++ t) none ∙ append-nil bytes))
            (read_later j bytes (length values) old.number
            (let is = was.number_is in omega (arith, is)) was.read_to)
        by_need (inr (early, last, more_is, some, few, is_open)) = record {
          before = bytes ++ early;
          last = last;
          split = ap (λ t. bytes ++ t) more_is ∙ sym (append_assoc bytes early last);
          few = few;
          ends = inr (
            old.number,
            omega arith,
            only_ends j g held_of facts (bytes ++ early) was.front (old.pieces.unread ++ early)
                values old.number (early_is early) was.accepted was.number_is is_open
                (early_short early last more_is some),
          );
        }

    -- ---- rejections

    abbrev Refuses : Refused → Type 0
    Refuses because = RefusesAt j (so_far all read.stop) old.number because

    shown : (why : RecordCause) → IsShownCause why → read.stop ≡ None
        → (place : ℕ) × FailsAt g rest why place → Refuses (Record old.number why)
    shown why is_shown stop shows = record {
      fault = refused (faulty why);
      tells = faulty_told why old.number is_shown;
      is_refused = (
        first_faulty j g held_of facts all was.front rest values old.number all_is was.accepted
            was.number_is why shows.0 shows.1 (within_at None stop),
        λ failed same. absurd (let e = same in cc),
      );
    }

    is_cut : read.stop ≡ Some End → rest ≢ [] → g.IsOpen rest
        → Refuses (Record old.number cause.Cut)
    is_cut stop some is_open = record {
      fault = refused cut;
      tells = refl;
      is_refused = (
        first_cut j g held_of facts all was.front rest values old.number all_is was.accepted
            was.number_is some is_open (within_at (Some End) stop),
        λ failed. absurd (let clash : true ≡ false = sym failed ∙ ap has_failed stop in cc),
      );
    }

    has_failed_there : read.stop ≡ Some Failed → g.IsOpen rest → Refuses ReadFault
    has_failed_there stop is_open = record {
      fault = read_fault;
      tells = refl;
      is_refused = (
        ap has_failed stop,
        only_ends j g held_of facts all was.front rest values old.number all_is was.accepted
            was.number_is is_open (within_at (Some Failed) stop),
      );
    }

    is_too_long : read.stop ≡ Some Full → IsTooLong g old.pieces.unread read.more
        → Refuses (InputTooLong old.number)
    is_too_long stop long = record {
      fault = refused input_too_long;
      tells = refl;
      is_refused = (
        first_too_long j g held_of facts all was.front rest values old.number all_is was.accepted
            was.number_is (old.pieces.unread ++ long.earlier) long.byte
            (ap (λ t. old.pieces.unread ++ t) long.more_is
            ∙ sym (append_assoc old.pieces.unread long.earlier (long.byte ∷ [])))
            long.is_open (within_at (Some Full) stop),
        λ failed same. absurd (let e = same in cc),
      );
    }

  -- ---- no record was received

  -- The meaning of the rejection. A cut is reported only at the end.
  pub refused_read : {takes : List ℕ → Type 0} (because : Refused)
      → (read : ReadsNext g represents takes source old new before after (Err because))
      → RefusalHolds j (all (Err because) read) read.stop old.number because
      × ((n : ℕ) → because ≡ Record n cause.Cut → read.stop ≡ Some End)
  refused_read {takes = takes} because read = reported because read.finds
    where
      numbered : {n : ℕ} (b : ℕ → Refused) → n ≡ old.number
          → Refuses (Err because) read (b old.number) → Refuses (Err because) read (b n)
      numbered b same is = subst (λ k. Refuses (Err because) read (b k)) (sym same) is

      reported : (b : Refused)
          → Finds g represents takes old new (rest (Err because) read) read.more read.stop (Err b)
          → RefusalHolds j (all (Err because) read) read.stop old.number b
          × ((n : ℕ) → b ≡ Record n cause.Cut → read.stop ≡ Some End)
      reported (InputTooLong n) is = (
        numbered InputTooLong is.0 (is_too_long (Err because) read is.1 is.2),
        λ m same. absurd (let e = same in cc),
      )
      reported (Record n cause.Cut) is = (
        numbered (λ k. Record k cause.Cut) is.0 (is_cut (Err because) read is.1 is.2 is.3),
        λ m same. is.1,
      )
      reported (Record n cause.Memory) is = absurd is
      reported (Record n why) is = (
        numbered (λ k. Record k why) is.0 (shown (Err because) read why tt is.1 is.2),
        λ m same. absurd (let e = same in cc),
      )
      reported ReadFault is = (
        has_failed_there (Err because) read is.0 is.1,
        λ m same. absurd (let e = same in cc),
      )
      reported Memory is = (tt, λ m same. absurd (let e = same in cc))
      reported other is = absurd is

  -- All records were received, and the input is accepted.
  pub none_left : {takes : List ℕ → Type 0}
      (read : ReadsNext g represents takes source old new before after (Ok None))
      → (read.stop ≡ Some End) × j.IsAccepted (all (Ok None) read) values
      × (new.number ≡ old.number)
  none_left read = (
    read.finds.0,
    whole_accepted j g held_of facts (all (Ok None) read) was.front (rest (Ok None) read) values
        old.number (all_is (Ok None) read) was.accepted was.number_is read.finds.1,
    read.finds.2,
  )

  -- ---- a record was received

  module _ {takes : List ℕ → Type 0} (whole : A)
      (read : ReadsNext g represents takes source old new before after (Ok (Some whole))) where
    abbrev pub come : List ℕ
    come = all (Ok (Some whole)) read

    found : HasWhole g represents takes old new (rest (Ok (Some whole)) read) whole
    found = read.finds.1

    short : length come ≤ j.input
    short = within_at (Ok (Some whole)) read None read.finds.0

    -- It is rejected for its content.
    pub refused_held : (because : Refused)
        → RejectsPayload (j.Rejects values (held_of whole)) old.number because
        → RefusalHolds j come read.stop old.number because
        × ((n : ℕ) → because ≡ Record n cause.Cut → read.stop ≡ Some End)
    refused_held Memory h = (tt, λ n same. absurd (let e = same in cc))
    refused_held because h =
        let reported = objection_told (j.Rejects values (held_of whole)) old.number
        (reason_of because) h in (
          record {
            fault = refused (objected reported.0);
            tells = reported.1;
            is_refused = (
              first_objected j g held_of facts come was.front (rest (Ok (Some whole)) read) values
                  old.number (all_is (Ok (Some whole)) read) was.accepted was.number_is whole
                  found.front new.pieces.unread found.split found.is_record short reported.0
                  reported.2,
              λ failed same. absurd (let e = same in cc),
            );
          },
          λ n same. absurd (objected_not_cut because old.number n reported.0 reported.1 same),
        )

    -- It is accepted as the next value.
    pub gone_on : (value : j.Value) → j.IsNext values (held_of whole) value
        → StandsBehind j represents come new (values ++ value ∷ [])
    gone_on value is_next =
        let some = some_bytes j g held_of facts come was.front (rest (Ok (Some whole)) read) values
        old.number (all_is (Ok (Some whole)) read) was.accepted was.number_is whole found.front
        new.pieces.unread found.split found.is_record short in
        let number = found.number_is in
        let is_taken = read.taken read.finds.0 in
        record {
          front = was.front ++ found.front;
          accepted = next_accepted j g held_of facts come was.front (rest (Ok (Some whole)) read)
              values old.number (all_is (Ok (Some whole)) read) was.accepted was.number_is whole
              found.front new.pieces.unread found.split found.is_record short value is_next;
          came = all_is (Ok (Some whole)) read ∙ ap (λ t. was.front ++ t) found.split
              ∙ sym (append_assoc was.front found.front new.pieces.unread);
          taken = is_taken ∙ sym (length_all (Ok (Some whole)) read);
          limit_is = read.limit_is ∙ was.limit_is;
          between = found.between;
          number_is =
              (let is = was.number_is in omega (arith, number, is, length_push values value));
          few = (let few = was.few in omega
              (arith, few, number, some, length-append was.front found.front));
          read_to = read_later j come old.number (length (values ++ value ∷ []))
              (let is = was.number_is in omega (arith, is, length_push values value))
              (read_to (Ok (Some whole)) read);
        }

    -- Fewer bytes remain.
    pub shorter : (new.pieces.limit - new.pieces.taken) + length new.pieces.unread
        < (old.pieces.limit - old.pieces.taken) + length old.pieces.unread
    shorter =
        let some = some_bytes j g held_of facts come was.front (rest (Ok (Some whole)) read) values
        old.number (all_is (Ok (Some whole)) read) was.accepted was.number_is whole found.front
        new.pieces.unread found.split found.is_record short in
        let is_taken = read.taken read.finds.0 in
        let limit = read.limit_is in
        let within = found.between.within in
        let whole_is = found.split in
        omega (
          arith,
          is_taken,
          limit,
          within,
          some,
          ap length whole_is,
          length-append old.pieces.unread read.more,
          length-append found.front new.pieces.unread,
        )
