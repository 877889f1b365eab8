-- The first record of the rest passes, or is rejected for exactly one reason.
use Rattle.std.proofs.Common.{◌≡◌, ◌≢◌, ◌⊎◌, inl, inr, ⊎_elim, ℕ, ◌+◌, ◌<◌, ◌≤◌, List, [], ◌∷◌}
use Rattle.std.proofs.Common.{◌++◌, length}
use Rattle.std.proofs.Common.{refl, sym, ◌∙◌, ap, arith, append_assoc, length-append}
use Rattle.std.proofs.lemmas.Bool.{cases_lt}
use Rattle.dap_frame.specs.Grammar.{IsItem, FailsAt}
use Rattle.dap_frame.proofs.Ends.{IsReadable, item_not_faulty, item_not_open, one_fault, one_item}
use Rattle.dap_frame.proofs.Ends.{open_not_faulty, shown_inside, some_outcome}
use Rattle.dap_recording.specs.declared.record_fault.RecordCause.{RecordCause}
use Rattle.dap_input.specs.Validation.{Validation, ContentError, Reason, faulty, input_too_long}
use Rattle.dap_input.specs.Validation.{cut}
use Rattle.dap_input.specs.Validation.{objected, ShowsInTime, PassesLimit, IsCut, IsObjectedTo}
use Rattle.dap_input.specs.Validation.{Refuses}
use Rattle.dap_input.proofs.Runs.{ValueLaws, ValueFacts, PassesAt, Run, some_bytes}

module _ (j : Validation) (records : IsReadable j.records) where
  -- If a record is rejected, some bytes remain.
  pub refuses_some : (values : List j.Value) (used : ℕ) (rest : List ℕ) (why : Reason)
      → Refuses j values used rest why → used ≤ j.input → 0 < length rest
  refuses_some values used rest (faulty cause) r short = let within =
      shown_inside records rest cause r.place r.shows in omega arith
  refuses_some values used rest input_too_long r short = omega (arith, r.long)
  refuses_some values used [] cut r short = absurd (r.begun refl)
  refuses_some values used (byte ∷ rest) cut r short = omega arith
  refuses_some values used rest (objected why) r short =
      let some = some_bytes j records r.front r.held r.is_record in omega
      (arith, ap length r.whole, length-append r.front r.more)

  module _ (values : List j.Value) (used : ℕ) (rest : List ℕ) where
    faulty_not_late : (cause : RecordCause) → ShowsInTime j used rest cause
        → PassesLimit j used rest → ⊥
    faulty_not_late cause r late = let past =
        late.before_faults cause r.place r.shows in let early = r.in_time in omega arith

    faulty_not_cut : (cause : RecordCause) → ShowsInTime j used rest cause → IsCut j used rest → ⊥
    faulty_not_cut cause r ended =
        open_not_faulty records.grammar rest cause r.place ended.is_open r.shows

    faulty_not_objected : (cause : RecordCause) (why : ContentError) → ShowsInTime j used rest cause
        → IsObjectedTo j values used rest why → ⊥
    faulty_not_objected cause why r o =
        item_not_faulty records.grammar o.front o.more o.held cause r.place o.is_record
        (rw o.whole at r.shows)

    late_not_cut : PassesLimit j used rest → IsCut j used rest → ⊥
    late_not_cut late ended = let past = late.long in let early = ended.in_time in omega arith

    late_not_objected : (why : ContentError) → PassesLimit j used rest
        → IsObjectedTo j values used rest why → ⊥
    late_not_objected why late o = let past =
        late.before_end o.front o.more o.held o.whole o.is_record in let early =
        o.in_time in omega arith

    cut_not_objected : (why : ContentError) → IsCut j used rest
        → IsObjectedTo j values used rest why
        → ⊥
    cut_not_objected why ended o =
        item_not_open records.grammar o.front o.more o.held o.is_record
        (rw o.whole at ended.is_open)

    module _ (judged : ValueLaws j) where
      one_objection : (why because : ContentError) → IsObjectedTo j values used rest why
          → IsObjectedTo j values used rest because → why ≡ because
      one_objection why because r s =
          let one = one_item records.grammar r.front s.front r.more s.more r.held s.held
          (sym r.whole ∙ s.whole) r.is_record s.is_record in
          judged.one_objection values s.held why because (rw one.1 at r.objects) s.objects

      -- A record is rejected for only one reason.
      pub one_reason : (why because : Reason) → Refuses j values used rest why
          → Refuses j values used rest because → why ≡ because
      one_reason (faulty cause) (faulty other) r s =
          ap faulty (one_fault records.grammar rest cause other r.place s.place r.shows s.shows).0
      one_reason (faulty cause) input_too_long r s = absurd (faulty_not_late cause r s)
      one_reason (faulty cause) cut r s = absurd (faulty_not_cut cause r s)
      one_reason (faulty cause) (objected why) r s = absurd (faulty_not_objected cause why r s)
      one_reason input_too_long (faulty cause) r s = absurd (faulty_not_late cause s r)
      one_reason input_too_long input_too_long r s = refl
      one_reason input_too_long cut r s = absurd (late_not_cut r s)
      one_reason input_too_long (objected why) r s = absurd (late_not_objected why r s)
      one_reason cut (faulty cause) r s = absurd (faulty_not_cut cause s r)
      one_reason cut input_too_long r s = absurd (late_not_cut s r)
      one_reason cut cut r s = refl
      one_reason cut (objected why) r s = absurd (cut_not_objected why r s)
      one_reason (objected why) (faulty cause) r s = absurd (faulty_not_objected cause why s r)
      one_reason (objected why) input_too_long r s = absurd (late_not_objected why s r)
      one_reason (objected why) cut r s = absurd (cut_not_objected why s r)
      one_reason (objected why) (objected because) r s = ap objected (one_objection why because r s)

      -- A rejected record does not pass.
      pub refuses_not_passes : (front more : List ℕ) (value : j.Value) (why : Reason)
          → Refuses j values used rest why → rest ≡ front ++ more
          → PassesAt j used values front value → ⊥
      refuses_not_passes front more value (faulty cause) r is p =
          item_not_faulty records.grammar front more p.held cause r.place p.is_record
          (rw is at r.shows)
      refuses_not_passes front more value input_too_long r is p =
          let past = r.before_end front more p.held is p.is_record in let early =
          p.in_time in omega arith
      refuses_not_passes front more value cut r is p =
          item_not_open records.grammar front more p.held p.is_record (rw is at r.is_open)
      refuses_not_passes front more value (objected why) r is p =
          let one = one_item records.grammar r.front front r.more more r.held p.held (sym r.whole
          ∙ is) r.is_record p.is_record in
          judged.next_not_objected values p.held value why p.is_next (rw one.1 at r.objects)

      -- No run continues after a rejected record.
      pub run_stops : (why : Reason) (behind more : List ℕ) (last : List j.Value)
          → Refuses j values used rest why → rest ≡ behind ++ more → Run j values used behind last
          → behind ≡ []
      unfolding Run
      run_stops why behind more [] r is run = run
      run_stops why behind more (value ∷ last) r is (front, next, behind_is, passes, run) =
          let rest_is : rest ≡ front ++ (next ++ more) = cc (append_assoc front next more) in
          absurd (refuses_not_passes front (next ++ more) value why r rest_is passes)

-- The next record of the rest passes.
pub record NextPasses (j : Validation) (values : List j.Value) (used : ℕ) (rest : List ℕ) : Type 0
  where
    pub front : List ℕ
    pub more : List ℕ
    pub value : j.Value
    pub whole : rest ≡ front ++ more
    pub passes : PassesAt j used values front value

-- The next record of the rest passes, or is rejected.
abbrev pub NextIsJudged : (j : Validation) → List j.Value → ℕ → List ℕ → Type 0
NextIsJudged j values used rest = NextPasses j values used rest
    ⊎ ((why : Reason) × Refuses j values used rest why)

module _ (j : Validation) (records : IsReadable j.records) (judged : ValueFacts j) where
  module _ (values : List j.Value) (used : ℕ) (rest : List ℕ) where
    judge_faulty : (cause : RecordCause) (place : ℕ) → FailsAt j.records rest cause place
        → NextIsJudged j values used rest
    judge_faulty cause place shown =
        ⊎_elim (λ past. inr (input_too_long, late past))
        (λ early. inr (faulty cause, record { place = place; shows = shown; in_time = early }))
        (cases_lt j.input (used + place))
      where
        late : j.input < used + place → PassesLimit j used rest
        late past = record {
          long = omega (arith, shown_inside records rest cause place shown);
          before_faults =
              λ other there is. omega
              (arith, (one_fault records.grammar rest cause other place there shown is).1);
          before_end =
              λ front more held is is_record. absurd
              (item_not_faulty records.grammar front more held cause place is_record
              (rw is at shown));
        }

    judge_open : rest ≢ [] → j.records.IsOpen rest → NextIsJudged j values used rest
    judge_open begun is_open =
        ⊎_elim (λ past. inr (input_too_long, late past))
        (λ early. inr (cut, record { begun = begun; is_open = is_open; in_time = early }))
        (cases_lt j.input (used + length rest))
      where
        late : j.input < used + length rest → PassesLimit j used rest
        late past = record {
          long = past;
          before_faults =
              λ cause place shown. absurd
              (open_not_faulty records.grammar rest cause place is_open shown);
          before_end =
              λ front more held is is_record. absurd
              (item_not_open records.grammar front more held is_record (rw is at is_open));
        }

    module _ (front more : List ℕ) (held : j.Payload) (whole : rest
        ≡ front ++ more) (is_record : IsItem j.records front held) where
      judge_held : used + length front ≤ j.input
          → ((value : j.Value) × j.IsNext values held value)
          ⊎ ((why : ContentError) × j.Rejects values held why)
          → NextIsJudged j values used rest
      judge_held early (inl next) = inl (record {
        front = front;
        more = more;
        value = next.0;
        whole = whole;
        passes = record { held = held; is_record = is_record; is_next = next.1; in_time = early };
      })
      judge_held early (inr why) = inr (
        objected why.0,
        record {
          front = front;
          more = more;
          held = held;
          whole = whole;
          is_record = is_record;
          in_time = early;
          objects = why.1;
        },
      )

      judge_record : ((value : j.Value) × j.IsNext values held value)
          ⊎ ((why : ContentError) × j.Rejects values held why)
          → NextIsJudged j values used rest
      judge_record judgement =
          ⊎_elim (λ past. inr (input_too_long, late past)) (λ early. judge_held early judgement)
          (cases_lt j.input (used + length front))
        where
          late : j.input < used + length front → PassesLimit j used rest
          late past = record {
            long = omega (arith, ap length whole, length-append front more);
            before_faults =
                λ cause place shown. absurd
                (item_not_faulty records.grammar front more held cause place is_record
                (rw whole at shown));
            before_end = λ other behind found is is_too.
                omega (
                  arith,
                  ap length (one_item records.grammar front other more behind held found
                      (sym whole ∙ is) is_record is_too).0,
                );
          }

  -- After a run, the next record passes or is rejected.
  pub judge_next : (front : List ℕ) (values : List j.Value) (rest : List ℕ)
      → Run j [] 0 front values → rest ≢ [] → NextIsJudged j values (length front) rest
  judge_next front values rest run begun =
      ⊎_elim
      (λ r. judge_record values (length front) rest r.item r.more r.value r.bytes_are r.is_item
      (judged.some_judgement front values run r.value))
      (⊎_elim (λ r. judge_faulty values (length front) rest r.0 r.1 r.2)
      (judge_open values (length front) rest begun))
      (some_outcome records.grammar rest)
