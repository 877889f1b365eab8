-- An input that is validated record by record while it is read: what the validation represents, and
-- what the next record of the bytes means for it.
use Rattle.std.proofs.Common.{◌≡◌, ◌≢◌, ◌⊎◌, inl, inr, ℕ, ◌+◌, ◌<◌, ◌≤◌, List, [], ◌∷◌, ◌++◌}
use Rattle.std.proofs.Common.{length, take, min, refl, sym, ◌∙◌, ap, subst, arith, append-nil}
use Rattle.std.proofs.Common.{length-append, Err}
use Rattle.std.proofs.lemmas.List.{take_min}
use Rattle.dap_device.specs.Pieces.{Window}
use Rattle.dap_frame.specs.Grammar.{Grammar, IsItem, FailsAt}
use Rattle.dap_frame.proofs.Ends.{IsReadable, open_shorter, shown_inside, shown_later}
use Rattle.dap_recording.specs.declared.record_fault.RecordCause.{RecordCause}
use Rattle.dap_input.specs.Inputs.{EndsAt}
use Rattle.dap_input.specs.Validation.{Validation, ContentError, Reason, faulty, input_too_long}
use Rattle.dap_input.specs.Validation.{cut}
use Rattle.dap_input.specs.Validation.{objected, Refuses, IsFirstRefusal}
use Rattle.dap_input.specs.ReadTo.{IsReadTo}
use Rattle.dap_input.specs.RecordSteps.{IsAtStart, IsBetweenRecords}
use Rattle.dap_input.specs.declared.records.Records.{Records}
use Rattle.dap_input.proofs.Outcomes.{first_of_stop}
use Rattle.dap_input.proofs.Runs.{ValueLaws, AcceptedFacts, Run, none_accepted, run_push}
use Rattle.dap_input.proofs.Runs.{some_bytes as some_record}

-- An engine reads the input up to its limit.
pub read_is_taken : (bytes : List ℕ) (limit : ℕ)
    → take (min (length bytes) limit) bytes ≡ take limit bytes
read_is_taken bytes limit =
    let least : min (length bytes) limit ≡ min limit (length bytes) =
    omega arith in rw (least, take_min)

-- The conditions for a validation and for the grammar of its records.
pub record ReadsAs (j : Validation) {A : Type 0} (g : Grammar A RecordCause)
    (held_of : A → j.Payload) : Type 0 where
  pub records : IsReadable j.records
  pub judged : ValueLaws j
  pub accepted : AcceptedFacts j
  pub item_of : (bytes : List ℕ) (whole : A) → IsItem g bytes whole
      → IsItem j.records bytes (held_of whole)
  pub fault_of : (bytes : List ℕ) (cause : RecordCause) → g.Ends bytes (Err cause)
      → j.records.Ends bytes (Err cause)
  pub open_of : (bytes : List ℕ) → g.IsOpen bytes → j.records.IsOpen bytes

-- Among these received bytes, the unread ones come after records that are validated as these
-- values.
pub record StandsBehind {I : Type 0} (j : Validation) (represents : I → List ℕ
    → Type 0) (bytes : List ℕ) (records : Records I) (values : List j.Value) : Type 0 where
  pub front : List ℕ
  pub accepted : j.IsAccepted front values
  pub came : bytes ≡ front ++ records.pieces.unread
  pub taken : records.pieces.taken ≡ length bytes
  pub limit_is : records.pieces.limit ≡ j.input
  pub between : IsBetweenRecords represents records
  pub number_is : records.number ≡ length values + 1
  -- at most as many records as bytes, so a number that counts bytes can count records
  pub few : records.number ≤ length front + 1
  pub read_to : IsReadTo j bytes (length values)

module _ (j : Validation) where
  -- Nothing of the input has been read.
  pub none_read : {I : Type 0} (represents : I → List ℕ → Type 0) (new : Records I)
      → AcceptedFacts j
      → IsAtStart represents j.input new → StandsBehind j represents [] new []
  none_read represents new accepted start = record {
    front = [];
    accepted = none_accepted j accepted;
    came = sym (ap (λ (w : Window). w.unread) start.pieces);
    taken = ap (λ (w : Window). w.taken) start.pieces;
    limit_is = ap (λ (w : Window). w.limit) start.pieces;
    between = start.between;
    number_is = start.number;
    few = (let number = start.number in omega (arith, number));
    read_to = record { before = []; last = []; split = refl; few = omega arith; ends = inl refl };
  }

  -- A later record requires at least as many bytes.
  pub read_later : (bytes : List ℕ) (number later : ℕ) → number ≤ later → IsReadTo j bytes number
      → IsReadTo j bytes later
  read_later bytes number later le read =
      record {
        before = read.before;
        last = read.last;
        split = read.split;
        few = read.few;
        ends = on read.ends;
      }
    where
      on : (read.before ≡ []) ⊎ ((earlier : ℕ) × (earlier ≤ number) × EndsAt j read.before earlier)
          → (read.before ≡ []) ⊎ ((earlier : ℕ) × (earlier ≤ later) × EndsAt j read.before earlier)
      on (inl none) = inl none
      on (inr (earlier, early, ends)) = inr (earlier, omega (arith, early, le), ends)

module _ (j : Validation) {A : Type 0} (g : Grammar A RecordCause) (held_of : A → j.Payload)
    (facts : ReadsAs j g held_of) (bytes front rest : List ℕ) (values : List j.Value) (number : ℕ)
    (split : bytes ≡ front ++ rest) (is_accepted : j.IsAccepted front values) (number_is : number
    ≡ length values + 1) where
  abbrev First : Reason → Type 0
  First why = IsFirstRefusal j bytes number why

  run : Run j [] 0 front values
  run = facts.accepted.run_of_accepted front values is_accepted

  length_all : length bytes ≡ length front + length rest
  length_all = ap length split ∙ length-append front rest

  refused_here : (why : Reason) → Refuses j values (length front) rest why → First why
  refused_here why refuses =
      rw number_is
      (first_of_stop j facts.records facts.judged facts.accepted bytes front rest values why split
      run refuses)

  -- The bytes after the prefix prove an error.
  pub first_faulty : (why : RecordCause) (place : ℕ) → FailsAt g rest why place
      → length bytes ≤ j.input → First (faulty why)
  first_faulty why place shows short =
      let here : FailsAt j.records rest why place =
      record {
        front = shows.front;
        more = shows.more;
        bytes_are = shows.bytes_are;
        ends = facts.fault_of shows.front why shows.ends;
        place = shows.place;
      } in
      let inside = shown_inside facts.records rest why place here in
      refused_here (faulty why)
      (record { place = place; shows = here; in_time = omega (arith, inside, short, length_all) })

  -- A byte beyond the limit comes after an incomplete record.
  pub first_too_long : (held : List ℕ) (byte : ℕ) → rest ≡ held ++ byte ∷ [] → g.IsOpen held
      → length bytes ≡ j.input + 1 → First input_too_long
  first_too_long held byte is is_open long =
      let held_open = facts.open_of held is_open in
      let count : length rest ≡ length held + 1 =
      ap length is ∙ length-append held (byte ∷ []) in
      refused_here input_too_long (record {
        long = omega (arith, long, length_all);
        before_faults = λ cause place shown.
            let later =
            shown_later facts.records.grammar held (byte ∷ []) cause place held_open
            (subst (λ t. FailsAt j.records t cause place) is shown) in
            omega (arith, long, length_all, count, later);
        before_end = λ item more what split_rest is_record.
            let longer =
            open_shorter facts.records.grammar held (byte ∷ []) item more what held_open
            (sym is ∙ split_rest) is_record in
            omega (arith, long, length_all, count, longer);
      })

  -- The bytes end inside a record.
  pub first_cut : rest ≢ [] → g.IsOpen rest → length bytes ≤ j.input → First cut
  first_cut some is_open short =
      refused_here cut
      (record {
        begun = some;
        is_open = facts.open_of rest is_open;
        in_time = omega (arith, short, length_all);
      })

  -- They end where no record has started.
  pub whole_accepted : rest ≡ [] → j.IsAccepted bytes values
  whole_accepted none =
      subst (λ t. j.IsAccepted t values)
      (sym (split ∙ ap (λ t. front ++ t) none ∙ append-nil front)) is_accepted

  -- If the bytes after the prefix are incomplete, they only end.
  pub only_ends : g.IsOpen rest → length bytes ≤ j.input → EndsAt j bytes number
  only_ends is_open short = by_rest rest refl
    where
      by_rest : (left : List ℕ) → rest ≡ left → EndsAt j bytes number
      by_rest [] none = inr (values, whole_accepted none, number_is)
      by_rest (byte ∷ left) some =
          inl (first_cut (λ none. absurd (let e = sym some ∙ none in cc)) is_open short)

  module _ (whole : A) (item more : List ℕ) (split_rest : rest
      ≡ item ++ more) (is_record : IsItem g item whole) (short : length bytes ≤ j.input) where
    in_time : length front + length item ≤ j.input
    in_time = omega (arith, short, length_all, ap length split_rest, length-append item more)

    -- The record after the prefix is rejected for its content.
    pub first_objected : (why : ContentError) → j.Rejects values (held_of whole) why
        → First (objected why)
    first_objected why objects = refused_here (objected why) (record {
      front = item;
      more = more;
      held = held_of whole;
      whole = split_rest;
      is_record = facts.item_of item whole is_record;
      in_time = in_time;
      objects = objects;
    })

    -- It is accepted as the next value.
    pub next_accepted : (value : j.Value) → j.IsNext values (held_of whole) value
        → j.IsAccepted (front ++ item) (values ++ value ∷ [])
    next_accepted value is_next =
        facts.accepted.accepted_of_run (front ++ item) (values ++ value ∷ [])
        (run_push j [] 0 front values item value run
        (record {
          held = held_of whole;
          is_record = facts.item_of item whole is_record;
          is_next = is_next;
          in_time = omega (arith, in_time);
        }))

    pub some_bytes : 0 < length item
    some_bytes = some_record j facts.records item (held_of whole)
        (facts.item_of item whole is_record)
