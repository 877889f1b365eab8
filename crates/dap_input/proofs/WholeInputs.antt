-- An engine that validates its complete input record by record before it writes: its invariant, and
-- what it returns.
use Rattle.std.proofs.Common.{◌≡◌, ◌≢◌, ◌⊎◌, inl, inr, ℕ, ◌+◌, ◌-◌, ◌<◌, ◌≤◌, ◌^◌, true, false}
use Rattle.std.proofs.Common.{List, [], ◌∷◌, ◌++◌, length, Option, Some, None, Result, Ok}
use Rattle.std.proofs.Common.{Err, refl, sym, ◌∙◌, ap, subst, arith, length-append}
use Rattle.std.specs.Prelude.{is_some}
use Rattle.dap_device.specs.declared.device.Sink.{Ghosts as Sink}
use Rattle.dap_device.specs.declared.device.Source.{Ghosts as Source}
use Rattle.dap_device.specs.Pieces.{HasReadSoFar}
use Rattle.dap_device.specs.Reading.{HasReadInput, HasLength}
use Rattle.dap_device.specs.declared.reading.Stop.{Stop}
use Rattle.dap_device.specs.declared.reading.Stop.TheVariants.{End, Full, Failed}
use Rattle.dap_frame.specs.Grammar.{Grammar}
use Rattle.dap_recording.specs.declared.record_fault.RecordCause.{RecordCause}
use Rattle.dap_recording.specs.declared.record_fault.RecordCause.TheVariants.{Cut}
use Rattle.dap_input.specs.Engine.{Answers, FailsToRead, ReadsNoneOrAll, RefusesInput}
use Rattle.dap_input.specs.InputSteps.{AcceptsAll, RefusesOne, RefusalHolds}
use Rattle.dap_input.specs.Inputs.{Fault, Input, IsRefusedAt, EndsAt, refused, read_fault}
use Rattle.dap_input.specs.Validation.{Validation}
use Rattle.dap_input.specs.ReadTo.{has_failed, so_far}
use Rattle.dap_input.specs.RecordSteps.{IsAtStart, IsWithin, ReadsNext, ReadsRest}
use Rattle.dap_input.specs.Refusals.{IsRefused, RejectsPayload, RefusalMatches}
use Rattle.dap_input.specs.declared.records.Records.{Records}
use Rattle.dap_input.specs.declared.refused.Refused.{Refused}
use Rattle.dap_input.specs.declared.refused.Refused.TheVariants.{Record, ReadFault, WriteFault}
use Rattle.dap_input.specs.declared.refused.Refused.TheVariants.{Memory}
use Rattle.dap_input.proofs.Coming.{came_on, nothing_came}
use Rattle.dap_input.proofs.InputLoop.{ReadsAs, StandsBehind, none_read}
use Rattle.dap_input.proofs.InputSteps as steps
use Rattle.dap_input.proofs.Refusals.{refused_as, refused_in, untold}

-- These bytes were received, and the records before the next one are validated as these values.
pub record Going {I R : Type 0} (j : Validation) (represents : I → List ℕ → Type 0)
    (source : Source R)
    (start reader : R) (records : Records I)
    (values : List j.Value) : Type 0 where
  pub bytes : List ℕ
  pub came : HasReadSoFar source start reader bytes None
  pub behind : StandsBehind j represents bytes records values

module _ {I A R : Type 0} (j : Validation) (g : Grammar A RecordCause) (held_of : A → j.Payload)
    (facts : ReadsAs j g held_of) (represents : I → List ℕ → Type 0) (source : Source R) where
  pub at_start : (reader : R) (records : Records I) → IsAtStart represents j.input records
      → Going j represents source reader reader records []
  at_start reader records start = record {
    bytes = [];
    came = nothing_came source reader;
    behind = none_read j represents records facts.accepted start;
  }

  module _ (start reader : R) (records : Records I) (values : List j.Value)
      (was : Going j represents source start reader records values) where
    taken_within : length was.bytes ≤ j.input
    taken_within = let taken = was.behind.taken in let limit = was.behind.limit_is in let within =
        was.behind.between.within in omega (arith, taken, limit, within)

    -- There are fewer records than bytes may be read.
    pub small_number : j.input ≤ 2 ^ 62 → records.number < 2 ^ 63
    small_number most =
        let few = was.behind.few in
        let came = was.behind.came in
        omega (
          arith,
          few,
          most,
          taken_within,
          ap length came,
          length-append was.behind.front records.pieces.unread,
        )

    pub small_count : j.input ≤ 2 ^ 62 → source.given start < 2 ^ 62
        → source.given reader + (records.pieces.limit - records.pieces.taken) < 2 ^ 63
    small_count most small =
        let came = was.came.counted in
        let taken = was.behind.taken in
        let limit = was.behind.limit_is in
        omega (arith, small, most, came, taken, limit, taken_within)

    pub few_failures : source.failures start < 2 ^ 62 → source.failures reader < 2 ^ 63
    few_failures small = let same = was.came.paused in omega (arith, small, same)

    module _ (new : Records I) (after : R) where
      abbrev pub Reads : (List ℕ → Type 0) → Result (Option A) Refused → Type 0
      Reads takes outcome = ReadsNext g represents takes source records new reader after outcome

      abbrev Refuses : Refused → Type 0
      Refuses because = RefusesOne j source start after new because

      refuses : {takes : List ℕ → Type 0} (outcome : Result (Option A) Refused)
          (read : Reads takes outcome) (because : Refused)
          → RefusalHolds j (was.bytes ++ read.more) read.stop records.number because
          × ((n : ℕ) → because ≡ Record n Cut → read.stop ≡ Some End) → Refuses because
      refuses outcome read because reported = record {
        bytes = was.bytes ++ read.more;
        stop = read.stop;
        came = came_on source start reader after was.bytes read.more read.stop was.came
            read.came;
        within = steps.within j g held_of facts represents source was.bytes records values
            was.behind new reader after outcome read;
        over = read.over;
        taken = λ same.
            let is = read.taken same in
            let taken = was.behind.taken in
            omega (arith, is, taken, length-append was.bytes read.more);
        limit_is = read.limit_is ∙ was.behind.limit_is;
        number = records.number;
        says = reported.0;
        cut = reported.1;
      }

      -- No record was received.
      pub refuses_read : {takes : List ℕ → Type 0} (because : Refused) → Reads takes (Err because)
          → Refuses because
      refuses_read because read =
          refuses (Err because) read because
          (steps.refused_read j g held_of facts represents source was.bytes records values
          was.behind new reader after because read)

      pub accepts_all : {takes : List ℕ → Type 0} → Reads takes (Ok None)
          → AcceptsAll j source start after values
      accepts_all read =
          let end = steps.none_left j g held_of facts represents source was.bytes records
          values was.behind new reader after read in
          record {
            whole = was.bytes ++ read.more;
            came = subst (HasReadSoFar source start after (was.bytes ++ read.more))
                end.0
                (came_on source start reader after was.bytes read.more read.stop
                was.came read.came);
            within = subst (IsWithin (length (was.bytes ++ read.more)) j.input) end.0
                (steps.within j g held_of facts represents source was.bytes records values
                was.behind new reader after (Ok None) read);
            accepted = end.1;
          }

      -- A record was received.
      pub refuses_held : {takes : List ℕ → Type 0} (whole : A) → Reads takes (Ok (Some whole))
          → (because : Refused)
          → RejectsPayload (j.Rejects values (held_of whole)) records.number because
          → Refuses because
      refuses_held whole read because h =
          refuses (Ok (Some whole)) read because
          (steps.refused_held j g held_of facts represents source was.bytes records values
          was.behind new reader after whole read because h)

      abbrev pub on : {takes : List ℕ → Type 0} (whole : A) → Reads takes (Ok (Some whole))
          → (value : j.Value)
          → j.IsNext values (held_of whole) value
          → Going j represents source start after new (values ++ value ∷ [])
      on whole read value is_next = record {
        bytes = was.bytes ++ read.more;
        came = subst (HasReadSoFar source start after (was.bytes ++ read.more))
            read.finds.0
            (came_on source start reader after was.bytes read.more read.stop was.came
            read.came);
        behind = steps.gone_on j g held_of facts represents source was.bytes records values
            was.behind new reader after whole read value is_next;
      }

      pub fewer_left : {takes : List ℕ → Type 0} (whole : A) → Reads takes (Ok (Some whole))
          → (new.pieces.limit - new.pieces.taken) + length new.pieces.unread
          < (records.pieces.limit - records.pieces.taken) + length records.pieces.unread
      fewer_left whole read =
          steps.shorter j g held_of facts represents source was.bytes records values
          was.behind new reader after whole read

-- ---- what the engine returns

-- The source has stopped, and the received bytes are rejected.
pub record RefusesRead {R : Type 0} (j : Validation) (source : Source R) (old new : R)
    (because : Refused) : Type 0 where
  pub bytes : List ℕ
  pub stop : Stop
  pub came : HasReadSoFar source old new bytes (Some stop)
  pub within : IsWithin (length bytes) j.input (Some stop)
  pub number : ℕ
  pub says : RefusalHolds j bytes (Some stop) number because
  pub cut : (n : ℕ) → because ≡ Record n Cut → stop ≡ End

module _ {A R : Type 0} (j : Validation) (g : Grammar A RecordCause) (held_of : A → j.Payload)
    (facts : ReadsAs j g held_of) (source : Source R) where
  -- A rejected prefix remains rejected when the rest is read.
  stays_said : (bytes more : List ℕ) (stop : Stop) (number : ℕ) (because : Refused)
      → ((n : ℕ) → because ≡ Record n Cut → None ≡ Some End)
      → RefusalHolds j bytes None number because
      → RefusalHolds j (bytes ++ more) (Some stop) number because
  stays_said bytes more stop number Memory ended said = tt
  stays_said bytes more stop number because ended said =
      refused_in j facts.records facts.judged facts.accepted bytes number because
      (so_far (bytes ++ more) (Some stop)) None (more, refl) said ended

  module _ {I : Type 0} (old mid new : R) (records : Records I) (because : Refused)
      (one : RefusesOne j source old mid records because)
      (over : records.is_over ≡ true → new ≡ mid)
      (rest : records.is_over ≡ false → records.pieces.taken ≤ records.pieces.limit
      → ReadsRest source records mid new) where
    -- If the source has stopped, no more is read.
    at_stop : (stop : Stop) → one.stop ≡ Some stop
        → RefusesRead j source old new because
    at_stop stop is =
        let same : new ≡ mid = over (one.over ∙ ap is_some is) in
        record {
          bytes = one.bytes;
          stop = stop;
          came = subst (λ r. HasReadSoFar source old r one.bytes (Some stop))
              (sym same) (subst (HasReadSoFar source old mid one.bytes) is one.came);
          within = subst (IsWithin (length one.bytes) j.input) is one.within;
          number = one.number;
          says = subst (λ s. RefusalHolds j one.bytes s one.number because) is one.says;
          cut = λ n reported. let e : Some stop ≡ Some End = sym is ∙ one.cut n reported in cc;
        }

    -- Otherwise the rest of the input is read.
    read_on : one.stop ≡ None → RefusesRead j source old new because
    read_on is =
        let taken = one.taken is in
        let limit = one.limit_is in
        let within = subst (IsWithin (length one.bytes) j.input) is one.within in
        let more = rest (one.over ∙ ap is_some is) (omega (arith, taken, limit, within)) in
        let all_taken : records.pieces.taken + length more.more ≡ length (one.bytes ++ more.more) =
        omega (arith, taken, length-append one.bytes more.more) in
        record {
          bytes = one.bytes ++ more.more;
          stop = more.stop;
          came = came_on source old mid new one.bytes more.more (Some more.stop)
              (subst (HasReadSoFar source old mid one.bytes) is one.came) more.came;
          within = subst (λ n. IsWithin n j.input (Some more.stop)) all_taken
              (subst (λ n. IsWithin (records.pieces.taken + length more.more) n (Some more.stop))
              limit more.within);
          number = one.number;
          says = stays_said one.bytes more.more more.stop one.number because
              (λ n reported. sym is ∙ one.cut n reported)
              (subst (λ s. RefusalHolds j one.bytes s one.number because) is one.says);
          cut = λ n reported. absurd (let e : None ≡ Some End = sym is ∙ one.cut n reported in cc);
        }

    pub drained : RefusesRead j source old new because
    drained = by_stop one.stop refl
      where
        by_stop : (stop : Option Stop) → one.stop ≡ stop
            → RefusesRead j source old new because
        by_stop None is = read_on is
        by_stop (Some stop) is = at_stop stop is

-- The bytes produce this text: that of the values that they are accepted as.
abbrev pub Gives : (j : Validation) → (List j.Value → List ℕ) → List ℕ → List ℕ → Type 0
Gives j text bytes written = (values : List j.Value) × j.IsAccepted bytes values
    × (written ≡ text values)

module _ {R : Type 0} (j : Validation) (source : Source R)
    (text : List j.Value → List ℕ) (old new : R) where
  module _ (bytes : List ℕ) where
    has_length : (stop : Stop) → IsWithin (length bytes) j.input (Some stop)
        → HasLength j.input bytes stop
    has_length End within = within
    has_length Full within = within
    has_length Failed within = within

    has_come : (stop : Stop) → HasReadSoFar source old new bytes (Some stop)
        → IsWithin (length bytes) j.input (Some stop)
        → HasReadInput source old new j.input bytes stop
    has_come stop came within =
        record {
          came = came.came;
          counted = came.counted;
          has_length = has_length stop within;
          stopped = came.paused;
        }

  module _ (bytes : List ℕ) (stop : Stop)
      (came : HasReadSoFar source old new bytes (Some stop))
      (within : IsWithin (length bytes) j.input (Some stop)) (number : ℕ) where
    abbrev There : Input
    There = so_far bytes (Some stop)

    ends_there : EndsAt j bytes number
        → ((written : List ℕ) × Gives j text bytes written)
        ⊎ ((n : ℕ) × IsRefused j bytes (Record n Cut))
    ends_there (inl first) =
        inr (number, refused_as j bytes (Record number Cut) number _ refl first)
    ends_there (inr whole) = inl (text whole.0, (whole.0, whole.1, refl))

    failed_stop : (s : Stop) → has_failed (Some s) ≡ true → s ≡ Failed
    failed_stop End is = absurd (let e : false ≡ true = is in cc)
    failed_stop Full is = absurd (let e : false ≡ true = is in cc)
    failed_stop Failed is = refl

    fails : (fault : Fault) → RefusalMatches ReadFault number fault
        → IsRefusedAt j There number fault
        → FailsToRead source j.input (Gives j text) (IsRefused j) old new
    fails (refused why) tells is = absurd (let e = tells in cc)
    fails read_fault tells is =
        let failed = failed_stop stop is.0 in
        record {
          bytes = bytes;
          came = subst (HasReadInput source old new j.input bytes) failed
              (has_come bytes stop came within);
          not_refused = ends_there is.1;
        }

    refuses_there : (because : Refused) → because ≢ ReadFault → (fault : Fault)
        → RefusalMatches because number fault → IsRefusedAt j There number fault
        → IsRefused j bytes because
    refuses_there because other (refused why) tells is =
        refused_as j bytes because number why tells is.0
    refuses_there because other read_fault tells is = absurd (other tells)

    refuses_input : (because : Refused) → because ≢ ReadFault → (fault : Fault)
        → RefusalMatches because number fault → IsRefusedAt j There number fault
        → ((n : ℕ) → because ≡ Record n Cut → stop ≡ End)
        → RefusesInput source j.input (IsRefused j) old new because
    refuses_input because other fault tells is cut = record {
      bytes = bytes;
      stop = stop;
      came = has_come bytes stop came within;
      is_refused = refuses_there because other fault tells is;
      cut = cut;
    }

  -- Whatever the reason of the rejection, all of the input was read.
  pub all_read : (because : Refused) → RefusesRead j source old new because
      → ReadsNoneOrAll source j.input old new
  all_read because read =
      inr (read.bytes, read.stop, has_come read.bytes read.stop read.came read.within)

  pub refused_answer : {W : Type 0} (sink : Sink W)
      (writer : W) (because : Refused) → RefusesRead j source old new because
      → Answers source sink j.input (Gives j text) (IsRefused j)
      {U = Unit {0}} old new writer writer (Err because)
  refused_answer sink writer Memory read = refl
  refused_answer sink writer ReadFault read = (
    fails read.bytes read.stop read.came read.within read.number read.says.fault read.says.tells
        read.says.is_refused,
    refl,
  )
  refused_answer sink writer WriteFault read =
      absurd (untold WriteFault read.number read.says.fault refl
      (λ same. absurd (let e = same in cc)) read.says.tells)
  refused_answer sink writer because read = (
    refuses_input read.bytes read.stop read.came read.within read.number because
        (λ same. absurd (let e = same in cc)) read.says.fault read.says.tells read.says.is_refused
        read.cut,
    refl,
  )
