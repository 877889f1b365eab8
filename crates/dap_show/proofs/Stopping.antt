-- The state in which a command function stops that reads no more of its input than it requires.
use Rattle.std.proofs.Common.{◌≡◌, inl, ℕ, ◌+◌, ◌≤◌, List, [], ◌++◌, length, Option, Some, None, Result}
use Rattle.std.proofs.Common.{Ok, Err, refl, ◌∙◌, ap, arith, append_assoc}
use Rattle.dap_device.specs.declared.device.Source.{Ghosts as Source}
use Rattle.dap_device.specs.declared.reading.Stop.{Stop}
use Rattle.dap_device.specs.declared.reading.Stop.TheVariants.{End, Full, Failed}
use Rattle.dap_frame.specs.Grammar.{Grammar}
use Rattle.dap_recording.specs.declared.record_fault.RecordCause.{RecordCause}
use Rattle.dap_recording.specs.declared.record_fault.RecordCause.TheVariants.{Cut}
use Rattle.dap_input.specs.InputSteps.{RefusalHolds}
use Rattle.dap_input.specs.Validation.{Validation}
use Rattle.dap_input.specs.RecordSteps.{IsWithin, ReadsNext}
use Rattle.dap_input.specs.Refusals.{RejectsPayload}
use Rattle.dap_input.specs.declared.records.Records.{Records}
use Rattle.dap_input.specs.declared.refused.Refused.{Refused}
use Rattle.dap_input.specs.declared.refused.Refused.TheVariants.{Memory, Record}
use Rattle.dap_input.proofs.Coming.{came_on, nothing_came}
use Rattle.dap_input.proofs.InputLoop.{ReadsAs}
use Rattle.dap_input.proofs.InputSteps as steps
use Rattle.dap_input.proofs.Runs.{AcceptedFacts, run_none}
use Rattle.dap_input.proofs.WholeInputs.{Going}
use Rattle.dap_show.specs.Stopping.{StopsAt}

module _ {I A R : Type 0} (j : Validation) (g : Grammar A RecordCause) (held_of : A → j.Payload)
    (facts : ReadsAs j g held_of) (represents : I → List ℕ → Type 0) (source : Source R)
    (start reader : R) (records : Records I) (values : List j.Value)
    (was : Going j represents source start reader records values) (new : Records I) (after : R)
  where
    abbrev pub Reads : (List ℕ → Type 0) → Result (Option A) Refused → Type 0
    Reads takes outcome = ReadsNext g represents takes source records new reader after outcome

    -- It stops at the next record, for which this statement holds.
    abbrev pub stops : {takes : List ℕ → Type 0} (outcome : Result (Option A) Refused)
        (read : Reads takes outcome) (because : Refused)
        → RefusalHolds j (was.bytes ++ read.more) read.stop records.number because
        × ((n : ℕ) → because ≡ Record n Cut → read.stop ≡ Some End)
        → StopsAt j source start after because
    stops outcome read because reported = record {
      bytes = was.bytes ++ read.more;
      stop = read.stop;
      came = came_on source start reader after was.bytes read.more read.stop was.came read.came;
      within = steps.within j g held_of facts represents source was.bytes records values was.behind
          new
          reader after outcome read;
      number = records.number;
      read_to = steps.read_to j g held_of facts represents source was.bytes records values
          was.behind
          new
          reader after outcome read;
      before = record {
        values = values;
        front = was.behind.front;
        rest = records.pieces.unread ++ read.more;
        split = ap (λ t. t ++ read.more) was.behind.came
            ∙ append_assoc was.behind.front records.pieces.unread read.more;
        accepted = was.behind.accepted;
        is_number = was.behind.number_is;
      };
      says = reported.0;
      cut = reported.1;
    }

    -- The next record is not read.
    abbrev pub stops_read : {takes : List ℕ → Type 0} (because : Refused) → Reads takes (Err because)
        → StopsAt j source start after because
    stops_read because read =
        stops (Err because) read because
        (steps.refused_read j g held_of facts represents source was.bytes records values was.behind
        new
        reader after because read)

    -- The next record is rejected for its content.
    abbrev pub stops_held : {takes : List ℕ → Type 0} (whole : A) → Reads takes (Ok (Some whole))
        → (because : Refused)
        → RejectsPayload (j.Rejects values (held_of whole)) records.number because
        → StopsAt j source start after because
    stops_held whole read because refuses =
        stops (Ok (Some whole)) read because
        (steps.refused_held j g held_of facts represents source was.bytes records values was.behind
        new
        reader after whole read because refuses)

within_one : (taken limit : ℕ) (stop : Option Stop) → IsWithin taken limit stop → taken ≤ limit + 1
within_one taken limit None le = omega (arith, le)
within_one taken limit (Some End) le = omega (arith, le)
within_one taken limit (Some Failed) le = omega (arith, le)
within_one taken limit (Some Full) is = omega (arith, is)

-- At most one byte past the limit was read.
pub stopped_taken : {R : Type 0} (j : Validation) (source : Source R) (old new : R)
    (because : Refused) → StopsAt j source old new because
    → source.given new ≤ source.given old + j.input + 1
stopped_taken j source old new because at =
    let counted = at.came.counted in
    let most = within_one (length at.bytes) j.input at.stop at.within in
    omega (arith, counted, most)

-- Nothing has been read when an allocation fails, and the next record is the first.
pub stops_at_start : {R : Type 0} (j : Validation) → AcceptedFacts j → (source : Source R)
    (start : R) → (stops : StopsAt j source start start Memory) × (stops.number ≡ 1)
stops_at_start j accepted source start = (
  record {
    bytes = [];
    stop = None;
    came = nothing_came source start;
    within = omega arith;
    number = 1;
    read_to = record { before = []; last = []; split = refl; few = omega arith; ends = inl refl };
    before = record {
      values = [];
      front = [];
      rest = [];
      split = refl;
      accepted = accepted.accepted_of_run [] [] (run_none j [] 0);
      is_number = omega arith;
    };
    says = tt;
    cut = λ n is. absurd (let same = is in cc);
  },
  refl,
)

-- If the input is rejected at a record, an allocation may fail there.
pub gives_up_there : {R : Type 0} (j : Validation) (source : Source R) (start after : R)
    (because : Refused) → StopsAt j source start after because → StopsAt j source start after Memory
gives_up_there j source start after because stops = record {
  bytes = stops.bytes;
  stop = stops.stop;
  came = stops.came;
  within = stops.within;
  number = stops.number;
  read_to = stops.read_to;
  before = stops.before;
  says = tt;
  cut = λ n is. absurd (let same = is in cc);
}
