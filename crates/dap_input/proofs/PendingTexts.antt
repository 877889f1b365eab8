-- An engine that writes the text of each validated record, and buffers it as long as the next
-- record is buffered too: what it returns, and the record in which a write that fails stops.
use Rattle.std.proofs.Common.{◌≡◌, ◌⊎◌, ⊎_elim, inl, inr, ℕ, ◌+◌, ◌-◌, ◌<◌, ◌≤◌, List, []}
use Rattle.std.proofs.Common.{◌++◌, length, take, Option, None, Some, Result, Ok, Err, refl, sym}
use Rattle.std.proofs.Common.{◌∙◌, ap, subst, arith, append_assoc, append-nil, length-append}
use Rattle.std.proofs.Math.Seq.{take-append-add}
use Rattle.std.proofs.lemmas.Bool.{cases_lt}
use Rattle.std.proofs.lemmas.List.{length-take-le, take_all, take-append-le}
use Rattle.std.specs.Io.KnownBytes.{Appends}
use Rattle.std.proofs.KnownBytes.{Appends-trans}
use Rattle.dap_device.specs.declared.device.Source.{Ghosts as Source}
use Rattle.dap_device.specs.declared.device.Sink.{Ghosts as Sink}
use Rattle.dap_device.specs.declared.reading.Stop.{Stop}
use Rattle.dap_device.specs.declared.reading.Stop.TheVariants.{End}
use Rattle.dap_device.specs.Device.{AwaitFlush}
use Rattle.dap_device.specs.Pieces.{HasReadSoFar}
use Rattle.dap_device.specs.Written.{AllWritten, PrefixWritten}
use Rattle.dap_device.proofs.Sending.{all_then_all, some_of_both}
use Rattle.dap_recording.specs.declared.record_fault.RecordCause.TheVariants.{Cut}
use Rattle.dap_input.specs.Engine.{Accepts}
use Rattle.dap_input.specs.InputSteps.{RefusalHolds}
use Rattle.dap_input.specs.Inputs.{AcceptedBefore}
use Rattle.dap_input.specs.ReadTo.{IsReadTo, so_far}
use Rattle.dap_input.specs.Streaming.{Ends, HasComeTo, HasFailedToWrite, HasGivenUpAt, Streams}
use Rattle.dap_input.specs.Validation.{Validation}
use Rattle.dap_input.specs.declared.records.Records.{Records}
use Rattle.dap_input.specs.declared.refused.Refused.{Refused}
use Rattle.dap_input.specs.declared.refused.Refused.TheVariants.{Memory, Record}
use Rattle.dap_input.proofs.Coming.{came_on}
use Rattle.dap_input.proofs.InputLoop.{read_later}
use Rattle.dap_input.proofs.StreamEnds as ends
use Rattle.dap_input.proofs.WholeInputs.{Going}

module _ (j : Validation) (Gives : List ℕ → List ℕ → Type 0) where
  -- The records before this one are accepted, and have this text.
  abbrev pub AreBefore : List ℕ → ℕ → List ℕ → Type 0
  AreBefore bytes number given =
      (before : AcceptedBefore j (so_far bytes None) number) × Gives before.front given

  -- A prefix of the text of the records ends in the text of this one. No more was read than it
  -- required.
  pub record StopsIn (bytes text : List ℕ) : Type 0 where
    pub number : ℕ
    pub given : List ℕ
    pub before : AreBefore bytes number given
    pub read_to : IsReadTo j bytes number
    pub next : List ℕ
    pub is_next : (next ≡ []) ⊎ AreBefore bytes (number + 1) (given ++ next)
    pub count : ℕ
    pub within : count ≤ length next
    pub same : text ≡ given ++ take count next

  -- It is the text of all records before this one.
  stops_before : (bytes : List ℕ) (number : ℕ) (given : List ℕ) → AreBefore bytes number given
      → IsReadTo j bytes number → StopsIn bytes given
  stops_before bytes number given before read_to = record {
    number = number;
    given = given;
    before = before;
    read_to = read_to;
    next = [];
    is_next = inl refl;
    count = 0;
    within = omega arith;
    same = sym (append-nil given);
  }

  -- The same, whether or not the source has stopped.
  abbrev at_stop : (bytes : List ℕ) (old new : Option Stop) (number : ℕ)
      → AcceptedBefore j (so_far bytes old) number → AcceptedBefore j (so_far bytes new) number
  at_stop bytes old new number before = record {
    values = before.values;
    front = before.front;
    rest = before.rest;
    split = before.split;
    accepted = before.accepted;
    is_number = before.is_number;
  }

  -- The bytes written and the buffered bytes are the text of the records. If bytes are buffered, so
  -- is the next record.
  pub record Waiting {W : Type 0} (sink : Sink W) (before writer : W) (IsBuffered : Type 0)
      (bytes given waiting : List ℕ) : Type 0 where
    pub sent : List ℕ
    pub written : AllWritten sink before writer sent
    pub text_is : given ≡ sent ++ waiting
    pub stops : (count : ℕ) → length sent ≤ count → count ≤ length given
        → StopsIn bytes (take count given)
    pub at_hand : (waiting ≡ []) ⊎ IsBuffered

  -- The buffered bytes are written, or a write of them fails, or the next record is buffered too.
  pub record Passes {W : Type 0} (sink : Sink W) (before writer : W) (IsBuffered : Type 0)
      (Fails : W → Type 0) (bytes given waiting : List ℕ) : Type 0 where
    pub written : (end : W) → AllWritten sink writer end waiting
        → Waiting sink before end IsBuffered bytes given []
    pub fails : (end : W) → PrefixWritten sink writer end waiting → Fails end
    pub waits : IsBuffered → Waiting sink before writer IsBuffered bytes given waiting

module _ {I R : Type 0} {j : Validation} {represents : I → List ℕ → Type 0}
    (Gives : List ℕ → List ℕ → Type 0) {source : Source R} {start reader : R} {records : Records I}
    {values : List j.Value} (was : Going j represents source start reader records values) where
  -- The engine has read as far as the next record requires, or less.
  abbrev pub stands_at : (given : List ℕ) → Gives was.behind.front given
      → HasComeTo j Gives source start reader None records.number given
  stands_at given gives = record {
    bytes = was.bytes;
    came = was.came;
    read_to = read_later j was.bytes (length values) records.number
        (let is = was.behind.number_is in omega (arith, is)) was.behind.read_to;
    before = record {
      values = values;
      front = was.behind.front;
      rest = records.pieces.unread;
      split = was.behind.came;
      accepted = was.behind.accepted;
      is_number = was.behind.number_is;
    };
    gives = gives;
  }

-- More bytes were received, as many as the record requires, or fewer.
module _ {R : Type 0} {j : Validation} {Gives : List ℕ → List ℕ → Type 0} {source : Source R}
    {start reader after : R} {number : ℕ} {given more : List ℕ} {stop : Option Stop}
    (to : HasComeTo j Gives source start reader None number given)
    (came : HasReadSoFar source reader after more stop)
    (read_to : IsReadTo j (to.bytes ++ more) number) where
  abbrev pub come_on : HasComeTo j Gives source start after stop number given
  come_on = record {
    bytes = to.bytes ++ more;
    came = came_on source start reader after to.bytes more stop to.came came;
    read_to = read_to;
    before = record {
      values = to.before.values;
      front = to.before.front;
      rest = to.before.rest ++ more;
      split = ap (λ t. t ++ more) to.before.split
          ∙ append_assoc to.before.front to.before.rest more;
      accepted = to.before.accepted;
      is_number = to.before.is_number;
    };
    gives = to.gives;
  }

module _ {R W : Type 0} {j : Validation} {Gives : List ℕ → List ℕ → Type 0}
    (Promises : List ℕ → List ℕ → Type 0) {source : Source R} {sink : Sink W}
    {start reader : R} {before writer : W} {number : ℕ} {given : List ℕ}
    (to : HasComeTo j Gives source start reader None number given) where
  -- All of the text was written.
  pub none_waiting : {IsBuffered : Type 0} → AllWritten sink before writer given
      → Waiting j Gives sink before writer IsBuffered to.bytes given []
  none_waiting written = record {
    sent = given;
    written = written;
    text_is = sym (append-nil given);
    stops = λ count past few.
        subst (StopsIn j Gives to.bytes) (sym (take_all count given past))
        (stops_before j Gives to.bytes number given (to.before, to.gives) to.read_to);
    at_hand = inl refl;
  }

  -- These bytes are received next. A record that is buffered requires none.
  module _ {IsBuffered : Type 0} {waiting : List ℕ} {after : R} {more : List ℕ}
      {stop : Option Stop}
      (waits : Waiting j Gives sink before writer IsBuffered to.bytes given waiting)
      (came : HasReadSoFar source reader after more stop)
      (read_to : IsReadTo j (to.bytes ++ more) number) (none_more : IsBuffered → more ≡ []) where
    abbrev come : List ℕ
    come = to.bytes ++ more

    abbrev there : HasComeTo j Gives source start after stop number given
    there = come_on to came read_to

    here : AreBefore j Gives come number given
    here = (at_stop j Gives come stop None number there.before, to.gives)

    stops : (count : ℕ) → length waits.sent ≤ count → count ≤ length given
        → StopsIn j Gives come (take count given)
    stops count past few = ⊎_elim by_none by_more waits.at_hand
      where
        by_none : waiting ≡ [] → StopsIn j Gives come (take count given)
        by_none none =
            subst (StopsIn j Gives come)
            (sym (take_all count given (omega (
              arith,
              past,
              ap length waits.text_is,
              length-append waits.sent waiting,
              ap length none,
            ))))
            (stops_before j Gives come number given here read_to)

        by_more : IsBuffered → StopsIn j Gives come (take count given)
        by_more has =
            subst (λ bytes. StopsIn j Gives bytes (take count given))
            (sym (ap (λ t. to.bytes ++ t) (none_more has) ∙ append-nil to.bytes))
            (waits.stops count past few)

    -- ---- a write that fails

    abbrev Fails : W → Type 0
    Fails end = HasFailedToWrite j Gives Promises source sink start after before end

    failed_inside : (text longer : List ℕ) → text ≡ waits.sent ++ longer
        → ((count : ℕ) → length waits.sent ≤ count → count ≤ length text
        → StopsIn j Gives come (take count text))
        → (end : W) → PrefixWritten sink writer end longer → Fails end
    failed_inside text longer is stops_in end front =
        let all : ℕ = length waits.sent + front.count in
        let few : all ≤ length text =
        (let within = front.within in omega
        (arith, within, ap length is, length-append waits.sent longer)) in
        let stops = stops_in all (omega arith) few in
        let out : List ℕ = waits.sent ++ take front.count longer in
        let ends_in : List ℕ = stops.given ++ take stops.count stops.next in
        let out_is : out ≡ ends_in =
        (let text_is : take all text ≡ out =
        ap (take all) is ∙ take-append-add waits.sent longer front.count in
        sym text_is ∙ stops.same) in
        let many : all ≡ length stops.given + stops.count =
        omega (
          arith,
          ap length stops.same,
          length-append stops.given (take stops.count stops.next),
          length-take-le all text few,
          length-take-le stops.count stops.next stops.within,
        ) in
        record {
          number = stops.number;
          stop = stop;
          text = stops.given;
          to = record {
            bytes = come;
            came = there.came;
            read_to = stops.read_to;
            before = at_stop j Gives come None stop stops.number stops.before.0;
            gives = stops.before.1;
          };
          next = stops.next;
          is_next = elim stops.is_next [
            | inl none ↦ inl none
            | inr more ↦ inr (at_stop j Gives come None stop (stops.number + 1) more.0, more.1)
          ];
          count = stops.count;
          within = stops.within;
          written = subst (Appends (sink.out before) (sink.out end)) out_is
              (Appends-trans _ _ _ _ _ waits.written.appended front.appended);
          awaits = subst (AwaitFlush sink.unflushed before end) many
              (some_of_both sink.unflushed before writer end (length waits.sent) front.count
              waits.written.awaits front.awaits);
          failure = front.failure ∙ ap (λ n. n + 1) waits.written.no_failure;
        }

    -- ---- the engine stops here

    abbrev pub Answer : W → Result (Unit {0}) Refused → Type 0
    Answer end result = Streams j Gives Promises source sink start after before end result

    all_written : (mid : W) → AllWritten sink writer mid waiting → AllWritten sink before mid given
    all_written mid all =
        subst (AllWritten sink before mid) (sym waits.text_is)
        (all_then_all sink before writer mid waits.sent waiting waits.written all)

    failed : (end : W) → PrefixWritten sink writer end waiting → Fails end
    failed = failed_inside given waiting waits.text_is stops

    -- All records were received.
    pub streamed : Accepts source j.input Promises start after given → (end : W)
        (result : Result (Unit {0}) Refused) → Ends sink waiting writer end (Ok tt) result
        → Answer end result
    streamed accepts end result (inl (mid, all, then)) =
        ends.streamed j Gives Promises source sink start before after mid stop number given there
        (all_written mid all) accepts end result then
    streamed accepts end result (inr (front, is)) =
        subst (Answer end) (sym is) (failed end front)

    -- This record is rejected, or cannot be read.
    pub refused : (because : Refused)
        → RefusalHolds j come stop number because × ((n : ℕ) → because ≡ Record n Cut → stop
        ≡ Some End)
        → (end : W) (result : Result (Unit {0}) Refused)
        → Ends sink waiting writer end (Err because) result → Answer end result
    refused because reported end result (inl (mid, all, then)) =
        ends.refused j Gives Promises source sink start before after mid stop number given there
        (all_written mid all) because reported end result then
    refused because reported end result (inr (front, is)) =
        subst (Answer end) (sym is) (failed end front)

    -- An allocation failed, and this is the number of the next record to read.
    pub gives_up : (because : Refused) (next : ℕ) → (because ≡ Memory → next ≤ number + 1)
        → (end : W) (result : Result (Unit {0}) Refused)
        → Ends sink waiting writer end (Err because) result → result ≡ Err Memory
        → HasGivenUpAt j Gives Promises source sink next start after before end
    gives_up because next few end result (inl (mid, all, then)) memory =
        ends.gives_up j Gives Promises source sink start before after mid stop number given there
        (all_written mid all) because next few end result then memory
    gives_up because next few end result (inr (front, is)) memory =
        absurd (let e = sym is ∙ memory in cc)

    -- ---- a record was received, and this is its text

    module _ {next : ℕ} {next_given longer : List ℕ} (text : List ℕ)
        (number_is : next ≡ number + 1) (text_is : next_given ≡ given ++ text)
        (appended : longer ≡ waiting ++ text)
        (behind : AreBefore j Gives come next next_given) where
      longer_is : next_given ≡ waits.sent ++ longer
      longer_is = text_is ∙ ap (λ t. t ++ text) waits.text_is
          ∙ append_assoc waits.sent waiting text ∙ ap (λ t. waits.sent ++ t) (sym appended)

      stops_behind : (count : ℕ) → length waits.sent ≤ count → count ≤ length next_given
          → StopsIn j Gives come (take count next_given)
      stops_behind count past few = ⊎_elim earlier inside (cases_lt count (length given))
        where
          earlier : count < length given → StopsIn j Gives come (take count next_given)
          earlier early =
              subst (StopsIn j Gives come)
              (sym (ap (take count) text_is
              ∙ take-append-le count given text (omega (arith, early))))
              (stops count past (omega (arith, early)))

          inside : length given ≤ count → StopsIn j Gives come (take count next_given)
          inside all =
              let inner : ℕ = count - length given in
              let split : count ≡ length given + inner = omega (arith, all) in
              record {
                number = number;
                given = given;
                before = here;
                read_to = read_to;
                next = text;
                is_next = inr (subst (λ n. AreBefore j Gives come n (given ++ text)) number_is
                    (subst (AreBefore j Gives come next) text_is behind));
                count = inner;
                within = omega (arith, few, all, ap length text_is, length-append given text);
                same = ap (take count) text_is ∙ ap (λ n. take n (given ++ text)) split
                    ∙ take-append-add given text inner;
              }

      pub passed : {IsNext : Type 0}
          → Passes j Gives sink before writer IsNext Fails come next_given longer
      passed = record {
        written = λ end all. record {
          sent = next_given;
          written = subst (AllWritten sink before end) (sym longer_is)
              (all_then_all sink before writer end waits.sent longer waits.written all);
          text_is = sym (append-nil next_given);
          stops = λ count past few.
              stops_behind count (omega (
                arith,
                past,
                ap length longer_is,
                length-append waits.sent longer,
              )) few;
          at_hand = inl refl;
        };
        fails = failed_inside next_given longer longer_is stops_behind;
        waits = λ has. record {
          sent = waits.sent;
          written = waits.written;
          text_is = longer_is;
          stops = stops_behind;
          at_hand = inr has;
        };
      }
