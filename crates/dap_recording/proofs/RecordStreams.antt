-- Readers of records are readers of items.
use Rattle.std.proofs.Common.{◌≡◌, ◌≢◌, ℕ, List, [], ◌∷◌, ◌++◌, length, take, Option, Some, None}
use Rattle.std.proofs.Common.{MatchOption, Err, refl, sym, ap, ◌∙◌, subst, arith}
use Rattle.std.specs.List.{concat}
use Rattle.std.proofs.lemmas.List.{append-nil, take_all, length-append}
use Rattle.dap_frame.specs.Grammar.{ParsesAs}
use Rattle.dap_frame.proofs.ItemStreams.{one_item_alone}
use Rattle.dap_frame.proofs.Pieces as items
use Rattle.dap_frame.proofs.Pieces.{IsReader}
use Rattle.dap_frame.specs.declared.limits.FrameLimits.{FrameLimits}
use Rattle.dap_tree.specs.declared.side.Side.{Side}
use Rattle.dap_recording.specs.declared.record.Record.{Record}
use Rattle.dap_recording.specs.declared.record_fault.RecordCause.TheVariants.{Memory}
use Rattle.dap_recording.specs.declared.record_fault.RecordFault.{RecordFault}
use Rattle.dap_recording.specs.Recording.{IsRecord, IsOpenRecord, RecordStream, ShowsFault, records}
use Rattle.dap_recording.specs.RecordReading.{RecordReading, RepresentsRecords, HasFailedAt}
use Rattle.dap_recording.specs.RecordReading.{next_number}
use Rattle.dap_recording.specs.RecordReading.{number_behind, record_limits}
use Rattle.dap_recording.specs.Feeding.{IsRecordCall, FeedsRecords, record_calls, message_in}
use Rattle.dap_recording.proofs.Records.{record_grammar}
use Rattle.dap_recording.proofs.RecordSteps.{represented_is_incomplete}

-- The reader has these limits and represents the rest after records of these messages.
abbrev StandsBehind : FrameLimits → RecordReading → List (Side × List ℕ) → List ℕ → Type 0
StandsBehind limits reader ms rest = RepresentsRecords reader (number_behind ms) rest
    × (record_limits reader ≡ limits)

gives : (limits : FrameLimits) (ms : List (Side × List ℕ)) (rest piece : List ℕ) (used : ℕ)
    (new : RecordReading) (whole : Option Record)
    → MatchOption whole
    ((used ≡ length piece) × RepresentsRecords new (number_behind ms) (rest ++ piece))
    (λ r. IsRecord limits (rest ++ take used piece) r.side r.content
    × RepresentsRecords new (next_number (number_behind ms)) [])
    → (front : List ℕ) × (behind : List ℕ) × ParsesAs (records limits) front (message_in whole)
    × (rest ++ take used piece ≡ front ++ behind)
    × RepresentsRecords new (number_behind (ms ++ message_in whole)) behind
gives limits ms rest piece used new None (all, represents) = (
  [],
  rest ++ piece,
  refl,
  ap (λ xs. rest ++ xs) (take_all used piece (omega arith)),
  subst (λ xs. RepresentsRecords new (number_behind xs) (rest ++ piece)) (sym (append-nil ms))
      represents,
)
gives limits ms rest piece used new (Some r) (is, represents) =
    let number : next_number (number_behind ms) ≡ number_behind (ms ++ (r.side, r.content) ∷ []) =
    omega (arith, length-append ms ((r.side, r.content) ∷ [])) in (
      rest ++ take used piece,
      [],
      one_item_alone (records limits) (rest ++ take used piece) (r.side, r.content) is,
      sym (append-nil (rest ++ take used piece)),
      subst (λ n. RepresentsRecords new n []) number represents,
    )

readers : (limits : FrameLimits) → IsReader (records limits) record_calls (StandsBehind limits)
readers limits = record {
  is_open = λ reader ms rest represents. subst (λ l. IsOpenRecord l rest) represents.1
      (represented_is_incomplete reader (number_behind ms) rest represents.0);
  takes = λ old new ms rest piece fed represents took.
      let given =
      subst (λ l. MatchOption fed.whole ((fed.used ≡ length piece)
      × RepresentsRecords new (number_behind ms) (rest ++ piece))
      (λ r. IsRecord l (rest ++ take fed.used piece) r.side r.content
      × RepresentsRecords new (next_number (number_behind ms)) [])) represents.1
      (took.gives (number_behind ms) rest represents.0).1 in
      let goes = gives limits ms rest piece fed.used new fed.whole given in
      (goes.0, goes.1, goes.2, goes.3, (goes.4, took.limits ∙ represents.1));
  refuses = λ old new ms rest piece represents again. (
    (again.1.gives (number_behind ms) rest represents.0).memory again.2,
    again.1.limits
        ∙ represents.1,
  );
}

pub any_pieces : (first last : RecordReading) (pieces : List (List ℕ)) (ms : List (Side × List ℕ))
    → RepresentsRecords first 1 []
    → FeedsRecords first pieces ms [] last
    → (rest : List ℕ) × RecordStream (record_limits first) (concat pieces) ms rest
    × RepresentsRecords last (number_behind ms) rest
any_pieces first last pieces ms represents feeds =
    let limits : FrameLimits = record_limits first in
    let read = items.any_pieces (record_grammar limits) (readers limits) first last [] pieces ms
    (represents, refl) feeds in
    (read.0, read.1, read.2.0)

pub fault_in_any_pieces : (first last new : RecordReading) (piece : List ℕ)
    (pieces left : List (List ℕ)) (ms : List (Side × List ℕ)) (fault : RecordFault)
    → RepresentsRecords first 1 [] → FeedsRecords first pieces ms (piece ∷ left) last
    → IsRecordCall last piece (Err fault) new
    → fault.cause ≢ Memory
    → (rest : List ℕ) × (i : ℕ) × RecordStream (record_limits first) (concat pieces) ms rest
    × ShowsFault (record_limits first) rest fault.cause i × (fault.number ≡ number_behind ms)
    × HasFailedAt new fault
fault_in_any_pieces first last new piece pieces left ms fault represents feeds call apart =
    let limits : FrameLimits = record_limits first in
    let was = items.read_so_far (record_grammar limits) (readers limits) first [] pieces ms (piece
    ∷ left) last (represents, refl) feeds in
    let given = call.gives (number_behind ms) was.rest was.represents.0 in
    let shown = given.shown apart in
    let read = items.fault_in_any_pieces (record_grammar limits) (readers limits) (concat pieces)
    piece ms left last fault.cause shown.0 was
    (subst (λ l. ShowsFault l (was.rest ++ piece) fault.cause shown.0) was.represents.1 shown.1) in
    (read.0, shown.0, read.1, read.2, given.number_is, given.failed apart)
