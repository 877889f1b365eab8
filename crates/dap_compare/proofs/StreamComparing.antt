-- The results of `compare` while it reads two inputs.
use Rattle.std.proofs.Common.{◌≡◌, ◌⊎◌, inl, inr, ℕ, ℤ, ◌+◌, Bool, true, false, List, [], ◌∷◌, ◌++◌}
use Rattle.std.proofs.Common.{length, Option, Some, None, Ok, Err, refl, sym, ◌∙◌, ap, subst, arith}
use Rattle.std.proofs.Common.{append_assoc, append-nil, eqb, not, rules, ⊎_elim}
use lib.Pointwise.{pointwise}
use Rattle.std.proofs.lemmas.List.{length_push}
use Rattle.dap_device.specs.declared.device.Source.{Ghosts as Source}
use Rattle.dap_device.specs.Pieces.{HasReadSoFar, HasPaused}
use Rattle.dap_device.specs.declared.reading.Stop.{Stop}
use Rattle.dap_device.specs.declared.reading.Stop.TheVariants.{End}
use Rattle.dap_message.specs.Message.{Sent}
use Rattle.dap_rename.specs.Messages.{AreSame, IsNormal, equal_places}
use Rattle.dap_rename.specs.Modes.{stop_in}
use Rattle.dap_rename.specs.Names.{HaveEqualCounts, Represents, RepresentsWith}
use Rattle.dap_rename.specs.declared.mode.Mode.{Mode}
use Rattle.dap_rename.specs.Pairs.{entries}
use Rattle.dap_rename.specs.Renaming.{pairs_of}
use Rattle.dap_rename.specs.declared.renaming.Renaming.{Renaming}
use Rattle.dap_rename.proofs.NormalForms.{same_counts, same_stops}
use Rattle.dap_rename.proofs.Stops.{mode_is_told}
use Rattle.dap_rename.proofs.Sameness.{normal_is_complete}
use Rattle.dap_input.specs.declared.limits.Limits.{Limits}
use Rattle.dap_normalise.specs.declared.judging.Judge.{Judge}
use Rattle.dap_normalise.specs.declared.normal_records.NormalRecords.{NormalRecords}
use Rattle.dap_input.specs.declared.refused.Refused.{Refused}
use Rattle.dap_input.specs.declared.refused.Refused.TheVariants as why
use Rattle.dap_compare.specs.declared.verdict.CompareRefused.{CompareRefused}
use Rattle.dap_compare.specs.declared.verdict.CompareRefused.TheVariants as because
use Rattle.dap_compare.specs.declared.verdict.Verdict.TheVariants as code
use Rattle.dap_compare.specs.declared.verdict.Which.TheVariants.{A, B}
use Rattle.dap_normalise.specs.Accepting.{accepting}
use Rattle.dap_input.specs.Inputs.{AcceptedBefore, Input, IsNotRefusedAt}
use Rattle.dap_compare.specs.Comparing.{AreSameBefore, are_same, differ}
use Rattle.dap_normalise.specs.JudgingSteps.{judge_mode, record_of}
use Rattle.dap_input.specs.Limits.{AreSound}
use Rattle.dap_normalise.specs.NormalSteps.{HasEnded, HasAdvanced, HasNext, HasStoppedAt}
use Rattle.dap_input.specs.ReadTo.{IsOf, IsReadTo, so_far}
use Rattle.dap_compare.specs.ComparingSteps.{IsRefusalOf}
use Rattle.dap_compare.specs.Verdicts.{Compares, HasCompared, IsRecordingVerdict}
use Rattle.dap_input.specs.Refusals.{RefusesAt}
use Rattle.dap_input.proofs.Refusals.{refused_in}
use Rattle.dap_normalise.proofs.AcceptingFacts.{accepted_facts, value_laws}
use Rattle.dap_recording.proofs.Records.{readable}
use Rattle.dap_compare.proofs.ComparingLoop.{are_apart, both_have_ended, front_of, goes_on}
use Rattle.dap_compare.proofs.ComparingLoop.{has_ended, not_the_same, one_form, taken_in}
use Rattle.dap_compare.proofs.ComparingLoop.{x_has_ended, y_has_ended}
use Rattle.dap_input.proofs.Coming.{came_on, nothing_came}
use Rattle.dap_input.proofs.InputLoop.{read_later}
use Rattle.dap_input.proofs.Runs.{none_accepted}
use Rattle.dap_normalise.proofs.NormalTexts.{normal}
use Rattle.dap_normalise.proofs.StreamLoop.{Going, before_in, next_in, normal_before}
use Rattle.dap_compare.proofs.Verdicts.{same_lengths}

-- The text of a record is not empty.
pub not_empty_record : (m : Sent) (text : List ℕ) → text ≡ record_of m → text ≡ [] → ⊥
not_empty_record m text is none = let never : [] ≡ record_of m = sym none ∙ is in cc

-- Two texts that are not found to differ are equal.
pub texts_equal : {xs ys a b : List ℕ} {r : Bool} → xs ≡ a → ys ≡ b
    → r ≡ not (pointwise eqb xs ys) → r ≡ false → a ≡ b
texts_equal {xs = xs} {ys = ys} one two is equal =
    let same : xs ≡ ys = search rules in sym one ∙ same ∙ two

-- Nothing of both inputs has been read.
pub none_compared : {R S : Type 0} (source_a : Source R) (source_b : Source S) (limits : Limits)
    (mode : Mode) (start_a : R) (start_b : S)
    → Compares source_a source_b limits mode start_a start_a start_b start_b (Err because.Memory)
none_compared source_a source_b limits mode start_a start_b =
    let accepted =
    none_accepted (accepting limits mode) (accepted_facts limits mode) in
    let none : IsReadTo (accepting limits mode) [] 1 =
    record { before = []; last = []; split = refl; few = omega arith; ends = inl refl } in
    let before : (input : Input) → AcceptedBefore (accepting limits mode) input 1 =
    λ input.
    record {
      values = [];
      front = [];
      rest = input.bytes;
      split = refl;
      accepted = accepted;
      is_number = omega arith;
    } in
    record {
      number = 1;
      bytes_a = [];
      stop_a = None;
      came_a = nothing_came source_a start_a;
      read_a = none;
      bytes_b = [];
      stop_b = None;
      came_b = nothing_came source_b start_b;
      read_b = none;
      tells = λ x y is_x is_y.
          record {
            of_a = before x;
            of_b = before y;
            same = normal_is_complete (stop_in mode) [] [] [] (normal mode [] tt)
                (normal mode [] tt);
          };
      none_fails = (refl, refl);
    }

-- The result for the next record is an allocation failure, or an error at that record.
pub as_told : {T R : Type 0} {numbers : T → List ℤ} {table_limit : T → ℕ} {source : Source R}
    {limits : Limits} {mode : Mode} {bytes : List ℕ} {messages normal : List Sent}
    {old new : NormalRecords T} {before after : R} {refused : Refused}
    (stopped : HasStoppedAt numbers table_limit source limits mode bytes messages normal
    old new before after refused)
    → (refused ≡ why.Memory)
    ⊎ ((refused ≡ why.Memory → ⊥)
    × RefusesAt (accepting limits mode) (so_far (bytes ++ stopped.more) stopped.stop)
    old.records.number refused)
as_told {refused = why.Memory} stopped =
    inl refl
as_told stopped =
    inr ((λ same. absurd (let e = same in cc)), stopped.says)

-- An input has ended.
module _ {T R : Type 0} {numbers : T → List ℤ} {table_limit : T → ℕ} {source : Source R}
    {limits : Limits} {mode : Mode} {start reader : R} {records : NormalRecords T}
    (was : Going numbers table_limit source limits mode start reader records)
    {new : NormalRecords T} {after : R} {before longer : List ℕ}
    (end : HasEnded numbers table_limit source limits mode was.bytes was.messages was.normal
    records new reader after before longer) where
  pub names_of : Represents numbers table_limit new.judge.names was.messages
  names_of =
      subst (λ judge. Represents numbers table_limit judge.names was.messages)
      (sym end.judge_is) was.represents.represents.names

  mode_of : judge_mode new.judge ≡ mode
  mode_of =
      subst (λ (judge : Judge T). judge_mode judge ≡ mode) (sym end.judge_is)
      was.represents.judge_mode_is

  names_in : RepresentsWith (stop_in mode) numbers table_limit new.judge.names was.messages
  names_in =
      subst (λ k. RepresentsWith (stop_in k) numbers table_limit new.judge.names was.messages)
      mode_of names_of

module _ {T R S : Type 0} {numbers : T → List ℤ} {table_limit : T → ℕ} {source_a : Source R}
    {source_b : Source S} {limits : Limits} {mode : Mode}
    {start_a reader_a : R} {records_a : NormalRecords T}
    (a : Going numbers table_limit source_a limits mode start_a reader_a records_a)
    {start_b reader_b : S} {records_b : NormalRecords T}
    (b : Going numbers table_limit source_b limits mode start_b reader_b records_b)
    (alike : a.normal ≡ b.normal) where
  abbrev pub number : ℕ
  number = records_a.records.number

  are : AreSame (stop_in mode) a.messages b.messages
  are =
      normal_is_complete (stop_in mode) a.messages b.messages a.normal
      (normal_before a.represents)
      (subst (IsNormal (stop_in mode) b.messages) (sym alike)
      (normal_before b.represents))

  pub one_number : records_b.records.number ≡ number
  one_number =
      b.represents.number_is ∙ sym (ap (λ n. n + 1) (same_lengths mode a.messages b.messages are))
      ∙ sym a.represents.number_is

  -- the records before are accepted in both inputs, of which these bytes were read
  module _ (bytes_a bytes_b more_a more_b : List ℕ) (all_a : bytes_a
      ≡ a.bytes ++ more_a) (all_b : bytes_b
      ≡ b.bytes ++ more_b) (stop_a stop_b : Option Stop) (x y : Input)
      (is_x : IsOf bytes_a stop_a x) (is_y : IsOf bytes_b stop_b y) where
    abbrev beyond_x : List ℕ
    beyond_x = (front_of bytes_a stop_a x is_x).0

    split_x : x.bytes ≡ a.bytes ++ (more_a ++ beyond_x)
    split_x = (front_of bytes_a stop_a x is_x).1 ∙ ap (λ t. t ++ beyond_x) all_a
        ∙ append_assoc a.bytes more_a beyond_x

    abbrev beyond_y : List ℕ
    beyond_y = (front_of bytes_b stop_b y is_y).0

    split_y : y.bytes ≡ b.bytes ++ (more_b ++ beyond_y)
    split_y = (front_of bytes_b stop_b y is_y).1 ∙ ap (λ t. t ++ beyond_y) all_b
        ∙ append_assoc b.bytes more_b beyond_y

    before : AreSameBefore (accepting limits mode) (AreSame (stop_in mode)) x y number
    before = record {
      of_a = before_in a x (more_a
          ++ beyond_x) split_x;
      of_b = record {
        values = b.messages;
        front = b.represents.front;
        rest = records_b.records.pieces.unread ++ (more_b ++ beyond_y);
        split = (before_in b y (more_b
            ++ beyond_y) split_y).split;
        accepted = b.represents.accepted;
        is_number = sym one_number ∙ b.represents.number_is;
      };
      same = are;
    }

  -- ---- an error

  pub refused_by_a : (new : NormalRecords T) (after : R) (refused : Refused)
      (stopped : HasStoppedAt numbers table_limit source_a limits mode a.bytes
      a.messages a.normal records_a new reader_a after refused)
      → RefusesAt (accepting limits mode) (so_far (a.bytes ++ stopped.more) stopped.stop) number
      refused
      → HasCompared source_a source_b limits mode start_a after start_b
      reader_b (Err (because.Input A refused))
  refused_by_a new after refused stopped said = record {
    number = number;
    bytes_a = a.bytes ++ stopped.more;
    stop_a = stopped.stop;
    came_a = came_on source_a start_a reader_a after a.bytes stopped.more
        stopped.stop a.came stopped.came;
    read_a = stopped.read_to;
    bytes_b = b.bytes;
    stop_b = None;
    came_b = b.came;
    read_b = subst (IsReadTo (accepting limits mode) b.bytes)
        (let is = b.represents.number_is in omega (arith, is, one_number)) b.represents.read_to;
    tells = λ x y is_x is_y.
        let here = refused_in (accepting limits mode) (readable limits.frame) (value_laws limits
        mode)
        (accepted_facts limits mode) (a.bytes ++ stopped.more) number refused x stopped.stop is_x
        said stopped.cut in
        record {
          fault = here.fault;
          tells = here.tells;
          is_verdict = (
            before (a.bytes ++ stopped.more) b.bytes stopped.more [] refl
                (sym (append-nil b.bytes)) stopped.stop None x y is_x is_y,
            here.is_refused,
          );
        };
    none_fails = tt;
  }

  -- what is known about the record of A when that of B is read
  pub record Passed (after : R) (more : List ℕ) (stop : Option Stop) : Type 0 where
    pub came : HasReadSoFar source_a reader_a after more stop
    pub read_to : IsReadTo (accepting limits mode) (a.bytes ++ more) number
    pub no_failure : source_a.failures after ≡ source_a.failures reader_a
    pub passes : (x : Input) → IsOf (a.bytes ++ more) stop x
        → IsNotRefusedAt (accepting limits mode) x number

  pub refused_by_b : (passed_to : R) (more : List ℕ) (stop : Option Stop)
      → Passed passed_to more stop
      → (new : NormalRecords T) (after : S) (refused : Refused)
      (stopped : HasStoppedAt numbers table_limit source_b limits mode b.bytes
      b.messages b.normal records_b new reader_b after refused)
      → RefusesAt (accepting limits mode) (so_far (b.bytes ++ stopped.more) stopped.stop)
      records_b.records.number refused
      → HasCompared source_a source_b limits mode start_a passed_to
      start_b after (Err (because.Input B refused))
  refused_by_b passed_to more stop passed new after refused stopped said = record {
    number = number;
    bytes_a = a.bytes ++ more;
    stop_a = stop;
    came_a = came_on source_a start_a reader_a passed_to a.bytes more stop a.came
        passed.came;
    read_a = passed.read_to;
    bytes_b = b.bytes ++ stopped.more;
    stop_b = stopped.stop;
    came_b = came_on source_b start_b reader_b after b.bytes stopped.more
        stopped.stop b.came stopped.came;
    read_b = subst (IsReadTo (accepting limits mode) (b.bytes ++ stopped.more)) one_number
        stopped.read_to;
    tells = λ x y is_x is_y.
        let here = refused_in (accepting limits mode) (readable limits.frame) (value_laws limits
        mode)
        (accepted_facts limits mode) (b.bytes ++ stopped.more) number refused y stopped.stop is_y
        (subst (λ n. RefusesAt (accepting limits mode)
        (so_far (b.bytes ++ stopped.more) stopped.stop) n refused) one_number said) stopped.cut
        in
        record {
          fault = here.fault;
          tells = here.tells;
          is_verdict = (
            before (a.bytes ++ more) (b.bytes ++ stopped.more) more stopped.more refl refl stop
                stopped.stop x y is_x is_y,
            passed.passes x is_x,
            here.is_refused,
          );
        };
    none_fails = tt;
  }

  -- ---- an allocation failure

  -- These bytes of both inputs were read, and neither reader failed.
  pub gave_up : (after_a : R) (more_a : List ℕ) (stop_a : Option Stop)
      → HasReadSoFar source_a reader_a after_a more_a stop_a
      → IsReadTo (accepting limits mode) (a.bytes ++ more_a) number
      → source_a.failures after_a ≡ source_a.failures reader_a
      → (after_b : S) (more_b : List ℕ) (stop_b : Option Stop)
      → HasReadSoFar source_b reader_b after_b more_b stop_b
      → IsReadTo (accepting limits mode) (b.bytes ++ more_b) number
      → source_b.failures after_b ≡ source_b.failures reader_b
      → Compares source_a source_b limits mode start_a after_a start_b after_b
      (Err because.Memory)
  gave_up after_a more_a stop_a came_a read_a kept_a after_b more_b stop_b came_b read_b kept_b =
      record {
        number = number;
        bytes_a = a.bytes ++ more_a;
        stop_a = stop_a;
        came_a = came_on source_a start_a reader_a after_a a.bytes more_a stop_a a.came came_a;
        read_a = read_a;
        bytes_b = b.bytes ++ more_b;
        stop_b = stop_b;
        came_b = came_on source_b start_b reader_b after_b b.bytes more_b stop_b b.came came_b;
        read_b = read_b;
        tells = λ x y is_x is_y.
            before (a.bytes ++ more_a) (b.bytes ++ more_b) more_a more_b refl refl stop_a stop_b
            x y is_x is_y;
        none_fails = (kept_a ∙ a.came.paused, kept_b ∙ b.came.paused);
      }

  gave_up_by_a : (new : NormalRecords T) (after : R) (refused : Refused) → refused ≡ why.Memory
      → HasStoppedAt numbers table_limit source_a limits mode a.bytes a.messages
      a.normal records_a new reader_a after refused
      → Compares source_a source_b limits mode start_a after start_b reader_b (Err because.Memory)
  gave_up_by_a new after refused is stopped =
      gave_up after stopped.more stopped.stop stopped.came stopped.read_to
      (subst (HasPaused source_a reader_a after) (stopped.goes_on is) stopped.came.paused)
      reader_b [] None (nothing_came source_b reader_b)
      (subst (λ bytes. IsReadTo (accepting limits mode) bytes number) (sym (append-nil b.bytes))
      (read_later (accepting limits mode) b.bytes (length b.messages) number
      (let is = b.represents.number_is in omega (arith, is, one_number)) b.represents.read_to))
      refl

  gave_up_by_b : (passed_to : R) (more : List ℕ) (stop : Option Stop)
      → Passed passed_to more stop
      → (new : NormalRecords T) (after : S) (refused : Refused) → refused ≡ why.Memory
      → HasStoppedAt numbers table_limit source_b limits mode b.bytes b.messages
      b.normal records_b new reader_b after refused
      → Compares source_a source_b limits mode start_a passed_to start_b after
      (Err because.Memory)
  gave_up_by_b passed_to more stop passed new after refused is stopped =
      gave_up passed_to more stop passed.came passed.read_to passed.no_failure
      after stopped.more stopped.stop stopped.came
      (subst (IsReadTo (accepting limits mode) (b.bytes ++ stopped.more)) one_number
      stopped.read_to)
      (subst (HasPaused source_b reader_b after) (stopped.goes_on is) stopped.came.paused)

  -- The error that is returned, stated by its two clauses.
  pub told_by_a : (new : NormalRecords T) (after : R) (refused : Refused) (refusal : CompareRefused)
      → IsRefusalOf A refused refusal
      → HasStoppedAt numbers table_limit source_a limits mode a.bytes a.messages
      a.normal records_a new reader_a after refused
      → Compares source_a source_b limits mode start_a after start_b
      reader_b (Err refusal)
  told_by_a new after refused refusal of_it stopped =
      ⊎_elim (λ is. rw (of_it.0 is) (gave_up_by_a new after refused is stopped))
      (λ reported. rw (of_it.1 reported.0) (refused_by_a new after refused stopped reported.1))
      (as_told stopped)

  pub told_by_b : (passed_to : R) (more : List ℕ) (stop : Option Stop)
      → Passed passed_to more stop
      → (new : NormalRecords T) (after : S) (refused : Refused) (refusal : CompareRefused)
      → IsRefusalOf B refused refusal
      → HasStoppedAt numbers table_limit source_b limits mode b.bytes b.messages
      b.normal records_b new reader_b after refused
      → Compares source_a source_b limits mode start_a passed_to
      start_b after (Err refusal)
  told_by_b passed_to more stop passed new after refused refusal of_it stopped =
      ⊎_elim (λ is. rw (of_it.0 is)
      (gave_up_by_b passed_to more stop passed new after refused is stopped))
      (λ reported. rw (of_it.1 reported.0)
      (refused_by_b passed_to more stop passed new after refused stopped reported.1))
      (as_told stopped)

  -- ---- the record of A

  module _ (new_a : NormalRecords T) (after_a : R) (text_a longer_a : List ℕ) where
    pub gone_passed : (gone : HasAdvanced numbers table_limit source_a limits mode a.bytes
        a.messages a.normal records_a new_a reader_a after_a text_a longer_a)
        → Passed after_a gone.more None
    gone_passed gone = record {
      came = gone.came;
      read_to = gone.read_to;
      no_failure = gone.came.paused;
      passes = λ x is_x.
          goes_on limits mode number x
          (next_in a gone x is_x.0 is_x.1);
    }

    pub ended_passed : (ended : HasEnded numbers table_limit source_a limits mode
        a.bytes a.messages a.normal records_a new_a reader_a after_a text_a longer_a)
        → Passed after_a ended.more (Some End)
    ended_passed ended = record {
      came = ended.came;
      read_to = ended.read_to;
      no_failure = ended.came.paused.1;
      passes = λ x is_x. has_ended limits mode number x a.messages
          (taken_in limits mode (a.bytes ++ ended.more) x a.messages is_x ended.accepted);
    }

    -- whether a record was read, or there is no next one
    pub passed_by : (some : Bool)
        → HasNext numbers table_limit source_a limits mode a.bytes a.messages a.normal
        records_a new_a reader_a after_a text_a longer_a (Ok some)
        → (more : List ℕ) × (stop : Option Stop) × Passed after_a more stop
    passed_by true gone = (gone.more, None, gone_passed gone)
    passed_by false ended = (ended.more, Some End, ended_passed ended)

  -- ---- the records of both inputs

  module _ (new_a : NormalRecords T) (after_a : R) (text_a longer_a : List ℕ)
      (new_b : NormalRecords T) (after_b : S) (text_b longer_b : List ℕ) where
    -- whether each input has a next record
    abbrev pub Next_a : Bool → Type 0
    Next_a some = HasNext numbers table_limit source_a limits mode a.bytes a.messages
        a.normal records_a new_a reader_a after_a text_a longer_a (Ok some)

    abbrev pub Next_b : Bool → Type 0
    Next_b some = HasNext numbers table_limit source_b limits mode b.bytes b.messages
        b.normal records_b new_b reader_b after_b text_b longer_b (Ok some)

    next_y : (gone : Next_b true) (y : Input) → IsOf (b.bytes ++ gone.more) None y
        → AcceptedBefore (accepting limits mode) y (number + 1)
    next_y gone y is_y =
        subst (λ n. AcceptedBefore (accepting limits mode) y (n + 1)) one_number
        (next_in b gone y is_y.0 is_y.1)

    number_of_a : number ≡ length a.messages + 1
    number_of_a = a.represents.number_is

    number_of_b : number ≡ length b.messages + 1
    number_of_b = sym one_number ∙ b.represents.number_is

    -- these bytes of both were read, and this is the verdict
    module _ (more_a : List ℕ) (stop_a : Option Stop)
        (came_a : HasReadSoFar source_a reader_a after_a more_a stop_a)
        (read_a : IsReadTo (accepting limits mode) (a.bytes ++ more_a) number)
        (kept_a : source_a.failures after_a ≡ source_a.failures reader_a)
        (more_b : List ℕ) (stop_b : Option Stop)
        (came_b : HasReadSoFar source_b reader_b after_b more_b stop_b)
        (read_b : IsReadTo (accepting limits mode) (b.bytes ++ more_b) records_b.records.number)
        (kept_b : source_b.failures after_b ≡ source_b.failures reader_b)
      where
        differs : (n : ℕ) → n ≡ number
            → ((x y : Input) → IsOf (a.bytes ++ more_a) stop_a x → IsOf (b.bytes ++ more_b) stop_b y
            → IsRecordingVerdict limits mode x y (differ number))
            → HasCompared source_a source_b limits mode start_a after_a
            start_b after_b (Ok (code.Differ n))
        differs n is verdict = record {
          number = number;
          bytes_a = a.bytes ++ more_a;
          stop_a = stop_a;
          came_a = came_on source_a start_a reader_a after_a a.bytes more_a stop_a
              a.came came_a;
          read_a = read_a;
          bytes_b = b.bytes ++ more_b;
          stop_b = stop_b;
          came_b = came_on source_b start_b reader_b after_b b.bytes more_b stop_b
              b.came came_b;
          read_b = subst (IsReadTo (accepting limits mode) (b.bytes ++ more_b)) one_number read_b;
          tells = λ x y is_x is_y. (is, verdict x y is_x is_y);
          none_fails = (kept_a ∙ a.came.paused, kept_b ∙ b.came.paused);
        }

    pub some_and_none : (n : ℕ) → n ≡ number → Next_a true → Next_b false
        → HasCompared source_a source_b limits mode start_a after_a
        start_b after_b (Ok (code.Differ n))
    some_and_none n is gone ended =
        differs gone.more None gone.came gone.read_to gone.came.paused
        ended.more (Some End) ended.came ended.read_to ended.came.paused.1 n is
        (λ x y is_x is_y.
        y_has_ended limits mode x y number
        (before (a.bytes ++ gone.more) (b.bytes ++ ended.more) gone.more ended.more refl refl
        None (Some End) x y is_x is_y) b.messages
        (taken_in limits mode (b.bytes ++ ended.more) y b.messages is_y ended.accepted) number_of_b
        (next_in a gone x is_x.0 is_x.1))

    pub none_and_some : (n : ℕ) → n ≡ number → Next_a false → Next_b true
        → HasCompared source_a source_b limits mode start_a after_a
        start_b after_b (Ok (code.Differ n))
    none_and_some n is ended gone =
        differs ended.more (Some End) ended.came ended.read_to ended.came.paused.1
        gone.more None gone.came gone.read_to gone.came.paused n is
        (λ x y is_x is_y.
        x_has_ended limits mode x y number
        (before (a.bytes ++ ended.more) (b.bytes ++ gone.more) ended.more gone.more refl refl
        (Some End) None x y is_x is_y) a.messages
        (taken_in limits mode (a.bytes ++ ended.more) x a.messages is_x ended.accepted) number_of_a
        (next_y gone y is_y))

    module _ (gone : Next_a true) (went : Next_b true) where
      is_normal_b : IsNormal (stop_in mode) (b.messages ++ went.message ∷ []) (a.normal
          ++ went.named
          ∷ [])
      is_normal_b =
          subst (λ n. IsNormal (stop_in mode) (b.messages ++ went.message ∷ []) (n ++ went.named
          ∷ []))
          (sym alike) (normal_before went.represents)

      pub texts_apart : text_a ≡ [] → text_b ≡ [] → (n : ℕ) → n ≡ number → (longer_a ≡ longer_b → ⊥)
          → HasCompared source_a source_b limits mode start_a after_a
          start_b after_b (Ok (code.Differ n))
      texts_apart none nothing n is apart =
          differs gone.more None gone.came gone.read_to gone.came.paused
          went.more None went.came went.read_to went.came.paused n is
          (λ x y is_x is_y.
          are_apart limits mode x y number
          (before (a.bytes ++ gone.more) (b.bytes ++ went.more) gone.more went.more refl refl
          None None x y is_x is_y)
          (next_in a gone x is_x.0 is_x.1) (in_y y is_y)
          (not_the_same limits mode a.normal (a.messages ++ gone.message ∷ []) (b.messages
          ++ went.message ∷ []) gone.named went.named (normal_before gone.represents)
          is_normal_b
          (λ equal. apart (gone.appended ∙ ap (λ t. t ++ record_of gone.named) none ∙ equal
          ∙ sym (went.appended ∙ ap (λ t. t ++ record_of went.named) nothing)))))
        where
          in_y : (y : Input) → IsOf (b.bytes ++ went.more) None y
              → AcceptedBefore (accepting limits mode) y (number + 1)
          in_y y is_y = record {
            values = b.messages ++ went.message ∷ [];
            front = went.represents.front;
            rest = new_b.records.pieces.unread ++ is_y.0;
            split = (next_in b went y is_y.0 is_y.1).split;
            accepted = went.represents.accepted;
            is_number =
                (let is = number_of_b in omega (arith, is, length_push b.messages went.message));
          }

      pub still_alike : AreSound limits → text_a ≡ [] → text_b ≡ [] → longer_a ≡ longer_b
          → a.normal ++ gone.named ∷ [] ≡ b.normal ++ went.named ∷ []
      still_alike sound none nothing equal =
          sym
          (one_form limits mode a.normal (a.messages ++ gone.message ∷ []) (b.messages
          ++ went.message
          ∷ []) gone.named went.named (normal_before gone.represents)
          is_normal_b
          sound
          gone.represents.front went.represents.front gone.represents.accepted
          went.represents.accepted
          (sym (gone.appended ∙ ap (λ t. t ++ record_of gone.named) none) ∙ equal ∙ went.appended
          ∙ ap (λ t. t ++ record_of went.named) nothing))
          ∙ ap (λ n. n ++ went.named ∷ []) alike

    pub told_apart : (some_a some_b : Bool) → Next_a some_a → Next_b some_b → text_a ≡ []
        → text_b ≡ [] → (longer_a ≡ longer_b → ⊥) → (n : ℕ) → n ≡ number
        → HasCompared source_a source_b limits mode start_a after_a
        start_b after_b (Ok (code.Differ n))
    told_apart true false gone ended none nothing apart n is = some_and_none n is gone ended
    told_apart false true ended gone none nothing apart n is = none_and_some n is ended gone
    told_apart true true gone went none nothing apart n is =
        texts_apart gone went none nothing n is apart
    told_apart false false ended over none nothing apart n is =
        absurd (apart (ended.kept ∙ none ∙ sym (over.kept ∙ nothing)))

    -- If the texts are equal, both inputs have a next record, or neither has one.
    pub both_next : (some_a some_b : Bool) → Next_a some_a → Next_b some_b → text_a ≡ []
        → text_b ≡ [] → longer_a ≡ longer_b → some_b ≡ some_a
    both_next true true gone went none nothing same = refl
    both_next false false ended over none nothing same = refl
    both_next true false gone ended none nothing same =
        absurd (not_empty_record gone.named longer_a
        (gone.appended ∙ ap (λ t. t ++ record_of gone.named) none) (same ∙ ended.kept ∙ nothing))
    both_next false true ended gone none nothing same =
        absurd (not_empty_record gone.named longer_b
        (gone.appended ∙ ap (λ t. t ++ record_of gone.named) nothing)
        (sym same ∙ ended.kept ∙ none))

  -- both inputs have ended

  module _ {new_a new_b : NormalRecords T} {after_a : R} {after_b : S}
      {text_a longer_a text_b longer_b : List ℕ}
      (end_a : HasEnded numbers table_limit source_a limits mode a.bytes a.messages a.normal
      records_a new_a reader_a after_a text_a longer_a)
      (end_b : HasEnded numbers table_limit source_b limits mode b.bytes b.messages b.normal
      records_b new_b reader_b after_b text_b longer_b) where
    pub equal_counts : HaveEqualCounts numbers new_a.judge.names new_b.judge.names
    equal_counts = record {
      mode = mode_of a end_a ∙ sym (mode_of b end_b);
      stops = (names_in a end_a).stops ∙ same_stops (stop_in mode) (mode_is_told mode) a.messages
          b.messages are
          ∙ sym (names_in b end_b).stops;
      classes = λ c. ap length ((names_in a end_a).classes c)
          ∙ same_counts (stop_in mode) a.messages b.messages are c
          ∙ sym (ap length ((names_in b end_b).classes c));
    }

    pub both_ended : (renaming : Renaming)
        → entries (pairs_of renaming)
        ≡ equal_places (stop_in (judge_mode new_a.judge)) a.messages b.messages
        → HasCompared source_a source_b limits mode start_a after_a
        start_b after_b (Ok (code.Same renaming))
    both_ended renaming pairs = record {
      number = number;
      bytes_a = a.bytes ++ end_a.more;
      stop_a = Some End;
      came_a = came_on source_a start_a reader_a after_a a.bytes end_a.more
          (Some End) a.came end_a.came;
      read_a = end_a.read_to;
      bytes_b = b.bytes ++ end_b.more;
      stop_b = Some End;
      came_b = came_on source_b start_b reader_b after_b b.bytes end_b.more
          (Some End) b.came end_b.came;
      read_b = subst (IsReadTo (accepting limits mode) (b.bytes ++ end_b.more)) one_number
          end_b.read_to;
      tells = λ x y is_x is_y.
          subst (λ how. IsRecordingVerdict limits mode x y (are_same how))
          (sym (pairs ∙ ap (λ k. equal_places (stop_in k) a.messages b.messages) (mode_of a end_a)))
          (both_have_ended limits mode x y a.messages b.messages
          (taken_in limits mode (a.bytes ++ end_a.more) x a.messages is_x end_a.accepted)
          (taken_in limits mode (b.bytes ++ end_b.more) y b.messages is_y end_b.accepted) are);
      none_fails = (end_a.came.paused.1 ∙ a.came.paused, end_b.came.paused.1 ∙ b.came.paused);
    }

    -- Both inputs have ended, and an allocation failed after that.
    pub gave_up_at_end : Compares source_a source_b limits mode start_a after_a start_b after_b
        (Err because.Memory)
    gave_up_at_end =
        gave_up after_a end_a.more (Some End) end_a.came end_a.read_to end_a.came.paused.1
        after_b end_b.more (Some End) end_b.came
        (subst (IsReadTo (accepting limits mode) (b.bytes ++ end_b.more)) one_number
        end_b.read_to)
        end_b.came.paused.1
