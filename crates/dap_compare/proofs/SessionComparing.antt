-- Comparing the messages of two accepted recordings one by one.
use Rattle.std.proofs.Common.{◌≡◌, ℕ, zero, suc, ◌+◌, ◌-◌, ◌≤◌, ℤ, Bool, true, false}
use Rattle.std.proofs.Common.{List, [], ◌∷◌, ◌++◌, length, take, drop, slice_get, Some, None}
use Rattle.std.proofs.Common.{refl, sym, ◌∙◌, ap, subst, arith, append-nil, append_assoc}
use Rattle.std.proofs.Common.{length-take, length-take-le, take-append-drop, take_all}
use Rattle.std.proofs.lemmas.{Bool.true≢false, List.take_more}
use Rattle.std.proofs.lemmas.Option.{get_or_from_slice_get, none-some, same_Some}
use Rattle.std.proofs.lemmas.Option.{slice_get_within}
use Rattle.dap_message.specs.Message.{Sent}
use Rattle.dap_rename.specs.Messages.{AreSame, IsNormal, equal_places}
use Rattle.dap_rename.specs.{Modes.stop_in, declared.mode.Mode.Mode, declared.names.Names.Names}
use Rattle.dap_rename.specs.Names.{HaveEqualCounts, Represents, RepresentsWith, mode_of}
use Rattle.dap_rename.specs.{Pairs.entries, Renaming.pairs_of, declared.renaming.Renaming.Renaming}
use Rattle.dap_rename.proofs.NormalForms.{same_counts, same_stops}
use Rattle.dap_rename.proofs.{Sameness.normal_is_complete, Stops.mode_is_told}
use Rattle.dap_input.specs.{Limits.AreSound, Refusals.{RejectsPayload, reason_of}}
use Rattle.dap_input.specs.{Validation.Validation, declared.limits.Limits.Limits}
use Rattle.dap_input.specs.declared.refused.Refused.{Refused}
use Rattle.dap_input.specs.declared.refused.Refused.TheVariants.{Memory}
use Rattle.dap_input.proofs.{Refusals.objection_told, Runs.Run}
use Rattle.dap_normalise.specs.declared.judging.Judge.{Judge}
use Rattle.dap_normalise.specs.Accepting.{Payload, IsMessage, IsNext, Rejects, accepting}
use Rattle.dap_normalise.specs.JudgingSteps.{IsTaken, RepresentsMessages, judge_limits, judge_mode}
use Rattle.dap_normalise.specs.JudgingSteps.{record_of}
use Rattle.dap_normalise.proofs.AcceptingFacts.{accepted_facts, message_once, value_laws}
use Rattle.dap_compare.specs.declared.verdict.Verdict.TheVariants as code
use Rattle.dap_compare.specs.Sessions.{AreAccepted, DifferFirstAt, IsTextOfNumber, IsVerdictOn}
use Rattle.dap_compare.specs.SessionSteps.{AppendsNext, HasAppended, HasNoMore}
use Rattle.dap_compare.proofs.{ComparingLoop.{not_the_same, one_form}, Verdicts.same_lengths}
use Rattle.dap_compare.proofs.StreamComparing.{not_empty_record}

-- ---- the values of a run

module _ (j : Validation) where
  -- The first values of a run are a run.
  run_front : (before values more : List j.Value) (used : ℕ) (bytes : List ℕ)
      → Run j before used bytes (values ++ more) → (front : List ℕ) × Run j before used front values
  unfolding Run
  run_front before [] more used bytes run = ([], refl)
  run_front before (value ∷ values) more used bytes (front, rest, split, passes, run) =
      let first =
      run_front (before ++ value ∷ []) values more (used + length front) rest run in
      (front ++ first.0, (front, first.0, refl, passes, first.1))

  -- Each value of a run is accepted after those before it.
  run_next : (before values : List j.Value) (value : j.Value) (more : List j.Value) (used : ℕ)
      (bytes : List ℕ) → Run j before used bytes (values ++ value ∷ more)
      → (held : j.Payload) × j.IsNext (before ++ values) held value
  unfolding Run
  run_next before [] value more used bytes (front, rest, split, passes, run) = (
    passes.held,
    subst (λ vs. j.IsNext vs passes.held value) (sym (append-nil before)) passes.is_next,
  )
  run_next before (first ∷ values) value more used bytes (front, rest, split, passes, run) =
      let next =
      run_next (before ++ first ∷ []) values value more (used + length front) rest run in (
        next.0,
        subst (λ vs. j.IsNext vs next.0 value) (append_assoc before (first ∷ []) values) next.1,
      )

-- ---- accepted messages

module _ (limits : Limits) (mode : Mode) where
  -- The first of the messages are accepted.
  pub front_accepted : (messages : List Sent) (place : ℕ) → AreAccepted limits mode messages
      → AreAccepted limits mode (take place messages)
  front_accepted messages place (bytes, accepted) =
      let front = take place messages in
      let run : Run (accepting limits mode) [] 0 bytes (front ++ drop place messages) =
      subst (Run (accepting limits mode) [] 0 bytes) (sym (take-append-drop place messages))
      ((accepted_facts limits mode).run_of_accepted bytes messages accepted) in
      let first = run_front (accepting limits mode) [] front (drop place messages) 0 bytes run in
      (first.0, (accepted_facts limits mode).accepted_of_run first.0 front first.1)

  -- Each of the messages is accepted after those before it.
  next_accepted : (messages before : List Sent) (m : Sent) (more : List Sent)
      → messages ≡ before ++ m ∷ more → AreAccepted limits mode messages
      → (held : Payload) × IsNext limits mode before held m
  next_accepted messages before m more split (bytes, accepted) =
      run_next (accepting limits mode) [] before m more 0 bytes
      (subst (Run (accepting limits mode) [] 0 bytes) split
      ((accepted_facts limits mode).run_of_accepted bytes messages accepted))

  -- A message that is accepted after others is not rejected after them.
  pub never_rejected : (before : List Sent) (held : Payload) (m : Sent)
      → IsNext limits mode before held m → (n : ℕ) (because : Refused)
      → (because ≡ Memory → ⊥) → RejectsPayload (Rejects limits mode before held) n because → ⊥
  never_rejected before held m next n Memory other rejects = other refl
  never_rejected before held m next n because other rejects =
      let reported = objection_told (Rejects limits mode before held) n (reason_of because) rejects
      in
      (value_laws limits mode).next_not_objected before held m reported.0 next reported.2

-- ---- the message at a place

split_at : {X : Type 0} (xs : List X) (place : ℕ) (x : X) → slice_get xs place ≡ Some x
    → (more : List X) × (xs ≡ take place xs ++ x ∷ more)
split_at [] place x is = absurd (none-some x is)
split_at (y ∷ xs) zero x is = (xs, ap (λ z. z ∷ xs) (same_Some y x is))
split_at (y ∷ xs) (suc place) x is =
    let rest = split_at xs place x is in (rest.0, ap (λ zs. y ∷ zs) rest.1)

pub take_push : {X : Type 0} (xs : List X) (place : ℕ) (x : X) → slice_get xs place ≡ Some x
    → take (place + 1) xs ≡ take place xs ++ x ∷ []
take_push xs place x is =
    take_more xs place x (slice_get_within xs place x is)
    ∙ ap (λ y. take place xs ++ y ∷ []) (get_or_from_slice_get xs place x x is)

pub none_past : {X : Type 0} (xs : List X) (place : ℕ) → slice_get xs place ≡ None
    → length xs ≤ place
none_past [] place none = omega arith
none_past (x ∷ xs) zero none = absurd (none-some x (sym none))
none_past (x ∷ xs) (suc place) none =
    let rest = none_past xs place none in omega (arith, rest)

-- The message at a place is accepted after those before it.
pub accepted_at : (limits : Limits) (mode : Mode) (messages : List Sent) (place : ℕ) (m : Sent)
    → slice_get messages place ≡ Some m → AreAccepted limits mode messages
    → (held : Payload) × IsNext limits mode (take place messages) held m
accepted_at limits mode messages place m is accepted =
    let split = split_at messages place m is in
    next_accepted limits mode messages (take place messages) m split.0 split.1 accepted

-- The message at this place was checked.
pub has_appended : {T : Type 0} {numbers : T → List ℤ} {table_limit : T → ℕ}
    {messages normal : List Sent} {place : ℕ} {m : Sent} {held : Payload} {judge : Judge T}
    {first longer : List ℕ} → slice_get messages place ≡ Some m → IsMessage held m
    → IsTaken numbers table_limit (take place messages) normal held judge first longer
    → HasAppended numbers table_limit messages place normal judge first longer
has_appended {numbers = numbers} {table_limit = table_limit} {messages = messages}
    {normal = normal} {place = place} {m = m} {held = held} {judge = judge} is_at is taken =
    let same : taken.message ≡ m =
    message_once held taken.message m taken.is_next.is_message is in
    record {
      within = slice_get_within messages place m is_at;
      named = taken.named;
      represents = subst (λ ms. RepresentsMessages numbers table_limit judge ms
          (normal ++ taken.named ∷ []))
          (ap (λ k. take place messages ++ k ∷ []) same ∙ sym (take_push messages place m is_at))
          taken.represents;
      appended = taken.appended;
    }

-- ---- one session

same_length : (mode : Mode) (messages normal : List Sent) → IsNormal (stop_in mode) messages normal
    → length messages ≡ length normal
unfolding IsNormal
same_length mode messages normal is = same_lengths mode messages normal is.0

-- The state represents the messages before this place.
pub record HasReached {T : Type 0} (numbers : T → List ℤ) (table_limit : T → ℕ) (limits : Limits)
    (mode : Mode) (messages : List Sent) (place : ℕ) (judge : Judge T) : Type 0 where
  pub within : place ≤ length messages
  pub normal : List Sent
  pub represents : RepresentsMessages numbers table_limit judge (take place messages) normal
  pub limits_are : judge_limits judge ≡ limits
  pub mode_is : judge_mode judge ≡ mode

module _ {T : Type 0} {numbers : T → List ℤ} {table_limit : T → ℕ} {limits : Limits} {mode : Mode}
    {messages : List Sent} {place : ℕ} {judge : Judge T}
    (was : HasReached numbers table_limit limits mode messages place judge) where
  normal_before : IsNormal (stop_in mode) (take place messages) was.normal
  normal_before =
      subst (λ k. IsNormal (stop_in k) (take place messages) was.normal) was.mode_is
      was.represents.is_normal

  count : length was.normal ≡ place
  count =
      sym (same_length mode (take place messages) was.normal normal_before)
      ∙ length-take-le place messages was.within

  -- ---- whether there is a next message

  pub has_next : {new : Judge T} {first longer : List ℕ} {some : Bool}
      → AppendsNext numbers table_limit messages place was.normal judge new first longer some
      → some ≡ true → HasAppended numbers table_limit messages place was.normal new first longer
  has_next {some = true} next is = next
  has_next {some = false} next is = absurd (true≢false (sym is))

  pub has_ended : {new : Judge T} {first longer : List ℕ} {some : Bool}
      → AppendsNext numbers table_limit messages place was.normal judge new first longer some
      → some ≡ false → HasNoMore numbers table_limit messages place judge new first longer
  has_ended {some = true} next is = absurd (true≢false is)
  has_ended {some = false} next is = next

  -- ---- there is a next message

  module _ {new : Judge T} {first longer : List ℕ}
      (gone : HasAppended numbers table_limit messages place was.normal new first longer)
      (mode_same : judge_mode new ≡ judge_mode judge) where
    normal_next : IsNormal (stop_in mode) (take (place + 1) messages)
        (was.normal ++ gone.named ∷ [])
    normal_next =
        subst (λ k. IsNormal (stop_in k) (take (place + 1) messages)
        (was.normal ++ gone.named ∷ [])) (mode_same ∙ was.mode_is) gone.represents.is_normal

    abbrev pub on : judge_limits new ≡ judge_limits judge
        → HasReached numbers table_limit limits mode messages (place + 1) new
    on limits_same = record {
      within = let less = gone.within in omega (arith, less);
      normal = was.normal ++ gone.named ∷ [];
      represents = gone.represents;
      limits_are = limits_same ∙ was.limits_are;
      mode_is = mode_same ∙ was.mode_is;
    }

    record_is : first ≡ [] → longer ≡ record_of gone.named
    record_is none = gone.appended ∙ ap (λ t. t ++ record_of gone.named) none

    text_there : first ≡ [] → (number : ℕ) → number ≡ place + 1
        → IsTextOfNumber mode messages number longer
    text_there none number is = (
      Some gone.named,
      (
        was.normal,
        omega (arith, count, is),
        subst (λ n. IsNormal (stop_in mode) (take n messages) (was.normal ++ gone.named ∷ []))
            (sym is) normal_next,
      ),
      record_is none,
    )

  -- ---- the session has ended

  module _ {new : Judge T} {first longer : List ℕ}
      (end : HasNoMore numbers table_limit messages place judge new first longer) where
    text_past : first ≡ [] → (number : ℕ) → number ≡ place + 1
        → IsTextOfNumber mode messages number longer
    text_past none number is =
        (None, (let past = end.past in omega (arith, past, is)), end.kept ∙ none)

    all_taken : take place messages ≡ messages
    all_taken = take_all place messages end.past

    module _ (names : Names T) (names_are : names ≡ new.names) where
      of_judge : names ≡ judge.names
      of_judge = names_are ∙ ap (λ (k : Judge T). k.names) end.judge_is

      names_represent : Represents numbers table_limit names messages
      names_represent =
          subst (λ ns. Represents numbers table_limit ns messages) (sym of_judge)
          (subst (Represents numbers table_limit judge.names) all_taken was.represents.names)

      names_mode : mode_of names ≡ mode
      names_mode = ap (λ (ns : Names T). mode_of ns) of_judge ∙ was.mode_is

      names_in : RepresentsWith (stop_in mode) numbers table_limit names messages
      names_in =
          subst (λ k. RepresentsWith (stop_in k) numbers table_limit names messages) names_mode
          names_represent

  -- The text that is stored if the messages differ here.
  pub text_at : (new : Judge T) (first longer : List ℕ) (some : Bool)
      → AppendsNext numbers table_limit messages place was.normal judge new first longer some
      → judge_mode new ≡ judge_mode judge → first ≡ [] → (number : ℕ) → number ≡ place + 1
      → IsTextOfNumber mode messages number longer
  text_at new first longer true gone mode_same none number is =
      text_there gone mode_same none number is
  text_at new first longer false end mode_same none number is = text_past end none number is

-- Nothing was checked.
abbrev pub reached_none : {T : Type 0} {numbers : T → List ℤ} {table_limit : T → ℕ}
    {limits : Limits} {mode : Mode} {judge : Judge T} (messages : List Sent)
    → RepresentsMessages numbers table_limit judge [] [] → judge_limits judge ≡ limits
    → judge_mode judge ≡ mode → HasReached numbers table_limit limits mode messages 0 judge
reached_none messages represents limits_are mode_is = record {
  within = omega arith;
  normal = [];
  represents = represents;
  limits_are = limits_are;
  mode_is = mode_is;
}

-- ---- two sessions

module _ {T : Type 0} {numbers : T → List ℤ} {table_limit : T → ℕ} {limits : Limits} {mode : Mode}
    {of_a of_b : List Sent} {place : ℕ} {judge_a judge_b : Judge T}
    (a : HasReached numbers table_limit limits mode of_a place judge_a)
    (b : HasReached numbers table_limit limits mode of_b place judge_b)
    (alike : a.normal ≡ b.normal) where
  same_before : AreSame (stop_in mode) (take place of_a) (take place of_b)
  same_before =
      normal_is_complete (stop_in mode) (take place of_a) (take place of_b) a.normal
      (normal_before a)
      (subst (IsNormal (stop_in mode) (take place of_b)) (sym alike) (normal_before b))

  differ_at : (number : ℕ) → number ≡ place + 1
      → (AreSame (stop_in mode) (take (place + 1) of_a) (take (place + 1) of_b) → ⊥)
      → DifferFirstAt mode of_a of_b number
  differ_at number is apart =
      let Same : ℕ → Type 0 = λ n. AreSame (stop_in mode) (take n of_a) (take n of_b) in
      let earlier : place ≡ number - 1 = omega (arith, is) in
      record {
        before = subst Same earlier same_before;
        differ = λ same. apart (subst Same is same);
      }

  -- If exactly one list has a message at the place, those up to it are not the same.
  lengths_apart : (length (take (place + 1) of_a) ≡ length (take (place + 1) of_b) → ⊥)
      → AreSame (stop_in mode) (take (place + 1) of_a) (take (place + 1) of_b) → ⊥
  lengths_apart apart same =
      apart (same_lengths mode (take (place + 1) of_a) (take (place + 1) of_b) same)

  module _ (new_a new_b : Judge T) (first_a longer_a first_b longer_b : List ℕ)
      (mode_a : judge_mode new_a ≡ judge_mode judge_a)
      (mode_b : judge_mode new_b ≡ judge_mode judge_b) (none_a : first_a ≡ []) (none_b : first_b
      ≡ []) where
    abbrev Next_a : Bool → Type 0
    Next_a some =
        AppendsNext numbers table_limit of_a place a.normal judge_a new_a first_a longer_a some

    abbrev Next_b : Bool → Type 0
    Next_b some =
        AppendsNext numbers table_limit of_b place b.normal judge_b new_b first_b longer_b some

    normal_of_b : (went : Next_b true)
        → IsNormal (stop_in mode) (take (place + 1) of_b) (a.normal ++ went.named ∷ [])
    normal_of_b went =
        subst (λ n. IsNormal (stop_in mode) (take (place + 1) of_b) (n ++ went.named ∷ []))
        (sym alike) (normal_next b went mode_b)

    -- If the records are not equal, the messages are not the same.
    apart_by : (some_a some_b : Bool) → Next_a some_a → Next_b some_b → (longer_a ≡ longer_b → ⊥)
        → AreSame (stop_in mode) (take (place + 1) of_a) (take (place + 1) of_b) → ⊥
    apart_by true true gone went apart =
        not_the_same limits mode a.normal (take (place + 1) of_a) (take (place + 1) of_b)
        gone.named went.named (normal_next a gone mode_a) (normal_of_b went)
        (λ equal. apart (record_is a gone mode_a none_a ∙ equal
        ∙ sym (record_is b went mode_b none_b)))
    apart_by true false gone end apart =
        let less = gone.within in
        let past = end.past in
        lengths_apart
        (λ e. omega (
          arith,
          e,
          less,
          past,
          length-take (place + 1) of_a,
          length-take (place + 1) of_b,
        ))
    apart_by false true end gone apart =
        let less = gone.within in
        let past = end.past in
        lengths_apart
        (λ e. omega (
          arith,
          e,
          less,
          past,
          length-take (place + 1) of_a,
          length-take (place + 1) of_b,
        ))
    apart_by false false end over apart =
        absurd (apart (end.kept ∙ none_a ∙ sym (over.kept ∙ none_b)))

    pub differ_first : (some_a some_b : Bool) → Next_a some_a → Next_b some_b
        → (longer_a ≡ longer_b → ⊥) → (number : ℕ) → number ≡ place + 1
        → DifferFirstAt mode of_a of_b number
    differ_first some_a some_b next_a next_b apart number is =
        differ_at number is (apart_by some_a some_b next_a next_b apart)

    -- If the texts are equal, both sessions have a next message, or neither has one.
    pub both_next : (some_a some_b : Bool) → Next_a some_a → Next_b some_b → longer_a ≡ longer_b
        → some_b ≡ some_a
    both_next true true gone went same = refl
    both_next false false end over same = refl
    both_next true false gone end same =
        absurd (not_empty_record gone.named longer_a (record_is a gone mode_a none_a)
        (same ∙ end.kept ∙ none_b))
    both_next false true end gone same =
        absurd (not_empty_record gone.named longer_b (record_is b gone mode_b none_b)
        (sym same ∙ end.kept ∙ none_a))

    pub still_alike : AreSound limits → AreAccepted limits mode of_a → AreAccepted limits mode of_b
        → (gone : Next_a true) (went : Next_b true) → longer_a ≡ longer_b
        → a.normal ++ gone.named ∷ [] ≡ b.normal ++ went.named ∷ []
    still_alike sound accepted_a accepted_b gone went equal =
        let front_a = front_accepted limits mode of_a (place + 1) accepted_a in
        let front_b = front_accepted limits mode of_b (place + 1) accepted_b in
        sym
        (one_form limits mode a.normal (take (place + 1) of_a) (take (place + 1) of_b) gone.named
        went.named (normal_next a gone mode_a) (normal_of_b went) sound front_a.0 front_b.0
        front_a.1 front_b.1
        (sym (record_is a gone mode_a none_a) ∙ equal ∙ record_is b went mode_b none_b))
        ∙ ap (λ n. n ++ went.named ∷ []) alike

  -- ---- both sessions have ended

  module _ {new_a new_b : Judge T} {first_a longer_a first_b longer_b : List ℕ}
      (end_a : HasNoMore numbers table_limit of_a place judge_a new_a first_a longer_a)
      (end_b : HasNoMore numbers table_limit of_b place judge_b new_b first_b longer_b)
      (names_a names_b : Names T) (are_a : names_a ≡ new_a.names) (are_b : names_b ≡ new_b.names)
    where
      same_all : AreSame (stop_in mode) of_a of_b
      same_all =
          subst (λ ms. AreSame (stop_in mode) ms of_b) (all_taken a end_a)
          (subst (AreSame (stop_in mode) (take place of_a)) (all_taken b end_b) same_before)

      pub equal_counts : HaveEqualCounts numbers names_a names_b
      equal_counts = record {
        mode = names_mode a end_a names_a are_a ∙ sym (names_mode b end_b names_b are_b);
        stops = (names_in a end_a names_a are_a).stops
            ∙ same_stops (stop_in mode) (mode_is_told mode) of_a of_b same_all
            ∙ sym (names_in b end_b names_b are_b).stops;
        classes = λ c. ap length ((names_in a end_a names_a are_a).classes c)
            ∙ same_counts (stop_in mode) of_a of_b same_all c
            ∙ sym (ap length ((names_in b end_b names_b are_b).classes c));
      }

      pub both_ended : (renaming : Renaming)
          → ((ms ns : List Sent) → Represents numbers table_limit names_a ms
          → Represents numbers table_limit names_b ns
          → entries (pairs_of renaming) ≡ equal_places (stop_in (mode_of names_a)) ms ns)
          → IsVerdictOn mode of_a of_b (code.Same renaming)
      both_ended renaming pairs = (
        same_all,
        pairs of_a of_b (names_represent a end_a names_a are_a)
            (names_represent b end_b names_b are_b)
            ∙ ap (λ k. equal_places (stop_in k) of_a of_b) (names_mode a end_a names_a are_a),
      )
