-- Runs: bytes that are complete records, each validated after the values before it. The conditions
-- for values, and the laws of runs.
use Rattle.std.proofs.Common.{◌≡◌, ◌⊎◌, ℕ, ◌+◌, ◌<◌, ◌≤◌, List, [], ◌∷◌, ◌++◌, length}
use Rattle.std.proofs.Common.{refl, ap, arith, append_assoc, append-nil, length-append, add-zero}
use Rattle.std.proofs.Common.{add_assoc}
use Rattle.std.proofs.lemmas.List.{append_cancel_left}
use Rattle.dap_frame.specs.Grammar.{IsItem}
use Rattle.dap_frame.proofs.Ends.{IsReadable, not_empty, one_item}
use Rattle.dap_input.specs.Validation.{Validation, ContentError}

-- The bytes start with a complete record, within the limit, that is validated as this value.
pub record PassesAt (j : Validation) (used : ℕ) (values : List j.Value) (front : List ℕ)
    (value : j.Value) : Type 0 where
  pub held : j.Payload
  pub is_record : IsItem j.records front held
  pub is_next : j.IsNext values held value
  pub in_time : used + length front ≤ j.input

module _ (j : Validation) where
  -- After `used` bytes and the values before, the bytes are records that pass as these values.
  unfoldable pub Run : List j.Value → ℕ → List ℕ → List j.Value → Type 0
  Run before used bytes [] = bytes ≡ []
  Run before used bytes (value ∷ values) =
      (front : List ℕ) × (more : List ℕ) × (bytes ≡ front ++ more)
      × PassesAt j used before front value
      × Run (before ++ value ∷ []) (used + length front) more values

-- The content of a record is at most one value, or has one objection.
pub record ValueLaws (j : Validation) : Type 0 where
  pub one_value : (values : List j.Value) (held : j.Payload) (value other : j.Value)
      → j.IsNext values held value → j.IsNext values held other → value ≡ other
  pub one_objection : (values : List j.Value) (held : j.Payload) (why because : ContentError)
      → j.Rejects values held why → j.Rejects values held because → why ≡ because
  pub next_not_objected : (values : List j.Value) (held : j.Payload) (value : j.Value)
      (why : ContentError)
      → j.IsNext values held value → j.Rejects values held why → ⊥

-- The conditions for the contents of records.
pub record ValueFacts (j : Validation) : Type 0 where
  pub laws : ValueLaws j
  pub some_judgement : (bytes : List ℕ) (values : List j.Value) → Run j [] 0 bytes values
      → (held : j.Payload)
      → ((value : j.Value) × j.IsNext values held value)
      ⊎ ((why : ContentError) × j.Rejects values held why)

-- The condition for accepted inputs: they are the runs.
pub record AcceptedFacts (j : Validation) : Type 0 where
  pub run_of_accepted : (bytes : List ℕ) (values : List j.Value) → j.IsAccepted bytes values
      → Run j [] 0 bytes values
  pub accepted_of_run : (bytes : List ℕ) (values : List j.Value) → Run j [] 0 bytes values
      → j.IsAccepted bytes values

module _ (j : Validation) where
  pub run_none : (before : List j.Value) (used : ℕ) → Run j before used [] []
  unfolding Run
  run_none before used = refl

  pub none_accepted : AcceptedFacts j → j.IsAccepted [] []
  none_accepted facts = facts.accepted_of_run [] [] (run_none [] 0)

  -- One more record that passes makes a longer run.
  pub run_push : (before : List j.Value) (used : ℕ) (bytes : List ℕ) (values : List j.Value)
      (front : List ℕ) (value : j.Value)
      → Run j before used bytes values
      → PassesAt j (used + length bytes) (before ++ values) front value
      → Run j before used (bytes ++ front) (values ++ value ∷ [])
  unfolding Run
  run_push before used bytes [] front value none passes =
      (front, [], rw (none, append-nil), simp (none, append-nil, add-zero) at passes, refl)
  run_push before used bytes (first ∷ values) front value (g, more, is, here, run) passes = (
    g,
    more ++ front,
    rw (is, append_assoc),
    here,
    run_push (before ++ first ∷ []) (used + length g) more values front value run
        (simp (append_assoc, add_assoc) (simp (is, length-append) at passes)),
  )

  -- A run that starts within the limit ends within it.
  pub run_ends_within : (before : List j.Value) (used : ℕ) (bytes : List ℕ) (values : List j.Value)
      → Run j before used bytes values → used ≤ j.input → used + length bytes ≤ j.input
  unfolding Run
  run_ends_within before used bytes [] none short = omega (arith, ap length none)
  run_ends_within before used bytes (value ∷ values) (front, more, is, passes, run) short =
      let end = run_ends_within (before ++ value ∷ []) (used + length front) more values run
      passes.in_time in
      omega (arith, ap length is, length-append front more)

  -- A complete run has at most as many bytes as may be read.
  pub run_within : (bytes : List ℕ) (values : List j.Value) → Run j [] 0 bytes values
      → length bytes ≤ j.input
  run_within bytes values run = let end =
      run_ends_within [] 0 bytes values run (omega arith) in omega arith

  -- A run over `other` has the bytes and values of one over `front`, and then more.
  pub record GoesOn (before : List j.Value) (used : ℕ) (front : List ℕ) (values : List j.Value)
      (other : List ℕ) (others : List j.Value) : Type 0 where
    pub behind : List ℕ
    pub last : List j.Value
    pub bytes_are : other ≡ front ++ behind
    pub values_are : others ≡ values ++ last
    pub run : Run j (before ++ values) (used + length front) behind last

  module _ (records : IsReadable j.records) where
    -- A record is not empty.
    pub some_bytes : (front : List ℕ) (held : j.Payload) → IsItem j.records front held
        → 0 < length front
    some_bytes [] held is = absurd (not_empty records held is)
    some_bytes (byte ∷ front) held is = omega arith

    -- The empty byte string has no values.
    pub no_values : (before : List j.Value) (used : ℕ) (bytes : List ℕ) (values : List j.Value)
        → Run j before used bytes values → length bytes ≡ 0 → values ≡ []
    unfolding Run
    no_values before used bytes [] run none = refl
    no_values before used bytes (value ∷ values) (front, more, is, passes, run) none =
        let some = some_bytes front passes.held passes.is_record in absurd
        (omega (arith, ap length is, length-append front more))

    module _ (judged : ValueLaws j) where
      -- For two runs over the same bytes, the longer continues the shorter.
      pub run_goes_on : (before : List j.Value) (used : ℕ) (front other rest more : List ℕ)
          (values others : List j.Value)
          → Run j before used front values → Run j before used other others
          → front ++ rest ≡ other ++ more → length front ≤ length other
          → GoesOn before used front values other others
      unfolding Run
      run_goes_on before used front other rest more [] others none run same le = record {
        behind = other;
        last = others;
        bytes_are = rw none;
        values_are = refl;
        run = simp (none, append-nil, add-zero) run;
      }
      run_goes_on before used front other rest more (value ∷ values) [] run none same le =
          absurd (let empty = no_values before used front (value ∷ values) run
          (omega (arith, ap length none)) in cc)
      run_goes_on before used front other rest more (value ∷ values) (w ∷ others)
          (f, fs, front_is, passes, run) (g, gs, other_is, found, run_too) same le =
          let split : f ++ (fs ++ rest) ≡ g ++ (gs ++ more) =
          cc (append_assoc f fs rest, append_assoc g gs more) in
          let one = one_item records.grammar f g (fs ++ rest) (gs ++ more) passes.held found.held
          split passes.is_record found.is_record in
          let is : w ≡ value =
          judged.one_value before found.held w value found.is_next (rw one.1 at passes.is_next)
          in
          let behind : fs ++ rest ≡ gs ++ more =
          append_cancel_left f (fs ++ rest) (gs ++ more) (cc (split, one.0)) in
          let run_on : Run j (before ++ value ∷ []) (used + length f) gs others =
          rw one.0 (rw is at run_too) in
          let shorter : length fs ≤ length gs =
          omega (
            arith,
            ap length front_is,
            ap length other_is,
            ap length one.0,
            length-append f fs,
            length-append g gs,
          ) in
          longer one.0 is
          (run_goes_on (before ++ value ∷ []) (used + length f) fs gs rest more values others
          run run_on behind shorter)
        where
          longer : f ≡ g → w ≡ value
              → GoesOn (before ++ value ∷ []) (used + length f) fs values gs others
              → GoesOn before used front (value ∷ values) other (w ∷ others)
          longer start is on = record {
            behind = on.behind;
            last = on.last;
            bytes_are = cc (append_assoc f fs on.behind);
            values_are = cc (on.values_are, is);
            run = simp (front_is, length-append) (simp (append_assoc, add_assoc) at on.run);
          }

      -- Two runs over all of the same bytes have the same values.
      pub one_run : (bytes : List ℕ) (values others : List j.Value) → Run j [] 0 bytes values
          → Run j [] 0 bytes others → values ≡ others
      one_run bytes values others run other =
          let on = run_goes_on [] 0 bytes bytes [] [] values others run other refl (omega arith) in
          let empty : length on.behind ≡ 0 =
          omega (arith, ap length on.bytes_are, length-append bytes on.behind) in
          let none : on.last ≡ [] =
          no_values values (0 + length bytes) on.behind on.last on.run empty in
          cc (on.values_are, none, append-nil values)
