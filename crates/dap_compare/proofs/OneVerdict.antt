-- Two inputs have at most one verdict.
use Rattle.std.proofs.Common.{◌≡◌, ◌≢◌, ◌⊎◌, inl, inr, ℕ, ◌+◌, ◌<◌, ◌≤◌, List, [], ◌++◌, length}
use Rattle.std.proofs.Common.{refl, sym, ◌∙◌, ap, ap₂, subst, arith, append-nil}
use Rattle.std.proofs.lemmas.Bool.{cases_lt}
use Rattle.dap_frame.proofs.Ends.{IsReadable}
use Rattle.dap_input.specs.Validation.{Validation}
use Rattle.dap_input.specs.Inputs.{Input, IsRefusedAt, IsNotRefusedAt, IsTaken, AcceptedBefore}
use Rattle.dap_compare.specs.Comparing.{AreSameBefore, DifferAt, AreSameInputs, Verdict, are_same}
use Rattle.dap_compare.specs.Comparing.{differ, refused_a, refused_b, IsVerdict}
use Rattle.dap_input.proofs.Runs.{ValueLaws, AcceptedFacts, Run}
use Rattle.dap_input.proofs.RunFronts.{values_front, some_rest, same_values}
use Rattle.dap_input.proofs.Outcomes.{one_list}
use Rattle.dap_input.proofs.InputRefusals.{SameFacts, passed, taken_not_refused, one_fault}

module _ (j : Validation) (records : IsReadable j.records) (judged : ValueLaws j)
    (accepted : AcceptedFacts j) where
  -- ---- two prefixes of one input

  module _ (input : Input) (number other : ℕ) (p : AcceptedBefore j input number)
      (q : AcceptedBefore j input other) where
    one_split : p.front ++ p.rest ≡ q.front ++ q.rest
    one_split = sym p.split ∙ q.split

    run_p : Run j [] 0 p.front p.values
    run_p = accepted.run_of_accepted p.front p.values p.accepted

    run_q : Run j [] 0 q.front q.values
    run_q = accepted.run_of_accepted q.front q.values q.accepted

    pub before_front : number ≤ other → (more : List j.Value) × (q.values ≡ p.values ++ more)
    before_front le =
        values_front j records judged p.front q.front p.rest q.rest p.values q.values run_p run_q
        one_split (omega (arith, le, p.is_number, q.is_number))

    pub before_some : number < other → p.rest ≢ []
    before_some less =
        some_rest j records judged p.front q.front p.rest q.rest p.values q.values run_p run_q
        one_split (omega (arith, less, p.is_number, q.is_number))

    pub before_same : number ≡ other
        → (p.values ≡ q.values) × (p.front ≡ q.front) × (p.rest ≡ q.rest)
    before_same same =
        same_values j records judged p.front q.front p.rest q.rest p.values q.values run_p run_q
        one_split (omega (arith, same, p.is_number, q.is_number))

    pub before_passed : number < other → IsNotRefusedAt j input number
    before_passed less =
        passed j records judged accepted input q.front q.rest q.values number q.split q.accepted
        (omega (arith, less, q.is_number))

  -- the complete input, if it is accepted
  abbrev pub whole_before : (input : Input) (values : List j.Value) → IsTaken j input values
      → AcceptedBefore j input (length values + 1)
  whole_before input values taken =
      record {
        values = values;
        front = input.bytes;
        rest = [];
        split = sym (append-nil input.bytes);
        accepted = taken.0;
        is_number = refl;
      }

  module _ (AreSame : List j.Value → List j.Value
      → Type 0) (same : SameFacts j AreSame) {P : Type 0} (pairs : List j.Value → List j.Value
      → P) (a b : Input) where
    abbrev Is : Verdict j AreSame pairs → Type 0
    Is verdict = IsVerdict j AreSame pairs a b verdict

    abbrev Before : ℕ → Type 0
    Before number = AreSameBefore j AreSame a b number

    -- ---- the record that differs

    module _ (number other : ℕ) (s : Before number) (t : Before other) where
      -- If a record differs, no later record is the first that differs.
      pub differ_not_past : number < other → DifferAt j AreSame a b number s → ⊥
      differ_not_past less (inl ended) = before_some a number other s.of_a t.of_a less ended.0
      differ_not_past less (inr (inl ended)) = before_some b number other s.of_b t.of_b less ended.1
      differ_not_past less (inr (inr apart)) =
          let x = before_front a (number + 1) other apart.0 t.of_a (omega arith) in
          let y = before_front b (number + 1) other apart.1 t.of_b (omega arith) in
          let even : length apart.0.values ≡ length apart.1.values =
          omega (arith, apart.0.is_number, apart.1.is_number) in
          apart.2 (same.fronts apart.0.values x.0 apart.1.values y.0 even
          (subst (λ v. AreSame v (apart.1.values ++ y.0)) x.1
          (subst (AreSame t.of_a.values) y.1 t.same)))

      -- If both have ended, they do not differ.
      pub differ_not_ended : number ≡ other → DifferAt j AreSame a b number s → t.of_a.rest ≡ []
          → t.of_b.rest ≡ [] → ⊥
      differ_not_ended at (inl ended) end_a end_b =
          ended.1 ((before_same b number other s.of_b t.of_b at).2 ∙ end_b)
      differ_not_ended at (inr (inl ended)) end_a end_b =
          ended.0 ((before_same a number other s.of_a t.of_a at).2 ∙ end_a)
      differ_not_ended at (inr (inr apart)) end_a end_b =
          before_some a other (number + 1) t.of_a apart.0 (omega (arith, at)) end_a

    -- ---- the record that a verdict is about

    module _ (inputs : AreSameInputs j AreSame a b) where
      abbrev whole_same : Before (length inputs.of_a + 1)
      whole_same = record {
        of_a = whole_before a inputs.of_a inputs.taken_a;
        of_b = record {
          values = inputs.of_b;
          front = b.bytes;
          rest = [];
          split = sym (append-nil b.bytes);
          accepted = inputs.taken_b.0;
          is_number = ap (λ n. n + 1) (same.lengths inputs.of_a inputs.of_b inputs.same);
        };
        same = inputs.same;
      }

    abbrev number_of : (verdict : Verdict j AreSame pairs) → Is verdict → ℕ
    number_of (refused_a number fault) is = number
    number_of (refused_b number fault) is = number
    number_of (differ number) is = number
    number_of (are_same how) is = length is.0.of_a + 1

    before_of : (verdict : Verdict j AreSame pairs) → (is : Is verdict)
        → Before (number_of verdict is)
    before_of (refused_a number fault) is = is.0
    before_of (refused_b number fault) is = is.0
    before_of (differ number) is = is.0
    before_of (are_same how) is = whole_same is.0

    -- No two inputs are the same beyond the record of their verdict.
    not_past : (verdict : Verdict j AreSame pairs) (is : Is verdict) (other : ℕ) → Before other
        → number_of verdict is < other → ⊥
    not_past (refused_a number fault) is other t less =
        before_passed a number other is.0.of_a t.of_a less fault is.1
    not_past (refused_b number fault) is other t less =
        before_passed b number other is.0.of_b t.of_b less fault is.2
    not_past (differ number) is other t less = differ_not_past number other is.0 t less is.3
    not_past (are_same how) is other t less =
        before_some a (length is.0.of_a + 1) other (whole_before a is.0.of_a is.0.taken_a) t.of_a
        less refl

    one_at : (v w : Verdict j AreSame pairs) (p : Is v) (q : Is w) → number_of v p ≡ number_of w q
        → v ≡ w
    one_at (refused_a k x) (refused_a l y) p q e = let one =
        one_fault j records judged accepted a k l x y p.1 q.1 in ap₂ refused_a one.0 one.1
    one_at (refused_b k x) (refused_b l y) p q e = let one =
        one_fault j records judged accepted b k l x y p.2 q.2 in ap₂ refused_b one.0 one.1
    one_at (refused_a k x) (refused_b l y) p q e =
        absurd (q.1 x (subst (λ n. IsRefusedAt j a n x) e p.1))
    one_at (refused_b k x) (refused_a l y) p q e =
        absurd (p.1 y (subst (λ n. IsRefusedAt j a n y) (sym e) q.1))
    one_at (refused_a k x) (differ l) p q e =
        absurd (q.1 x (subst (λ n. IsRefusedAt j a n x) e p.1))
    one_at (differ k) (refused_a l y) p q e =
        absurd (p.1 y (subst (λ n. IsRefusedAt j a n y) (sym e) q.1))
    one_at (refused_b k x) (differ l) p q e =
        absurd (q.2 x (subst (λ n. IsRefusedAt j b n x) e p.2))
    one_at (differ k) (refused_b l y) p q e =
        absurd (p.2 y (subst (λ n. IsRefusedAt j b n y) (sym e) q.2))
    one_at (refused_a k x) (are_same r) p q e =
        absurd (taken_not_refused j records judged accepted a q.0.of_a k q.0.taken_a x p.1)
    one_at (are_same r) (refused_a k x) q p e =
        absurd (taken_not_refused j records judged accepted a q.0.of_a k q.0.taken_a x p.1)
    one_at (refused_b k x) (are_same r) p q e =
        absurd (taken_not_refused j records judged accepted b q.0.of_b k q.0.taken_b x p.2)
    one_at (are_same r) (refused_b k x) q p e =
        absurd (taken_not_refused j records judged accepted b q.0.of_b k q.0.taken_b x p.2)
    one_at (differ k) (differ l) p q e = ap differ e
    one_at (differ k) (are_same r) p q e =
        absurd (differ_not_ended k (length q.0.of_a + 1) p.0 (whole_same q.0) e p.3 refl refl)
    one_at (are_same r) (differ k) q p e =
        absurd (differ_not_ended k (length q.0.of_a + 1) p.0 (whole_same q.0) (sym e) p.3 refl refl)
    one_at (are_same r) (are_same o) p q e =
        let x = one_list j records judged accepted a.bytes p.0.of_a q.0.of_a p.0.taken_a.0
        q.0.taken_a.0 in
        let y = one_list j records judged accepted b.bytes p.0.of_b q.0.of_b p.0.taken_b.0
        q.0.taken_b.0 in
        ap are_same (p.1 ∙ ap₂ pairs x y ∙ sym q.1)

    pub one_verdict : (v w : Verdict j AreSame pairs) → Is v → Is w → v ≡ w
    one_verdict v w p q =
        reported (cases_lt (number_of v p) (number_of w q))
        (cases_lt (number_of w q) (number_of v p))
      where
        reported : (number_of v p < number_of w q) ⊎ (number_of w q ≤ number_of v p)
            → (number_of w q < number_of v p) ⊎ (number_of v p ≤ number_of w q) → v ≡ w
        reported (inl less) more = absurd (not_past v p (number_of w q) (before_of w q) less)
        reported (inr le) (inl less) = absurd (not_past w q (number_of v p) (before_of v p) less)
        reported (inr le) (inr ge) =
            one_at v w p q (let e : number_of v p ≡ number_of w q = omega arith in e)

    pub no_earlier : (number earlier : ℕ) → Is (differ number) → earlier < number
        → (before : Before earlier) → DifferAt j AreSame a b earlier before → ⊥
    no_earlier number earlier is less before differs =
        differ_not_past earlier number before is.0 less differs
