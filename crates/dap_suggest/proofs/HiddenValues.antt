-- The equal values that rules hide: one more value, one more rule, one more tally. Source: own.
use Rattle.std.proofs.Common.{◌≡◌, ℕ, zero, suc, ◌+◌, ◌<◌, ◌≤◌, Bool, true, false, cond, not, ◌||◌}
use Rattle.std.proofs.Common.{List, [], ◌∷◌, ◌++◌, length, take, get_or, set, count_by, eqb}
use Rattle.std.proofs.Common.{bit_and, bit_or, refl, sym, ◌∙◌, ap, subst, arith, add-zero, zero-add}
use Rattle.std.specs.List.{enumerate_from, list_any, sum_by}
use Rattle.std.proofs.Math.Bool.{or-false}
use Rattle.std.proofs.lemmas.{Bool.ne_eqb, List.take_all, List.Folds.list_any_more}
use Rattle.std.proofs.lemmas.List.FromFn.{get_or-enumerate_from, length-enumerate_from}
use Rattle.std.proofs.lemmas.List.Recursion.{is_count_by}
use Rattle.std.proofs.lemmas.List.Sums.{get_or-le-sum_by, sum_by-set, sum_by_more, sum_by_push}
use Rattle.std.proofs.lemmas.Nat.{and_le_l, and_le_r}
use Rattle.std.proofs.lemmas.Nat.Bits.{bit_at_and, bit_at_or, same_from_bits}
use lib.Bits.{or_add_and}
use Rattle.dap_suggest.specs.Hidden.{AreRepresented, Represents, also_hides, applies_to, capped}
use Rattle.dap_suggest.specs.Hidden.{changes, counted, hidden_values, hides, is_hidden}
use Rattle.dap_suggest.specs.declared.spot.Rule.{Rule}
use Rattle.dap_suggest.specs.declared.tallies.{Equal.Equal, Tally.Tally}

-- ---- one more value

-- A value that no action changes is not counted.
pub counts_none : (actions others n : ℕ) (values : List ℕ)
    → capped n ≡ capped (count_by (is_hidden actions others) values)
    → capped n ≡ capped (count_by (is_hidden actions others) (values ++ 0 ∷ []))
counts_none actions others n values same =
    rw (sum_by_push (λ x. cond (is_hidden actions others x) 1 0) values 0) (omega (arith, same))

abbrev weight : (ℕ → Bool) → Equal → ℕ
weight test e = cond (test e.changing) e.count 0

capped_more : (m n k : ℕ) → capped m ≡ capped n → capped (m + k) ≡ capped (n + k)
capped_more m n k same = omega (arith, same)

-- An entry for the value is added.
pub counts_pushed : (test : ℕ → Bool) (es : List Equal) (values : List ℕ) (v : ℕ)
    → capped (counted test es) ≡ capped (count_by test values)
    → capped (counted test (es ++ record { changing = v; count = 1 } ∷ []))
    ≡ capped (count_by test (values ++ v ∷ []))
counts_pushed test es values v same =
    rw (
      sum_by_push (weight test) es (record { changing = v; count = 1 }),
      sum_by_push (λ x. cond (test x) 1 0) values v,
    )
    (capped_more (counted test es) (count_by test values) (cond (test v) 1 0) same)

capped_set : (yes : Bool) (before after values count : ℕ)
    → after + cond yes count 0 ≡ before + cond yes (capped (count + 1)) 0
    → cond yes count 0 ≤ before → capped before ≡ capped values
    → capped after ≡ capped (values + cond yes 1 0)
capped_set true before after values count set within same = omega (arith, set, within, same)
capped_set false before after values count set within same = omega (arith, set, within, same)

-- The entry of the value counts one more.
pub counts_set : (test : ℕ → Bool) (es : List Equal) (values : List ℕ) (i : ℕ) (e : Equal) (v : ℕ)
    → i < length es → e ≡ get_or es i e → e.changing ≡ v
    → capped (counted test es) ≡ capped (count_by test values)
    → capped (counted test (set es i (record e { count = capped (e.count + 1) })))
    ≡ capped (count_by test (values ++ v ∷ []))
counts_set test es values i e v below is changing same =
    let more : Equal = record e { count = capped (e.count + 1) } in
    let sum : counted test (set es i more) + weight test e ≡ counted test es + weight test more =
    subst (λ x. counted test (set es i more) + weight test x ≡ counted test es + weight test more)
    (sym is) (sum_by-set (weight test) es i more e below) in
    let within : weight test e ≤ counted test es =
    subst (λ x. weight test x ≤ counted test es) (sym is)
    (get_or-le-sum_by (weight test) es i e below) in
    rw (sum_by_push (λ x. cond (test x) 1 0) values v, ← changing)
    (capped_set (test e.changing) (counted test es) (counted test (set es i more))
    (count_by test values) e.count sum within same)

-- ---- one more rule

and_or : (v a b : ℕ) → bit_and v (bit_or a b) ≡ bit_or (bit_and v a) (bit_and v b)
and_or v a b = same_from_bits _ _ (λ i.
    rw (
      bit_at_and v (bit_or a b) i,
      bit_at_or a b i,
      bit_at_or (bit_and v a) (bit_and v b) i,
      bit_at_and v a i,
      bit_at_and v b i,
    ) (omega arith))

not_none : (n : ℕ) → eqb (suc n) 0 ≡ false
not_none n = ne_eqb (suc n) 0 (λ same. omega (arith, same))

-- A union of two sets is empty if and only if both are.
is_some : (a b or both : ℕ) → or + both ≡ a + b → both ≤ a → both ≤ b
    → not (eqb or 0) ≡ (not (eqb a 0) || not (eqb b 0))
is_some zero zero zero both sum left right = refl
is_some zero zero (suc or) both sum left right = absurd (omega (arith, sum, left, right))
is_some zero (suc b) zero both sum left right = absurd (omega (arith, sum, left, right))
is_some zero (suc b) (suc or) both sum left right = rw (not_none or, not_none b) refl
is_some (suc a) b zero both sum left right = absurd (omega (arith, sum, left, right))
is_some (suc a) b (suc or) both sum left right = rw (not_none or, not_none a) refl

changes-or : (a b v : ℕ) → changes (bit_or a b) v ≡ (changes a v || changes b v)
changes-or a b v = rw (and_or v a b)
    (is_some (bit_and v a) (bit_and v b) (bit_or (bit_and v a) (bit_and v b))
    (bit_and (bit_and v a) (bit_and v b)) (or_add_and (bit_and v a) (bit_and v b))
    (and_le_l (bit_and v a) (bit_and v b)) (and_le_r (bit_and v a) (bit_and v b)))

-- `actions` are those of the first i rules that apply to the tally.
module _ (chosen : List Rule) (i tally actions v : ℕ) (d : Rule) (below : i < length chosen) where
  -- The next rule applies to the tally.
  pub changes_more : applies_to tally (get_or chosen i d) ≡ true
      → changes actions v ≡ list_any (hides tally v) (take i chosen)
      → changes (bit_or actions (get_or chosen i d).actions) v
      ≡ list_any (hides tally v) (take (i + 1) chosen)
  changes_more applies same =
      rw (
        changes-or actions (get_or chosen i d).actions v,
        same,
        list_any_more (hides tally v) chosen i d below,
        applies,
      ) refl

  -- The next rule does not apply to the tally.
  pub changes_same : applies_to tally (get_or chosen i d) ≡ false
      → changes actions v ≡ list_any (hides tally v) (take i chosen)
      → changes actions v ≡ list_any (hides tally v) (take (i + 1) chosen)
  changes_same applies same =
      rw (list_any_more (hides tally v) chosen i d below, applies, or-false) same

-- ---- one more tally

represented_at : (tallies : List Tally) (values : List (List ℕ)) (i : ℕ) (d : Tally)
    → AreRepresented tallies values → i < length tallies
    → (i < length values) × Represents (get_or tallies i d) (get_or values i [])
represented_at [] values i d are below = absurd (omega (arith, below))
represented_at (t ∷ ts) [] i d are below = absurd are
represented_at (t ∷ ts) (v ∷ vs) zero d are below = (omega arith, are.0)
represented_at (t ∷ ts) (v ∷ vs) (suc i) d are below =
    let rest = represented_at ts vs i d are.1 (omega (arith, below)) in
    (omega (arith, rest.0), rest.1)

same_lengths : (tallies : List Tally) (values : List (List ℕ)) → AreRepresented tallies values
    → length tallies ≡ length values
same_lengths [] [] are = refl
same_lengths [] (v ∷ vs) are = absurd are
same_lengths (t ∷ ts) [] are = absurd are
same_lengths (t ∷ ts) (v ∷ vs) are = let rest = same_lengths ts vs are.1 in omega (arith, rest)

same_counts : (p q : ℕ → Bool) (values : List ℕ) → ((v : ℕ) → p v ≡ q v)
    → count_by p values ≡ count_by q values
same_counts p q values same = ap (λ test. count_by test values) (λ j. λ v. same v j)

none_counted : (values : List ℕ) → count_by (λ v. false) values ≡ 0
none_counted values = sym (is_count_by (λ vs. 0) (λ v. false) refl (λ v vs. refl) values)

capped_sum : (m n hidden more new : ℕ) → hidden ≡ capped m → more ≡ capped n
    → new ≡ capped (hidden + more) → new ≡ capped (m + n)
capped_sum m n hidden more new is more_is new_is = omega (arith, is, more_is, new_is)

module _ (before : List Rule) (rule : Rule) where
  -- The rule applies to the tally. The others are the actions of the rules before it.
  hidden_in : (tally others : ℕ) (values : List ℕ) → applies_to tally rule ≡ true
      → ((v : ℕ) → changes others v ≡ list_any (hides tally v) before)
      → count_by (is_hidden rule.actions others) values
      ≡ count_by (also_hides before rule tally) values
  hidden_in tally others values applies are =
      same_counts _ _ values (λ v. rw (applies, are v) refl)

  not_hidden_in : (tally : ℕ) (values : List ℕ) → applies_to tally rule ≡ false
      → count_by (also_hides before rule tally) values ≡ 0
  not_hidden_in tally values applies =
      same_counts _ (λ v. false) values (λ v. rw applies refl) ∙ none_counted values

  abbrev pub hidden_of : ℕ × List ℕ → ℕ
  hidden_of t = count_by (also_hides before rule t.0) t.1

  -- The number is that of the first i tallies.
  abbrev pub IsHiddenBefore : List (List ℕ) → ℕ → ℕ → Type 0
  IsHiddenBefore values i hidden =
      hidden ≡ capped (sum_by hidden_of (take i (enumerate_from 0 values)))

  one_more : (values : List (List ℕ)) (i : ℕ) → i < length values
      → sum_by hidden_of (take (i + 1) (enumerate_from 0 values))
      ≡ sum_by hidden_of (take i (enumerate_from 0 values))
      + count_by (also_hides before rule i) (get_or values i [])
  one_more values i below =
      let within : i < length (enumerate_from 0 values) =
      rw (length-enumerate_from 0 values) below in
      let entry : get_or (enumerate_from 0 values) i (0, []) ≡ (i, get_or values i []) =
      get_or-enumerate_from 0 values i (0, []) below
      ∙ ap (λ n. (n, get_or values i [])) (zero-add i) in
      sum_by_more hidden_of (enumerate_from 0 values) i (0, []) within
      ∙ ap (λ t. sum_by hidden_of (take i (enumerate_from 0 values)) + hidden_of t) entry

  module _ (tallies : List Tally) (values : List (List ℕ))
      (are : AreRepresented tallies values) where
    -- The rule applies to the next tally, which is t.
    pub hidden_more : (i : ℕ) (t : Tally) (others hidden more new : ℕ) → i < length tallies
        → t ≡ get_or tallies i t → applies_to i rule ≡ true
        → ((v : ℕ) → changes others v ≡ list_any (hides i v) before)
        → ((vs : List ℕ) → Represents t vs
        → more ≡ capped (count_by (is_hidden rule.actions others) vs))
        → new ≡ capped (hidden + more)
        → IsHiddenBefore values i hidden → IsHiddenBefore values (i + 1) new
    hidden_more i t others hidden more new below is applies same more_is new_is so_far =
        let at = represented_at tallies values i t are below in
        let vs = get_or values i [] in
        let counts = more_is vs (subst (λ x. Represents x vs) (sym is) at.1)
        ∙ ap capped (hidden_in i others vs applies same) in
        rw (one_more values i at.0) (capped_sum _ _ hidden more new so_far counts new_is)

    -- The rule does not apply to the next tally.
    pub hidden_same : (i : ℕ) (t : Tally) (hidden : ℕ) → i < length tallies
        → applies_to i rule ≡ false
        → IsHiddenBefore values i hidden → IsHiddenBefore values (i + 1) hidden
    hidden_same i t hidden below applies so_far =
        let at = represented_at tallies values i t are below in
        rw (
          one_more values i at.0,
          not_hidden_in i (get_or values i []) applies,
          add-zero (sum_by hidden_of (take i (enumerate_from 0 values))),
        ) so_far

    pub hidden_all : (i hidden : ℕ) → length tallies ≤ i → IsHiddenBefore values i hidden
        → hidden ≡ capped (hidden_values before rule values)
    hidden_all i hidden past so_far =
        let same = same_lengths tallies values are in
        let all : length (enumerate_from 0 values) ≤ i =
        rw (length-enumerate_from 0 values) (omega (arith, same, past)) in
        so_far
        ∙ ap (λ ts. capped (sum_by hidden_of ts)) (take_all i (enumerate_from 0 values) all)
