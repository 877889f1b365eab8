-- Two lists of the same rules, both in the order in which rules apply, mask each document alike.
use Rattle.std.proofs.Common.{◌≡◌, ℕ, ◌+◌, ◌==◌, Bool, true, false, cond, not, ◌&&◌, List, [], ◌∷◌}
use Rattle.std.proofs.Common.{◌++◌, Option, Some, None, option_map, refl, sym, ap, ap₂, ◌∙◌, inl}
use Rattle.std.proofs.Common.{inr, subst, arith}
use Rattle.std.specs.Prelude.{IsPermutation}
use Rattle.std.specs.List.{list_any, count_by}
use Rattle.std.proofs.lemmas.Bool.{or_cases, and_parts, eqb-true, eq-eqb}
use Rattle.std.proofs.lemmas.List.Folds.{list_any-append}
use Rattle.std.proofs.lemmas.List.Sorted.{sum_by-IsPermutation}
use Rattle.std.proofs.lemmas.List.Sums.{sum_by-cons, sum_by-append}
use Rattle.std.proofs.lemmas.Slice.Eq.{bytes_eq-Decides}
use Rattle.dap_tree.specs.Doc.{Doc, is_ordered}
use Rattle.dap_tree.specs.Path.{Step, at}
use Rattle.dap_tree.proofs.Booleans.{and_both, or_left, or_right, or_both}
use Rattle.dap_message.proofs.Edits.{by_bool}
use Rattle.dap_message.specs.Marks.{top}
use Rattle.dap_message.specs.Places.{fits_place}
use Rattle.dap_profile.specs.declared.profile.Kind.{Kind, TheVariants.{Request, Response, Event}}
use Rattle.dap_mask.specs.RuleSteps.{RuleStep, named, elements}
use Rattle.dap_mask.specs.Rules.{Rule, takes_parts, plain_place_of, applies_at, is_telling_place}
use Rattle.dap_mask.specs.Rules.{same_kind, same_name, same_rule_step, same_rule_place, rank}
use Rattle.dap_mask.specs.Rules.{renames, comes_before, is_late, are_safe, recategorises, disturb}
use Rattle.dap_mask.specs.Rules.{disturbs_one_of}
use Rattle.dap_mask.specs.Masked.{is_below, left_by, mask_by, masked}
use Rattle.dap_mask.specs.declared.rules.Verb.{Verb}
use Rattle.dap_mask.proofs.ByPath.{top-left_by, at-mask_by, ordered-mask_by, same_after, same_paths}
use Rattle.dap_mask.proofs.ByPath.{first_placed, first_safe, first_renames, first_early, rest_safe}
use Rattle.dap_mask.proofs.ByPath.{first_apart}
use Rattle.dap_mask.proofs.CategoryKept.{disturb_both, first_leaves, second_leaves}
use Rattle.dap_mask.proofs.RuleOrder.{same_action, not_before_itself, renames_no_earlier}
use Rattle.dap_mask.proofs.RuleOrder.{same_kind_itself, same_rank}
use Rattle.dap_mask.proofs.Settled.{by}

-- ---- two rules that are equal in the order commute

by_either : (v : Verb) (a b c d e f : Bool) (o : Option Doc)
    → by v a b c (by v d e f o) ≡ by v d e f (by v a b c o)
by_either v false b c d e f o = refl
by_either v true true c false e f o = refl
by_either v true true c true true f o = refl
by_either v true true c true false true o = refl
by_either v true true c true false false o = refl
by_either v true false true false e f o = refl
by_either v true false true true true f o = refl
by_either v true false true true false true o = refl
by_either v true false true true false false o = refl
by_either v true false false d e f o = refl

left_either : (r t : Rule) (d : Doc) (p : List Step) (o : Option Doc) → r.verb ≡ t.verb
    → left_by r d p (left_by t d p o) ≡ left_by t d p (left_by r d p o)
left_either r t d p o same =
    let as_t = λ (v : Verb). is_below (plain_place_of r) p && takes_parts v in
    let one : (x : Option Doc) → left_by r d p x
    ≡ by t.verb (applies_at r d p) (fits_place (plain_place_of r) p) (as_t t.verb) x =
    λ x. ap (λ v. by v (applies_at r d p) (fits_place (plain_place_of r) p) (as_t v) x) same in
    one (left_by t d p o)
    ∙ by_either t.verb (applies_at r d p) (fits_place (plain_place_of r) p) (as_t t.verb)
    (applies_at t d p) (fits_place (plain_place_of t) p)
    (is_below (plain_place_of t) p && takes_parts t.verb) o
    ∙ ap (left_by t d p) (sym (one o))

-- neither comes before the other, and neither changes a text by which the other selects
record AreFree (r t : Rule) : Type 0 where
  verb : r.verb ≡ t.verb
  first_placed : is_telling_place r.place ≡ false
  placed : is_telling_place t.place ≡ false
  first : renames r t ≡ false
  second : renames t r ≡ false
  apart : disturb r t ≡ false

-- the values after both rules, with the names of the document before them
both_left : (r t : Rule) (d : Doc) (p : List Step) → is_telling_place t.place ≡ false
    → renames t r ≡ false → recategorises t r ≡ false
    → option_map top (at p (mask_by r (mask_by t d)))
    ≡ left_by r d p (left_by t d p (option_map top (at p d)))
both_left r t d p safe h apart =
    at-mask_by r (mask_by t d) p ∙ top-left_by r (mask_by t d) p (at p (mask_by t d))
    ∙ same_after t (r ∷ []) d p safe (or_both _ _ h refl) (or_both _ _ apart refl)
    ∙ ap (left_by r d p) (at-mask_by t d p ∙ top-left_by t d p (at p d))

commute : (r t : Rule) (d : Doc) → AreFree r t → is_ordered d ≡ true
    → mask_by r (mask_by t d) ≡ mask_by t (mask_by r d)
commute r t d free o =
    same_paths (mask_by t (mask_by r d)) (mask_by r (mask_by t d))
    (ordered-mask_by t (mask_by r d) (ordered-mask_by r d o))
    (λ p. both_left r t d p free.placed free.second (second_leaves r t free.apart)
    ∙ left_either r t d p (option_map top (at p d)) free.verb
    ∙ sym (both_left t r d p free.first_placed free.first (first_leaves r t free.apart)))

-- ---- equal rules

abbrev is_equal : Rule → Rule → Bool
is_equal r t =
    (rank r.verb == rank t.verb) && (same_kind r.kind t.kind && (same_name r.name t.name
    && (same_name r.category t.category && same_rule_place r.place t.place)))

kind_is : (k l : Kind) → same_kind k l ≡ true → k ≡ l
kind_is Request Request h = refl
kind_is Request Response h = cc
kind_is Request Event h = cc
kind_is Response Request h = cc
kind_is Response Response h = refl
kind_is Response Event h = cc
kind_is Event Request h = cc
kind_is Event Response h = cc
kind_is Event Event h = refl

name_is : (n m : Option (List ℕ)) → same_name n m ≡ true → n ≡ m
name_is None None h = refl
name_is None (Some m) h = cc
name_is (Some n) None h = cc
name_is (Some n) (Some m) h = ap Some ((bytes_eq-Decides n m).0 h)

step_is : (p q : RuleStep) → same_rule_step p q ≡ true → p ≡ q
step_is (named k) (named l) h = ap named ((bytes_eq-Decides k l).0 h)
step_is (named k) (elements m) h = cc
step_is (elements n) (named l) h = cc
step_is (elements n) (elements m) h = ap elements (name_is n m h)

place_is : (ps qs : List RuleStep) → same_rule_place ps qs ≡ true → ps ≡ qs
place_is [] [] h = refl
place_is [] (q ∷ qs) h = cc
place_is (p ∷ ps) [] h = cc
place_is (p ∷ ps) (q ∷ qs) h =
    let parts = and_parts (same_rule_step p q) (same_rule_place ps qs) h in
    ap₂ (λ s ss. s ∷ ss) (step_is p q parts.0) (place_is ps qs parts.1)

rule_is : (r t : Rule) → is_equal r t ≡ true → r ≡ t
rule_is r t h =
    let verb = and_parts (rank r.verb == rank t.verb) _ h in
    let kind = and_parts (same_kind r.kind t.kind) _ verb.1 in
    let name = and_parts (same_name r.name t.name) _ kind.1 in
    let category = and_parts (same_name r.category t.category) (same_rule_place r.place t.place)
    name.1 in
    ap₂ (λ v k. made v k r.name r.category r.place)
    (same_rank r.verb t.verb (eqb-true (rank r.verb) (rank t.verb) verb.0))
    (kind_is r.kind t.kind kind.0)
    ∙ ap₂ (λ n c. made t.verb t.kind n c r.place) (name_is r.name t.name name.0)
    (name_is r.category t.category category.0)
    ∙ ap (λ p. made t.verb t.kind t.name t.category p) (place_is r.place t.place category.1)
  where
    made : Verb → Kind → Option (List ℕ) → Option (List ℕ) → List RuleStep → Rule
    made v k n c p = record { verb = v; kind = k; name = n; category = c; place = p }

name_itself : (n : Option (List ℕ)) → same_name n n ≡ true
name_itself None = refl
name_itself (Some n) = (bytes_eq-Decides n n).1 refl

place_itself : (ps : List RuleStep) → same_rule_place ps ps ≡ true
place_itself [] = refl
place_itself (named k ∷ ps) = and_both _ _ ((bytes_eq-Decides k k).1 refl) (place_itself ps)
place_itself (elements n ∷ ps) = and_both _ _ (name_itself n) (place_itself ps)

equals_itself : (r : Rule) → is_equal r r ≡ true
equals_itself r =
    and_both _ _ (eq-eqb (rank r.verb) (rank r.verb) refl)
    (and_both _ _ (same_kind_itself r.kind)
    (and_both _ _ (name_itself r.name)
    (and_both _ _ (name_itself r.category) (place_itself r.place))))

-- ---- lists of the same rules

-- each test is passed by equally many rules of the two lists
abbrev CountAlike : List Rule → List Rule → Type 0
CountAlike rs ts = (test : Rule → Bool) → count_by test ts ≡ count_by test rs

abbrev one_if : (Rule → Bool) → Rule → ℕ
one_if test r = cond (test r) 1 0

none_counted : (test : Rule → Bool) (rs : List Rule) → list_any test rs ≡ false
    → count_by test rs ≡ 0
none_counted test [] h = refl
none_counted test (r ∷ rs) h =
    sum_by-cons (one_if test) r rs
    ∙ ap₂ (λ (b : Bool) (n : ℕ). cond b 1 0 + n) (or_left (test r) (list_any test rs) h)
    (none_counted test rs (or_right (test r) (list_any test rs) h))

counted_none : (test : Rule → Bool) (rs : List Rule) → count_by test rs ≡ 0
    → list_any test rs ≡ false
counted_none test [] h = refl
counted_none test (r ∷ rs) h =
    let all : cond (test r) 1 0 + count_by test rs ≡ 0 = sym (sum_by-cons (one_if test) r rs) ∙ h in
    by_bool (test r)
    (λ e. let one = ap (λ (b : Bool). cond b 1 0 + count_by test rs) e in
    absurd (omega (arith, all, one)))
    (λ e. let zero = ap (λ (b : Bool). cond b 1 0 + count_by test rs) e in
    or_both _ _ e (counted_none test rs (omega (arith, all, zero))))

none_alike : (rs ts : List Rule) (test : Rule → Bool) → CountAlike rs ts
    → list_any test rs ≡ false → list_any test ts ≡ false
none_alike rs ts test alike h = counted_none test ts (alike test ∙ none_counted test rs h)

-- a list with a rule that passes a test
record Split (test : Rule → Bool) (rs : List Rule) : Type 0 where
  front : List Rule
  rule : Rule
  back : List Rule
  all : rs ≡ front ++ rule ∷ back
  passes : test rule ≡ true

split : (test : Rule → Bool) (rs : List Rule) → list_any test rs ≡ true → Split test rs
split test [] h = cc
split test (r ∷ rs) h =
    elim (or_cases (test r) (list_any test rs) h) [
      | inl e ↦ (record { front = []; rule = r; back = rs; all = refl; passes = e })
      | inr e ↦ (
          let more = split test rs e in record {
            front = r ∷ more.front;
            rule = more.rule;
            back = more.back;
            all = ap (λ us. r ∷ us) more.all;
            passes = more.passes;
          })
    ]

-- a rule of one list is in the other one
found : (r : Rule) (rs ts : List Rule) → CountAlike (r ∷ rs) ts
    → (us : List Rule) × (vs : List Rule) × (ts ≡ us ++ r ∷ vs)
found r rs ts alike =
    by_bool (list_any (is_equal r) ts)
    (λ e. let one = split (is_equal r) ts e in (
      one.front,
      one.back,
      one.all ∙ ap (λ t. one.front ++ t ∷ one.back) (sym (rule_is r one.rule one.passes)),
    ))
    (λ e.
    let all : cond (is_equal r r) 1 0 + count_by (is_equal r) rs ≡ 0 =
    sym (sum_by-cons (one_if (is_equal r)) r rs) ∙ sym (alike (is_equal r))
    ∙ none_counted (is_equal r) ts e in
    let one = ap (λ (b : Bool). cond b 1 0 + count_by (is_equal r) rs) (equals_itself r) in
    absurd (omega (arith, all, one)))

rest_alike : (r : Rule) (rs us vs : List Rule) → CountAlike (r ∷ rs) (us ++ r ∷ vs)
    → CountAlike rs (us ++ vs)
rest_alike r rs us vs alike test =
    let f = one_if test in
    omega (
      arith,
      alike test,
      sum_by-cons f r rs,
      sum_by-append f us (r ∷ vs),
      sum_by-cons f r vs,
      sum_by-append f us vs,
    )

-- ---- a rule in the middle of a list

any_front : (test : Rule → Bool) (us vs : List Rule) → list_any test (us ++ vs) ≡ false
    → list_any test us ≡ false
any_front test us vs h =
    or_left (list_any test us) (list_any test vs) (sym (list_any-append test us vs) ∙ h)

any_back : (test : Rule → Bool) (us vs : List Rule) → list_any test (us ++ vs) ≡ false
    → list_any test vs ≡ false
any_back test us vs h =
    or_right (list_any test us) (list_any test vs) (sym (list_any-append test us vs) ∙ h)

any_without : (test : Rule → Bool) (us : List Rule) (r : Rule) (vs : List Rule)
    → list_any test (us ++ r ∷ vs) ≡ false → list_any test (us ++ vs) ≡ false
any_without test us r vs h =
    list_any-append test us vs
    ∙ or_both _ _ (any_front test us (r ∷ vs) h)
    (or_right (test r) (list_any test vs) (any_back test us (r ∷ vs) h))

safe_without : (us : List Rule) (r : Rule) (vs : List Rule) → are_safe (us ++ r ∷ vs) ≡ true
    → are_safe (us ++ vs) ≡ true
safe_without [] r vs h = rest_safe r vs h
safe_without (u ∷ us) r vs h =
    and_both _ _ (ap not (first_placed u (us ++ r ∷ vs) h))
    (and_both _ _
    (ap not (any_without (λ t. comes_before t u) us r vs (first_early u (us ++ r ∷ vs) h)))
    (and_both _ _ (ap not (any_without (disturb u) us r vs (first_apart u (us ++ r ∷ vs) h)))
    (safe_without us r vs (rest_safe u (us ++ r ∷ vs) h))))

-- a rule that comes before none, and that none comes before, may apply first
moved : (r : Rule) (us vs : List Rule) (d : Doc) → is_telling_place r.place ≡ false
    → renames r r ≡ false → is_late r us ≡ false → are_safe (us ++ r ∷ vs) ≡ true
    → is_ordered d ≡ true → masked (us ++ r ∷ vs) d ≡ masked (us ++ vs) (mask_by r d)
moved r [] vs d placed own early safe o = refl
moved r (u ∷ us) vs d placed own early safe o =
    let behind = us ++ r ∷ vs in
    let before : comes_before u r ≡ false = or_left (comes_before u r) (is_late r us) early in
    let after : comes_before r u ≡ false =
    or_left (comes_before r u) (is_late u vs)
    (any_back (λ t. comes_before t u) us (r ∷ vs) (first_early u behind safe)) in
    let calm : disturb u r ≡ false =
    or_left (disturb u r) (disturbs_one_of u vs)
    (any_back (disturb u) us (r ∷ vs) (first_apart u behind safe)) in
    let free : AreFree r u = record {
      verb = same_action r u after before;
      first_placed = placed;
      placed = first_safe u behind safe;
      first = renames_no_earlier r u (first_renames u behind safe) after;
      second = renames_no_earlier u r own before;
      apart = disturb_both u r calm;
    } in
    moved r us vs (mask_by u d) placed own (or_right (comes_before u r) (is_late r us) early)
    (rest_safe u behind safe) (ordered-mask_by u d o)
    ∙ ap (masked (us ++ vs)) (commute r u d free o)

-- ---- all rules

same_result : (rs ts : List Rule) (d : Doc) → CountAlike rs ts → are_safe rs ≡ true
    → are_safe ts ≡ true → is_ordered d ≡ true → masked ts d ≡ masked rs d
same_result [] [] d alike safe other o = refl
same_result [] (t ∷ ts) d alike safe other o =
    let more = sum_by-cons (one_if (λ r. true)) t ts in
    let none = alike (λ r. true) in
    absurd (omega (arith, more, none))
same_result (r ∷ rs) ts d alike safe other o =
    let there = found r rs ts alike in
    let us = there.0 in
    let vs = there.1 in
    let whole = ap are_safe (sym there.2) ∙ other in
    let counts = subst (CountAlike (r ∷ rs)) there.2 alike in
    let none = none_alike (r ∷ rs) (us ++ r ∷ vs) (λ t. comes_before t r) counts
    (or_both _ _ (not_before_itself r) (first_early r rs safe)) in
    ap (λ ks. masked ks d) there.2
    ∙ moved r us vs d (first_safe r rs safe) (first_renames r rs safe)
    (any_front (λ t. comes_before t r) us (r ∷ vs) none) whole o
    ∙ same_result rs (us ++ vs) (mask_by r d) (rest_alike r rs us vs counts)
    (rest_safe r rs safe) (safe_without us r vs whole) (ordered-mask_by r d o)

pub in_any_order : (rs ts : List Rule) (d : Doc) → IsPermutation rs ts → are_safe rs ≡ true
    → are_safe ts ≡ true → is_ordered d ≡ true → masked ts d ≡ masked rs d
in_any_order rs ts d same safe other o =
    same_result rs ts d (λ test. sum_by-IsPermutation (one_if test) rs ts same) safe other o
