-- The changes that one more message makes.
use Rattle.std.proofs.Common.{◌≡◌, ℕ, ◌+◌, ◌≤◌, ℤ, Bool, true, false, cond, not, ◌&&◌, ◌||◌, List}
use Rattle.std.proofs.Common.{[], ◌∷◌, ◌++◌, Option, Some, None, sym, ap, ◌∙◌, refl, arith}
use Rattle.std.specs.Ordering.{int_eq}
use Rattle.std.specs.List.{list_any, count_by}
use Rattle.std.specs.Option.{is_some}
use Rattle.std.proofs.Math.Bool.{or-false}
use Rattle.std.proofs.lemmas.Bool.Decides.{Decides-int_eq}
use Rattle.std.proofs.lemmas.List.Folds.{list_any-append}
use Rattle.std.proofs.lemmas.List.Sums.{sum_by-cons, sum_by_push}
use Rattle.dap_tree.specs.declared.side.Side.{Side}
use Rattle.dap_message.specs.Message.{Sent}
use Rattle.dap_session.specs.Messages.{seq_of, is_request_of}
use Rattle.dap_session.specs.Representation.{request_at}

pub any_push : (p : Sent → Bool) (ms : List Sent) (m : Sent)
    → list_any p (ms ++ m ∷ []) ≡ (list_any p ms || p m)
any_push p ms m = list_any-append p ms (m ∷ []) ∙ ap (λ b. list_any p ms || b) (or-false (p m))

abbrev pub or_else : Option Sent → Option Sent → Option Sent
or_else None o = o
or_else (Some x) o = Some x

pub request_at_push : (side : Side) (n : ℤ) (ms : List Sent) (m : Sent)
    → request_at side n (ms ++ m ∷ [])
    ≡ or_else (request_at side n ms) (cond (is_request_of side n m) (Some m) None)
request_at_push side n [] m = refl
request_at_push side n (x ∷ ms) m =
    elim (is_request_of side n x) as (λ b. cond b (Some x) (request_at side n (ms ++ m ∷ []))
    ≡ or_else (cond b (Some x) (request_at side n ms))
    (cond (is_request_of side n m) (Some m) None))
    [ true ↦ refl | false ↦ request_at_push side n ms m ]

pub request_at-any : (side : Side) (n : ℤ) (ms : List Sent)
    → is_some (request_at side n ms) ≡ list_any (λ q. is_request_of side n q) ms
request_at-any side n [] = refl
request_at-any side n (x ∷ ms) =
    elim (is_request_of side n x) as (λ b. is_some (cond b (Some x) (request_at side n ms))
    ≡ (b || list_any (λ q. is_request_of side n q) ms))
    [ true ↦ refl | false ↦ request_at-any side n ms ]

abbrev pub tally : Bool → ℕ
tally b = cond b 1 0

pub count-cons : (p : Sent → Bool) (x : Sent) (xs : List Sent)
    → count_by p (x ∷ xs) ≡ tally (p x) + count_by p xs
count-cons p x xs = sum_by-cons (λ q. cond (p q) 1 0) x xs

pub count_push : (p : Sent → Bool) (xs : List Sent) (x : Sent)
    → count_by p (xs ++ x ∷ []) ≡ count_by p xs + tally (p x)
count_push p xs x = sum_by_push (λ q. cond (p q) 1 0) xs x

pub count_same : (p q : Sent → Bool) → ((x : Sent) → p x ≡ q x) → (xs : List Sent)
    → count_by p xs ≡ count_by q xs
count_same p q same [] = refl
count_same p q same (x ∷ xs) =
    omega (arith, count-cons p x xs, count-cons q x xs, ap tally (same x), count_same p q same xs)

-- a request that is not in the list is not counted
count_step : (side : Side) (n : ℤ) (x : Sent) (ms : List Sent) (b : Bool)
    → cond b (Some x) (request_at side n ms) ≡ None
    → (request_at side n ms ≡ None → count_by (λ q. is_request_of side n q) ms ≡ 0)
    → tally b + count_by (λ q. is_request_of side n q) ms ≡ 0
count_step side n x ms true h ih = absurd (cc)
count_step side n x ms false h ih = omega (arith, ih h)

pub count_none : (side : Side) (n : ℤ) (ms : List Sent) → request_at side n ms ≡ None
    → count_by (λ q. is_request_of side n q) ms ≡ 0
count_none side n [] h = refl
count_none side n (x ∷ ms) h =
    omega (
      arith,
      count-cons (λ q. is_request_of side n q) x ms,
      count_step side n x ms (is_request_of side n x) h (count_none side n ms),
    )

-- a request that is in the list is counted
some_step : (side : Side) (n : ℤ) (x r : Sent) (ms : List Sent) (b : Bool)
    → cond b (Some x) (request_at side n ms) ≡ Some r
    → (request_at side n ms ≡ Some r → 1 ≤ count_by (λ q. is_request_of side n q) ms)
    → 1 ≤ tally b + count_by (λ q. is_request_of side n q) ms
some_step side n x r ms true h ih = omega arith
some_step side n x r ms false h ih = omega (arith, ih h)

pub count_some : (side : Side) (n : ℤ) (r : Sent) (ms : List Sent) → request_at side n ms ≡ Some r
    → 1 ≤ count_by (λ q. is_request_of side n q) ms
count_some side n r [] h = absurd (cc)
count_some side n r (x ∷ ms) h =
    omega (
      arith,
      count-cons (λ q. is_request_of side n q) x ms,
      some_step side n x r ms (is_request_of side n x) h (count_some side n r ms),
    )

none_here : (b c d : Bool) → tally b ≡ 0 → d ≡ false → ((b && c) || d) ≡ false
none_here true c d h g = absurd (cc)
none_here false c d h g = g

-- a property holds for some request with a number if the first one has it and no other exists
none_of : (p : Sent → Bool) (side : Side) (n : ℤ) (ms : List Sent)
    → count_by (λ q. is_request_of side n q) ms ≡ 0
    → list_any (λ q. is_request_of side n q && p q) ms ≡ false
none_of p side n [] h = refl
none_of p side n (x ∷ ms) h =
    let cons = count-cons (λ q. is_request_of side n q) x ms in
    let here : tally (is_request_of side n x) ≡ 0 = omega (arith, cons) in
    let rest : list_any (λ q. is_request_of side n q && p q) ms ≡ false =
    none_of p side n ms (omega (arith, cons)) in
    none_here (is_request_of side n x) (p x) (list_any (λ q. is_request_of side n q && p q) ms) here
    rest

pub none_with : (p : Sent → Bool) (side : Side) (n : ℤ) (ms : List Sent)
    → request_at side n ms ≡ None → list_any (λ q. is_request_of side n q && p q) ms ≡ false
none_with p side n ms h = none_of p side n ms (count_none side n ms h)

one_step : (p : Sent → Bool) (side : Side) (n : ℤ) (x r : Sent) (ms : List Sent) (b : Bool)
    → tally b + count_by (λ q. is_request_of side n q) ms ≤ 1
    → cond b (Some x) (request_at side n ms) ≡ Some r
    → (count_by (λ q. is_request_of side n q) ms ≤ 1 → request_at side n ms ≡ Some r
    → list_any (λ q. is_request_of side n q && p q) ms ≡ p r)
    → ((b && p x) || list_any (λ q. is_request_of side n q && p q) ms) ≡ p r
one_step p side n x r ms true once h ih =
    let same : x ≡ r = cc in
    let none : list_any (λ q. is_request_of side n q && p q) ms ≡ false =
    none_of p side n ms (omega arith) in
    ap (λ b. p x || b) none ∙ or-false (p x) ∙ ap p same
one_step p side n x r ms false once h ih = ih (omega arith) h

pub one_with : (p : Sent → Bool) (side : Side) (n : ℤ) (r : Sent) (ms : List Sent)
    → count_by (λ q. is_request_of side n q) ms ≤ 1 → request_at side n ms ≡ Some r
    → list_any (λ q. is_request_of side n q && p q) ms ≡ p r
one_with p side n r [] once h = absurd (cc)
one_with p side n r (x ∷ ms) once h =
    one_step p side n x r ms (is_request_of side n x)
    (omega (arith, count-cons (λ q. is_request_of side n q) x ms)) h (one_with p side n r ms)

-- the unanswered requests before a response to number n are those after it, and those of number n
split_step : (r a s : Bool) → (s ≡ true → a ≡ false)
    → tally (r && not (a || s)) + tally (r && s) ≡ tally (r && not a)
split_step false a s h = refl
split_step true true true h = absurd (cc (h refl))
split_step true true false h = refl
split_step true false true h = refl
split_step true false false h = refl

pub count_split : (r : Sent → Bool) (a : ℤ → Bool) (n : ℤ) → a n ≡ false → (xs : List Sent)
    → count_by (λ q. r q && not (a (seq_of q) || int_eq n (seq_of q))) xs + count_by (λ q. r q
    && int_eq n (seq_of q)) xs ≡ count_by (λ q. r q && not (a (seq_of q))) xs
count_split r a n h [] = refl
count_split r a n h (x ∷ xs) =
    let here : tally (r x && not (a (seq_of x) || int_eq n (seq_of x))) + tally (r x
    && int_eq n (seq_of x)) ≡ tally (r x && not (a (seq_of x))) =
    split_step (r x) (a (seq_of x)) (int_eq n (seq_of x))
    (λ (e : int_eq n (seq_of x) ≡ true). ap a (sym ((Decides-int_eq n (seq_of x)).0 e)) ∙ h) in
    omega (
      arith,
      here,
      count_split r a n h xs,
      count-cons (λ q. r q && not (a (seq_of q) || int_eq n (seq_of q))) x xs,
      count-cons (λ q. r q && int_eq n (seq_of q)) x xs,
      count-cons (λ q. r q && not (a (seq_of q))) x xs,
    )
