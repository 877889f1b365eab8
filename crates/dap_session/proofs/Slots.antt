-- The requests of a side: one more request, and a response.
use Rattle.std.proofs.Common.{◌≡◌, ℕ, zero, suc, ◌+◌, ◌-◌, ◌*◌, ◌<◌, ◌≤◌, ℤ, pos, negsuc, ◌+ℤ◌}
use Rattle.std.proofs.Common.{◌-ℤ◌, Bool, true, false, cond, ◌&&◌, ◌==◌, List, [], ◌∷◌, ◌++◌}
use Rattle.std.proofs.Common.{Option, Some, None, is_some, length, get_or, set, replicate, refl}
use Rattle.std.proofs.Common.{sym, ap, ◌∙◌, arith, subst, inl, inr}
use Rattle.std.specs.Prelude.{int_lt, nat_le, unsigned_abs, T, ◌<ℤ◌}
use Rattle.std.specs.Ordering.{int_eq}
use Rattle.std.specs.List.{count_by}
use Rattle.std.proofs.lemmas.Bool.Decides.{Decides-int_eq, leb_tells}
use Rattle.std.proofs.lemmas.Bool.{eqb-true}
use Rattle.std.proofs.lemmas.Int.{ints}
use Rattle.std.proofs.lemmas.List.{get_or-set_same, get_or-set_other}
use Rattle.std.proofs.lemmas.List.Sums.{sum_by-append, sum_by-set}
use Rattle.std.proofs.lemmas.List.Folds.{sum_by-replicate}
use Rattle.dap_session.specs.SessionState.{RequestEntry, Requests, no_requests, other_numbered}
use Rattle.dap_session.specs.SessionState.{with_other}
use Rattle.dap_session.specs.SessionState.{with_other_answer, index_from, in_slot, held_slot}
use Rattle.dap_session.specs.SessionState.{found_at}
use Rattle.dap_session.specs.SessionState.{request_numbered, is_open, unanswered}
use Rattle.dap_session.specs.SessionState.{new_slot}
use Rattle.dap_session.specs.SessionState.{put_at, with_request, answer_at, with_answer}
use Rattle.dap_session.proofs.Entries.{found-with_other, unanswered-with_other}
use Rattle.dap_session.proofs.Entries.{found-with_other_answer, unanswered-with_other_answer}

abbrev Slots : Type 0
Slots = List (Option RequestEntry)

abbrev or_other : Option RequestEntry → Option RequestEntry → Option RequestEntry
or_other None o = o
or_other (Some a) o = Some a

held_is : (n : ℤ) (es : Requests) (i : Option ℕ) (s : Option RequestEntry) → in_slot es.slots i ≡ s
    → found_at (cond (is_some s) i None) n es ≡ or_other s (other_numbered n es.others)
held_is n es i None e = refl
held_is n es None (Some a) e = absurd (cc)
held_is n es (Some i) (Some a) e = e

numbered_is : (n : ℤ) (es : Requests)
    → request_numbered n es
    ≡ or_other (in_slot es.slots (index_from es.first n)) (other_numbered n es.others)
numbered_is n es =
    held_is n es (index_from es.first n) (in_slot es.slots (index_from es.first n)) refl

in_none : (i : Option ℕ) → in_slot [] i ≡ None
in_none None = refl
in_none (Some i) = refl

pub none_numbered : (n : ℤ) → request_numbered n no_requests ≡ None
none_numbered n =
    numbered_is n no_requests
    ∙ ap (λ s. or_other s None) (in_none (index_from no_requests.first n))

-- ---- numbers and indices

less_from : (a b : ℤ) → int_lt a b ≡ true → a <ℤ b
less_from a b e = record { lt = subst (λ x. T x) (sym e) tt }

less_not : (a b : ℤ) → int_lt a b ≡ false → a <ℤ b → ⊥
less_not a b e h = subst (λ x. T x) e h.lt

most_from : (a b : ℕ) → nat_le a b ≡ true → a ≤ b
most_from a b e =
    elim (leb_tells a b) as (λ _. a ≤ b) [ inl h ↦ h.1 | inr h ↦ absurd (cc (e, h.0)) ]

abs_is : (f n d : ℤ) (i : ℕ) → d ≡ n -ℤ f → int_lt n f ≡ false → unsigned_abs d ≡ i
    → n ≡ f +ℤ pos i
abs_is f n (pos m) i is above e = omega (arith, ints, is, ap pos e)
abs_is f n (negsuc m) i is above e =
    let less : n <ℤ f = omega (arith, ints, is) in
    absurd (less_not n f above less)

index_step : (f n : ℤ) (i : ℕ) (b : Bool) → int_lt n f ≡ b
    → cond b None (Some (unsigned_abs (n -ℤ f))) ≡ Some i → n ≡ f +ℤ pos i
index_step f n i true is e = absurd (cc)
index_step f n i false is e =
    let same : unsigned_abs (n -ℤ f) ≡ i = cc in
    abs_is f n (n -ℤ f) i refl is same

index_is : (f n : ℤ) (i : ℕ) → index_from f n ≡ Some i → n ≡ f +ℤ pos i
index_is f n i e = index_step f n i (int_lt n f) refl e

same_index : (f q n : ℤ) (i : ℕ) → index_from f q ≡ Some i → index_from f n ≡ Some i → q ≡ n
same_index f q n i e g = index_is f q i e ∙ sym (index_is f n i g)

self_step : (n d : ℤ) (b : Bool) → int_lt n n ≡ b → d ≡ n -ℤ n
    → cond b None (Some (unsigned_abs d)) ≡ Some 0
self_step n d true is e =
    let less : n <ℤ n = less_from n n is in
    absurd (omega (arith, ints, less))
self_step n d false is e =
    let none : d ≡ pos 0 = omega (arith, ints, e) in
    ap (λ z. Some (unsigned_abs z)) none

index_self : (n : ℤ) → index_from n n ≡ Some 0
index_self n = self_step n (n -ℤ n) (int_lt n n) refl refl

equal_is : (q n : ℤ) → int_eq q n ≡ true → q ≡ n
equal_is q n h = (Decides-int_eq q n).0 h

apart_is : (q n : ℤ) → int_eq q n ≡ false → q ≡ n → ⊥
apart_is q n h e =
    let same : int_eq q n ≡ true = (Decides-int_eq q n).1 e in
    cc

-- ---- one more slot

put_there : (j : ℕ) (a : RequestEntry) → get_or (replicate j None ++ Some a ∷ []) j None ≡ Some a
put_there zero a = refl
put_there (suc j) a = put_there j a

put_apart : (j i : ℕ) (a : RequestEntry) → (i ≡ j → ⊥)
    → get_or (replicate j None ++ Some a ∷ []) i None ≡ None
put_apart zero zero a h = absurd (h refl)
put_apart zero (suc i) a h = refl
put_apart (suc j) zero a h = refl
put_apart (suc j) (suc i) a h = put_apart j i a (λ e. h (ap suc e))

after_there : (ss : Slots) (j k : ℕ) (a : RequestEntry) → k ≡ length ss + j
    → get_or (ss ++ (replicate j None ++ Some a ∷ [])) k None ≡ Some a
after_there [] j k a e =
    let here : k ≡ j = omega (arith, e) in
    ap (λ i. get_or (replicate j None ++ Some a ∷ []) i None) here ∙ put_there j a
after_there (s ∷ ss) j zero a e = absurd (omega (arith, e))
after_there (s ∷ ss) j (suc k) a e = after_there ss j k a (omega (arith, e))

after_apart : (ss : Slots) (j k : ℕ) (a : RequestEntry) → (k ≡ length ss + j → ⊥)
    → get_or (ss ++ (replicate j None ++ Some a ∷ [])) k None ≡ get_or ss k None
after_apart [] j k a h = put_apart j k a (λ e. h (omega (arith, e)))
after_apart (s ∷ ss) j zero a h = refl
after_apart (s ∷ ss) j (suc k) a h = after_apart ss j k a (λ e. h (omega (arith, e)))

in_first : (b : Bool) (s t o : Option RequestEntry) (a : RequestEntry) → t ≡ cond b (Some a) s
    → or_other t o ≡ cond b (Some a) (or_other s o)
in_first true s t o a e = ap (λ x. or_other x o) e
in_first false s t o a e = ap (λ x. or_other x o) e

in_second : (b : Bool) (s o p : Option RequestEntry) (a : RequestEntry) → (b ≡ true → s ≡ None)
    → p ≡ cond b (Some a) o → or_other s p ≡ cond b (Some a) (or_other s o)
in_second true s o p a none e = ap (λ x. or_other x p) (none refl) ∙ e
in_second false s o p a none e = ap (λ x. or_other s x) e

or_none : (s o : Option RequestEntry) → or_other s o ≡ None → s ≡ None
or_none None o e = refl
or_none (Some a) o e = absurd (cc)

or_none_other : (s o : Option RequestEntry) → or_other s o ≡ None → o ≡ None
or_none_other None o e = e
or_none_other (Some a) o e = absurd (cc)

in_no_slot : (n : ℤ) (es : Requests) → request_numbered n es ≡ None
    → in_slot es.slots (index_from es.first n) ≡ None
in_no_slot n es h = or_none _ (other_numbered n es.others) (sym (numbered_is n es) ∙ h)

in_no_other : (n : ℤ) (es : Requests) → request_numbered n es ≡ None
    → other_numbered n es.others ≡ None
in_no_other n es h =
    or_none_other (in_slot es.slots (index_from es.first n)) _ (sym (numbered_is n es) ∙ h)

-- ---- one more request

-- one slot
one_slot : (f q : ℤ) (i : Option ℕ) (a : RequestEntry) → index_from f q ≡ i → int_eq q f ≡ false
    → in_slot (Some a ∷ []) i ≡ None
one_slot f q None a e h = refl
one_slot f q (Some zero) a e h =
    absurd (apart_is q f h (same_index f q f 0 e (index_self f)))
one_slot f q (Some (suc k)) a e h = refl

first_slot : (n q : ℤ) (a : RequestEntry) (b : Bool) → int_eq q n ≡ b
    → in_slot (Some a ∷ []) (index_from n q) ≡ cond b (Some a) None
first_slot n q a true h =
    ap (λ z. in_slot (Some a ∷ []) (index_from n z)) (equal_is q n h)
    ∙ ap (λ i. in_slot (Some a ∷ []) i) (index_self n)
first_slot n q a false h = one_slot n q (index_from n q) a refl h

-- the slots with one more
more_slots : (f q n : ℤ) (ss : Slots) (i : ℕ) (k : Option ℕ) (a : RequestEntry) (b : Bool)
    → index_from f n ≡ Some i → index_from f q ≡ k → length ss ≤ i → int_eq q n ≡ b
    → in_slot (ss ++ (replicate (i - length ss) None ++ Some a ∷ [])) k
    ≡ cond b (Some a) (in_slot ss k)
more_slots f q n ss i None a true here there after h =
    let same : q ≡ n = equal_is q n h in
    let is : index_from f n ≡ None = ap (index_from f) (sym same) ∙ there in
    absurd (cc)
more_slots f q n ss i (Some k) a true here there after h =
    let same : q ≡ n = equal_is q n h in
    let is : index_from f n ≡ Some k = ap (index_from f) (sym same) ∙ there in
    let at : k ≡ i = cc in
    after_there ss (i - length ss) k a (omega (arith, at, after))
more_slots f q n ss i None a false here there after h = refl
more_slots f q n ss i (Some k) a false here there after h =
    after_apart ss (i - length ss) k a
    (λ e. let at : k ≡ i = omega (arith, e, after) in
    apart_is q n h (same_index f q n i (there ∙ ap Some at) here))

-- a new slot comes after the others
new_step : (i j len : ℕ) (a b : Bool) → nat_le len i ≡ a → nat_le (i - len) 1 ≡ b
    → cond (a && b) (Some i) None ≡ Some j → (i ≡ j) × (len ≤ i)
new_step i j len true true after near e = (cc, most_from len i after)
new_step i j len true false after near e = absurd (cc)
new_step i j len false b after near e = absurd (cc)

new_is : (i : Option ℕ) (j len : ℕ) → new_slot i len ≡ Some j → (i ≡ Some j) × (len ≤ j)
new_is None j len e = absurd (cc)
new_is (Some i) j len e =
    let parts = new_step i j len (nat_le len i) (nat_le (i - len) 1) refl refl e in
    (ap Some parts.0, subst (λ k. len ≤ k) parts.0 parts.1)

put_found : (q n : ℤ) (c : List ℕ) (es : Requests) (i : Option ℕ)
    → new_slot (index_from es.first n) (length es.slots) ≡ i → request_numbered n es ≡ None
    → request_numbered q (put_at i n (c, false) es)
    ≡ cond (int_eq q n) (Some (c, false)) (request_numbered q es)
put_found q n c es None is new =
    numbered_is q (put_at None n (c, false) es)
    ∙ in_second (int_eq q n) (in_slot es.slots (index_from es.first q))
    (other_numbered q es.others) (other_numbered q (with_other n (c, false) es.others)) (c, false)
    (λ h. ap (λ z. in_slot es.slots (index_from es.first z)) (equal_is q n h) ∙ in_no_slot n es new)
    (found-with_other q n c es.others)
    ∙ ap (λ o. cond (int_eq q n) (Some (c, false)) o) (sym (numbered_is q es))
put_found q n c es (Some i) is new =
    let at = new_is (index_from es.first n) i (length es.slots) is in
    numbered_is q (put_at (Some i) n (c, false) es)
    ∙ in_first (int_eq q n) (in_slot es.slots (index_from es.first q)) _
    (other_numbered q es.others) (c, false)
    (more_slots es.first q n es.slots i (index_from es.first q) (c, false) (int_eq q n) at.0 refl
    at.1 refl)
    ∙ ap (λ o. cond (int_eq q n) (Some (c, false)) o) (sym (numbered_is q es))

no_slots : (ss : Slots) → (length ss == 0) ≡ true → ss ≡ []
no_slots [] e = refl
no_slots (s ∷ ss) e = absurd (omega (arith, eqb-true (length (s ∷ ss)) 0 e))

first_found : (q n : ℤ) (c : List ℕ) (es : Requests) → es.slots ≡ []
    → request_numbered q
    (record { first = n; slots = Some (c, false) ∷ []; others = es.others })
    ≡ cond (int_eq q n) (Some (c, false)) (request_numbered q es)
first_found q n c es none =
    let is : in_slot es.slots (index_from es.first q) ≡ None =
    ap (λ ss. in_slot ss (index_from es.first q)) none ∙ in_none (index_from es.first q) in
    numbered_is q (record { first = n; slots = Some (c, false) ∷ []; others = es.others })
    ∙ in_first (int_eq q n) (in_slot es.slots (index_from es.first q)) _
    (other_numbered q es.others) (c, false)
    (first_slot n q (c, false) (int_eq q n) refl
    ∙ ap (λ s. cond (int_eq q n) (Some (c, false)) s) (sym is))
    ∙ ap (λ o. cond (int_eq q n) (Some (c, false)) o) (sym (numbered_is q es))

found_step : (q n : ℤ) (c : List ℕ) (es : Requests) (b : Bool) → (length es.slots == 0) ≡ b
    → request_numbered n es ≡ None
    → request_numbered q (cond b
    (record { first = n; slots = Some (c, false) ∷ []; others = es.others })
    (put_at (new_slot (index_from es.first n) (length es.slots)) n (c, false) es))
    ≡ cond (int_eq q n) (Some (c, false)) (request_numbered q es)
found_step q n c es true is new = first_found q n c es (no_slots es.slots is)
found_step q n c es false is new = put_found q n c es _ refl new

pub found-with_request : (q n : ℤ) (c : List ℕ) (es : Requests) → request_numbered n es ≡ None
    → request_numbered q (with_request n c es)
    ≡ cond (int_eq q n) (Some (c, false)) (request_numbered q es)
found-with_request q n c es new = found_step q n c es (length es.slots == 0) refl new

abbrev open_one : Option RequestEntry → ℕ
open_one s = cond (is_open s) 1 0

open_more : (ss : Slots) (j : ℕ) (c : List ℕ)
    → count_by is_open (ss ++ (replicate j None ++ Some (c, false) ∷ []))
    ≡ count_by is_open ss + 1
open_more ss j c =
    let none : count_by is_open (replicate j None) ≡ j * 0 = sum_by-replicate open_one j None in
    let two : count_by is_open (replicate j None ++ Some (c, false) ∷ [])
    ≡ count_by is_open (replicate j None) + 1 =
    sum_by-append open_one (replicate j None) (Some (c, false) ∷ []) in
    omega (
      arith,
      none,
      two,
      sum_by-append open_one ss (replicate j None ++ Some (c, false) ∷ []),
    )

put_unanswered : (n : ℤ) (c : List ℕ) (es : Requests) (i : Option ℕ)
    → request_numbered n es ≡ None
    → unanswered (put_at i n (c, false) es) ≡ unanswered es + 1
put_unanswered n c es None new =
    omega (arith, unanswered-with_other n c es.others (in_no_other n es new))
put_unanswered n c es (Some i) new =
    omega (arith, open_more es.slots (i - length es.slots) c)

unanswered_step : (n : ℤ) (c : List ℕ) (es : Requests) (b : Bool) → (length es.slots == 0) ≡ b
    → request_numbered n es ≡ None
    → unanswered (cond b
    (record { first = n; slots = Some (c, false) ∷ []; others = es.others })
    (put_at (new_slot (index_from es.first n) (length es.slots)) n (c, false) es))
    ≡ unanswered es + 1
unanswered_step n c es true is new =
    let none : count_by is_open es.slots ≡ 0 = ap (count_by is_open) (no_slots es.slots is) in
    omega (arith, none)
unanswered_step n c es false is new = put_unanswered n c es _ new

pub unanswered-with_request : (n : ℤ) (c : List ℕ) (es : Requests) → request_numbered n es ≡ None
    → unanswered (with_request n c es) ≡ unanswered es + 1
unanswered-with_request n c es new = unanswered_step n c es (length es.slots == 0) refl new

-- ---- a response

some_within : (ss : Slots) (i : ℕ) (a : RequestEntry) → get_or ss i None ≡ Some a → i < length ss
some_within [] i a e = absurd (cc)
some_within (s ∷ ss) zero a e = omega arith
some_within (s ∷ ss) (suc i) a e = omega (arith, some_within ss i a e)

held_step : (n : ℤ) (es : Requests) (i : Option ℕ) (s : Option RequestEntry) (j : ℕ)
    → in_slot es.slots i ≡ s → cond (is_some s) i None ≡ Some j
    → (i ≡ Some j) × ((a : RequestEntry) × (get_or es.slots j None ≡ Some a))
held_step n es i None j e h = absurd (cc)
held_step n es None (Some a) j e h = absurd (cc)
held_step n es (Some i) (Some a) j e h = (h, (a, ap (in_slot es.slots) (sym h) ∙ e))

held_at : (n : ℤ) (es : Requests) (j : ℕ) → held_slot n es ≡ Some j
    → (index_from es.first n ≡ Some j) × ((a : RequestEntry) × (get_or es.slots j None ≡ Some a))
held_at n es j h =
    held_step n es (index_from es.first n) (in_slot es.slots (index_from es.first n)) j refl h

not_held_step : (i : Option ℕ) (s : Option RequestEntry) (ss : Slots) → in_slot ss i ≡ s
    → cond (is_some s) i None ≡ None → s ≡ None
not_held_step i None ss e h = refl
not_held_step None (Some a) ss e h = absurd (cc)
not_held_step (Some i) (Some a) ss e h = absurd (cc)

not_held : (n : ℤ) (es : Requests) → held_slot n es ≡ None
    → in_slot es.slots (index_from es.first n) ≡ None
not_held n es h = not_held_step (index_from es.first n) _ es.slots refl h

set_slots : (f q n : ℤ) (ss : Slots) (i : ℕ) (k : Option ℕ) (a : RequestEntry) (b : Bool)
    → index_from f n ≡ Some i → index_from f q ≡ k → i < length ss → int_eq q n ≡ b
    → in_slot (set ss i (Some a)) k ≡ cond b (Some a) (in_slot ss k)
set_slots f q n ss i None a true here there within h =
    let same : q ≡ n = equal_is q n h in
    let is : index_from f n ≡ None = ap (index_from f) (sym same) ∙ there in
    absurd (cc)
set_slots f q n ss i (Some k) a true here there within h =
    let same : q ≡ n = equal_is q n h in
    let is : index_from f n ≡ Some k = ap (index_from f) (sym same) ∙ there in
    let at : k ≡ i = cc in
    ap (λ j. get_or (set ss i (Some a)) j None) at ∙ get_or-set_same ss i (Some a) None within
set_slots f q n ss i None a false here there within h = refl
set_slots f q n ss i (Some k) a false here there within h =
    get_or-set_other ss i k (Some a) None
    (λ e. apart_is q n h (same_index f q n i (there ∙ ap Some e) here))

answer_found : (q n : ℤ) (c : List ℕ) (a : RequestEntry) (es : Requests) (i : Option ℕ)
    → held_slot n es ≡ i → found_at i n es ≡ Some a
    → request_numbered q (answer_at i n c es)
    ≡ cond (int_eq q n) (Some (c, true)) (request_numbered q es)
answer_found q n c a es None is h =
    numbered_is q (answer_at None n c es)
    ∙ in_second (int_eq q n) (in_slot es.slots (index_from es.first q))
    (other_numbered q es.others) (other_numbered q (with_other_answer n c es.others)) (c, true)
    (λ e. ap (λ z. in_slot es.slots (index_from es.first z)) (equal_is q n e) ∙ not_held n es is)
    (found-with_other_answer q n c a es.others h)
    ∙ ap (λ o. cond (int_eq q n) (Some (c, true)) o) (sym (numbered_is q es))
answer_found q n c a es (Some i) is h =
    let at = held_at n es i is in
    numbered_is q (answer_at (Some i) n c es)
    ∙ in_first (int_eq q n) (in_slot es.slots (index_from es.first q)) _
    (other_numbered q es.others) (c, true)
    (set_slots es.first q n es.slots i (index_from es.first q) (c, true) (int_eq q n) at.0 refl
    (some_within es.slots i a h) refl)
    ∙ ap (λ o. cond (int_eq q n) (Some (c, true)) o) (sym (numbered_is q es))

pub found-with_answer : (q n : ℤ) (c : List ℕ) (a : RequestEntry) (es : Requests)
    → request_numbered n es ≡ Some a
    → request_numbered q (with_answer n c es)
    ≡ cond (int_eq q n) (Some (c, true)) (request_numbered q es)
found-with_answer q n c a es h = answer_found q n c a es (held_slot n es) refl h

answer_unanswered : (n : ℤ) (c d : List ℕ) (es : Requests) (i : Option ℕ)
    → found_at i n es ≡ Some (d, false) → unanswered (answer_at i n c es) + 1 ≡ unanswered es
answer_unanswered n c d es None h =
    omega (arith, unanswered-with_other_answer n c d es.others h)
answer_unanswered n c d es (Some i) h =
    let one : open_one (get_or es.slots i None) ≡ 1 = ap open_one h in
    let fall : count_by is_open (set es.slots i (Some (c, true)))
    + open_one (get_or es.slots i None)
    ≡ count_by is_open es.slots + 0 =
    sum_by-set open_one es.slots i (Some (c, true)) None (some_within es.slots i (d, false) h) in
    omega (arith, one, fall)

pub unanswered-with_answer : (n : ℤ) (c d : List ℕ) (es : Requests)
    → request_numbered n es ≡ Some (d, false) → unanswered (with_answer n c es) + 1 ≡ unanswered es
unanswered-with_answer n c d es h = answer_unanswered n c d es (held_slot n es) h
