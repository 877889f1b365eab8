-- The requests of a side represent one more message.
use Rattle.std.proofs.Common.{◌≡◌, ℕ, ◌+◌, ◌≤◌, ℤ, Bool, true, false, cond, not, ◌&&◌, ◌||◌, List}
use Rattle.std.proofs.Common.{[], ◌∷◌, ◌++◌, Option, Some, None, option_map, sym, ap, ◌∙◌, refl}
use Rattle.std.proofs.Common.{subst, arith}
use Rattle.std.specs.Ordering.{int_eq}
use Rattle.std.specs.List.{count_by}
use Rattle.std.proofs.Math.Bool.{or-false, or-true}
use Rattle.std.proofs.lemmas.Bool.{and_from, and_left, and_parts}
use Rattle.std.proofs.lemmas.Bool.Decides.{Decides-int_eq}
use Rattle.std.proofs.lemmas.Cmp.{int_eq_equiv}
use Rattle.dap_tree.specs.declared.side.Side.{Side}
use Rattle.dap_message.specs.Message.{Sent}
use Rattle.dap_session.specs.Messages.{name_of, seq_of, request_seq_of, other, is_number}
use Rattle.dap_session.specs.Messages.{is_request, is_response, is_from, is_request_of}
use Rattle.dap_session.specs.Messages.{is_response_to}
use Rattle.dap_session.specs.Rules.{is_answered, open_requests}
use Rattle.dap_session.specs.SessionState.{Requests, RequestEntry, request_numbered, with_request}
use Rattle.dap_session.specs.SessionState.{with_answer}
use Rattle.dap_session.specs.SessionState.{answered_in, requests_after}
use Rattle.dap_session.specs.RequestSteps.{FitsRequests}
use Rattle.dap_session.specs.Representation.{AreRequests, request_at}
use Rattle.dap_session.proofs.Slots.{found-with_request, unanswered-with_request}
use Rattle.dap_session.proofs.Slots.{found-with_answer, unanswered-with_answer}
use Rattle.dap_session.proofs.Sides.{no_request, no_response}
use Rattle.dap_session.proofs.RequestsAfter.{after_request, after_response, after_other}
use Rattle.dap_session.proofs.KeptAfter.{any_push, or_else, request_at_push, tally, count_push}
use Rattle.dap_session.proofs.KeptAfter.{count_same, count_none, count_some, count_split}

int_same : (a b : ℤ) → int_eq a b ≡ true → a ≡ b
int_same a b h = (Decides-int_eq a b).0 h

-- what the list has for one number
abbrev pub listed_as : Side → List Sent → ℤ → Option RequestEntry
listed_as side ms n = option_map (λ q. (name_of q, is_answered side n ms)) (request_at side n ms)

pub map_none : (side : Side) (ms : List Sent) (n : ℤ) (o : Option Sent)
    → option_map {U = RequestEntry} (λ q. (name_of q, is_answered side n ms)) o ≡ None → o ≡ None
map_none side ms n None h = refl
map_none side ms n (Some q) h = absurd (cc)

-- ---- neither a request of this side nor a response to it

abbrev pub asks : Side → Sent → Bool
asks side m = is_request m && is_from side m

abbrev pub responds : Side → Sent → Bool
responds side m = is_response m && is_from (other side) m

not_asked : (side : Side) (n : ℤ) (m : Sent) → asks side m ≡ false → is_request_of side n m ≡ false
not_asked side n m h = and_left _ (int_eq n (seq_of m)) h

not_answered : (side : Side) (n : ℤ) (m : Sent) → responds side m ≡ false
    → is_response_to side n m ≡ false
not_answered side n m h = and_left _ (is_number (request_seq_of m) n) h

or_none : (o : Option Sent) → or_else o None ≡ o
or_none None = refl
or_none (Some x) = refl

answered_same : (side : Side) (n : ℤ) (ms : List Sent) (m : Sent) → is_response_to side n m ≡ false
    → is_answered side n (ms ++ m ∷ []) ≡ is_answered side n ms
answered_same side n ms m h =
    any_push (λ r. is_response_to side n r) ms m ∙ ap (λ b. is_answered side n ms || b) h
    ∙ or-false _

at_same : (side : Side) (n : ℤ) (ms : List Sent) (m : Sent) → is_request_of side n m ≡ false
    → request_at side n (ms ++ m ∷ []) ≡ request_at side n ms
at_same side n ms m h =
    request_at_push side n ms m ∙ ap (λ b. or_else (request_at side n ms) (cond b (Some m) None)) h
    ∙ or_none _

count_kept : (side : Side) (n : ℤ) (ms : List Sent) (m : Sent) → is_request_of side n m ≡ false
    → count_by (λ q. is_request_of side n q) (ms ++ m ∷ [])
    ≡ count_by (λ q. is_request_of side n q) ms
count_kept side n ms m h = omega (arith, count_push (λ q. is_request_of side n q) ms m, ap tally h)

listed_same : (side : Side) (n : ℤ) (ms : List Sent) (m : Sent) → is_request_of side n m ≡ false
    → is_response_to side n m ≡ false → listed_as side ms n ≡ listed_as side (ms ++ m ∷ []) n
listed_same side n ms m h g =
    ap (λ o. option_map {U = RequestEntry} (λ q. (name_of q, is_answered side n ms)) o)
    (sym (at_same side n ms m h))
    ∙ ap (λ b. option_map {U = RequestEntry} (λ q. (name_of q, b))
    (request_at side n (ms ++ m ∷ [])))
    (sym (answered_same side n ms m g))

-- with A and its requests, the number of requests that have no response
abbrev pub is_open : Side → (ℤ → Bool) → Sent → Bool
is_open side a q = is_request q && is_from side q && not (a (seq_of q))

open_push : (side : Side) (ms : List Sent) (m : Sent) (a : ℤ → Bool)
    → ((n : ℤ) → is_answered side n (ms ++ m ∷ []) ≡ a n)
    → open_requests side (ms ++ m ∷ []) ≡ count_by (is_open side a) ms + tally (is_open side a m)
unfolding open_requests
open_push side ms m a same =
    count_same (is_open side (λ n. is_answered side n (ms ++ m ∷ []))) (is_open side a)
    (λ q. ap (λ b. is_request q && is_from side q && not b) (same (seq_of q))) (ms ++ m ∷ [])
    ∙ count_push (is_open side a) ms m

silent_step : (side : Side) (es : Requests) (ms : List Sent) (m : Sent) → AreRequests side es ms
    → asks side m ≡ false → ((n : ℤ) → is_response_to side n m ≡ false)
    → AreRequests side es (ms ++ m ∷ [])
unfolding open_requests
silent_step side es ms m r h g = record {
  listed = λ n. r.listed n ∙ listed_same side n ms m (not_asked side n m h) (g n);
  count =
      let push = open_push side ms m (λ n. is_answered side n ms)
      (λ n. answered_same side n ms m (g n)) in
      let none : is_open side (λ n. is_answered side n ms) m ≡ false = and_left _ _ h in
      omega (arith, push, ap tally none, r.count);
  once = λ n. subst (λ k. k ≤ 1) (sym (count_kept side n ms m (not_asked side n m h))) (r.once n);
  asked = λ n e. answered_same side n ms m (g n)
      ∙ r.asked n (sym (at_same side n ms m (not_asked side n m h)) ∙ e);
}

other_step : (side : Side) (es : Requests) (ms : List Sent) (m : Sent) → AreRequests side es ms
    → asks side m ≡ false → responds side m ≡ false → AreRequests side es (ms ++ m ∷ [])
other_step side es ms m r h g = silent_step side es ms m r h (λ n. not_answered side n m g)

-- ---- a request of this side

request_is : (side : Side) (n : ℤ) (m : Sent) → asks side m ≡ true
    → is_request_of side n m ≡ int_eq n (seq_of m)
request_is side n m h = ap (λ b. b && int_eq n (seq_of m)) h

request_listed : (side : Side) (es : Requests) (ms : List Sent) (m : Sent) (n : ℤ) (b : Bool)
    → int_eq n (seq_of m) ≡ b → AreRequests side es ms → asks side m ≡ true
    → responds side m ≡ false → request_numbered (seq_of m) es ≡ None
    → cond b (Some (name_of m, false)) (request_numbered n es) ≡ listed_as side (ms ++ m ∷ []) n
request_listed side es ms m n true is r h g new =
    let same : n ≡ seq_of m = int_same n (seq_of m) is in
    let none : request_at side n ms ≡ None =
    map_none side ms n (request_at side n ms) (sym (r.listed n)
    ∙ ap (λ k. request_numbered k es) same ∙ new) in
    let at : request_at side n (ms ++ m ∷ []) ≡ Some m =
    request_at_push side n ms m
    ∙ ap (λ o. or_else o (cond (is_request_of side n m) (Some m) None)) none
    ∙ ap (λ b. cond b (Some m) None) (request_is side n m h ∙ is) in
    let fresh : is_answered side n (ms ++ m ∷ []) ≡ false =
    answered_same side n ms m (not_answered side n m g) ∙ r.asked n none in
    ap (λ b. Some (name_of m, b)) (sym fresh)
    ∙ ap (λ o. option_map {U = RequestEntry} (λ q. (name_of q, is_answered side n (ms ++ m ∷ [])))
    o)
    (sym at)
request_listed side es ms m n false is r h g new =
    r.listed n ∙ listed_same side n ms m (request_is side n m h ∙ is) (not_answered side n m g)

request_once : (side : Side) (es : Requests) (ms : List Sent) (m : Sent) (n : ℤ) (b : Bool)
    → int_eq n (seq_of m) ≡ b → AreRequests side es ms → asks side m ≡ true
    → request_numbered (seq_of m) es ≡ None
    → count_by (λ q. is_request_of side n q) (ms ++ m ∷ []) ≤ 1
request_once side es ms m n true is r h new =
    let same : n ≡ seq_of m = int_same n (seq_of m) is in
    let none : request_at side n ms ≡ None =
    map_none side ms n (request_at side n ms) (sym (r.listed n)
    ∙ ap (λ k. request_numbered k es) same ∙ new) in
    omega (
      arith,
      count_push (λ q. is_request_of side n q) ms m,
      count_none side n ms none,
      ap tally (request_is side n m h ∙ is),
    )
request_once side es ms m n false is r h new =
    subst (λ k. k ≤ 1) (sym (count_kept side n ms m (request_is side n m h ∙ is))) (r.once n)

or_none_left : (o p : Option Sent) → or_else o p ≡ None → o ≡ None
or_none_left None p h = refl
or_none_left (Some x) p h = absurd (cc)

request_step : (side : Side) (es : Requests) (ms : List Sent) (m : Sent) → AreRequests side es ms
    → asks side m ≡ true → responds side m ≡ false → request_numbered (seq_of m) es ≡ None
    → AreRequests side (with_request (seq_of m) (name_of m) es) (ms ++ m ∷ [])
unfolding open_requests
request_step side es ms m r h g new = record {
  listed = λ n. found-with_request n (seq_of m) (name_of m) es new
      ∙ request_listed side es ms m n (int_eq n (seq_of m)) refl r h g new;
  count =
      let push = open_push side ms m (λ n. is_answered side n ms)
      (λ n. answered_same side n ms m (not_answered side n m g)) in
      let none : request_at side (seq_of m) ms ≡ None =
      map_none side ms (seq_of m) (request_at side (seq_of m) ms) (sym (r.listed (seq_of m))
      ∙ new) in
      let one : is_open side (λ n. is_answered side n ms) m ≡ true =
      and_from _ _ h (ap not (r.asked (seq_of m) none)) in
      omega (
        arith,
        push,
        ap tally one,
        r.count,
        unanswered-with_request (seq_of m) (name_of m) es new,
      );
  once = λ n. request_once side es ms m n (int_eq n (seq_of m)) refl r h new;
  asked = λ n e. answered_same side n ms m (not_answered side n m g)
      ∙ r.asked n (or_none_left _ _ (sym (request_at_push side n ms m) ∙ e));
}

-- ---- a response to this side

response_is : (side : Side) (n k : ℤ) (m : Sent) → responds side m ≡ true
    → request_seq_of m ≡ Some k → is_response_to side n m ≡ int_eq k n
response_is side n k m h e =
    ap (λ b. b && is_number (request_seq_of m) n) h ∙ ap (λ o. is_number o n) e

map_some : (side : Side) (ms : List Sent) (n : ℤ) (name : List ℕ) (b : Bool) (o : Option Sent)
    → option_map {U = RequestEntry} (λ q. (name_of q, is_answered side n ms)) o ≡ Some (name, b)
    → (q : Sent) × (o ≡ Some q) × (name_of q ≡ name) × (is_answered side n ms ≡ b)
map_some side ms n name b None h = absurd (cc)
map_some side ms n name b (Some q) h =
    let pair : (name_of q, is_answered side n ms) ≡ (name, b) = cc in
    (q, refl, ap (λ (x : RequestEntry). x.0) pair, ap (λ (x : RequestEntry). x.1) pair)

response_listed : (side : Side) (es : Requests) (ms : List Sent) (m : Sent) (k n : ℤ) (b : Bool)
    → int_eq n k ≡ b → AreRequests side es ms → asks side m ≡ false → responds side m ≡ true
    → request_seq_of m ≡ Some k
    → request_numbered k es ≡ Some (name_of m, false)
    → cond b (Some (name_of m, true)) (request_numbered n es) ≡ listed_as side (ms ++ m ∷ []) n
response_listed side es ms m k n true is r h g e open_one =
    let same : n ≡ k = int_same n k is in
    let reported = map_some side ms n (name_of m) false (request_at side n ms) (sym (r.listed n)
    ∙ ap (λ x. request_numbered x es) same ∙ open_one) in
    let at : request_at side n (ms ++ m ∷ []) ≡ Some reported.0 =
    at_same side n ms m (not_asked side n m h) ∙ reported.1 in
    let now : is_answered side n (ms ++ m ∷ []) ≡ true =
    any_push (λ r. is_response_to side n r) ms m
    ∙ ap (λ b. is_answered side n ms || b) (response_is side n k m g e ∙ int_eq_equiv.symm k n
    ∙ is) ∙ or-true _ in
    ap (λ t. Some (t, true)) (sym reported.2) ∙ ap (λ b. Some (name_of reported.0, b)) (sym now)
    ∙ ap (λ o. option_map {U = RequestEntry} (λ q. (name_of q, is_answered side n (ms ++ m ∷ [])))
    o)
    (sym at)
response_listed side es ms m k n false is r h g e open_one =
    r.listed n ∙ listed_same side n ms m (not_asked side n m h) (response_is side n k m g e
    ∙ int_eq_equiv.symm k n ∙ is)

response_asked : (side : Side) (es : Requests) (ms : List Sent) (m : Sent) (k n : ℤ) (b : Bool)
    → int_eq n k ≡ b → AreRequests side es ms → responds side m ≡ true → request_seq_of m ≡ Some k
    → request_numbered k es ≡ Some (name_of m, false)
    → request_at side n ms ≡ None → is_answered side n (ms ++ m ∷ []) ≡ false
response_asked side es ms m k n true is r g e open_one gone =
    let same : n ≡ k = int_same n k is in
    let none : request_numbered n es ≡ None =
    r.listed n ∙ ap (λ o. option_map {U = RequestEntry} (λ q. (name_of q, is_answered side n ms)) o)
    gone in
    let some : request_numbered n es ≡ Some (name_of m, false) =
    ap (λ x. request_numbered x es) same ∙ open_one in
    absurd (cc)
response_asked side es ms m k n false is r g e open_one gone =
    answered_same side n ms m (response_is side n k m g e ∙ int_eq_equiv.symm k n ∙ is)
    ∙ r.asked n gone

response_step : (side : Side) (es : Requests) (ms : List Sent) (m : Sent) (k : ℤ)
    → AreRequests side es ms → asks side m ≡ false → responds side m ≡ true
    → request_seq_of m ≡ Some k → request_numbered k es ≡ Some (name_of m, false)
    → AreRequests side (with_answer k (name_of m) es) (ms ++ m ∷ [])
unfolding open_requests
response_step side es ms m k r h g e open_one = record {
  listed = λ n. found-with_answer n k (name_of m) (name_of m, false) es open_one
      ∙ response_listed side es ms m k n (int_eq n k) refl r h g e open_one;
  count =
      let reported = map_some side ms k (name_of m) false (request_at side k ms) (sym (r.listed k)
      ∙ open_one) in
      let push = open_push side ms m (λ n. is_answered side n ms || int_eq k n)
      (λ n. any_push (λ r. is_response_to side n r) ms m
      ∙ ap (λ b. is_answered side n ms || b) (response_is side n k m g e)) in
      let none : is_open side (λ n. is_answered side n ms || int_eq k n) m ≡ false =
      and_left _ _ h in
      let parts =
      count_split (λ q. is_request q && is_from side q) (λ n. is_answered side n ms) k reported.3 ms
      in
      let low = count_some side k reported.0 ms reported.1 in
      let high = r.once k in
      omega (
        arith,
        push,
        ap tally none,
        r.count,
        parts,
        low,
        high,
        unanswered-with_answer k (name_of m) (name_of m) es open_one,
      );
  once = λ n. subst (λ x. x ≤ 1) (sym (count_kept side n ms m (not_asked side n m h))) (r.once n);
  asked = λ n x.
      let gone : request_at side n ms ≡ None =
      sym (at_same side n ms m (not_asked side n m h)) ∙ x in
      response_asked side es ms m k n (int_eq n k) refl r g e open_one gone;
}

-- ---- any message

response_with : (side : Side) (es : Requests) (ms : List Sent) (m : Sent) (o : Option ℤ)
    → request_seq_of m ≡ o → AreRequests side es ms → asks side m ≡ false → responds side m ≡ true
    → ((n : ℤ) → request_seq_of m ≡ Some n → request_numbered n es ≡ Some (name_of m, false))
    → AreRequests side (answered_in o (name_of m) es) (ms ++ m ∷ [])
response_with side es ms m None e r h g ready =
    silent_step side es ms m r h (λ n. ap (λ b. b && is_number (request_seq_of m) n) g
    ∙ ap (λ o. is_number o n) e)
response_with side es ms m (Some k) e r h g ready = response_step side es ms m k r h g e (ready k e)

requests_step : (side : Side) (es : Requests) (ms : List Sent) (m : Sent) (a b : Bool)
    → asks side m ≡ a → responds side m ≡ b → AreRequests side es ms → FitsRequests side es m
    → AreRequests side (requests_after side es m) (ms ++ m ∷ [])
requests_step side es ms m true b h g r may =
    let request : is_request m ≡ true = (and_parts (is_request m) (is_from side m) h).0 in
    let silent : responds side m ≡ false =
    and_left (is_response m) (is_from (other side) m) (no_response m request) in
    subst (λ xs. AreRequests side xs (ms ++ m ∷ [])) (sym (after_request side es m h))
    (request_step side es ms m r h silent (may.asks h))
requests_step side es ms m false true h g r may =
    let response : is_response m ≡ true =
    (and_parts (is_response m) (is_from (other side) m) g).0 in
    subst (λ xs. AreRequests side xs (ms ++ m ∷ []))
    (sym (after_response side es m g (no_request m response)))
    (response_with side es ms m (request_seq_of m) refl r h g (λ n. may.answers n g))
requests_step side es ms m false false h g r may =
    subst (λ xs. AreRequests side xs (ms ++ m ∷ [])) (sym (after_other side es m h g))
    (other_step side es ms m r h g)

pub requests_follow : (side : Side) (es : Requests) (ms : List Sent) (m : Sent)
    → AreRequests side es ms → FitsRequests side es m
    → AreRequests side (requests_after side es m) (ms ++ m ∷ [])
requests_follow side es ms m r may =
    requests_step side es ms m (asks side m) (responds side m) refl refl r may
