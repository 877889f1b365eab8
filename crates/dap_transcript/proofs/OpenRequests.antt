-- The open requests of a side after one message more, and the oldest of them.
use Rattle.std.proofs.Common.{◌≡◌, ℕ, suc, ◌+◌, ◌<◌, ℤ, Bool, true, false, cond, not, ◌||◌, ◌&&◌}
use Rattle.std.proofs.Common.{List, [], ◌∷◌, ◌++◌, length, Option, Some, None, nat_lt}
use Rattle.std.proofs.Common.{refl, sym, ap, ◌∙◌, arith, append_assoc}
use Rattle.std.proofs.lemmas.Bool.Decides.{nat_tests}
use Rattle.std.specs.{List.list_any, VecDeque.deque_items}
use Rattle.dap_tree.specs.declared.side.Side.{Side}
use Rattle.dap_message.specs.Message.{Sent}
use Rattle.dap_session.specs.Messages.{is_response_to, seq_of}
use Rattle.dap_transcript.specs.Expected.{asks, is_open, oldest_open}
use Rattle.dap_transcript.specs.Requests.{AllClosed, IsQueue, Tracks, are_answered, first_open}
use Rattle.dap_transcript.specs.Requests.{is_before, is_closed, last_answer, queue_of, request_at}
use Rattle.dap_transcript.specs.Requests.{requests_from}
use Rattle.dap_transcript.specs.declared.open_requests.{Asked.Asked, OpenRequests.OpenRequests}

-- ---- places

not_itself : (n : ℕ) → nat_lt n n ≡ false
not_itself n = grind (arith, nat_tests)

is_less : (p n : ℕ) → p < n → nat_lt p n ≡ true
is_less p n h = grind (arith, nat_tests)

not_later : (n a : ℕ) → nat_lt n a ≡ false → nat_lt (suc n) a ≡ false
not_later n a h = grind (arith, nat_tests)

less_through : (p a n : ℕ) → nat_lt n a ≡ false → nat_lt p a ≡ true → nat_lt p n ≡ true
less_through p a n h g = grind (arith, nat_tests)

-- After a message at the place n, no response is after that place.
not_at : (b : Bool) (n : ℕ) (o : Option ℕ) → is_before n o ≡ false
    → is_before n (cond b (Some n) o) ≡ false
not_at true n o h = not_itself n
not_at false n o h = h

not_yet : (n : ℕ) (o : Option ℕ) → is_before n o ≡ false → is_before (suc n) o ≡ false
not_yet n None h = refl
not_yet n (Some a) h = not_later n a h

-- A request that is closed stays so.
still_closed : (b : Bool) (p n : ℕ) (o : Option ℕ) → is_before n o ≡ false → is_before p o ≡ true
    → is_before p (cond b (Some n) o) ≡ true
still_closed b p n None h g = absurd (cc)
still_closed true p n (Some a) h g = less_through p a n h g
still_closed false p n (Some a) h g = g

or_nothing : (a : Bool) → a ≡ (a || false)
or_nothing true = refl
or_nothing false = refl

or_true : (a : Bool) → true ≡ (a || true)
or_true true = refl
or_true false = refl

-- A response at the place n is after the place p, which is before n.
one_response : (b : Bool) (p n : ℕ) (o : Option ℕ) (rest : Bool) → p < n
    → (is_before p (cond b (Some n) o) || rest) ≡ (is_before p o || (b || rest))
one_response true p n o rest h = ap (λ a. a || rest) (is_less p n h) ∙ or_true (is_before p o)
one_response false p n o rest h = refl

twice_not : (a : Bool) → a ≡ not (not a)
twice_not true = refl
twice_not false = refl

or_first : (a b : Bool) → a ≡ false → (a || b) ≡ b
or_first true b h = absurd (cc)
or_first false b h = refl

-- ---- requests in a queue

both_more : (b : Bool) (a : Asked) (r s t : List Asked) → r ≡ s ++ t
    → cond b (a ∷ r) r ≡ cond b (a ∷ s) s ++ t
both_more true a r s t h = ap (λ l. a ∷ l) h
both_more false a r s t h = h

all_closed : (old new : ℤ → Option ℕ) (rest : List Asked)
    → ((a : Asked) → is_closed old a ≡ true → is_closed new a ≡ true) → AllClosed old rest
    → AllClosed new rest
all_closed old new [] stays c = tt
all_closed old new (a ∷ rest) stays c = (stays a c.0, all_closed old new rest stays c.1)

passes : (b : Bool) (x y : Option ℤ) → b ≡ true → cond b x y ≡ x
passes true x y h = refl
passes false x y h = absurd (cc)

stops : (b : Bool) (x y : Option ℤ) → b ≡ false → cond b x y ≡ y
stops true x y h = absurd (cc)
stops false x y h = refl

-- The first open request is in the queue.
in_queue : (answered : ℤ → Option ℕ) (passed queue : List Asked) → AllClosed answered passed
    → first_open answered (passed ++ queue) ≡ first_open answered queue
in_queue answered [] queue c = refl
in_queue answered (a ∷ passed) queue c =
    passes (is_closed answered a) (first_open answered (passed ++ queue)) (Some a.number) c.0
    ∙ in_queue answered passed queue c.1

pub first_is : (answered : ℤ → Option ℕ) (all queue : List Asked) → IsQueue answered all queue
    → first_open answered queue ≡ first_open answered all
first_is answered all queue q =
    sym (ap (first_open answered) q.is ∙ in_queue answered q.passed queue q.closed)

pub first_stays : (answered : ℤ → Option ℕ) (all queue rest : List Asked) (a : Asked)
    → IsQueue answered all queue → queue ≡ a ∷ rest → is_closed answered a ≡ false
    → Some a.number ≡ first_open answered all
first_stays answered all queue rest a q is off =
    sym (stops (is_closed answered a) (first_open answered rest) (Some a.number) off)
    ∙ ap (first_open answered) (sym is) ∙ first_is answered all queue q

one_closed : (answered : ℤ → Option ℕ) (passed : List Asked) (a : Asked)
    → AllClosed answered passed → is_closed answered a ≡ true
    → AllClosed answered (passed ++ a ∷ [])
one_closed answered [] a c on = (on, tt)
one_closed answered (b ∷ passed) a c on = (c.0, one_closed answered passed a c.1 on)

pub first_passed : (answered : ℤ → Option ℕ) (all queue rest : List Asked) (a : Asked)
    → IsQueue answered all queue → queue ≡ a ∷ rest → is_closed answered a ≡ true
    → IsQueue answered all rest
first_passed answered all queue rest a q is on = record {
  passed = q.passed ++ a ∷ [];
  is = q.is ∙ ap (λ l. q.passed ++ l) is ∙ sym (append_assoc q.passed (a ∷ []) rest);
  closed = one_closed answered q.passed a q.closed on;
}

-- One message, which is a request if b holds, and is open if `still` holds.
one_request : (b still : Bool) (answered : ℤ → Option ℕ) (a : Asked) (rest : List Asked)
    (others : Option ℤ) → is_closed answered a ≡ not still → others ≡ first_open answered rest
    → cond (b && still) (Some a.number) others ≡ first_open answered (cond b (a ∷ rest) rest)
one_request true true answered a rest others closed is =
    sym (stops (is_closed answered a) (first_open answered rest) (Some a.number) closed)
one_request true false answered a rest others closed is =
    is ∙ sym (passes (is_closed answered a) (first_open answered rest) (Some a.number) closed)
one_request false still answered a rest others closed is = is

-- ---- the messages of a session

module _ (side : Side) where
  answers_more : (number : ℤ) (n : ℕ) (o : Option ℕ) (ms : List Sent) (m : Sent)
      → last_answer side number n o (ms ++ m ∷ [])
      ≡ cond (is_response_to side number m) (Some (n + length ms)) (last_answer side number n o ms)
  answers_more number n o [] m =
      ap (λ k. cond (is_response_to side number m) (Some k) o) (omega arith)
  answers_more number n o (x ∷ ms) m =
      answers_more number (suc n) (cond (is_response_to side number x) (Some n) o) ms m
      ∙ ap
      (λ k. cond (is_response_to side number m) (Some k) (last_answer side number n o (x ∷ ms)))
      (omega arith)

  requests_more : (command : List ℕ) (n : ℕ) (ms : List Sent) (m : Sent)
      → requests_from side command n (ms ++ m ∷ []) ≡ requests_from side command n ms
      ++ cond (asks side command m) (request_at (seq_of m) (n + length ms) ∷ []) []
  requests_more command n [] m =
      ap (λ k. cond (asks side command m) (request_at (seq_of m) k ∷ []) []) (omega arith)
  requests_more command n (x ∷ ms) m =
      both_more (asks side command x) (request_at (seq_of x) n) _ _ _
      (requests_more command (suc n) ms m
      ∙ ap (λ k. requests_from side command (suc n) ms
      ++ cond (asks side command m) (request_at (seq_of m) k ∷ []) []) (omega arith))

  -- No response is after the last message.
  none_after : (number : ℤ) (n : ℕ) (o : Option ℕ) (ms : List Sent) → is_before n o ≡ false
      → is_before (n + length ms) (last_answer side number n o ms) ≡ false
  none_after number n o [] h = ap (λ k. is_before k o) (omega arith) ∙ h
  none_after number n o (m ∷ ms) h =
      ap (λ k. is_before k (last_answer side number n o (m ∷ ms))) (omega arith)
      ∙ none_after number (suc n) (cond (is_response_to side number m) (Some n) o) ms
      (not_yet n _ (not_at (is_response_to side number m) n o h))

  -- The last response is after the place p if there is one among the messages, or was one before.
  is_after : (number : ℤ) (p n : ℕ) (o : Option ℕ) (ms : List Sent) → p < n
      → is_before p (last_answer side number n o ms)
      ≡ (is_before p o || list_any (is_response_to side number) ms)
  is_after number p n o [] h = or_nothing (is_before p o)
  is_after number p n o (m ∷ ms) h =
      is_after number p (suc n) (cond (is_response_to side number m) (Some n) o) ms (omega arith)
      ∙ one_response (is_response_to side number m) p n o
      (list_any (is_response_to side number) ms) h

  oldest_first : (command : List ℕ) (n : ℕ) (o : ℤ → Option ℕ) (ms : List Sent)
      → ((number : ℤ) → is_before n (o number) ≡ false)
      → oldest_open side command ms
      ≡ first_open (λ number. last_answer side number n (o number) ms)
      (requests_from side command n ms)
  oldest_first command n o [] h = refl
  oldest_first command n o (m ∷ ms) h =
      let number = seq_of m in
      let any = list_any (is_response_to side number) ms in
      let here = not_at (is_response_to side number m) n (o number) (h number) in
      one_request (asks side command m) (is_open side m ms)
      (λ k. last_answer side k n (o k) (m ∷ ms)) (request_at number n)
      (requests_from side command (suc n) ms) (oldest_open side command ms)
      (is_after number n (suc n) (cond (is_response_to side number m) (Some n) (o number)) ms
      (omega arith) ∙ or_first _ any here ∙ twice_not any)
      (oldest_first command (suc n)
      (λ k. cond (is_response_to side k m) (Some n) (o k)) ms
      (λ k. not_yet n _ (not_at (is_response_to side k m) n (o k) (h k))))

  first_same : (old new : ℤ → Option ℕ) (all : List Asked) → ((n : ℤ) → old n ≡ new n)
      → first_open old all ≡ first_open new all
  first_same old new [] h = refl
  first_same old new (a ∷ rest) h =
      ap (λ o. cond (is_before a.place o) (first_open old rest) (Some a.number)) (h a.number)
      ∙ ap (λ r. cond (is_closed new a) r (Some a.number)) (first_same old new rest h)

  module _ (before : List Sent) (t : OpenRequests) (tracks : Tracks side before t) where
    pub oldest_is : (command : List ℕ)
        → first_open (are_answered t.answered) (requests_from side command 0 before)
        ≡ oldest_open side command before
    oldest_is command =
        first_same (are_answered t.answered) (λ k. last_answer side k 0 None before)
        (requests_from side command 0 before) tracks.answers
        ∙ sym (oldest_first command 0 (λ k. None) before (λ k. refl))

    module _ (m : Sent) (new : OpenRequests)
        (answers : (n : ℤ) → are_answered new.answered n
        ≡ cond (is_response_to side n m) (Some (length before)) (are_answered t.answered n))
        (queues : (q : List ℕ) → queue_of deque_items new.queues q ≡ queue_of deque_items t.queues q
        ++ cond (asks side q m) (request_at (seq_of m) (length before) ∷ []) []) where
      from_zero : 0 + length before ≡ length before
      from_zero = omega arith

      closed_more : (a : Asked) → is_closed (are_answered t.answered) a ≡ true
          → is_closed (are_answered new.answered) a ≡ true
      closed_more a closed =
          let none : is_before (length before) (are_answered t.answered a.number) ≡ false =
          ap (is_before (length before)) (tracks.answers a.number)
          ∙ ap (λ k. is_before k (last_answer side a.number 0 None before)) (sym from_zero)
          ∙ none_after a.number 0 None before refl in
          ap (is_before a.place) (answers a.number)
          ∙ still_closed (is_response_to side a.number m) a.place (length before) _ none closed

      queue_more : (q : List ℕ) → IsQueue (are_answered new.answered)
          (requests_from side q 0 (before ++ m ∷ [])) (queue_of deque_items new.queues q)
      queue_more q =
          let u = tracks.queues q in
          let one = cond (asks side q m) (request_at (seq_of m) (length before) ∷ []) [] in
          record {
            passed = u.passed;
            is = requests_more q 0 before m
                ∙ ap (λ k. requests_from side q 0 before
                ++ cond (asks side q m) (request_at (seq_of m) k ∷ []) []) from_zero
                ∙ ap (λ l. l ++ one) u.is
                ∙ append_assoc u.passed (queue_of deque_items t.queues q) one
                ∙ ap (λ l. u.passed ++ l) (sym (queues q));
            closed = all_closed (are_answered t.answered) (are_answered new.answered) u.passed
                closed_more u.closed;
          }

      pub tracks_more : Tracks side (before ++ m ∷ []) new
      tracks_more = record {
        answers = λ n. answers n
            ∙ ap (cond (is_response_to side n m) (Some (length before))) (tracks.answers n)
            ∙ sym (answers_more n 0 None before m
            ∙ ap (λ k. cond (is_response_to side n m) (Some k) (last_answer side n 0 None before))
            from_zero);
        queues = queue_more;
      }
