-- A map of the client's first requests finds the request that a response answers.
use Rattle.std.proofs.Common.{◌≡◌, ℕ, ℤ, Bool, true, false, cond, ◌&&◌, inl, inr, List, [], ◌∷◌}
use Rattle.std.proofs.Common.{◌++◌, length, Option, Some, None, refl, sym, ap, ◌∙◌}
use Rattle.std.specs.Ordering.{int_eq}
use Rattle.std.proofs.lemmas.Bool.{cases_Bool, and_left, and_right, cond-true, cond-false}
use Rattle.std.proofs.lemmas.Bool.Decides.{Decides-int_eq}
use Rattle.dap_tree.specs.declared.side.Side.{Side}
use Rattle.dap_tree.specs.declared.side.Side.TheVariants.{Client, Adapter}
use Rattle.dap_message.specs.Message.{Sent}
use Rattle.dap_session.specs.Messages.{side_of, seq_of, request_seq_of, is_request, is_response}
use Rattle.dap_session.specs.Messages.{is_from, is_request_of, is_response_to, is_number}
use Rattle.dap_session.proofs.Sides.{from_side}
use Rattle.dap_order.specs.ByPlace.{first_place, place_answered}
use Rattle.dap_order.proofs.FirstPlace.{first_place_agree, first_place_none, first_place_skip}
use Rattle.dap_order.proofs.FirstPlace.{first_place_kept, first_place_new}
use Rattle.dap_order.specs.MessageOrder.{is_client_request_of, message_answers}

-- ---- the request that a message answers

unasked : (q m : Sent) → is_response_to Client (seq_of q) m ≡ false
    → is_client_request_of q m ≡ false
unasked q m f = elim (cases_Bool (is_from Client q)) [
  | inl h ↦ and_right (is_from Client q) _
      (and_right (is_request q) (is_response_to (side_of q) (seq_of q) m)
      (ap (λ (s : Side). is_response_to s (seq_of q) m) (sym (from_side Client q h)) ∙ f))
  | inr h ↦ and_left (is_from Client q) _ h
]

pub no_request : (ms : List Sent) (m : Sent)
    → ((n : ℤ) → is_response_to Client n m ≡ false)
    → place_answered (message_answers []) ms m ≡ None
no_request ms m f =
    first_place_none (λ q. is_client_request_of q m) (λ q. unasked q m (f (seq_of q))) ms

shuffled : (r i : Bool) → (r && true) && i ≡ true && (r && i)
shuffled true i = refl
shuffled false i = refl

request_same : (q m : Sent) (n : ℤ) → is_from Adapter m ≡ true → is_response m ≡ true
    → request_seq_of m ≡ Some n → is_client_request_of q m ≡ is_request_of Client n q
request_same q m n from response e = elim (cases_Bool (is_from Client q)) [
  | inl h ↦ (
      let answers : is_response_to (side_of q) (seq_of q) m ≡ int_eq n (seq_of q) =
      ap (λ (s : Side). is_response_to s (seq_of q) m) (sym (from_side Client q h))
      ∙ ap (λ b. (b && is_from Adapter m) && is_number (request_seq_of m) (seq_of q)) response
      ∙ ap (λ b. (true && b) && is_number (request_seq_of m) (seq_of q)) from
      ∙ ap (λ (o : Option ℤ). is_number o (seq_of q)) e in
      ap (λ b. b && (is_request q && is_response_to (side_of q) (seq_of q) m)) h
      ∙ ap (λ b. true && (is_request q && b)) answers
      ∙ sym (shuffled (is_request q) (int_eq n (seq_of q)))
      ∙ ap (λ b. (is_request q && b) && int_eq n (seq_of q)) (sym h)
      )
  | inr h ↦ and_left (is_from Client q) _ h
      ∙ sym (and_left (is_request q && is_from Client q) (int_eq n (seq_of q))
      (and_right (is_request q) (is_from Client q) h))
]

pub request_found : (ms : List Sent) (m : Sent) (n : ℤ) → is_from Adapter m ≡ true
    → is_response m ≡ true → request_seq_of m ≡ Some n
    → first_place (is_request_of Client n) ms ≡ place_answered (message_answers []) ms m
request_found ms m n from response e =
    first_place_agree (is_request_of Client n) (λ q. is_client_request_of q m)
    (λ q. sym (request_same q m n from response e)) ms

-- ---- one more message

-- The places of the client's requests by number, after these messages.
abbrev FindsBy : (ℤ → Option ℕ) → List Sent → Type 0
FindsBy find ms = (n : ℤ) → find n ≡ first_place (is_request_of Client n) ms

pub finds_no_request : (find : ℤ → Option ℕ) (ms : List Sent) (m : Sent)
    → (is_request m && is_from Client m) ≡ false → FindsBy find ms → FindsBy find (ms ++ m ∷ [])
finds_no_request find ms m f finds n =
    finds n
    ∙ sym (first_place_skip (is_request_of Client n) ms m
    (and_left (is_request m && is_from Client m) (int_eq n (seq_of m)) f))

finds_known : (find : ℤ → Option ℕ) (ms : List Sent) (m : Sent) (a : ℕ)
    → find (seq_of m) ≡ Some a → FindsBy find ms → FindsBy find (ms ++ m ∷ [])
finds_known find ms m a known finds n = elim (cases_Bool (int_eq n (seq_of m))) [
  | inl t ↦ (
      let same : n ≡ seq_of m = (Decides-int_eq n (seq_of m)).0 t in
      let there : find n ≡ Some a = ap find same ∙ known in
      there ∙ sym (first_place_kept (is_request_of Client n) ms m a (sym (finds n) ∙ there))
      )
  | inr f ↦ finds n
      ∙ sym (first_place_skip (is_request_of Client n) ms m
      (and_right (is_request m && is_from Client m) (int_eq n (seq_of m)) f))
]

-- The place of a known number is put back.
pub finds_put_back : (find new : ℤ → Option ℕ) (ms : List Sent) (m : Sent) (a at : ℕ)
    → find (seq_of m) ≡ Some a
    → ((n : ℤ) → new n
    ≡ cond (int_eq (seq_of m) n) (Some a) (cond (int_eq (seq_of m) n) (Some at) (find n)))
    → FindsBy find ms → FindsBy new (ms ++ m ∷ [])
finds_put_back find new ms m a at known is finds n =
    is n ∙ same ∙ finds_known find ms m a known finds n
  where
    same : cond (int_eq (seq_of m) n) (Some a) (cond (int_eq (seq_of m) n) (Some at) (find n))
        ≡ find n
    same = elim (cases_Bool (int_eq (seq_of m) n)) [
      | inl t ↦ cond-true (int_eq (seq_of m) n) (Some a) _ t ∙ sym known
          ∙ ap find ((Decides-int_eq (seq_of m) n).0 t)
      | inr f ↦ cond-false (int_eq (seq_of m) n) (Some a) _ f
          ∙ cond-false (int_eq (seq_of m) n) (Some at) (find n) f
    ]

pub finds_new : (find new : ℤ → Option ℕ) (ms : List Sent) (m : Sent) (at : ℕ)
    → (is_request m && is_from Client m) ≡ true → find (seq_of m) ≡ None → length ms ≡ at
    → ((n : ℤ) → new n ≡ cond (int_eq (seq_of m) n) (Some at) (find n)) → FindsBy find ms
    → FindsBy new (ms ++ m ∷ [])
finds_new find new ms m at request unknown long is finds n =
    elim (cases_Bool (int_eq (seq_of m) n)) [
      | inl t ↦ (
          let same : n ≡ seq_of m = sym ((Decides-int_eq (seq_of m) n).0 t) in
          let passes : is_request_of Client n m ≡ true =
          ap (λ b. b && int_eq n (seq_of m)) request
          ∙ (Decides-int_eq n (seq_of m)).1 same in
          let none : first_place (is_request_of Client n) ms ≡ None =
          sym (finds n) ∙ ap find same ∙ unknown in
          is n ∙ cond-true (int_eq (seq_of m) n) (Some at) (find n) t
          ∙ sym (first_place_new (is_request_of Client n) ms m none passes
          ∙ ap (λ k. Some k) long)
          )
      | inr f ↦ (
          let other : int_eq n (seq_of m) ≡ false = turned n (seq_of m) f in
          is n ∙ cond-false (int_eq (seq_of m) n) (Some at) (find n) f ∙ finds n
          ∙ sym (first_place_skip (is_request_of Client n) ms m
          (and_right (is_request m && is_from Client m) (int_eq n (seq_of m)) other))
          )
    ]
  where
    turned : (a b : ℤ) → int_eq b a ≡ false → int_eq a b ≡ false
    turned a b f = elim (cases_Bool (int_eq a b)) [
      | inl t ↦ absurd (
          let e = (Decides-int_eq b a).1 (sym ((Decides-int_eq a b).0 t)) in cc
          )
      | inr g ↦ g
    ]
