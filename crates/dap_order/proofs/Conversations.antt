-- Messages of one conversation, of which one is a response, are tied.
use Rattle.std.proofs.Common.{◌≡◌, ℕ, ℤ, true, false, ◌&&◌, inl, inr, []}
use Rattle.std.proofs.Common.{Option, Some, None, is_some, refl, sym, ap, ◌∙◌, arith}
use Rattle.std.specs.Ordering.{int_eq}
use Rattle.std.proofs.lemmas.Bool.{cases_Bool, and_parts, and_from, or_cases, or_left, or_right}
use Rattle.std.proofs.lemmas.Bool.{cond-true, cond-false, both_ways}
use Rattle.std.proofs.lemmas.Bool.Decides.{Decides-int_eq}
use Rattle.dap_tree.specs.declared.side.Side.{Side}
use Rattle.dap_tree.specs.declared.side.Side.TheVariants.{Client, Adapter}
use Rattle.dap_tree.proofs.Sides.{same_side_decides}
use Rattle.dap_message.specs.Message.{Sent}
use Rattle.dap_session.specs.Messages.{side_of, seq_of, request_seq_of, other, is_number}
use Rattle.dap_session.specs.Messages.{is_request, is_response, is_from, is_response_to}
use Rattle.dap_session.proofs.Sides.{from_side, other_other, no_request}
use Rattle.dap_order.specs.Free.{of_one_class, answers, class_of, class_rank, class_number}
use Rattle.dap_order.specs.Free.{class_name}
use Rattle.dap_order.specs.Keys.{Key, side_code, is_numbered_response, conversation_key}
use Rattle.dap_order.specs.Keys.{response_key}
use Rattle.dap_order.specs.Keys.{class_key}
use Rattle.dap_order.specs.Waits.{talk, are_tied}
use Rattle.dap_order.proofs.Independence.{number_is, answers_request, responses_alike}
use Rattle.dap_order.proofs.Independence.{one_class_alike}
use Rattle.dap_order.proofs.FreeInWords.{one_class, one_class-Decides}
use Rattle.dap_order.proofs.MessageOrder.{are_message_classes}

-- ---- classes

pub one_class_key : (x y : Sent) → of_one_class x y ≡ true → class_key x ≡ class_key y
one_class_key x y h =
    let e : class_of x ≡ class_of y = (one_class-Decides (class_of x) (class_of y)).0 h in
    ap (λ c. record {
      code = class_rank c;
      number = class_number c;
      name = class_name c;
    }) e

pub class_from_key : (x y : Sent) → class_key x ≡ class_key y → of_one_class x y ≡ true
class_from_key x y e =
    one_class_alike x y (one_class (class_of x) (class_of y) (ap (λ (k : Key). k.code) e)
    (ap (λ (k : Key). k.number) e) (ap (λ (k : Key). k.name) e))

pub one_class_back : (x y : Sent) → of_one_class x y ≡ true → of_one_class y x ≡ true
one_class_back x y h = (are_message_classes []).same_back (class_of x) (class_of y) h

-- ---- ties

pub tied_class : (x y : Sent) → of_one_class x y ≡ true → are_tied x y ≡ true
tied_class x y h = or_left (of_one_class x y) (talk x y) h

tied_there : (x y : Sent) → answers x y ≡ true → are_tied x y ≡ true
tied_there x y h =
    or_right (of_one_class x y) (talk x y) (or_left (answers x y) (answers y x) h)

pub tied_back : (x y : Sent) → are_tied x y ≡ true → are_tied y x ≡ true
tied_back x y h = elim (or_cases (of_one_class x y) (talk x y) h) [
  | inl c ↦ tied_class y x (one_class_back x y c)
  | inr t ↦ elim (or_cases (answers x y) (answers y x) t) [
    | inl a ↦ or_right (of_one_class y x) (talk y x) (or_right (answers y x) (answers x y) a)
    | inr b ↦ tied_there y x b
  ]
]

-- ---- keys

abbrev key_with : ℕ → Option ℤ → Key
key_with code number = record { code = code; number = number; name = [] }

request_key : (m : Sent) → is_request m ≡ true
    → conversation_key m ≡ key_with (side_code (side_of m)) (Some (seq_of m))
request_key m h = cond-true (is_request m) _ _ h

numbered_key : (m : Sent) → is_numbered_response m ≡ true
    → conversation_key m ≡ key_with (side_code (other (side_of m))) (request_seq_of m)
numbered_key m h =
    let r = (and_parts (is_response m) (is_some (request_seq_of m)) h).0 in
    cond-false (is_request m) _ _ (no_request m r) ∙ cond-true (is_numbered_response m) _ _ h

no_key : (m : Sent) → is_request m ≡ false → is_numbered_response m ≡ false
    → conversation_key m ≡ key_with 2 None
no_key m h g = cond-false (is_request m) _ _ h ∙ cond-false (is_numbered_response m) _ _ g

one_side : (s t : Side) → side_code s ≡ side_code t → s ≡ t
one_side Client Client e = refl
one_side Client Adapter e = absurd (omega (arith, e))
one_side Adapter Client e = absurd (omega (arith, e))
one_side Adapter Adapter e = refl

low_side : (s : Side) → side_code s ≡ 2 → ⊥
low_side Client e = omega (arith, e)
low_side Adapter e = omega (arith, e)

no_side : (s : Side) → side_code s ≡ 3 → ⊥
no_side Client e = omega (arith, e)
no_side Adapter e = omega (arith, e)

numbered : (o : Option ℤ) → is_some o ≡ true → (n : ℤ) × (o ≡ Some n)
numbered None h = absurd (cc)
numbered (Some n) h = (n, refl)

from_itself : (s : Side) (m : Sent) → s ≡ side_of m → is_from s m ≡ true
from_itself s m e = (same_side_decides s (side_of m)).1 e

-- A response and another message of its conversation.
pub tied_response : (x y : Sent) → is_numbered_response x ≡ true
    → conversation_key x ≡ conversation_key y → are_tied x y ≡ true
tied_response x y h e =
    let w = and_parts (is_response x) (is_some (request_seq_of x)) h in
    let number = numbered (request_seq_of x) w.1 in
    let own = numbered_key x h in
    elim (cases_Bool (is_request y)) [
      | inl q ↦ (
          let same = sym own ∙ e ∙ request_key y q in
          let side : other (side_of x) ≡ side_of y =
          one_side (other (side_of x)) (side_of y) (ap (λ (k : Key). k.code) same) in
          let asked : Some number.0 ≡ Some (seq_of y) =
          sym number.1 ∙ ap (λ (k : Key). k.number) same in
          let is : number.0 ≡ seq_of y = cc in
          tied_there x y (answers_request x y number.0 w.0 number.1
          (and_from (is_request y && is_from (other (side_of x)) y) (int_eq number.0 (seq_of y))
          (and_from (is_request y) (is_from (other (side_of x)) y) q
          (from_itself (other (side_of x)) y side)) ((Decides-int_eq number.0 (seq_of y)).1 is)))
          )
      | inr plain ↦ elim (cases_Bool (is_numbered_response y)) [
        | inl g ↦ (
            let v = and_parts (is_response y) (is_some (request_seq_of y)) g in
            let same = sym own ∙ e ∙ numbered_key y g in
            let sides : other (side_of x) ≡ other (side_of y) =
            one_side (other (side_of x)) (other (side_of y)) (ap (λ (k : Key). k.code) same) in
            let there : request_seq_of y ≡ Some number.0 =
            sym (ap (λ (k : Key). k.number) same) ∙ number.1 in
            tied_class x y (responses_alike x y number.0 w.0 number.1
            (and_from (is_response y && is_from (other (other (side_of x))) y)
            (is_number (request_seq_of y) number.0)
            (and_from (is_response y) (is_from (other (other (side_of x))) y) v.0
            (from_itself (other (other (side_of x))) y (ap other sides ∙ other_other (side_of y))))
            (ap (λ (o : Option ℤ). is_number o number.0) there
            ∙ (Decides-int_eq number.0 number.0).1 refl)))
            )
        | inr g ↦ absurd (low_side (other (side_of x))
            (ap (λ (k : Key). k.code) (sym own ∙ e ∙ no_key y plain g)))
      ]
    ]

-- A response has the conversation of its request.
pub answer_key : (x y : Sent) → answers x y ≡ true
    → (is_numbered_response x ≡ true) × (conversation_key x ≡ conversation_key y)
answer_key x y h =
    let a = and_parts (is_request y) (is_response_to (side_of y) (seq_of y) x) h in
    let b = and_parts (is_response x && is_from (other (side_of y)) x)
    (is_number (request_seq_of x) (seq_of y)) a.1 in
    let c = and_parts (is_response x) (is_from (other (side_of y)) x) b.0 in
    let number : request_seq_of x ≡ Some (seq_of y) =
    number_is (request_seq_of x) (seq_of y) b.1 in
    let is : is_numbered_response x ≡ true =
    and_from (is_response x) (is_some (request_seq_of x)) c.0
    (ap (λ (o : Option ℤ). is_some o) number) in
    let side : other (side_of x) ≡ side_of y =
    ap other (sym (from_side (other (side_of y)) x c.1)) ∙ other_other (side_of y) in (
      is,
      numbered_key x is
          ∙ ap (λ (s : Side). key_with (side_code s) (request_seq_of x)) side
          ∙ ap (key_with (side_code (side_of y))) number ∙ sym (request_key y a.0),
    )

pub talk_key : (x y : Sent) → talk x y ≡ true
    → conversation_key x ≡ conversation_key y
talk_key x y h = elim (or_cases (answers x y) (answers y x) h) [
  | inl a ↦ (answer_key x y a).1
  | inr b ↦ sym (answer_key y x b).1
]

-- If one of two messages is a response to the other and the second is not a response, the first is.
pub talk_response : (x y : Sent) → talk x y ≡ true → is_numbered_response y ≡ false
    → is_numbered_response x ≡ true
talk_response x y h plain = elim (or_cases (answers x y) (answers y x) h) [
  | inl a ↦ (answer_key x y a).0
  | inr b ↦ absurd (both_ways (is_numbered_response y) plain (answer_key y x b).0)
]

pub response_key_is : (x : Sent) → is_numbered_response x ≡ true
    → response_key x ≡ conversation_key x
response_key_is x h = cond-true (is_numbered_response x) (conversation_key x) _ h

code_of : (y : Sent) → (conversation_key y).code ≡ 3 → ⊥
code_of y e = elim (cases_Bool (is_request y)) [
  | inl q ↦ no_side (side_of y) (sym (ap (λ (k : Key). k.code) (request_key y q)) ∙ e)
  | inr plain ↦ elim (cases_Bool (is_numbered_response y)) [
    | inl g ↦ no_side (other (side_of y)) (sym (ap (λ (k : Key). k.code) (numbered_key y g)) ∙ e)
    | inr g ↦ (
        let bad : 2 ≡ 3 = sym (ap (λ (k : Key). k.code) (no_key y plain g)) ∙ e in
        omega (arith, bad)
        )
  ]
]

-- A message found by the key of a response is a response.
pub response_found : (x y : Sent) → response_key x ≡ conversation_key y
    → (is_numbered_response x ≡ true) × (conversation_key x ≡ conversation_key y)
response_found x y e = elim (cases_Bool (is_numbered_response x)) [
  | inl h ↦ (h, sym (response_key_is x h) ∙ e)
  | inr f ↦ absurd (code_of y (sym (ap (λ (k : Key). k.code) e)
      ∙ ap (λ (k : Key). k.code) (cond-false (is_numbered_response x) (conversation_key x) _ f)))
]
