-- The order of free messages is not fixed.
use Rattle.std.proofs.Common.{◌≡◌, ℤ, Bool, true, false, cond, not, ◌&&◌, List, [], ◌∷◌, Option}
use Rattle.std.proofs.Common.{Some, None, inl, inr, sym, ap, ◌∙◌, refl, subst}
use Rattle.std.specs.Prelude.{◌||◌}
use Rattle.std.specs.List.{list_any}
use Rattle.std.specs.Ordering.{int_eq, is_eq}
use Rattle.std.proofs.lemmas.Bool.{and_from, and_parts, not-true, not-false, or_cases, or_left}
use Rattle.std.proofs.lemmas.Bool.{or_parts, or_right, and_left, cond-true}
use Rattle.std.proofs.lemmas.Bool.Decides.{Decides-int_eq}
use Rattle.std.proofs.lemmas.Cmp.{tied_itself}
use Rattle.dap_tree.specs.declared.side.Side.{Side}
use Rattle.dap_tree.specs.declared.side.Side.TheVariants.{Client, Adapter}
use Rattle.dap_tree.specs.Side.{same_side}
use Rattle.dap_tree.proofs.Sides.{same_side_decides}
use Rattle.dap_message.specs.Message.{Sent}
use Rattle.dap_session.specs.Messages.{side_of, seq_of, request_seq_of, other, is_number, is_event}
use Rattle.dap_session.specs.Messages.{is_request, is_response, is_from, is_request_of, is_output}
use Rattle.dap_session.specs.Messages.{is_response_to, is_client_initialize}
use Rattle.dap_session.proofs.Sides.{from_side, other_other, event_alone}
use Rattle.dap_session.proofs.RuleTests.{after_and}
use Rattle.dap_order.specs.Swaps.{BothWays}
use Rattle.dap_message.specs.SwapRules.{SwapRule}
use Rattle.dap_order.specs.Free.{names_both, fits_half, class_of, class_cmp, of_client}
use Rattle.dap_order.specs.Free.{to_number, of_one_class, answers, initializes, depends, free}
use Rattle.dap_order.specs.Free.{allows_configuration, ends_requests, is_initialize_response}
use Rattle.dap_order.proofs.ClassOrder.{class_total}

-- The order of x and y is not fixed.
pub record NotDependent (x y : Sent) : Type 0 where
  pub alike : of_one_class x y ≡ false
  pub outcome : answers x y ≡ false
  pub initialize : initializes x y ≡ false
  pub configuration : allows_configuration x y ≡ false
  pub farewell : ends_requests x y ≡ false

-- It is not fixed in either direction.
pub record Apart (x y : Sent) : Type 0 where
  pub there : NotDependent x y
  pub back : NotDependent y x

pub turned : (x y : Sent) → Apart x y → Apart y x
turned x y a = record { there = a.back; back = a.there }

not_dependent : (x y : Sent) → depends x y ≡ false → NotDependent x y
not_dependent x y h =
    let a = or_parts (of_one_class x y) (answers x y
    || (initializes x y || (allows_configuration x y || ends_requests x y))) h in
    let b = or_parts (answers x y) (initializes x y
    || (allows_configuration x y || ends_requests x y)) a.1 in
    let c = or_parts (initializes x y) (allows_configuration x y || ends_requests x y) b.1 in
    let d = or_parts (allows_configuration x y) (ends_requests x y) c.1 in
    record {
      alike = a.0;
      outcome = b.0;
      initialize = c.0;
      configuration = d.0;
      farewell = d.1;
    }

pub apart : (rules : List SwapRule) (x y : Sent) → free rules x y ≡ true → Apart x y
unfolding free
apart rules x y f =
    let a = and_parts (list_any (λ r. names_both r x y) rules)
    (not (depends x y) && not (depends y x)) f in
    let b = and_parts (not (depends x y)) (not (depends y x)) a.1 in
    record {
      there = not_dependent x y (not-true (depends x y) b.0);
      back = not_dependent y x (not-true (depends y x) b.1);
    }

-- ---- symmetry

either_or : (a b : Bool) → (a || b) ≡ true → (b || a) ≡ true
either_or true true h = refl
either_or true false h = refl
either_or false true h = refl
either_or false false h = absurd (cc)

names_turned : (rules : List SwapRule) (x y : Sent)
    → list_any (λ r. names_both r x y) rules ≡ true
    → list_any (λ r. names_both r y x) rules ≡ true
names_turned [] x y h = absurd (cc)
names_turned (r ∷ rs) x y h =
    elim (or_cases (names_both r x y) (list_any (λ s. names_both s x y) rs) h) [
      | inl e ↦ or_left (names_both r y x) _
          (either_or (fits_half r.one x && fits_half r.another y)
          (fits_half r.one y && fits_half r.another x) e)
      | inr e ↦ or_right (names_both r y x) _ (names_turned rs x y e)
    ]

pub free_both_ways : (rules : List SwapRule) → BothWays (free rules)
unfolding free
free_both_ways rules x y f =
    let a = and_parts (list_any (λ r. names_both r x y) rules)
    (not (depends x y) && not (depends y x)) f in
    let b = and_parts (not (depends x y)) (not (depends y x)) a.1 in
    and_from (list_any (λ r. names_both r y x) rules) (not (depends y x) && not (depends x y))
    (names_turned rules x y a.0) (and_from (not (depends y x)) (not (depends x y)) b.1 b.0)

-- ---- fixed orders

-- Only an `output` event can be swapped with the client's `initialize` request or the response to
-- it.
pub next_to_initialize : (x y : Sent) → Apart x y
    → (is_client_initialize x || is_initialize_response x) ≡ true → is_output y ≡ true
next_to_initialize x y a h =
    not-false (is_output y)
    (after_and (is_client_initialize x || is_initialize_response x) (not (is_output y)) h
    a.there.initialize)

output_event : (a b c : Bool) → a && b && c ≡ true → b ≡ true
output_event true true c h = refl
output_event true false c h = absurd (cc)
output_event false b c h = absurd (cc)

-- Therefore a response cannot.
pub no_answer_next_to : (x y : Sent) (n : ℤ) → Apart x y → is_client_initialize x ≡ true
    → is_response_to Client n y ≡ false
no_answer_next_to x y n a h =
    let quiet = next_to_initialize x y a
    (or_left (is_client_initialize x) (is_initialize_response x) h) in
    let none = (event_alone y (output_event (is_from Adapter y) (is_event y) _ quiet)).1 in
    and_left (is_response y && is_from (other Client) y) (is_number (request_seq_of y) n)
    (and_left (is_response y) (is_from (other Client) y) none)

pub one_class_alike : (x y : Sent) → class_of x ≡ class_of y → of_one_class x y ≡ true
one_class_alike x y e =
    ap (λ c. is_eq (class_cmp (class_of x) c)) (sym e)
    ∙ ap is_eq (tied_itself class_total (class_of x))

pub client_class : (m : Sent) → is_from Client m ≡ true → class_of m ≡ of_client
client_class m h = cond-true (is_from Client m) of_client _ h

-- Messages of the client keep their order.
pub clients_alike : (x y : Sent) → is_from Client x ≡ true → is_from Client y ≡ true
    → of_one_class x y ≡ true
clients_alike x y h g = one_class_alike x y (client_class x h ∙ sym (client_class y g))

pub number_is : (o : Option ℤ) (n : ℤ) → is_number o n ≡ true → o ≡ Some n
number_is None n h = absurd (cc)
number_is (Some k) n h = ap (λ x. Some x) ((Decides-int_eq k n).0 h)

response_class : (m : Sent) → is_response m ≡ true
    → class_of m ≡ cond (is_from Client m) of_client (to_number (request_seq_of m))
response_class m h =
    ap (λ c. cond (is_from Client m) of_client c)
    (cond-true (is_response m) (to_number (request_seq_of m)) _ h)

-- Two responses of one side to one number keep their order.
pub responses_alike : (x y : Sent) (n : ℤ) → is_response x ≡ true → request_seq_of x ≡ Some n
    → is_response_to (other (side_of x)) n y ≡ true → of_one_class x y ≡ true
responses_alike x y n h e g =
    let a = and_parts (is_response y && is_from (other (other (side_of x))) y)
    (is_number (request_seq_of y) n) g in
    let b = and_parts (is_response y) (is_from (other (other (side_of x))) y) a.0 in
    let one_side : side_of x ≡ side_of y =
    sym (other_other (side_of x)) ∙ from_side (other (other (side_of x))) y b.1 in
    let one_number : request_seq_of x ≡ request_seq_of y =
    e ∙ sym (number_is (request_seq_of y) n a.1) in
    one_class_alike x y
    (response_class x h
    ∙ ap (λ (s : Side). cond (same_side Client s) of_client (to_number (request_seq_of x))) one_side
    ∙ ap (λ (o : Option ℤ). cond (is_from Client y) of_client (to_number o))
    one_number ∙ sym (response_class y b.0))

-- A response and its request keep their order.
pub answers_request : (x y : Sent) (n : ℤ) → is_response x ≡ true → request_seq_of x ≡ Some n
    → is_request_of (other (side_of x)) n y ≡ true → answers x y ≡ true
answers_request x y n h e g =
    let a = and_parts (is_request y && is_from (other (side_of x)) y) (int_eq n (seq_of y)) g in
    let b = and_parts (is_request y) (is_from (other (side_of x)) y) a.0 in
    let sides : other (side_of y) ≡ side_of x =
    ap other (sym (from_side (other (side_of x)) y b.1)) ∙ other_other (side_of x) in
    and_from (is_request y) (is_response_to (side_of y) (seq_of y) x) b.0
    (and_from (is_response x && is_from (other (side_of y)) x)
    (is_number (request_seq_of x) (seq_of y))
    (and_from (is_response x) (is_from (other (side_of y)) x) h
    ((same_side_decides (other (side_of y)) (side_of x)).1 sides))
    (subst (λ (o : Option ℤ). is_number o (seq_of y) ≡ true) (sym e) a.1))
