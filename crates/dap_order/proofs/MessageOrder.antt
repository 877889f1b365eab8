-- The classes of messages, and the requests of responses, satisfy the preconditions of the theory
-- of orders.
use Rattle.std.proofs.Common.{◌≡◌, true, false, ◌&&◌, ◌⊎◌, inl, inr, List, sym, ap, ◌∙◌}
use Rattle.std.proofs.Common.{refl, subst}
use Rattle.std.specs.declared.cmp.Ordering.{Ordering}
use Rattle.std.specs.declared.cmp.Ordering.TheVariants.{Less, Equal, Greater}
use Rattle.std.specs.Ordering.{is_eq, is_lt, ordering_reverse}
use Rattle.std.proofs.lemmas.Bool.{and_parts, both_ways, false_from_ne_true}
use Rattle.std.proofs.lemmas.Cmp.{tied_back, alike_right}
use Rattle.dap_tree.specs.declared.side.Side.{Side}
use Rattle.dap_tree.specs.declared.side.Side.TheVariants.{Client}
use Rattle.dap_message.specs.Message.{Sent}
use Rattle.dap_session.specs.Messages.{side_of, seq_of, request_seq_of, other, is_number}
use Rattle.dap_session.specs.Messages.{is_request, is_response, is_from, is_response_to}
use Rattle.dap_session.specs.Rules.{KeepsRules}
use Rattle.dap_session.proofs.Sides.{from_side, other_other}
use Rattle.dap_order.specs.Swaps.{Reordered}
use Rattle.dap_order.specs.Classes.{AreClasses}
use Rattle.dap_order.specs.Answers.{AreAnswers}
use Rattle.dap_order.specs.Labels.{AreLabels}
use Rattle.dap_order.proofs.Ordering.{less_by_itself, less_by_on}
use Rattle.dap_order.proofs.Answers.{are_answer_labels}
use Rattle.dap_order.proofs.Labels.{order_by_label_reordered, one_order_by_label}
use Rattle.dap_order.proofs.Labels.{reordered_from_order_by_label}
use Rattle.dap_order.proofs.Moves.{reordered_back}
use Rattle.dap_message.specs.SwapRules.{SwapRule}
use Rattle.dap_order.specs.Free.{free, class_cmp}
use Rattle.dap_order.specs.Free.{answers}
use Rattle.dap_order.specs.MessageOrder.{message_classes, message_answers, message_labels, ordered}
use Rattle.dap_order.proofs.ClassOrder.{class_total}
use Rattle.dap_order.proofs.Independence.{Apart, apart, free_both_ways, clients_alike}
use Rattle.dap_order.proofs.Independence.{responses_alike}
use Rattle.dap_order.proofs.Independence.{number_is}
use Rattle.dap_order.proofs.SwapsKeepRules.{reordered_keeps}

is_equal : (o : Ordering) → is_eq o ≡ true → o ≡ Equal
is_equal Less h = absurd (cc)
is_equal Equal h = refl
is_equal Greater h = absurd (cc)

either_less : (o p : Ordering) → o ≡ ordering_reverse p → is_eq o ≡ false
    → (is_lt o ≡ true) ⊎ (is_lt p ≡ true)
either_less Less p e h = inl refl
either_less Equal p e h = absurd (cc)
either_less Greater Less e h = inr refl
either_less Greater Equal e h = absurd (cc)
either_less Greater Greater e h = absurd (cc)

pub are_message_classes : (rules : List SwapRule) → AreClasses (message_classes rules)
are_message_classes rules = record {
  both_ways = free_both_ways rules;
  two_classes = λ x y f. (apart rules x y f).there.alike;
  same_back = λ a b h. ap is_eq (tied_back class_total a b (is_equal (class_cmp a b) h));
  same_on = λ a b c h g. ap is_eq (class_total.congr a b c (is_equal (class_cmp a b) h)) ∙ g;
  less_itself = less_by_itself class_cmp class_total;
  less_on = less_by_on class_cmp class_total;
  less_same = λ a b c h g.
      ap is_lt (sym (alike_right class_total b c a (is_equal (class_cmp b c) g))) ∙ h;
  same_less = λ a b c h g. ap is_lt (class_total.congr a b c (is_equal (class_cmp a b) h)) ∙ g;
  some_less = λ a b h.
      either_less (class_cmp a b) (class_cmp b a) (class_total.antisymm a b) h;
}

two_answers : (x y z : Sent) → answers x z ≡ true → answers y z ≡ true → Apart x y → ⊥
two_answers x y z h g a =
    let b = and_parts (is_request z) (is_response_to (side_of z) (seq_of z) x) h in
    let c = and_parts (is_response x && is_from (other (side_of z)) x)
    (is_number (request_seq_of x) (seq_of z)) b.1 in
    let d = and_parts (is_response x) (is_from (other (side_of z)) x) c.0 in
    let e = and_parts (is_request z) (is_response_to (side_of z) (seq_of z) y) g in
    let sides : side_of z ≡ other (side_of x) =
    sym (other_other (side_of z)) ∙ ap other (from_side (other (side_of z)) x d.1) in
    both_ways _ a.there.alike
    (responses_alike x y (seq_of z) d.0 (number_is (request_seq_of x) (seq_of z) c.1)
    (subst (λ (s : Side). is_response_to s (seq_of z) y ≡ true) sides e.1))

pub are_message_answers : (rules : List SwapRule) → AreAnswers (message_answers rules)
are_message_answers rules = record {
  are_classes = are_message_classes rules;
  not_free = λ x y h. false_from_ne_true (free rules x y) (λ f.
      both_ways (answers y x) (apart rules x y f).back.outcome
      (and_parts (is_from Client x) (answers y x) h).1);
  one_answered = λ m x y h g. false_from_ne_true (free rules x y) (λ f.
      both_ways _ (apart rules x y f).there.alike
      (clients_alike x y (and_parts (is_from Client x) (answers m x) h).0
      (and_parts (is_from Client y) (answers m y) g).0));
  one_answer = λ x y z f h g.
      two_answers x y z (and_parts (is_from Client z) (answers x z) h).1
      (and_parts (is_from Client z) (answers y z) g).1 (apart rules x y f);
}

pub are_message_labels : (rules : List SwapRule) → AreLabels (message_labels rules)
are_message_labels rules = are_answer_labels (message_answers rules) (are_message_answers rules)

pub to_ordered : (rules : List SwapRule) (ms : List Sent)
    → Reordered (free rules) ms (ordered rules ms)
unfolding ordered
to_ordered rules ms = order_by_label_reordered (message_labels rules) (are_message_labels rules) ms

pub one_ordered : (rules : List SwapRule) (ms ns : List Sent) → Reordered (free rules) ms ns
    → ordered rules ms ≡ ordered rules ns
unfolding ordered
one_ordered rules ms ns p =
    one_order_by_label (message_labels rules) (are_message_labels rules) ms ns p

pub from_ordered : (rules : List SwapRule) (ms ns : List Sent)
    → ordered rules ms ≡ ordered rules ns → Reordered (free rules) ms ns
unfolding ordered
from_ordered rules ms ns e =
    reordered_from_order_by_label (message_labels rules) (are_message_labels rules) ms ns e

pub ordered_keeps : (rules : List SwapRule) (ms : List Sent) → KeepsRules ms
    → KeepsRules (ordered rules ms)
ordered_keeps rules ms = reordered_keeps rules ms (ordered rules ms) (to_ordered rules ms)

pub keeps_ordered : (rules : List SwapRule) (ms : List Sent) → KeepsRules (ordered rules ms)
    → KeepsRules ms
keeps_ordered rules ms =
    reordered_keeps rules (ordered rules ms) ms
    (reordered_back (free rules) (free_both_ways rules) ms (ordered rules ms)
    (to_ordered rules ms))
