-- The laws of ordered recordings, from those of ordered messages and of normal forms.
use Rattle.std.proofs.Common.{◌≡◌, ◌↔◌, ℕ, List, sym, ◌∙◌, ap}
use Rattle.std.proofs.Common.{subst}
use Rattle.dap_message.specs.Message.{Sent}
use Rattle.dap_recording.proofs.Records.{readable}
use Rattle.dap_rename.specs.Messages.{AreSame, no_stop}
use Rattle.dap_rename.specs.Modes.{stop_in}
use Rattle.dap_rename.specs.declared.mode.Mode.{Mode}
use Rattle.dap_rename.specs.declared.mode.Mode.TheVariants.{Whole}
use Rattle.dap_session.specs.Rules.{open_requests}
use Rattle.dap_input.specs.declared.limits.Limits.{Limits}
use Rattle.dap_input.proofs.Outcomes.{one_list}
use Rattle.dap_normalise.specs.Accepting.{Fits, IsAccepted, accepting, text}
use Rattle.dap_normalise.proofs.AcceptingFacts.{accepted_facts, value_laws}
use Rattle.dap_normalise.proofs.NormalFormLaws.{equal_texts_tell, numbered}
use Rattle.dap_order.specs.MessageOrder.{ordered}
use Rattle.dap_order.proofs.MessageOrder.{to_ordered}
use Rattle.dap_order.proofs.SameMessages.{same_orders, from_same_orders}
use Rattle.dap_order.proofs.SwapsKeepRules.{reordered_open}
use Rattle.dap_order.proofs.FirstAndParts.{ordered_again}
use Rattle.dap_rules.specs.OrderLaws.{EqualOrderedTexts, EqualTextsInOrder, OneOrderedText}
use Rattle.dap_rules.specs.OrderLaws.{OrderedIsAccepted, OrderedKeepsOpen, OrderedStandsStill}

-- An accepted recording has one list of messages.
pub one_accepted : (limits : Limits) (mode : Mode) (bytes : List ℕ) (ms ns : List Sent)
    → IsAccepted limits mode bytes ms → IsAccepted limits mode bytes ns → ms ≡ ns
one_accepted limits mode =
    one_list (accepting limits mode) (readable limits.frame) (value_laws limits mode)
    (accepted_facts limits mode)

pub one_ordered_text : OneOrderedText
one_ordered_text limits mode rules bytes written other a b =
    a.text_is
    ∙ ap (λ ms. text (ordered rules ms))
    (one_accepted limits mode bytes a.messages b.messages a.accepts b.accepts)
    ∙ sym b.text_is

pub ordered_is_accepted : OrderedIsAccepted
ordered_is_accepted limits mode rules bytes written a =
    (ordered rules a.messages, a.accepted, to_ordered rules a.messages)

pub ordered_keeps_open : OrderedKeepsOpen
ordered_keeps_open limits mode rules side bytes written messages others a first second =
    let ns = ordered rules a.messages in
    ap (open_requests side) (one_accepted limits mode bytes messages a.messages first a.accepts)
    ∙ reordered_open rules side a.messages ns (to_ordered rules a.messages)
    ∙ ap (open_requests side) (one_accepted limits mode written ns others a.accepted second)

pub ordered_stands_still : OrderedStandsStill
ordered_stands_still limits mode rules bytes written a =
    let again = sym (ordered_again rules a.messages) in
    record {
      messages = ordered rules a.messages;
      accepts = a.accepted;
      text_is = a.text_is ∙ ap text again;
      fits = subst (Fits limits) again a.fits;
      accepted = subst (IsAccepted limits mode written) again a.accepted;
    }

pub equal_texts_in_order : EqualTextsInOrder
equal_texts_in_order limits mode sound rules bytes others written other normal also a b n k =
    let ms = ordered rules a.messages in
    let ns = ordered rules b.messages in
    let one : n.messages ≡ ms =
    one_accepted limits mode written n.messages ms n.accepts a.accepted in
    let two : k.messages ≡ ns =
    one_accepted limits mode other k.messages ns k.accepts b.accepted in
    subst (λ zs. (normal ≡ also) ↔ AreSame (stop_in mode) zs ns) one
    (subst (λ zs. (normal ≡ also) ↔ AreSame (stop_in mode) n.messages zs) two
    (equal_texts_tell limits mode sound written other normal also n k))

pub equal_ordered_texts : EqualOrderedTexts
equal_ordered_texts limits sound rules bytes others written other normal also a b n k =
    let ms = a.messages in
    let tells : (normal ≡ also) ↔ AreSame no_stop (ordered rules ms) (ordered rules b.messages) =
    equal_texts_in_order limits Whole sound rules bytes others written other normal also a b n k in
    let is = numbered a.accepts.records ms a.accepts.typed in (
      (λ same. from_same_orders rules ms b.messages is (tells.0 same)),
      (λ same. tells.1 (same_orders rules ms b.messages is a.accepts.rules same)),
    )
