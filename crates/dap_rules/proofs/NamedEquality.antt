-- When two recordings that are ordered, named and then normalised have equal texts.
use Rattle.std.proofs.Common.{◌≡◌, ◌↔◌, ℕ, List, subst}
use Rattle.dap_message.specs.{Message.Sent}
use Rattle.dap_naming.specs.Sessions.{named_sents}
use Rattle.dap_recording.proofs.Records.{readable}
use Rattle.dap_rename.specs.{Messages.{AreSame}, Modes.stop_in}
use Rattle.dap_rename.specs.declared.mode.Mode.{Mode}
use Rattle.dap_rename.specs.declared.mode.Mode.TheVariants.{Whole}
use Rattle.dap_input.specs.{Limits.AreSound, declared.limits.Limits.Limits}
use Rattle.dap_input.proofs.Outcomes.{one_list}
use Rattle.dap_normalise.specs.{Accepting.{IsAccepted, accepting}, Normalising.Normalises}
use Rattle.dap_normalise.proofs.AcceptingFacts.{accepted_facts, value_laws}
use Rattle.dap_normalise.proofs.NormalFormLaws.{equal_texts_tell, numbered}
use Rattle.dap_order.specs.{Free.free, MessageOrder.ordered}
use Rattle.dap_order.proofs.MessageOrder.{to_ordered}
use Rattle.dap_rules.specs.NamedSessions.{EqualNamedTexts}
use Rattle.dap_rules.specs.NamedSessions.{EqualNamedTextsInEachMode}
use Rattle.dap_rules.proofs.NamedCounts.{countable_reordered}
use Rattle.dap_rules.proofs.NamedOrdered.{equal_named_orders}
use Rattle.dap_rules.proofs.NamedSameness.{equal_names_and_ids}

module _ (limits : Limits) (mode : Mode) where
  one_accepted : (bytes : List ℕ) (ms ns : List Sent) → IsAccepted limits mode bytes ms
      → IsAccepted limits mode bytes ns → ms ≡ ns
  one_accepted =
      one_list (accepting limits mode) (readable limits.frame) (value_laws limits mode)
      (accepted_facts limits mode)

  -- the normal texts are equal if and only if the messages are the same
  texts_tell : AreSound limits → (written other normal also : List ℕ) (us vs : List Sent)
      → IsAccepted limits mode written us → IsAccepted limits mode other vs
      → Normalises limits mode written normal → Normalises limits mode other also
      → (normal ≡ also) ↔ AreSame (stop_in mode) us vs
  texts_tell sound written other normal also us vs a b n k =
      let one : n.messages ≡ us = one_accepted written n.messages us n.accepts a in
      let two : k.messages ≡ vs = one_accepted other k.messages vs k.accepts b in
      subst (λ zs. (normal ≡ also) ↔ AreSame (stop_in mode) zs vs) one
      (subst (λ zs. (normal ≡ also) ↔ AreSame (stop_in mode) n.messages zs) two
      (equal_texts_tell limits mode sound written other normal also n k))

pub equal_named_texts_in_each_mode : EqualNamedTextsInEachMode
equal_named_texts_in_each_mode limits mode sound rules xs written other normal also ms ns h c e a b
    n k =
    let us = ordered rules ms in
    let vs = ordered rules ns in
    let tell = texts_tell limits mode sound written other normal also (named_sents xs us)
    (named_sents xs vs) a b n k in
    let law = equal_names_and_ids mode xs us vs h
    (countable_reordered (free rules) xs ms us (to_ordered rules ms) c)
    (countable_reordered (free rules) xs ns vs (to_ordered rules ns) e) in
    ((λ s. law.0 (tell.0 s)), (λ w. tell.1 (law.1 w)))

pub equal_named_texts : EqualNamedTexts
equal_named_texts limits sound rules xs bytes written other normal also ms ns h accepted c e a b n
    k =
    let tell = texts_tell limits Whole sound written other normal also
    (named_sents xs (ordered rules ms)) (named_sents xs (ordered rules ns)) a b n k in
    let law = equal_named_orders rules xs ms ns h
    (numbered accepted.records ms accepted.typed) accepted.rules c e in
    ((λ s. law.0 (tell.0 s)), (λ w. tell.1 (law.1 w)))
