-- The result of ordering bytes in memory and of ordering an input.
use Rattle.std.proofs.Common.{◌≡◌, inl, inr, ℕ, ◌+◌, List, length, Err}
use Rattle.std.proofs.Common.{refl, sym, ◌∙◌, ap, subst, arith, length-append}
use Rattle.dap_message.specs.Message.{Sent}
use Rattle.dap_recording.specs.declared.record_fault.RecordCause.TheVariants.{Cut}
use Rattle.dap_rename.specs.declared.mode.Mode.{Mode}
use Rattle.dap_message.specs.SwapRules.{SwapRule}
use Rattle.dap_input.specs.{Limits.AreSound, Refusals.IsRefused}
use Rattle.dap_input.specs.declared.limits.Limits.{Limits}
use Rattle.dap_input.specs.declared.refused.Refused.{Refused}
use Rattle.dap_input.specs.declared.refused.Refused.TheVariants.{Grew, Memory, ReadFault, Record}
use Rattle.dap_input.specs.declared.refused.Refused.TheVariants.{WriteFault}
use Rattle.dap_normalise.specs.Accepting.{IsAccepted, accepting, text}
use Rattle.dap_normalise.specs.Normalising.{RefusesBytes}
use Rattle.dap_normalise.specs.RecordTexts.{Contain, contents_of}
use Rattle.dap_recording.specs.Recording.{recording_text}
use Rattle.dap_normalise.proofs.RecordTexts.{own_contents, recorded_contents}
use Rattle.dap_order.specs.MessageOrder.{ordered}
use Rattle.dap_rules.specs.Ordering.{IsNotOrdered, Orders, RefusesToOrder}
use Rattle.dap_rules.specs.OrderingSteps.{Arranges, AreWithin, Measures}
use Rattle.dap_rules.proofs.{InputTexts.{IsBounded, Refuses}, OrderedTexts.one_accepted}
use Rattle.dap_rules.proofs.TextErrors.{text_error}
use Rattle.dap_rules.proofs.WrittenTexts.{ordered_own}

module _ (limits : Limits) (mode : Mode) (rules : List SwapRule) (bytes : List ℕ) where
  -- ---- bytes in memory

  pub recording_refused : (because : Refused) → RefusesBytes limits mode bytes because
      → RefusesToOrder limits mode rules bytes because
  recording_refused Memory is = tt
  recording_refused because is = inl is

  module _ (ms : List Sent) (accepted : IsAccepted limits mode bytes ms) where
    pub not_counted : (because : Refused) → Measures limits (ordered rules ms) (Err because)
        → RefusesToOrder limits mode rules bytes because
    not_counted (Grew n) is = inr (ms, accepted, inl (n, refl, is))
    not_counted Memory is = tt
    not_counted because is = absurd is

    -- These are the messages in order, and their text is within the limits.
    module _ (sound : AreSound limits) (all : List Sent)
        (within : AreWithin limits (ordered rules ms) all) where
      -- The records of their own contents.
      abbrev own : List ℕ
      own = recording_text (contents_of all)

      own_text : own ≡ text (ordered rules ms)
      own_text = recorded_contents all ∙ ap text within.same

      pub own_records : Contain limits all (contents_of all)
      own_records =
          subst (λ (ns : List Sent). Contain limits ns (contents_of ns)) (sym within.same)
          (own_contents limits (ordered rules ms) within.fits
          (ordered_own rules ms accepted.records accepted.typed))

      pub orders : IsAccepted limits mode own all → Orders limits mode rules bytes own
      orders is = record {
        messages = ms;
        accepts = accepted;
        text_is = own_text;
        fits = within.fits;
        accepted = subst (IsAccepted limits mode own) within.same is;
      }

      text_refused : (because : Refused)
          → RefusesBytes limits mode (text (ordered rules ms)) because
          → RefusesToOrder limits mode rules bytes because
      text_refused Memory is = tt
      text_refused because is =
          let error = text_error limits mode sound rules bytes ms accepted within.fits because is in
          inr (ms, accepted, inr (within.fits, is, error))

      pub own_refused : (because : Refused) → RefusesBytes limits mode own because
          → RefusesToOrder limits mode rules bytes because
      own_refused because is =
          text_refused because (subst (λ t. RefusesBytes limits mode t because) own_text is)

  -- The messages of the text in order, and their text.
  module _ (messages : List Sent) (is : Arranges limits mode rules bytes messages) where
    arranged_are : messages ≡ ordered rules is.1.messages
    arranged_are =
        one_accepted limits mode is.0 messages (ordered rules is.1.messages) is.2 is.1.accepted

    pub arranged_text : (written : List ℕ) → written ≡ text messages
        → Orders limits mode rules bytes written
    arranged_text written same =
        subst (Orders limits mode rules bytes) (is.1.text_is ∙ sym (same ∙ ap text arranged_are))
        is.1

    pub not_written : (because : Refused) → Measures limits messages (Err because)
        → RefusesToOrder limits mode rules bytes because
    not_written because long =
        not_counted is.1.messages is.1.accepts because
        (subst (λ (all : List Sent). Measures limits all (Err because)) arranged_are long)

  -- ---- the bytes of an input

  not_a_device : (because : Refused)
      → (IsRefused (accepting limits mode) bytes because → ⊥)
      → ((all : List ℕ) → IsRefused (accepting limits mode) all because → ⊥)
      → ((n : ℕ) → because ≡ Grew n → ⊥) → IsNotOrdered limits mode rules bytes because → ⊥
  not_a_device because first later other (inl is) = first is
  not_a_device because first later other (inr (ms, accepted, inl (n, same, passes))) =
      other n same
  not_a_device because first later other (inr (ms, accepted, inr (fits, is, error))) =
      later (text (ordered rules ms)) is

  -- An input that exceeds its limit is not incomplete.
  not_cut : (n : ℕ) → IsNotOrdered limits mode rules bytes (Record n Cut)
      → length bytes ≡ limits.input + 1 → ⊥
  not_cut n (inl first) long =
      let within = first.refuses.in_time in
      omega (arith, long, within, ap length first.split, length-append first.front first.rest)
  not_cut n (inr (ms, accepted, is)) long =
      let short = accepted.short in omega (arith, long, short)

  pub bounded : IsBounded limits.input (Orders limits mode rules) (IsNotOrdered limits mode rules)
      bytes
  bounded = record {
    short = λ written orders. orders.accepts.short;
    not_cut = not_cut;
    no_read_fault = not_a_device ReadFault (λ h. h) (λ all h. h)
        (λ n e. absurd (let same = e in cc));
    no_write_fault = not_a_device WriteFault (λ h. h) (λ all h. h)
        (λ n e. absurd (let same = e in cc));
  }

  pub refused_order : (because : Refused) → RefusesToOrder limits mode rules bytes because
      → Refuses limits.input (Orders limits mode rules) (IsNotOrdered limits mode rules) bytes
      because
  refused_order Memory is = tt
  refused_order because is = is
