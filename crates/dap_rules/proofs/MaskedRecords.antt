-- Masking one record after others: its output is appended, or the record is rejected.
use Rattle.std.proofs.Common.{◌≡◌, ◌⊎◌, inl, inr, ℕ, ◌+◌, ◌<◌, ◌≤◌, List, [], ◌∷◌}
use Rattle.std.proofs.Common.{◌++◌, length, Ok, Err, refl, sym, ◌∙◌, ap, subst, arith, append-nil}
use Rattle.std.proofs.Common.{length-append, None, Some, Result}
use Rattle.std.proofs.lemmas.Bool.{true≢false}
use Rattle.std.specs.List.{AllByRecursion}
use Rattle.dap_tree.specs.Doc.{Doc}
use Rattle.dap_tree.specs.Json.{text_of}
use Rattle.dap_message.specs.Message.{Sent}
use Rattle.dap_input.specs.declared.limits.Limits.{Limits}
use Rattle.dap_input.specs.declared.refused.Refused.{Refused}
use Rattle.dap_input.specs.declared.refused.Refused.TheVariants.{Fraction, Grew, Memory}
use Rattle.dap_input.specs.Refusals.{RejectsPayload}
use Rattle.dap_normalise.specs.{Accepting.{Payload, Fits, text}, JudgingSteps.record_of}
use Rattle.dap_normalise.specs.JudgingSteps.{Writes as WritesRecord}
use Rattle.dap_rename.proofs.Lists.{each-append, each_right}
use Rattle.dap_mask.specs.Loose.{IsLeftOf, LeavesFraction}
use Rattle.dap_mask.specs.Mask.{Mask}
use Rattle.dap_rules.specs.Masking.{AreWhole, IsNext, Rejects, left_of, masked_text}
use Rattle.dap_rules.specs.RewritingSteps.{Rewritten}
use Rattle.dap_rules.specs.declared.passes.Pass.TheVariants.{Mask as MaskPass}
use Rattle.dap_naming.specs.declared.value_numbers.ValueNumbers.{ValueNumbers}
use Rattle.dap_rules.proofs.LeftLists.{left-append, left_none, left_one, masked_text-append}

module _ (limits : Limits) (mask : Mask) (messages : List Sent) (held : Payload) (n written : ℕ)
    (fits : Fits limits (left_of mask messages))
    (count : written ≡ length (masked_text mask messages)) where
  -- An event that the rules drop leaves no message.
  pub none_left : IsLeftOf mask held.1 None
      → (m : Sent) × IsNext limits mask messages held m
      × (left_of mask (messages ++ m ∷ []) ≡ left_of mask messages)
  none_left (d, read, dropped) =
      let m : Sent = record { side = held.0; doc = d } in
      let none = left_none mask m dropped in
      let same : left_of mask (messages ++ m ∷ []) ≡ left_of mask messages =
      left-append mask messages (m ∷ []) ∙ ap (λ ms. left_of mask messages ++ ms) none
      ∙ append-nil (left_of mask messages) in (
        m,
        record {
          is_message = (refl, read);
          whole = subst AreWhole (sym none) tt;
          fits = subst (Fits limits) (sym same) fits;
        },
        same,
      )

  pub left_out : (out : List ℕ) (numbers : ValueNumbers) → IsLeftOf mask held.1 None
      → Rewritten MaskPass limits mask messages held n out out numbers (Ok written)
  left_out out numbers is =
      let left = none_left is in
      record {
        message = left.0;
        is_next = left.1;
        longer = [];
        appended = sym (append-nil out);
        text_is = ap text left.2 ∙ sym (append-nil (masked_text mask messages));
        count = count ∙ ap (λ ms. length (text ms)) (sym left.2);
        numbered = tt;
      }

  -- A number that is not an integer of 64 bits remains after masking.
  pub fraction_left : LeavesFraction mask held.1
      → RejectsPayload (Rejects limits mask messages held) n (Fraction n)
  fraction_left (d, read, (stays, not_sound)) =
      let m : Sent = record { side = held.0; doc = d } in (
        refl,
        (
          m,
          (refl, read),
          λ whole. true≢false (sym (subst AreWhole (left_one mask m stays) whole).0 ∙ not_sound),
        ),
      )

  -- The masked message is written.
  module _ (e : Doc) (is : IsLeftOf mask held.1 (Some e)) where
    abbrev pub message : Sent
    message = record { side = held.0; doc = is.0 }

    abbrev pub left : Sent
    left = record { side = held.0; doc = e }

    left_is : left_of mask (message ∷ []) ≡ left ∷ []
    left_is = left_one mask message is.2.0
        ∙ ap (λ d. record { side = held.0; doc = d } ∷ []) (sym is.2.1)

    abbrev record_is : List ℕ
    record_is = record_of left

    pub all_left : left_of mask (messages ++ message ∷ [])
        ≡ left_of mask messages ++ left ∷ []
    all_left = left-append mask messages (message ∷ [])
        ∙ ap (λ ms. left_of mask messages ++ ms) left_is

    text_is : masked_text mask (messages ++ message ∷ []) ≡ masked_text mask messages ++ record_is
    text_is = masked_text-append mask messages (message ∷ [])
        ∙ ap (λ ms. masked_text mask messages ++ text ms) left_is
        ∙ ap (λ t. masked_text mask messages ++ t) (append-nil record_is)

    whole : AreWhole (left_of mask (message ∷ []))
    whole = subst AreWhole (sym left_is) (is.2.2, tt)

    next_length : length (masked_text mask (messages ++ message ∷ [])) ≡ written + length record_is
    next_length =
        omega (arith, count, ap length text_is, length-append (masked_text mask messages) record_is)

    grown : (limits.frame.content < length (text_of e))
        ⊎ (limits.input < written + length record_is)
        → Fits limits (left_of mask (messages ++ message ∷ [])) → ⊥
    grown (inl content) next =
        let all = (subst (Fits limits) all_left next).each in
        let last = each_right (λ (m : Sent). length (text_of m.doc) ≤ limits.frame.content)
        (left_of mask messages) (left ∷ []) all in
        let short : length (text_of e) ≤ limits.frame.content = last.0 in
        omega (arith, content, short)
    grown (inr long) next = let most = next.whole in omega (arith, long, most, next_length)

    pub not_written : (because : Refused) (old new : List ℕ)
        → WritesRecord limits left n written old new (Err because)
        → RejectsPayload (Rejects limits mask messages held) n because
    not_written (Grew k) old new reported = (
      reported.0,
      (message, (refl, is.1), whole, grown reported.1),
    )
    not_written Memory old new reported = tt
    not_written because old new reported = absurd reported

    -- The message is the next one, and the masked text has its record.
    pub next_left : (old new : List ℕ) (after : ℕ)
        → WritesRecord limits left n written old new (Ok after)
        → IsNext limits mask messages held message
        × (after ≡ length (masked_text mask (messages ++ message ∷ [])))
    next_left old new after (content, appended, long, most) = (
      record {
        is_message = (refl, is.1);
        whole = whole;
        fits = record {
          each = subst (AllByRecursion (λ (m : Sent). length (text_of m.doc)
              ≤ limits.frame.content)) (sym all_left)
              (each-append (λ (m : Sent). length (text_of m.doc) ≤ limits.frame.content)
              (left_of mask messages) (record { side = held.0; doc = e } ∷ []) fits.each
              (content, tt));
          whole = omega (arith, next_length, long, most);
        };
      },
      long ∙ sym next_length,
    )

    written_on : (old new : List ℕ) (numbers : ValueNumbers) (after : ℕ)
        → WritesRecord limits left n written old new (Ok after)
        → Rewritten MaskPass limits mask messages held n old new numbers (Ok after)
    written_on old new numbers after writes =
        let next = next_left old new after writes in
        record {
          message = message;
          is_next = next.0;
          longer = record_is;
          appended = writes.1;
          text_is = text_is;
          count = next.1;
          numbered = tt;
        }

    pub recorded : (old new : List ℕ) (numbers : ValueNumbers) (result : Result ℕ Refused)
        → WritesRecord limits left n written old new result
        → Rewritten MaskPass limits mask messages held n old new numbers result
    recorded old new numbers (Ok after) writes = written_on old new numbers after writes
    recorded old new numbers (Err because) writes = not_written because old new writes
