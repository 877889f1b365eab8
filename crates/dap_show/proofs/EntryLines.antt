-- The lines of entries, the messages that obey the rules among them, and their first rejection,
-- after one more entry.
use Rattle.std.proofs.Common.{◌≡◌, ◌≢◌, ℕ, ◌+◌, ◌<◌, Bool, true, false, List, [], ◌∷◌, ◌++◌}
use Rattle.std.proofs.Common.{length, inl, inr, Option, Some, None, refl, sym, ◌∙◌, ap, subst}
use Rattle.std.proofs.Common.{arith, append_assoc, append-nil, length-append}
use Rattle.std.proofs.lemmas.Bool.Decides.{nat_tests}
use Rattle.std.proofs.lemmas.List.Concat.{flat_map-append}
use Rattle.std.specs.Option.{option_or}
use Rattle.dap_message.specs.Message.{Refusal, no_reading, fraction, faulty}
use Rattle.dap_recording.specs.declared.record_fault.RecordCause.TheVariants as cause
use Rattle.dap_input.specs.Refusals.{RejectsPayload}
use Rattle.dap_input.specs.Validation.{ContentError, broken, grew, no_message, too_many_ids}
use Rattle.dap_input.specs.declared.refused.Refused.{Refused}
use Rattle.dap_input.specs.declared.refused.Refused.TheVariants as because
use Rattle.dap_message.specs.Message.{HasRefusal, Sent}
use Rattle.dap_normalise.specs.Accepting.{Payload, HoldsNoMessage, IsMessage}
use Rattle.dap_show.specs.Showing.{start_words}
use Rattle.dap_session.specs.SessionState.{SessionState}
use Rattle.dap_session.specs.declared.rule.Rule.{Rule}
use Rattle.dap_tree.specs.Doc.{Doc}
use Rattle.dap_tree.specs.Json.{IsRead}
use Rattle.dap_show.specs.Viewing.{Entry, Fits, Rejects, entry_lines, first_refusal, fits_in, kept}
use Rattle.dap_show.specs.Viewing.{IsEntry, detail_lines, fault_words, head_lines, kept_of}
use Rattle.dap_show.specs.Viewing.{lines_of, refusal_at, refusal_of}
use Rattle.dap_show.specs.Viewing.{rule_refusal, typed, untyped}
use Rattle.dap_show.specs.Leaves.{Lengthens, leaf_lines}
use Rattle.dap_show.specs.ViewingSteps.{AreDetail, IsEntered, IsJudged, StandsIf}
use Rattle.dap_show.specs.declared.detail.Detail.{Detail}
use Rattle.dap_show.specs.declared.detail.Detail.TheVariants.{Lists, Leaves}
use Rattle.dap_show.specs.declared.detail.View.{View}

pub lines_push : (detail : Detail) (n k : ℕ) (entries : List Entry) (e : Entry)
    → k ≡ length entries + n
    → lines_of detail n (entries ++ e ∷ []) ≡ lines_of detail n entries ++ entry_lines detail k e
lines_push detail n k [] e is =
    let same : n ≡ k = omega (arith, is) in
    append-nil (entry_lines detail n e) ∙ ap (λ i. entry_lines detail i e) same
lines_push detail n k (first ∷ entries) e is =
    let later = lines_push detail (n + 1) k entries e (omega (arith, is)) in
    ap (λ t. entry_lines detail n first ++ t) later
    ∙ sym (append_assoc (entry_lines detail n first) (lines_of detail (n + 1) entries)
    (entry_lines detail k e))

or_none : (o : Option Refused) → option_or o None ≡ o
or_none None = refl
or_none (Some refused) = refl

or_assoc : (o p q : Option Refused) → option_or o (option_or p q) ≡ option_or (option_or o p) q
or_assoc None p q = refl
or_assoc (Some refused) p q = refl

pub refusal_push : (n k : ℕ) (entries : List Entry) (e : Entry) → k ≡ length entries + n
    → first_refusal n (entries ++ e ∷ []) ≡ option_or (first_refusal n entries) (refusal_at k e)
refusal_push n k [] e is =
    let same : n ≡ k = omega (arith, is) in
    or_none (refusal_at n e) ∙ ap (λ i. refusal_at i e) same
refusal_push n k (first ∷ entries) e is =
    ap (option_or (refusal_at n first)) (refusal_push (n + 1) k entries e (omega (arith, is)))
    ∙ or_assoc (refusal_at n first) (first_refusal (n + 1) entries) (refusal_at k e)

pub kept_push : (entries : List Entry) (e : Entry)
    → kept (entries ++ e ∷ []) ≡ kept entries ++ kept_of e
kept_push entries e =
    flat_map-append kept_of entries (e ∷ []) ∙ ap (λ t. kept entries ++ t) (append-nil (kept_of e))

-- ---- the limit

-- An output longer than the limit does not fit.
not_within : (limit n : ℕ) → limit < n → fits_in Leaves limit n ≡ false
not_within limit n past = grind (arith, nat_tests)

not_both : (b : Bool) → b ≡ true → b ≡ false → ⊥
not_both b on off = cc

all_leaves : (limit : ℕ) (lines mid new leaves : List ℕ) → Lengthens limit [] lines leaves
    → new ≡ mid ++ lines → fits_in Leaves limit (length new) ≡ true → new ≡ mid ++ leaves
all_leaves limit lines mid new leaves (inl same) is fits = is ∙ ap (λ t. mid ++ t) same
all_leaves limit lines mid new leaves (inr past) is fits =
    absurd (not_both (fits_in Leaves limit (length new)) fits
    (not_within limit (length new) (omega (arith, past.0, ap length is, length-append mid lines))))

leaves_exceed : (limit : ℕ) (lines mid new leaves : List ℕ) → Lengthens limit [] lines leaves
    → new ≡ mid ++ lines → fits_in Leaves limit (length new) ≡ false
    → fits_in Leaves limit (length mid + length leaves) ≡ false
leaves_exceed limit lines mid new leaves (inl same) is past =
    ap (fits_in Leaves limit)
    (sym (length-append mid leaves) ∙ ap (λ t. length (mid ++ t)) (sym same) ∙ ap length (sym is))
    ∙ past
leaves_exceed limit lines mid new leaves (inr long) is past =
    not_within limit (length mid + length leaves) (omega (arith, long.1))

-- If an output fits, all detail lines were appended.
pub all_detail : (detail : Detail) (limit : ℕ) (message : Sent) (bytes : List ℕ) (d : Doc)
    → IsRead bytes d → (lines mid new : List ℕ) → AreDetail detail limit message bytes lines
    → new ≡ mid ++ lines → fits_in detail limit (length new) ≡ true
    → new ≡ mid ++ detail_lines detail message d
all_detail Lists limit message bytes d reads lines mid new listed is fits =
    is ∙ ap (λ t. mid ++ t) listed
all_detail Leaves limit message bytes d reads lines mid new are is fits =
    all_leaves limit lines mid new (leaf_lines [] d) (are d reads) is fits

-- If it does not fit, the output with all detail lines does not fit.
pub detail_exceeds : (detail : Detail) (limit : ℕ) (message : Sent) (bytes : List ℕ) (d : Doc)
    → IsRead bytes d → (lines mid new : List ℕ) → AreDetail detail limit message bytes lines
    → new ≡ mid ++ lines → fits_in detail limit (length new) ≡ false
    → fits_in detail limit (length mid + length (detail_lines detail message d)) ≡ false
detail_exceeds Lists limit message bytes d reads lines mid new listed is past =
    let clash : true ≡ false = past in absurd (cc)
detail_exceeds Leaves limit message bytes d reads lines mid new are is past =
    leaves_exceed limit lines mid new (leaf_lines [] d) (are d reads) is past

-- ---- why a record is rejected

-- A record that does not contain a message, and the rejection for that reason.
pub record Untyped (held : Payload) (n : ℕ) (refused : Refused) : Type 0 where
  pub why : Refusal
  pub has : HasRefusal held.1 why
  pub refused_is : refused ≡ refusal_of n why

pub untyped_for : (held : Payload) (n : ℕ) (refused : Refused)
    → RejectsPayload (HoldsNoMessage held) n refused → refused ≢ because.Memory
    → Untyped held n refused
untyped_for held n (because.Json m) (same, has) other =
    record { why = no_reading; has = has; refused_is = ap because.Json same }
untyped_for held n (because.Fraction m) (same, has) other =
    record { why = fraction; has = has; refused_is = ap because.Fraction same }
untyped_for held n (because.Message m fault) (same, has) other =
    record {
      why = faulty fault;
      has = has;
      refused_is = ap (λ k. because.Message k fault) same;
    }
untyped_for held n because.Memory h other = absurd (other refl)
untyped_for held n (because.Record m cause.Cut) h other = absurd h.1
untyped_for held n (because.Record m cause.Memory) h other = absurd h
untyped_for held n (because.Record m why) h other = absurd h.1
untyped_for held n (because.InputTooLong m) h other = absurd h.1
untyped_for held n (because.Rule m rule) h other = absurd h.1
untyped_for held n (because.TooManyIds m) h other = absurd h.1
untyped_for held n (because.Grew m) h other = absurd h.1
untyped_for held n refused h other = absurd h

-- A record that is rejected for one of these reasons is rejected for one of those.
pub rejects_as : (P Q : ContentError → Type 0) → ((why : ContentError) → P why → Q why) → (n : ℕ)
    (refused : Refused) → RejectsPayload P n refused → RejectsPayload Q n refused
rejects_as P Q so n (because.Json m) h = (h.0, so (no_message no_reading) h.1)
rejects_as P Q so n (because.Fraction m) h = (h.0, so (no_message fraction) h.1)
rejects_as P Q so n (because.Message m fault) h = (h.0, so (no_message (faulty fault)) h.1)
rejects_as P Q so n (because.Rule m rule) h = (h.0, so (broken rule) h.1)
rejects_as P Q so n (because.TooManyIds m) h = (h.0, so too_many_ids h.1)
rejects_as P Q so n (because.Grew m) h = (h.0, so grew h.1)
rejects_as P Q so n because.Memory h = tt
rejects_as P Q so n (because.Record m cause.Cut) h = h
rejects_as P Q so n (because.Record m cause.Memory) h = h
rejects_as P Q so n (because.Record m why) h = h
rejects_as P Q so n (because.InputTooLong m) h = h
rejects_as P Q so n refused h = h

-- If errors are not marked, a record without a message is rejected.
pub rejects_strictly : (view : View) → view.marks_faults ≡ false → (before : List Entry)
    (held : Payload) (why : ContentError) → HoldsNoMessage held why → Rejects view before held why
rejects_strictly view strict before held (no_message why) has = (strict, has)
rejects_strictly view strict before held why has = absurd has

-- ---- one more entry

module _ (view : View) (before : List Entry) (number : ℕ)
    (number_is : number ≡ length before + 1) (old : List ℕ)
    (old_is : old ≡ lines_of view.detail 1 before) where
  entered_lines : (e : Entry) (new : List ℕ) → new ≡ old ++ entry_lines view.detail number e
      → new ≡ lines_of view.detail 1 (before ++ e ∷ [])
  entered_lines e new is =
      is ∙ ap (λ t. t ++ entry_lines view.detail number e) old_is
      ∙ sym (lines_push view.detail 1 number before e number_is)

  not_fitting : (e : Entry) (new : List ℕ) → new ≡ old ++ entry_lines view.detail number e
      → fits_in view.detail view.limits.input (length new) ≡ false
      → Fits view (before ++ e ∷ []) → ⊥
  not_fitting e new is past fits =
      let same =
      ap (λ t. fits_in view.detail view.limits.input (length t)) (entered_lines e new is) in
      (let clash : false ≡ true = sym past ∙ same ∙ fits in cc)

  fitting : (e : Entry) (new : List ℕ) → new ≡ old ++ entry_lines view.detail number e
      → fits_in view.detail view.limits.input (length new) ≡ true
      → Fits view (before ++ e ∷ [])
  fitting e new is fits =
      sym (ap (λ t. fits_in view.detail view.limits.input (length t)) (entered_lines e new is))
      ∙ fits

  -- A record that does not contain a message.
  module _ (held : Payload) (refused : Refused)
      (reported : RejectsPayload (HoldsNoMessage held) number refused)
      (other : refused ≢ because.Memory)
      (new : List ℕ)
      (new_is : new ≡ old ++ (start_words number held.0 ++ fault_words refused))
      (marked : view.marks_faults ≡ true)
    where
      abbrev here : Untyped held number refused
      here = untyped_for held number refused reported other

      abbrev entry : Entry
      entry = untyped held.0 here.why

      lines_are : new ≡ old ++ entry_lines view.detail number entry
      lines_are =
          new_is ∙ ap (λ r. old ++ (start_words number held.0 ++ fault_words r))
          here.refused_is

      pub entered_untyped : (session : SessionState)
          → StandsIf view.marks_faults session (kept before)
          → fits_in view.detail view.limits.input (length new) ≡ true
          → IsEntered view before number held session new (Some refused)
      entered_untyped session represents fits = record {
        entry = entry;
        is_next = ((marked, refl, here.has), fitting entry new lines_are fits);
        session_is = subst (StandsIf view.marks_faults session)
            (sym (kept_push before entry ∙ append-nil (kept before))) represents;
        lines_are = entered_lines entry new lines_are;
        refusal_is = ap Some here.refused_is;
      }

      pub grown_untyped : fits_in view.detail view.limits.input (length new) ≡ false
          → (number ≡ number) × ((e : Entry) × IsEntry view before held e
          × (Fits view (before ++ e ∷ []) → ⊥))
      grown_untyped past = (
        refl,
        (entry, (marked, refl, here.has), not_fitting entry new lines_are past),
      )

  -- A record that contains a message.
  module _ (held : Payload) (message : Sent) (d : Doc) (rule : Option Rule)
      (session : SessionState) (is : IsMessage held message) (reads : IsRead held.1 d)
      (judged : IsJudged view.marks_faults (kept before) message rule session) (mid : List ℕ)
      (mid_is : mid ≡ old ++ head_lines number message rule) where
    is_entry : IsEntry view before held (typed message d rule)
    is_entry = (is, reads, judged.0)

    abbrev this : Entry
    this = typed message d rule

    message_lines_are : (new : List ℕ) → new ≡ mid ++ detail_lines view.detail message d
        → new ≡ old ++ entry_lines view.detail number this
    message_lines_are new new_is =
        new_is ∙ ap (λ t. t ++ detail_lines view.detail message d) mid_is
        ∙ append_assoc old (head_lines number message rule) (detail_lines view.detail message d)

    pub entered_typed : (new : List ℕ) → new ≡ mid ++ detail_lines view.detail message d
        → fits_in view.detail view.limits.input (length new) ≡ true
        → IsEntered view before number held session new
        (rule_refusal number rule)
    entered_typed new new_is fits = record {
      entry = this;
      is_next = (is_entry, fitting this new (message_lines_are new new_is) fits);
      session_is =
          subst (StandsIf view.marks_faults session) (sym (kept_push before this)) judged.1;
      lines_are = entered_lines this new (message_lines_are new new_is);
      refusal_is = refl;
    }

    -- The output with the lines of the record exceeds the limit.
    pub grown_detail : fits_in view.detail view.limits.input
        (length mid + length (detail_lines view.detail message d)) ≡ false
        → (number ≡ number) × ((e : Entry) × IsEntry view before held e
        × (Fits view (before ++ e ∷ []) → ⊥))
    grown_detail past =
        let new = mid ++ detail_lines view.detail message d in (
          refl,
          (
            this,
            is_entry,
            not_fitting this new (message_lines_are new refl)
                (ap (fits_in view.detail view.limits.input)
                (length-append mid (detail_lines view.detail message d)) ∙ past),
          ),
        )
