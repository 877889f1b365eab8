-- Checking a record after others: the state then represents its message too, or the record is
-- rejected.
use Rattle.std.proofs.Common.{◌≡◌, ◌⊎◌, inl, inr, ℕ, ℤ, ◌+◌, ◌<◌, ◌≤◌, List, [], ◌∷◌, ◌++◌, length}
use Rattle.std.proofs.Common.{None, Result, Ok, Err, sym, ◌∙◌, ap, subst, arith, append-nil, length-append}
use Rattle.std.specs.List.{AllByRecursion}
use Rattle.dap_tree.specs.Json.{text_of}
use Rattle.dap_tree.specs.declared.sort.Sort.{Sort}
use Rattle.dap_message.specs.Message.{Sent}
use Rattle.dap_rename.specs.Messages.{AreProper, HasFewIds, HasTooManyIds, IsNormal, IsRenamed}
use Rattle.dap_rename.specs.Messages.{numbers_of_class}
use Rattle.dap_rename.specs.Modes.{stop_in}
use Rattle.dap_rename.specs.Names.{Represents, limit_in}
use Rattle.dap_rename.proofs.NormalForms.{normal_of_next}
use Rattle.dap_rename.proofs.Stops.{mode_is_told}
use Rattle.dap_rename.proofs.Lists.{each-append}
use Rattle.dap_session.specs.Rules.{first_broken}
use Rattle.dap_session.specs.Representation.{Represents as SessionRepresents}
use Rattle.dap_normalise.specs.declared.judging.Judge.{Judge}
use Rattle.dap_input.specs.declared.limits.Limits.{Limits}
use Rattle.dap_input.specs.declared.refused.Refused.{Refused}
use Rattle.dap_input.specs.declared.refused.Refused.TheVariants.{Grew, Memory}
use Rattle.dap_input.specs.Validation.{grew, too_many_ids}
use Rattle.dap_input.specs.Refusals.{RejectsPayload}
use Rattle.dap_normalise.specs.Accepting.{Payload, Fits, IsMessage, IsNext, Rejects, id_limit, text}
use Rattle.dap_normalise.specs.JudgingSteps.{ChecksRecord, IsTaken, JudgesRecord}
use Rattle.dap_normalise.specs.JudgingSteps.{RepresentsMessages, Writes, judge_mode, record_of}
use Rattle.dap_normalise.proofs.AcceptingFacts.{message_proper}
use Rattle.dap_normalise.proofs.NormalTexts.{normal, normal_fits, proper_push, text-append}

pub text_push : (messages : List Sent) (m : Sent)
    → text (messages ++ m ∷ []) ≡ text messages ++ record_of m
text_push messages m =
    text-append messages (m ∷ []) ∙ ap (λ t. text messages ++ t) (append-nil (record_of m))

-- No message has been checked.
pub none_stand : {T : Type 0} {numbers : T → List ℤ} {table_limit : T → ℕ} (judge : Judge T)
    → SessionRepresents judge.session [] → Represents numbers table_limit judge.names []
    → ((s : Sort) → limit_in table_limit judge.names s ≡ judge.limits.ids) → judge.written ≡ 0
    → RepresentsMessages numbers table_limit judge [] []
none_stand judge session represents limits written = record {
  session = session;
  names = represents;
  name_limits = limits;
  proper = tt;
  is_normal = normal (judge_mode judge) [] tt;
  fits = record { each = tt; whole = omega arith };
  written = written;
}

-- A record that was checked, and appended to nothing.
pub as_checked : {T : Type 0} (numbers : T → List ℤ) (table_limit : T → ℕ)
    (messages normal : List Sent) (held : Payload) (n : ℕ) (before after : Judge T)
    (first text : List ℕ) (r : Result (Unit {0}) Refused) → first ≡ []
    → JudgesRecord numbers table_limit messages normal held n before after first text r
    → ChecksRecord numbers table_limit messages normal held n before after r
as_checked numbers table_limit messages normal held n before after first text (Ok done)
    none judged =
    (text, subst (λ xs. IsTaken numbers table_limit messages normal held after xs text) none judged)
as_checked numbers table_limit messages normal held n before after first text (Err because) none
    judged = judged

module _ {T : Type 0} {numbers : T → List ℤ} {table_limit : T
    → ℕ} (old : Judge T) (messages names : List Sent)
    (was : RepresentsMessages numbers table_limit old messages names) (held : Payload) (m : Sent)
    (is : IsMessage held m) (keeps : first_broken messages m ≡ None) where
  -- more ids than the tables accept
  pub objects_to_ids :
      HasTooManyIds (stop_in (judge_mode old)) (limit_in table_limit old.names) (messages ++ m
      ∷ []) → Rejects old.limits (judge_mode old) messages held too_many_ids
  objects_to_ids many =
      let limit = was.name_limits many.of.0 in
      let more = many.many in
      (m, is, keeps, record { of = many.of; many = omega (arith, limit, more) })

  module _ (few : HasFewIds (stop_in (judge_mode old)) (limit_in table_limit old.names)
      (messages ++ m ∷ []))
      (named : Sent) (renamed : IsRenamed (stop_in (judge_mode old)) messages m named) where
    few_ids : HasFewIds (stop_in (judge_mode old)) (id_limit old.limits) (messages ++ m ∷ [])
    few_ids c =
        subst (λ limit. length (numbers_of_class (stop_in (judge_mode old)) c (messages ++ m ∷ []))
        ≤ limit) (was.name_limits c.0) (few c)

    next_normal : IsNormal (stop_in (judge_mode old)) (messages ++ m ∷ []) (names ++ named ∷ [])
    next_normal =
        normal_of_next (stop_in (judge_mode old)) (mode_is_told (judge_mode old)) messages names m
        named (message_proper held m is) was.is_normal renamed

    next_length : length (text (names ++ named ∷ [])) ≡ old.written + length (record_of named)
    next_length = let before =
        was.written in omega (
          arith,
          before,
          ap length (text_push names named),
          length-append (text names) (record_of named),
        )

    -- the content or the text would exceed its limit
    pub objects_to_length : (old.limits.frame.content < length (text_of named.doc))
        ⊎ (old.limits.input < old.written + length (record_of named))
        → Rejects old.limits (judge_mode old) messages held grew
    objects_to_length long = (
      m,
      is,
      keeps,
      few_ids,
      record { normal = names ++ named ∷ []; is_normal = next_normal; too_long = passes long },
    )
      where
        last : (ns : List Sent)
            → AllByRecursion (λ n. length (text_of n.doc)
            ≤ old.limits.frame.content) (ns ++ named ∷ [])
            → length (text_of named.doc) ≤ old.limits.frame.content
        last [] all = all.0
        last (n ∷ ns) all = last ns all.1

        passes : (old.limits.frame.content < length (text_of named.doc))
            ⊎ (old.limits.input < old.written + length (record_of named))
            → Fits old.limits (names ++ named ∷ []) → ⊥
        passes (inl content) fits = let short =
            last names fits.each in omega (arith, content, short)
        passes (inr whole) fits = let short = fits.whole in omega (arith, whole, short, next_length)

    -- the record of the renamed message is not written
    pub refused_to_write : (because : Refused) (n : ℕ) (before after : List ℕ)
        → Writes old.limits named n old.written before after (Err because)
        → RejectsPayload (Rejects old.limits (judge_mode old) messages held) n because
    refused_to_write (Grew k) n before after reported = (reported.0, objects_to_length reported.1)
    refused_to_write Memory n before after reported = tt
    refused_to_write because n before after reported = absurd reported

    -- the record is accepted
    pub taken : (new : Judge T) (before after : List ℕ)
        → length (text_of named.doc) ≤ old.limits.frame.content → after ≡ before ++ record_of named
        → new.written ≡ old.written + length (record_of named) → new.written ≤ old.limits.input
        → new.limits ≡ old.limits
        → SessionRepresents new.session (messages ++ m ∷ [])
        → Represents numbers table_limit new.names (messages ++ m ∷ [])
        → judge_mode new ≡ judge_mode old
        → ((s : Sort) → limit_in table_limit new.names s ≡ limit_in table_limit old.names s)
        → IsTaken numbers table_limit messages names held new before after
    taken new before after content appended written short limits session represents mode
        name_limits =
        let fits : Fits old.limits (names ++ named ∷ []) = record {
          each = each-append (λ (n : Sent). length (text_of n.doc)
              ≤ old.limits.frame.content) names (named ∷ []) was.fits.each (content, tt);
          whole = omega (arith, next_length, written, short);
        } in
        let proper : AreProper (messages ++ m ∷ []) =
        proper_push messages m was.proper (message_proper held m is) in
        record {
          message = m;
          is_next = subst (λ l. IsNext l (judge_mode new) messages held m) (sym limits)
              (subst (λ k. IsNext old.limits k messages held m) (sym mode)
              (record {
                is_message = is;
                keeps = keeps;
                few = few_ids;
                fits = normal_fits old.limits (judge_mode old) (messages ++ m ∷ [])
                    (names ++ named ∷ []) proper next_normal fits;
              }));
          named = named;
          represents = record {
            session = session;
            names = represents;
            name_limits =
                λ s. name_limits s ∙ was.name_limits s ∙ ap (λ (l : Limits). l.ids) (sym limits);
            proper = proper;
            is_normal = subst (λ k. IsNormal (stop_in k) (messages ++ m ∷ [])
                (names ++ named ∷ [])) (sym mode) next_normal;
            fits = subst (λ l. Fits l (names ++ named ∷ [])) (sym limits) fits;
            written = written ∙ sym next_length;
          };
          appended = appended;
        }
