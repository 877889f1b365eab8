-- The result of comparing all records, by the messages of both inputs.
use Rattle.std.proofs.Common.{◌≡◌, inl, inr, ℕ, ◌+◌, List, [], length, Ok, Err}
use Rattle.std.proofs.Common.{refl, sym, subst, arith, append-nil}
use Rattle.dap_device.specs.declared.device.Source.{Ghosts as Source}
use Rattle.dap_message.specs.Message.{Sent}
use Rattle.dap_rename.specs.{Messages.normal_of, Modes.stop_in, declared.mode.Mode.Mode}
use Rattle.dap_input.specs.{declared.limits.Limits.Limits, declared.refused.Refused.Refused}
use Rattle.dap_input.specs.declared.refused.Refused.TheVariants as why
use Rattle.dap_input.specs.{Engine.Accepts, Limits.AreSound}
use Rattle.dap_normalise.specs.Accepting.{IsAccepted, text}
use Rattle.dap_normalise.specs.Normalising.{Normalises}
use Rattle.dap_normalise.proofs.AcceptingFacts.{messages_proper}
use Rattle.dap_normalise.proofs.NormalFormLaws.{equal_texts, same_texts}
use Rattle.dap_normalise.proofs.NormalTexts.{normal}
use Rattle.dap_compare.specs.ComparingSteps.{IsRefusalOf}
use Rattle.dap_compare.specs.declared.verdict.CompareRefused.{CompareRefused}
use Rattle.dap_compare.specs.declared.verdict.CompareRefused.TheVariants.{Memory}
use Rattle.dap_compare.specs.declared.verdict.Which.TheVariants.{A, B}
use Rattle.dap_diff.specs.Matching.{ChecksRefused, DiffersAll, HasNormalText, RanOutOfMemory}
use Rattle.dap_diff.specs.Sessions.{AreDifferencesOn}
use Rattle.dap_diff.specs.declared.all_differences.AllDifferences.{AllDifferences}
use Rattle.dap_diff.specs.declared.all_differences.AllDifferences.TheVariants.{Same, Differ}

-- ---- one input

-- The text of the normal form of these messages.
abbrev normal_text : Mode → List Sent → List ℕ
normal_text mode ms = text (normal_of (stop_in mode) ms)

module _ {R : Type 0} (source : Source R) (limits : Limits) (mode : Mode) (old new : R)
    (ms : List Sent)
    (accepts : Accepts source limits.input (IsAccepted limits mode) old new ms) where
  abbrev normalised : Normalises limits mode accepts.whole (normal_text mode ms)
  normalised = record {
    messages = ms;
    accepts = accepts.gives;
    normal = normal_of (stop_in mode) ms;
    is_normal = normal mode ms (messages_proper accepts.gives.records ms accepts.gives.typed);
    text_is = refl;
  }

  has_text : HasNormalText source limits mode old new (normal_text mode ms)
  has_text = record { whole = accepts.whole; came = accepts.came; gives = normalised }

  -- An allocation failed after the last record.
  ran_out : RanOutOfMemory source limits mode old new
  ran_out = (
    length ms + 1,
    normal_text mode ms,
    record {
      bytes = accepts.whole;
      came = record {
        came = accepts.came.came;
        counted = accepts.came.counted;
        paused = accepts.came.stopped.1;
      };
      read_to = record {
        before = accepts.whole;
        last = [];
        split = sym (append-nil accepts.whole);
        few = omega arith;
        ends = inr (length ms + 1, omega arith, inr (ms, accepts.gives, refl));
      };
      before = record {
        values = ms;
        front = accepts.whole;
        rest = [];
        split = sym (append-nil accepts.whole);
        accepted = accepts.gives;
        is_number = refl;
      };
      gives = normalised;
    },
  )

-- ---- both inputs

module _ {R S : Type 0} (source_a : Source R) (source_b : Source S) (limits : Limits) (mode : Mode)
    (old_a new_a : R) (old_b : S) where
  -- The input of A is refused, or an allocation failed while it was read. Nothing is read of B.
  pub a_refused : (because : Refused) (refused : CompareRefused)
      → ChecksRefused source_a limits mode old_a new_a because → IsRefusalOf A because refused
      → DiffersAll source_a source_b limits mode old_a new_a old_b old_b (Err refused)
  a_refused why.Memory refused checks is =
      subst (λ r. DiffersAll source_a source_b limits mode old_a new_a old_b old_b (Err r))
      (sym (is.0 refl)) (inl (checks, refl))
  a_refused because refused checks is =
      subst (λ r. DiffersAll source_a source_b limits mode old_a new_a old_b old_b (Err r))
      (sym (is.1 (λ e. let same = e in cc))) (checks, refl)

  module _ (new_b : S) (ms : List Sent)
      (a : Accepts source_a limits.input (IsAccepted limits mode) old_a new_a ms) where
    text_of_a : HasNormalText source_a limits mode old_a new_a (normal_text mode ms)
    text_of_a = has_text source_a limits mode old_a new_a ms a

    -- The input of A is accepted, and that of B is refused, or an allocation failed while it was
    -- read.
    pub b_refused : (because : Refused) (refused : CompareRefused)
        → ChecksRefused source_b limits mode old_b new_b because → IsRefusalOf B because refused
        → DiffersAll source_a source_b limits mode old_a new_a old_b new_b (Err refused)
    b_refused why.Memory refused checks is =
        subst (λ r. DiffersAll source_a source_b limits mode old_a new_a old_b new_b (Err r))
        (sym (is.0 refl)) (inr (normal_text mode ms, text_of_a, checks))
    b_refused because refused checks is =
        subst (λ r. DiffersAll source_a source_b limits mode old_a new_a old_b new_b (Err r))
        (sym (is.1 (λ e. let same = e in cc))) (normal_text mode ms, text_of_a, checks)

    -- Both inputs are accepted.
    module _ (ns : List Sent)
        (b : Accepts source_b limits.input (IsAccepted limits mode) old_b new_b ns) where
      text_of_b : HasNormalText source_b limits mode old_b new_b (normal_text mode ns)
      text_of_b = has_text source_b limits mode old_b new_b ns b

      pub differs_all : AreSound limits → (found : AllDifferences)
          → AreDifferencesOn mode ms ns found
          → DiffersAll source_a source_b limits mode old_a new_a old_b new_b (Ok found)
      differs_all sound Same same =
          let equal = same_texts limits mode sound a.whole b.whole (normal_text mode ms)
          (normal_text mode ns) (normalised source_a limits mode old_a new_a ms a)
          (normalised source_b limits mode old_b new_b ns b) same in (
            normal_text mode ms,
            record {
              a = text_of_a;
              b = subst (HasNormalText source_b limits mode old_b new_b) (sym equal) text_of_b;
            },
          )
      differs_all sound (Differ lines) apart = (
        normal_text mode ms,
        normal_text mode ns,
        record { a = text_of_a; b = text_of_b },
        λ equal. apart
            (equal_texts limits mode sound a.whole b.whole (normal_text mode ms)
            (normal_text mode ns) (normalised source_a limits mode old_a new_a ms a)
            (normalised source_b limits mode old_b new_b ns b) equal),
      )

      -- An allocation failed after both were accepted.
      pub gave_up : DiffersAll source_a source_b limits mode old_a new_a old_b new_b (Err Memory)
      gave_up =
          inr (normal_text mode ms, text_of_a, ran_out source_b limits mode old_b new_b ns b)
