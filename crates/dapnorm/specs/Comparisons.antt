-- What the program finds about two recordings that are given by their names. Source: own.
use Rattle.std.specs.Prelude.{◌≡◌, ◌⊎◌, ◌&&◌, ℕ, Bool, true, false, List, Option, Some, None}
use Rattle.std.specs.Prelude.{Result, Ok, Err}
use Rattle.dap_commands.specs.declared.commands.Printed.{Printed}
use Rattle.dap_compare.specs.{Sessions.IsVerdictOn, Verdicts.Compares}
use Rattle.dap_compare.specs.declared.verdict.CompareRefused.{CompareRefused}
use Rattle.dap_compare.specs.declared.verdict.Which.TheVariants.{A, B}
use Rattle.dap_device.specs.declared.device.Source.{Ghosts as Source}
use Rattle.dap_diff.specs.{Diffs.DescribesDifference, Matching.DiffersAll}
use Rattle.dap_diff.specs.Sessions.{AreDifferencesOn, IsDifferenceOn}
use Rattle.dap_host.specs.{Files.is_standard, declared.host.Purpose.Purpose}
use Rattle.dap_host.specs.declared.limits.TheConstants.{LIMITS}
use Rattle.dap_mask.specs.{KeptRules.mask_of, declared.mask_rules.MaskRules.MaskRules}
use Rattle.dap_message.specs.Message.{Sent}
use Rattle.dap_rename.specs.declared.mode.Mode.{Mode}
use Rattle.dap_rules.specs.{Inputs.ReadsSessionByRules, Modes.mode_by}
use Rattle.dap_rules.specs.declared.fault.ApplyRefused.{ApplyRefused}
use Rattle.dap_stored.specs.{Sessions.messages_of, declared.session.StoredSession.StoredSession}
use Rattle.dapnorm.specs.{Desks.{IsLeft, IsUnused, Place, empty}, Rules.AreGivenRules}
use Rattle.dapnorm.specs.declared.{answer.Answer.Answer, desk.Desk.Desk}
use Rattle.dapnorm.specs.declared.{reading.Unread.TheVariants.Unopened, rules.NoRules.NoRules}
use Rattle.dapnorm.specs.declared.why.{Mistake.TheVariants.TwoStandard, Why.Why}

-- ---- two readers

module _ {R S : Type 0} (source_a : Source R) (source_b : Source S) (mode : Mode) (old_a new_a : R)
    (old_b new_b : S) where
  -- The command finds this about the readers.
  abbrev pub Finds : Printed → Result (Option Answer) Why → Type 0
  Finds Printed.Verdict (Ok (Some (Answer.Verdict used found))) = (used ≡ mode)
      × Compares source_a source_b LIMITS mode old_a new_a old_b new_b (Ok found)
  Finds Printed.Verdict (Err (Why.Pair refused)) =
      Compares source_a source_b LIMITS mode old_a new_a old_b new_b (Err refused)
  Finds Printed.FirstDifference (Ok (Some (Answer.Difference found))) =
      DescribesDifference source_a source_b LIMITS mode old_a new_a old_b new_b (Ok found)
  Finds Printed.FirstDifference (Err (Why.Pair refused)) =
      DescribesDifference source_a source_b LIMITS mode old_a new_a old_b new_b (Err refused)
  Finds Printed.AllDifferences (Ok (Some (Answer.Differences found))) =
      DiffersAll source_a source_b LIMITS mode old_a new_a old_b new_b (Ok found)
  Finds Printed.AllDifferences (Err (Why.Pair refused)) =
      DiffersAll source_a source_b LIMITS mode old_a new_a old_b new_b (Err refused)
  Finds other outcome = ⊥

-- ---- two sessions

module _ (mode : Mode) (of_a of_b : List Sent) where
  -- The command finds this about the messages of two sessions.
  abbrev pub FindsOn : Printed → Result (Option Answer) Why → Type 0
  FindsOn Printed.Verdict (Ok (Some (Answer.Verdict used found))) = (used ≡ mode)
      × IsVerdictOn mode of_a of_b found
  FindsOn Printed.FirstDifference (Ok (Some (Answer.Difference found))) =
      IsDifferenceOn mode of_a of_b found
  FindsOn Printed.AllDifferences (Ok (Some (Answer.Differences found))) =
      AreDifferencesOn mode of_a of_b found
  FindsOn one (Err (Why.Pair CompareRefused.Memory)) = Unit {0}
  FindsOn other outcome = ⊥

module _ {R : Type 0} (source : Source R) (one : Printed) (mode : Mode) (rules : MaskRules)
    (old_a new_a old_b new_b : R) where
  -- The rules make this session of an input, or cannot be applied to it.
  abbrev pub Makes : R → R → Result StoredSession ApplyRefused → Type 0
  Makes old new outcome = ReadsSessionByRules source LIMITS (mode_by (mask_of rules) mode)
      (mask_of rules) old new outcome

  -- The rules make sessions of both inputs, and this is found about their messages.
  pub record FindsSessions (outcome : Result (Option Answer) Why) : Type 0 where
    pub session_a : StoredSession
    pub session_b : StoredSession
    pub makes_a : Makes old_a new_a (Ok session_a)
    pub makes_b : Makes old_b new_b (Ok session_b)
    pub finds : FindsOn (mode_by (mask_of rules) mode) (messages_of session_a)
        (messages_of session_b) one outcome

  -- The rules cannot be applied to an input. A is read before B.
  abbrev pub IsUnapplied : Result (Option Answer) Why → Type 0
  IsUnapplied (Err (Why.Unapplied (Some A) refused used)) =
      (used ≡ rules) × Makes old_a new_a (Err refused) × IsUnused old_b new_b
  IsUnapplied (Err (Why.Unapplied (Some B) refused used)) = (used ≡ rules)
      × ((session : StoredSession) × Makes old_a new_a (Ok session))
      × Makes old_b new_b (Err refused)
  IsUnapplied outcome = ⊥

  abbrev pub FindsByRules : Result (Option Answer) Why → Type 0
  FindsByRules outcome = IsUnapplied outcome ⊎ FindsSessions outcome

-- ---- two inputs, by their names

abbrev pub are_both_standard : List ℕ → List ℕ → Bool
are_both_standard a b = is_standard a && is_standard b

module _ {I O T : Type 0} (place : Place I O T) (one : Printed) (mode : Mode) (a b : List ℕ)
    (desk : Desk I O T) (name : Option (List ℕ)) (values : List (List ℕ)) where
  -- The inputs of A and of B are those of their names. B is opened after A.
  abbrev pub InputA : (I → I → Type 0) → Type 0
  InputA = IsLeft (place.files.opens Purpose.Input a) desk.a

  abbrev pub InputB : (I → I → Type 0) → Type 0
  InputB = IsLeft (place.files.opens Purpose.Input b) desk.b

  abbrev pub RulesAre : Result (Option MaskRules) NoRules → Type 0
  RulesAre = AreGivenRules place.files place.source name values

  -- There are rules, or the command needs none.
  abbrev pub HasRules : Type 0
  HasRules = (rules : Option MaskRules) × RulesAre (Ok rules)

  -- What the command finds about two readers, without rules and by rules.
  abbrev pub FindsBy : Option MaskRules → Result (Option Answer) Why → I → I → I → I → Type 0
  FindsBy None outcome old_a new_a old_b new_b =
      Finds place.source place.source mode old_a new_a old_b new_b one outcome
  FindsBy (Some rules) outcome old_a new_a old_b new_b =
      FindsByRules place.source one mode rules old_a new_a old_b new_b outcome

  -- Both inputs are opened, and this is found about them.
  pub record FindsInputs (outcome : Result (Option Answer) Why) : Type 0 where
    pub rules : Option MaskRules
    pub are_rules : RulesAre (Ok rules)
    pub apart : are_both_standard a b ≡ false
    pub finds : InputA (λ old_a new_a. InputB (λ old_b new_b.
        FindsBy rules outcome old_a new_a old_b new_b))

  -- The rules are read first. Then A is opened, and then B.
  abbrev pub IsUnopened : Result (Option Answer) Why → Type 0
  IsUnopened (Err (Why.Rules one)) = RulesAre (Err one) × (desk ≡ empty)
  IsUnopened (Err (Why.Mistake TwoStandard)) =
      HasRules × (are_both_standard a b ≡ true) × (desk ≡ empty)
  IsUnopened (Err (Why.Unread (Some A) (Unopened fault))) =
      HasRules × (desk ≡ empty) × place.files.closed Purpose.Input a fault
  IsUnopened (Err (Why.Unread (Some B) (Unopened fault))) = HasRules × InputA IsUnused
      × (desk.b ≡ None) × place.files.closed Purpose.Input b fault
  IsUnopened outcome = ⊥

  abbrev pub PairIsRun : Result (Option Answer) Why → Type 0
  PairIsRun outcome = IsUnopened outcome ⊎ FindsInputs outcome
