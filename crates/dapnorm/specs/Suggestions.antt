-- What the program does with `suggest` over files that are given by their names. Source: own.
use Rattle.std.specs.Prelude.{◌≡◌, ◌⊎◌, ℕ, ◌≤◌, ◌++◌, Bool, true, false, List, [], Option, Some}
use Rattle.std.specs.{Prelude.{None, Result, Ok, Err, Vec, length}, declared.alloc.Global.Global}
use Rattle.dap_compare.specs.declared.verdict.Which.{Which, TheVariants.{A, B}}
use Rattle.dap_host.specs.declared.{host.Purpose.Purpose, limits.TheConstants.LIMITS}
use Rattle.dap_input.specs.declared.refused.Refused.TheVariants.{Memory}
use Rattle.dap_mask.specs.{KeptRules.mask_of, RulesFile.rules_said}
use Rattle.dap_mask.specs.declared.mask_rules.MaskRules.{MaskRules}
use Rattle.dap_rename.specs.declared.mode.Mode.{Mode}
use Rattle.dap_rules.specs.declared.fault.ApplyRefused.{ApplyRefused}
use Rattle.dap_suggest.specs.{Broad.AddsNoBroadRule, Guarded.AddsGuarded, Suggested.AreSameBy}
use Rattle.dap_suggest.specs.NotSuggested.{AreAccepted, IsInputRejected}
use Rattle.dapnorm.specs.{Comparisons.are_both_standard, Desks.{Place, empty, inputs}}
use Rattle.dapnorm.specs.{Readings.IsFileRead, Rules.IsRulesText, declared.answer.Answer.Answer}
use Rattle.dapnorm.specs.declared.{desk.Desk.Desk, reading.Unread.Unread, rules.NoRules.NoRules}
use Rattle.dapnorm.specs.declared.why.{Mistake.TheVariants.TwoStandard, Why.Why}

-- Without rules that were given, a session that is rejected is the recording itself.
abbrev pub reported_refusal : List ℕ → ApplyRefused → ApplyRefused
reported_refusal [] (ApplyRefused.Order refused) = ApplyRefused.Mask refused
reported_refusal given refused = refused

-- By the rules that are given, an input is rejected.
pub record IsRejected (which : Which) (refused : ApplyRefused) (used : MaskRules)
    (given read_a read_b : List ℕ) : Type 0 where
  pub because : ApplyRefused
  pub rejected : IsInputRejected LIMITS given read_a read_b which because
  pub refused_is : refused ≡ reported_refusal given because
  pub used_is : rules_said given ≡ Ok (mask_of used)

-- The rules that are found add no broad rule to those that are given, and none for a guarded place
-- if `strict`.
abbrev pub AddNarrowRules : Bool → List ℕ → List ℕ → Type 0
AddNarrowRules strict given found = AddsNoBroadRule given (given ++ found)
    × (strict ≡ true → AddsGuarded 0 given (given ++ found))

-- The rules that are found make both recordings the same, together with those that are given. Or a
-- line of the given rules is rejected, or an input by them, or no rules are found. A failed
-- allocation is reported only if the rules that are given are not too long.
abbrev pub Suggests : Bool → Vec ℕ Global → List ℕ → List ℕ → Result (Option Answer) Why → Type 0
Suggests strict given read_a read_b (Ok (Some (Answer.Rules found))) =
    ((mode : Mode) × AreSameBy LIMITS mode (given.items ++ found.items) read_a read_b)
    × AddNarrowRules strict given.items found.items
Suggests strict given read_a read_b (Err (Why.Rules (NoRules.Line fault text))) =
    (text ≡ given) × (rules_said given.items ≡ Err fault)
Suggests strict given read_a read_b (Err (Why.Unapplied (Some which) refused used)) =
    IsRejected which refused used given.items read_a read_b
Suggests strict given read_a read_b (Err (Why.NoSuggestion line)) = AreAccepted given.items
Suggests strict given read_a read_b (Err (Why.Input Memory)) = length given.items ≤ 65536
Suggests strict given read_a read_b outcome = ⊥

module _ {I O T : Type 0} (place : Place I O T) (strict : Bool) (a b : List ℕ)
    (rules : Option (List ℕ)) (values : List (List ℕ)) (desk : Desk I O T) where
  -- The text of the rules that are given.
  abbrev pub GivenIs : Result (Vec ℕ Global) NoRules → Type 0
  GivenIs = IsRulesText place.files place.source rules values

  abbrev pub HasGiven : Type 0
  HasGiven = (given : Vec ℕ Global) × GivenIs (Ok given)

  -- The inputs are those of their names, and are read whole, with this result.
  abbrev pub InputA : Result (Vec ℕ Global) Unread → Type 0
  InputA = IsFileRead place.files place.source Purpose.Input a LIMITS.input desk.a

  abbrev pub InputB : Result (Vec ℕ Global) Unread → Type 0
  InputB = IsFileRead place.files place.source Purpose.Input b LIMITS.input desk.b

  abbrev pub HasA : Type 0
  HasA = (read : Vec ℕ Global) × InputA (Ok read)

  -- The rules that are given and both inputs are read, and this is suggested for them.
  pub record AreAllRead (outcome : Result (Option Answer) Why) : Type 0 where
    pub given : Vec ℕ Global
    pub read_a : Vec ℕ Global
    pub read_b : Vec ℕ Global
    pub apart : are_both_standard a b ≡ false
    pub given_is : GivenIs (Ok given)
    pub is_a : InputA (Ok read_a)
    pub is_b : InputB (Ok read_b)
    pub suggests : Suggests strict given read_a.items read_b.items outcome

  -- A file is not read. The rules that are given are read first, then A whole, and then B.
  abbrev pub IsStopped : Result (Option Answer) Why → Type 0
  IsStopped (Err (Why.Mistake TwoStandard)) = (are_both_standard a b ≡ true) × (desk ≡ empty)
  IsStopped (Err (Why.Rules one)) = GivenIs (Err one) × (desk ≡ empty)
  IsStopped (Err (Why.Unread (Some A) unread)) =
      HasGiven × InputA (Err unread) × (desk ≡ inputs desk.a None)
  IsStopped (Err (Why.Unread (Some B) unread)) = HasGiven × HasA × InputB (Err unread)
  IsStopped outcome = ⊥

  abbrev pub SuggestionIsRun : Result (Option Answer) Why → Type 0
  SuggestionIsRun outcome = IsStopped outcome ⊎ AreAllRead outcome
