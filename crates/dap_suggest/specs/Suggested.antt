-- Rules that make two recordings the same, and why there are none. Source: own, over masks, the
-- order of messages and normal forms.
use Rattle.std.specs.Prelude.{◌≡◌, ◌++◌, ℕ, ◌+◌, ◌==◌, true, if◌then◌else◌, List, [], ◌∷◌, Ok}
use Rattle.std.specs.Prelude.{codes, decimal, eqb}
use Rattle.std.specs.List.{ends_with}
use Rattle.dap_mask.specs.{Mask.Mask, RulesFile.rules_said}
use Rattle.dap_message.specs.Message.{Sent}
use Rattle.dap_rename.specs.declared.mode.Mode.{Mode, TheVariants.{PerStop, Whole}}
use Rattle.dap_stored.specs.Sessions.{messages_of}
use Rattle.dap_compare.specs.declared.verdict.Which.{Which}
use Rattle.dap_compare.specs.declared.verdict.Which.TheVariants.{A, B}
use Rattle.dap_input.specs.declared.limits.Limits.{Limits}
use Rattle.dap_normalise.specs.declared.normal_session.NormalSession.{NormalSession}
use Rattle.dap_rules.specs.Applying.{IsNotNormalised, MakesSession, NormalisesByRules}
use Rattle.dap_rules.specs.{Modes.mode_by, declared.fault.ApplyRefused.ApplyRefused}
use Rattle.dap_suggest.specs.{Broad.broad_of, declared.broad.Broad.Broad}
use Rattle.dap_suggest.specs.{Exchanges.AddsNeededSwaps, Guarded.{AddsGuarded, guarded_count}}
use Rattle.dap_suggest.specs.declared.suggestion.Inputs.{Inputs}
use Rattle.dap_suggest.specs.declared.sessions.Sessions.{Sessions}
use Rattle.dap_suggest.specs.declared.suggestion.Suggestion.{Suggestion}

-- ---- rules that were found

-- The rules make these sessions of the two recordings.
abbrev pub AreMade : Inputs → Mask → Sessions → Type 0
AreMade inputs mask made =
    MakesSession inputs.limits (mode_by mask Whole) mask inputs.a.now (messages_of made.a)
    × MakesSession inputs.limits (mode_by mask Whole) mask inputs.b.now (messages_of made.b)

-- By the rules, the two recordings have one normal text.
pub record HaveOneNormal (limits : Limits) (mode : Mode) (mask : Mask) (a b : List ℕ) : Type 0 where
  pub of_a : NormalSession
  pub of_b : NormalSession
  pub a_is : NormalisesByRules limits mode mask a of_a
  pub b_is : NormalisesByRules limits mode mask b of_b
  pub one_text : of_a.bytes.items ≡ of_b.bytes.items

-- The file of rules is accepted, and by its rules the two recordings are the same. This is the mode
-- in which `compare --rules` then numbers their ids.
pub record AreSameBy (limits : Limits) (mode : Mode) (rules a b : List ℕ) : Type 0 where
  pub mask : Mask
  pub said : rules_said rules ≡ Ok mask
  pub mode_is : mode ≡ mode_by mask Whole
  pub one : HaveOneNormal limits mode mask a b

-- The rules that were given make the two recordings the same.
abbrev pub AreAlreadySame : Inputs → Mask → Type 0
AreAlreadySame inputs mask =
    HaveOneNormal inputs.limits (mode_by mask Whole) mask inputs.a.now inputs.b.now

-- If the file of rules is accepted, it has these numbers of broad rules.
abbrev pub HasBroad : List ℕ → Broad → Type 0
HasBroad rules broad = (mask : Mask) → rules_said rules ≡ Ok mask → broad_of mask ≡ broad

-- If the file of rules is accepted, it has this number of rules for guarded places.
abbrev pub HasGuarded : List ℕ → ℕ → Type 0
HasGuarded rules n = (mask : Mask) → rules_said rules ≡ Ok mask → guarded_count mask ≡ n

-- The rules make both recordings the same in this mode. They have as many broad rules as those that
-- were given, and this number of rules for guarded places more.
pub record IsConfirmedBy (inputs : Inputs) (mask : Mask) (added : ℕ) (mode : Mode) : Type 0 where
  pub mode_is : mode ≡ mode_by mask Whole
  pub one : HaveOneNormal inputs.limits mode mask inputs.a.now inputs.b.now
  pub broad : broad_of mask ≡ inputs.broad
  pub guarded : guarded_count mask ≡ inputs.guarded + added

-- The file of rules makes both recordings the same in this mode. It has as many broad rules as the
-- rules that were given, and this number of rules for guarded places more.
pub record IsConfirmed (inputs : Inputs) (rules : List ℕ) (mode : Mode) (added : ℕ) : Type 0 where
  pub same : AreSameBy inputs.limits mode rules inputs.a.now inputs.b.now
  pub broad : HasBroad rules inputs.broad
  pub guarded : HasGuarded rules (inputs.guarded + added)

-- ---- the last line

abbrev pub verdict : Mode → List ℕ
verdict Whole = codes "# with these rules: same"
verdict PerStop = codes "# with these rules and per-stop: same"

abbrev pub check_note : ℕ → List ℕ
check_note n = if n == 0 then [] else if n == 1 then codes " (1 rule to check)"
    else codes " (" ++ decimal n ++ codes " rules to check)"

-- The last line of rules that are suggested: the mode in which the recordings are the same, and how
-- many rules are for guarded places. 10 is LF.
abbrev pub last_line : Mode → ℕ → List ℕ
last_line mode added = verdict mode ++ (check_note added ++ 10 ∷ [])

abbrev pub EndsWith : List ℕ → List ℕ → Type 0
EndsWith line rules = (before : List ℕ) × (rules ≡ before ++ line)

-- The LF that has to follow a file of rules before more rules do, if its last line lacks it.
abbrev pub missing_end : List ℕ → List ℕ
missing_end [] = []
missing_end (b ∷ given) = if ends_with eqb (b ∷ given) (codes "\n") then [] else codes "\n"

-- No rule is suggested after the rules that were given, but only the last line.
abbrev pub SuggestsNothing : List ℕ → Mode → Suggestion → Type 0
SuggestsNothing given mode s = s.rules.items ≡ missing_end given ++ last_line mode 0

-- The rules end with that line, and it is true of the rules that were given and these.
abbrev pub SaysWhatToCheck : List ℕ → Mode → List ℕ → Type 0
SaysWhatToCheck given mode rules = (added : ℕ) × EndsWith (last_line mode added) rules
    × AddsGuarded added given (given ++ rules)

-- The rules that were given, and after them those of the suggestion, are confirmed, they add no
-- exchanges that are not needed, and the last line is true.
pub record IsSuggestion (inputs : Inputs) (s : Suggestion) : Type 0 where
  pub added : ℕ
  pub confirmed : IsConfirmed inputs (inputs.given.now ++ s.rules.items) s.mode added
  pub ends : EndsWith (last_line s.mode added) s.rules.items
  pub strict : inputs.strict ≡ true → added ≡ 0
  pub swaps : AddsNeededSwaps inputs.limits inputs.given.now (inputs.given.now ++ s.rules.items)
      inputs.a.now inputs.b.now

-- ---- errors

-- A is rejected by the rules; or B is, and A is not. A recording is rejected if the rules cannot be
-- applied to it, or if the session that they make of it is rejected.
abbrev pub IsOneRejected : Limits → Mask → List ℕ → List ℕ → Which × ApplyRefused → Type 0
IsOneRejected limits mask a b (A, refused) =
    IsNotNormalised limits (mode_by mask Whole) mask a refused
IsOneRejected limits mask a b (B, refused) =
    ((messages : List Sent) × MakesSession limits (mode_by mask Whole) mask a messages)
    × IsNotNormalised limits (mode_by mask Whole) mask b refused
