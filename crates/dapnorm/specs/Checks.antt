-- What the program does with `check` over a file that is given by its name. Source: own.
use Rattle.std.specs.Prelude.{◌≡◌, ◌⊎◌, ℕ, Bool, true, List, Option, Some, None, Result, Ok, Err}
use Rattle.std.specs.{Prelude.Vec, declared.alloc.Global.Global}
use Rattle.dap_host.specs.declared.{host.Purpose.Purpose, limits.TheConstants.LIMITS}
use Rattle.dap_input.specs.declared.refused.Refused.{Refused, TheVariants.Incomplete}
use Rattle.dap_mask.specs.{KeptRules.mask_of, Mask.Mask}
use Rattle.dap_mask.specs.declared.mask_rules.MaskRules.{MaskRules}
use Rattle.dap_message.specs.Message.{Sent}
use Rattle.dap_normalise.specs.Checking.{AreCounted, Checks}
use Rattle.dap_normalise.specs.declared.checked.Checked.{Checked}
use Rattle.dap_rename.specs.declared.mode.Mode.{Mode}
use Rattle.dap_rules.specs.{Applying.{IsNotNormalised, MakesSession}, Modes.mode_by}
use Rattle.dap_rules.specs.declared.fault.ApplyRefused.{ApplyRefused}
use Rattle.dapnorm.specs.{Desks.{IsLeft, Place, empty}, Readings.IsFileRead, Rules.AreGivenRules}
use Rattle.dapnorm.specs.declared.{answer.Answer.Answer, desk.Desk.Desk}
use Rattle.dapnorm.specs.declared.reading.Unread.{Unread, TheVariants.Unopened}
use Rattle.dapnorm.specs.declared.{rules.NoRules.NoRules, why.Why.Why}

-- ---- a recording, by rules

module _ (mask : Mask) (complete : Bool) (mode : Mode) (recording : List ℕ) where
  -- The rules make an accepted session of the recording, with these counts.
  pub record HasCounts (checked : Checked) : Type 0 where
    pub messages : List Sent
    pub makes : MakesSession LIMITS (mode_by mask mode) mask recording messages
    pub counted : AreCounted checked messages

  -- Each request must have a response, and these numbers of requests have none.
  pub record IsOpen (client adapter : ℕ) : Type 0 where
    pub asked : complete ≡ true
    pub checked : Checked
    pub counts : HasCounts checked
    pub client_is : client ≡ checked.client_open
    pub adapter_is : adapter ≡ checked.adapter_open
    pub some : client ≡ 0 → adapter ≡ 0 → ⊥

  abbrev pub IsIncomplete : ApplyRefused → Type 0
  IsIncomplete (ApplyRefused.Order (Incomplete client adapter)) = IsOpen client adapter
  IsIncomplete refused = ⊥

  -- The session that the rules make is accepted, with these counts. Or the rules cannot be applied,
  -- or the session is rejected.
  abbrev pub ChecksByRules : Result Checked ApplyRefused → Type 0
  ChecksByRules (Ok checked) = HasCounts checked
      × (complete ≡ true → (checked.client_open ≡ 0) × (checked.adapter_open ≡ 0))
  ChecksByRules (Err refused) =
      IsNotNormalised LIMITS (mode_by mask mode) mask recording refused ⊎ IsIncomplete refused

-- ---- an input, by its name

module _ {I O T : Type 0} (place : Place I O T) (desk : Desk I O T) (complete : Bool) (mode : Mode)
    (name : List ℕ) where
  -- Without rules, the input is checked record by record.
  abbrev pub ChecksInput : Result Checked Refused → Type 0
  ChecksInput outcome = IsLeft (place.files.opens Purpose.Input name) desk.a
      (λ old new. Checks place.source LIMITS mode complete old new outcome)

  abbrev pub ChecksAlone : Result (Option Answer) Why → Type 0
  ChecksAlone (Err (Why.Unread None (Unopened fault))) =
      (desk ≡ empty) × place.files.closed Purpose.Input name fault
  ChecksAlone (Err (Why.Input refused)) = ChecksInput (Err refused)
  ChecksAlone (Ok (Some (Answer.Accepted checked))) = ChecksInput (Ok checked)
  ChecksAlone outcome = ⊥

  -- With rules, it is read whole, and what the rules make of it is checked.
  abbrev pub ReadsInput : Result (Vec ℕ Global) Unread → Type 0
  ReadsInput = IsFileRead place.files place.source Purpose.Input name LIMITS.input desk.a

  abbrev pub ChecksMade : MaskRules → Result Checked ApplyRefused → Type 0
  ChecksMade rules outcome = (recording : Vec ℕ Global) × ReadsInput (Ok recording)
      × ChecksByRules (mask_of rules) complete mode recording.items outcome

  abbrev pub ChecksBy : MaskRules → Result (Option Answer) Why → Type 0
  ChecksBy rules (Err (Why.Unread None unread)) = ReadsInput (Err unread)
  ChecksBy rules (Err (Why.Unapplied None refused used)) =
      (used ≡ rules) × ChecksMade rules (Err refused)
  ChecksBy rules (Ok (Some (Answer.Accepted checked))) = ChecksMade rules (Ok checked)
  ChecksBy rules outcome = ⊥

  module _ (file : Option (List ℕ)) (values : List (List ℕ)) where
    abbrev pub RulesAre : Result (Option MaskRules) NoRules → Type 0
    RulesAre = AreGivenRules place.files place.source file values

    -- The rules are not accepted, for this reason. They are read before the input.
    abbrev pub LacksRules : Result (Option Answer) Why → Type 0
    LacksRules (Err (Why.Rules one)) = RulesAre (Err one) × (desk ≡ empty)
    LacksRules outcome = ⊥

    abbrev pub ChecksGiven : Option MaskRules → Result (Option Answer) Why → Type 0
    ChecksGiven None outcome = ChecksAlone outcome
    ChecksGiven (Some rules) outcome = ChecksBy rules outcome

    abbrev pub CheckIsRun : Result (Option Answer) Why → Type 0
    CheckIsRun outcome = LacksRules outcome
        ⊎ ((rules : Option MaskRules) × RulesAre (Ok rules) × ChecksGiven rules outcome)
