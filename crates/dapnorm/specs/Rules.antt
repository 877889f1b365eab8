-- The rules of a command: those of its rules file, and a line for each word. Source: own.
use Rattle.std.specs.Prelude.{◌≡◌, ◌≢◌, ◌⊎◌, ℕ, List, [], ◌∷◌, Option, Some, None, Result, Ok, Err}
use Rattle.std.specs.{Prelude.Vec, declared.alloc.Global.Global}
use Rattle.dap_device.specs.declared.device.Source.{Ghosts as Source}
use Rattle.dap_host.specs.{Files.Files, declared.host.Purpose.TheVariants.Rules}
use Rattle.dap_mask.specs.{KeptRules.mask_of, RulesFile.rules_said}
use Rattle.dap_mask.specs.declared.mask_rules.MaskRules.{MaskRules}
use Rattle.dapnorm.specs.{Readings.IsFileRead, WordOption.{HasLinesOf, HasNoLines}}
use Rattle.dapnorm.specs.declared.{reading.Unread.Unread, rules.NoRules.NoRules}

module _ {I O T : Type 0} (files : Files I O T) (source : Source I) where
  -- The text is that of the file of the name, by all of its bytes or by the first 65,537 of them,
  -- or the file was not read. Without a name the text is empty.
  abbrev pub IsTextOf : Option (List ℕ) → Result (Vec ℕ Global) Unread → Type 0
  IsTextOf None (Ok text) = text.items ≡ []
  IsTextOf None (Err why) = ⊥
  IsTextOf (Some name) outcome =
      (file : Option I) × IsFileRead files source Rules name 65536 file outcome

  module _ (name : Option (List ℕ)) (values : List (List ℕ)) where
    -- This holds of the text of the file.
    abbrev pub OnText : (List ℕ → Type 0) → Type 0
    OnText Holds = (text : Vec ℕ Global) × IsTextOf name (Ok text) × Holds text.items

    -- The text of the rules is that of the file, with lines for the values. Or the file was not
    -- read, or the values add no lines to its text.
    abbrev pub IsRulesText : Result (Vec ℕ Global) NoRules → Type 0
    IsRulesText (Ok rules) = OnText (λ text. HasLinesOf values text rules.items)
    IsRulesText (Err (NoRules.Words why)) = OnText (λ text. HasNoLines values text why)
    IsRulesText (Err (NoRules.File why)) = IsTextOf name (Err why)
    IsRulesText (Err why) = ⊥

    -- The rules are accepted, or the text is not one of rules: a line is rejected, or an allocation
    -- failed.
    abbrev pub AreRules : Result MaskRules NoRules → Type 0
    AreRules (Ok rules) = (text : Vec ℕ Global) × IsRulesText (Ok text)
        × (rules_said text.items ≡ Ok (mask_of rules))
    AreRules (Err (NoRules.Line fault text)) =
        IsRulesText (Ok text) × (rules_said text.items ≡ Err fault)
    AreRules (Err NoRules.Memory) = (text : Vec ℕ Global) × IsRulesText (Ok text)
    AreRules (Err why) = IsRulesText (Err why)

    -- Without a file and words, a command applies an empty list of rules.
    abbrev pub AreGivenRules : Result (Option MaskRules) NoRules → Type 0
    AreGivenRules (Ok None) = (name ≡ None) × (values ≡ [])
    AreGivenRules (Ok (Some rules)) = AreRules (Ok rules)
    AreGivenRules (Err why) = AreRules (Err why)
