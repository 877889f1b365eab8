-- For private clauses: the effect of the next message of a session on the state that checks it.
use Rattle.std.specs.Prelude.{◌≡◌, ℕ, ◌+◌, ◌<◌, ◌≤◌, ℤ, Bool, true, false, List, [], ◌∷◌, ◌++◌}
use Rattle.std.specs.Prelude.{length, take}
use Rattle.dap_message.specs.Message.{Sent}
use Rattle.dap_normalise.specs.declared.judging.Judge.{Judge}
use Rattle.dap_normalise.specs.JudgingSteps.{RepresentsMessages, record_of}

module _ {T : Type 0} (numbers : T → List ℤ) (table_limit : T → ℕ) (messages : List Sent)
    (place : ℕ) where
  -- The state represents the messages before this place.
  pub record RepresentsFirst (judge : Judge T) : Type 0 where
    pub normal : List Sent
    pub represents : RepresentsMessages numbers table_limit judge (take place messages) normal

  -- There is a message at this place. The new state represents it too, and the record of its normal
  -- form is appended.
  pub record HasAppended (normal : List Sent) (new : Judge T) (text longer : List ℕ) : Type 0 where
    pub within : place < length messages
    pub named : Sent
    pub represents : RepresentsMessages numbers table_limit new (take (place + 1) messages)
        (normal ++ named ∷ [])
    pub appended : longer ≡ text ++ record_of named

  -- The session ends before this place, and nothing changes.
  pub record HasNoMore (old new : Judge T) (text longer : List ℕ) : Type 0 where
    pub past : length messages ≤ place
    pub judge_is : new ≡ old
    pub kept : longer ≡ text

  -- Whether there is a message at this place.
  abbrev pub AppendsNext : List Sent → Judge T → Judge T → List ℕ → List ℕ → Bool → Type 0
  AppendsNext normal old new text longer true = HasAppended normal new text longer
  AppendsNext normal old new text longer false = HasNoMore old new text longer
