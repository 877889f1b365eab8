-- What the steps of naming the declared ids of a stored session do, for private clauses. Source:
-- own.
use Rattle.std.specs.Prelude.{◌≡◌, ℕ, List, [], ◌∷◌, ◌++◌, Some, slice_get}
use Rattle.dap_message.specs.Message.{Sent}
use Rattle.dap_mask.specs.Declarations.{Declaration}
use Rattle.dap_naming.specs.Numbers.{number}
use Rattle.dap_naming.specs.Sessions.{AreFew, declared_ids, name_sent, named_sents}
use Rattle.dap_naming.specs.declared.value_numbers.ValueNumbers.{ValueNumbers}
use Rattle.dap_stored.specs.Sessions.{AreAt}
use Rattle.dap_input.specs.{Limits.AreSound, declared.limits.Limits.Limits}
use Rattle.dap_rules.specs.RewritingSteps.{AreNumbered}

-- These are the numbers of the declared ids of some messages.
abbrev pub HaveNumbered : List Declaration → ValueNumbers → Type 0
HaveNumbered declared numbers = (limits : Limits) × (before : List Sent) × AreSound limits
    × AreNumbered limits declared before numbers

-- ---- one message

-- The message `named` is the message m after the messages `before`, with names in the place of its
-- declared ids, and these are the numbers after m.
pub record IsNamedAfter (limits : Limits) (declared : List Declaration) (before : List Sent)
    (m named : Sent) (numbers : ValueNumbers) : Type 0 where
  pub is : named ≡ name_sent declared (number (declared_ids declared (before ++ m ∷ []))) m
  pub numbered : AreNumbered limits declared (before ++ m ∷ []) numbers

-- The message m is named by the numbers, which are then those after it.
abbrev pub NamesMessage : List Declaration → ValueNumbers → ValueNumbers → Sent → Sent → Type 0
NamesMessage declared old new m named = (limits : Limits) (before : List Sent) → AreSound limits
    → AreNumbered limits declared before old → IsNamedAfter limits declared before m named new

-- ---- the messages of a session

-- The session has the messages `old`, followed by messages that were added. The named message of m
-- is at the place `at`.
pub record HasNamedAt (limits : Limits) (declared : List Declaration) (before : List Sent)
    (m : Sent) (old new : List Sent) (at : ℕ) (numbers : ValueNumbers) : Type 0 where
  pub more : List Sent
  pub longer : new ≡ old ++ more
  pub named : Sent
  pub there : slice_get new at ≡ Some named
  pub after : IsNamedAfter limits declared before m named numbers

-- The message at a place of a session is named. The named message is at the place `at`.
abbrev pub NamesAt : List Declaration → ValueNumbers → ValueNumbers → List Sent → List Sent → ℕ
    → ℕ → Type 0
NamesAt declared old_numbers new_numbers old new place at =
    (limits : Limits) (before : List Sent) (m : Sent) → AreSound limits
    → AreNumbered limits declared before old_numbers → slice_get old place ≡ Some m
    → HasNamedAt limits declared before m old new at new_numbers

-- The named messages of these messages are at these places of a session, and no label has more
-- values than the limit.
pub record AreNamedAt (limits : Limits) (declared : List Declaration) (messages all : List Sent)
    (places : List ℕ) : Type 0 where
  pub at : AreAt all places (named_sents declared messages)
  pub few : AreFew limits.ids (declared_ids declared messages)
