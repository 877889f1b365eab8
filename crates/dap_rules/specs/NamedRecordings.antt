-- The result of replacing the declared ids of a recording by names, and all guarantees about it.
-- Source: own.
use Rattle.std.specs.{Prelude.{◌≡◌, ◌↔◌, ℕ, List}, List.AllZip}
use Rattle.dap_message.specs.{Message.Sent, SwapRules.SwapRule}
use Rattle.dap_mask.specs.Declarations.{Declaration}
use Rattle.dap_naming.specs.Sessions.{named_sents}
use Rattle.dap_rename.specs.declared.mode.Mode.{Mode}
use Rattle.dap_input.specs.declared.limits.Limits.{Limits}
use Rattle.dap_normalise.specs.Normalising.{Normalises}
use Rattle.dap_order.specs.MessageOrder.{ordered}
use Rattle.dap_rules.specs.{MaskedRecordings.IsTypedAs, NamedSessions.AreSameDeclared}
use Rattle.dap_rules.specs.Naming.{Names}

-- `written` is the recording with names in the place of its declared ids, with all guarantees about
-- it.
pub record IsNamedTo (limits : Limits) (declared : List Declaration)
    (bytes written : List ℕ) : Type 0 where
  pub names : Names limits declared bytes written
  -- Naming the output again leaves it unchanged.
  pub again : Names limits declared written written
  -- Another recording has equal output if and only if the messages of the two are the same, except
  -- for a one-to-one renaming of the declared ids of each label.
  pub equal : (others other : List ℕ) (b : Names limits declared others other) → (written ≡ other)
      ↔ AreSameDeclared declared names.messages b.messages
  -- If the output is normalised, in any mode, its messages are those of the recording, typed, with
  -- names in the place of their declared ids.
  pub typed : (mode : Mode) (normal : List ℕ) (n : Normalises limits mode written normal)
      → (messages : List Sent) × AllZip IsTypedAs names.messages messages
      × (n.messages ≡ named_sents declared messages)
  -- Its messages, typed, may be named before rules put them in order. If they are named again after
  -- it, the result is the same as if they are named only after it.
  pub in_order : (rules : List SwapRule) (messages : List Sent)
      → AllZip IsTypedAs names.messages messages
      → named_sents declared (ordered rules (named_sents declared messages))
      ≡ named_sents declared (ordered rules messages)
