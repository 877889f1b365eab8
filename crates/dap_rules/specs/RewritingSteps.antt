-- What the steps of a pass over the records of a recording do.
use Rattle.std.specs.Prelude.{◌≡◌, ℕ, List, [], ◌∷◌, ◌++◌, length, Result, Ok, Err}
use Rattle.dap_message.specs.Message.{Sent}
use Rattle.dap_mask.specs.{Declarations.Declaration, Mask.Mask}
use Rattle.dap_naming.specs.{Known.{Knows, limit_of}, Sessions.{AreFew, declared_ids}}
use Rattle.dap_naming.specs.declared.value_numbers.ValueNumbers.{ValueNumbers}
use Rattle.dap_input.specs.{Refusals.RejectsPayload, declared.limits.Limits.Limits}
use Rattle.dap_input.specs.declared.refused.Refused.{Refused}
use Rattle.dap_normalise.specs.Accepting.{Payload}
use Rattle.dap_rules.specs.Rewriting.{IsNext, Rejects, rewritten_text}
use Rattle.dap_rules.specs.declared.passes.Pass.{Pass}
use Rattle.dap_rules.specs.declared.passes.Pass.TheVariants as pass

-- These are the numbers of the declared ids of the messages. The ids do not exceed the limit, which
-- is that of the numbers.
pub record AreNumbered (limits : Limits) (declared : List Declaration) (messages : List Sent)
    (numbers : ValueNumbers) : Type 0 where
  pub knows : Knows numbers (declared_ids declared messages)
  pub few : AreFew limits.ids (declared_ids declared messages)
  pub limit : limit_of numbers ≡ limits.ids

-- The numbers are those after these messages. To mask needs none.
abbrev pub HasNumbered : Pass → Limits → Mask → List Sent → ValueNumbers → Type 0
HasNumbered pass.Mask limits mask messages numbers = Unit {0}
HasNumbered pass.Name limits mask messages numbers =
    AreNumbered limits mask.declared messages numbers

-- After these messages, the record `held` is accepted, and what the pass makes of it is appended to
-- the output buffer. The text of all messages then has `after` bytes.
pub record IsTaken (kind : Pass) (limits : Limits) (mask : Mask) (messages : List Sent)
    (held : Payload) (old new : List ℕ) (numbers : ValueNumbers) (after : ℕ) : Type 0 where
  pub message : Sent
  pub is_next : IsNext kind limits mask messages held message
  pub longer : List ℕ
  pub appended : new ≡ old ++ longer
  pub text_is : rewritten_text kind mask (messages ++ message ∷ [])
      ≡ rewritten_text kind mask messages ++ longer
  pub count : after ≡ length (rewritten_text kind mask (messages ++ message ∷ []))
  pub numbered : HasNumbered kind limits mask (messages ++ message ∷ []) numbers

-- Outcome for record n: it is accepted or rejected.
abbrev pub Rewritten : Pass → Limits → Mask → List Sent → Payload → ℕ → List ℕ → List ℕ
    → ValueNumbers → Result ℕ Refused → Type 0
Rewritten kind limits mask messages held n old new numbers (Ok after) =
    IsTaken kind limits mask messages held old new numbers after
Rewritten kind limits mask messages held n old new numbers (Err because) =
    RejectsPayload (Rejects kind limits mask messages held) n because
