-- The masked messages of a recording: its messages after all rules but those for the order and
-- those that declare ids. If the rules join output, they are the messages of the joined recording.
-- And what the other rules do with them. Source: own, over joined output, the rules of a mask, the
-- types of the profile, the order of messages and the names of declared ids.
use Rattle.std.specs.{Prelude.{ℕ, List}, List.AllZip}
use Rattle.dap_message.specs.Message.{Sent}
use Rattle.dap_mask.specs.Mask.{Mask}
use Rattle.dap_naming.specs.Sessions.{named_sents}
use Rattle.dap_input.specs.declared.limits.Limits.{Limits}
use Rattle.dap_order.specs.{MessageOrder.ordered, SameButOrder.AreSameButOrder}
use Rattle.dap_rules.specs.{Applying.JoinsBy, Masking.{IsAccepted, left_of}}
use Rattle.dap_rules.specs.MaskedRecordings.{IsTypedAs}

-- The output of the recording is joined if the rules say so. The joined recording contains the
-- messages `read`, with the words of the mask in the place of texts and the members that its rules
-- set. `messages` are those of them that no rule drops, in their order: each one changed by the
-- rules, and typed by the profile.
pub record AreMaskedMessages (limits : Limits) (mask : Mask) (recording : List ℕ)
    (messages : List Sent) : Type 0 where
  pub joined : List ℕ
  pub numbers : List ℕ
  pub joins : JoinsBy limits mask.joining recording joined numbers
  pub read : List Sent
  pub accepts : IsAccepted limits mask joined read
  pub typed : AllZip IsTypedAs (left_of mask read) messages

-- The messages in the order of the `swap` rules.
abbrev pub ordered_by : Mask → List Sent → List Sent
ordered_by mask messages = ordered mask.swaps messages

-- The messages in this order, with names in the place of the declared ids.
abbrev pub named_by : Mask → List Sent → List Sent
named_by mask messages = named_sents mask.declared (ordered_by mask messages)

-- Swaps of neighbours that the `swap` rules make free, and a one-to-one renaming of each kind of
-- id, turn the first list into the second.
abbrev pub AreSameButOrderBy : Mask → List Sent → List Sent → Type 0
AreSameButOrderBy mask ms ns = AreSameButOrder mask.swaps ms ns
