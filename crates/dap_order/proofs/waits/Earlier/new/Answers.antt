use Rattle.std.proofs.Common.{◌≡◌, ℕ, Bool, List, Option, map, ◌∙◌}
use Rattle.dap_message.specs.Message.{Sent}
use Rattle.dap_order.specs.Entries.{sent_by}
use Rattle.dap_order.specs.Keys.{ArePrevious, conversation_key, is_numbered_response}
use Rattle.dap_order.specs.Waits.{AreConversations}
use Rattle.dap_order.proofs.waits.Earlier.new.Goals as goal

conversations : (ms : List Sent) (previous : List (Option ℕ)) (tests read : List Bool)
    → ArePrevious (map conversation_key ms) (map conversation_key ms) previous
    → read ≡ tests → tests ≡ map is_numbered_response ms → AreConversations ms previous read
conversations ms previous tests read are same is = record {
  are_previous = are;
  are_tests = same ∙ is;
}

pub last_responses-requires : goal.last_responses-requires
last_responses-requires g c = (
  map sent_by c.args.entries.now,
  conversations (map sent_by c.args.entries.now) c.in_ok-in_conversation.in_conversation.items
      c.in_ok-is_response.is_response.items c.deref.result.now c.in_ok-in_conversation.ensures
      c.deref.ensures.value c.in_ok-is_response.ensures,
)

pub returns : goal.returns
returns g c = record {
  in_class = c.in_ok-in_class.ensures;
  in_conversation = c.in_ok-in_conversation.ensures;
  responses = c.in_ok-responses.ensures (map sent_by c.args.entries.now)
      (conversations (map sent_by c.args.entries.now)
      c.in_ok-in_conversation.in_conversation.items c.in_ok-is_response.is_response.items
      c.deref.result.now c.in_ok-in_conversation.ensures c.deref.ensures.value
      c.in_ok-is_response.ensures);
  are_responses = c.in_ok-is_response.ensures;
}
