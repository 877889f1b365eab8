use Rattle.std.proofs.Common.{◌≡◌, ℕ, ◌<◌, Bool, List, [], ◌∷◌, ◌++◌, map, length, Option}
use Rattle.std.proofs.Common.{Some, sym, ap, ◌∙◌, subst, arith, Vec, Global}
use Rattle.std.specs.Prelude.{slice_get}
use Rattle.std.proofs.lemmas.Result.{IfOk-weaker}
use Rattle.dap_message.specs.Message.{Sent}
use Rattle.dap_order.specs.Keys.{conversation_key, response_key, is_numbered_response, IsKeyAt}
use Rattle.dap_order.specs.Keys.{IsLastBelow}
use Rattle.dap_order.specs.Waits.{talk, Covers, AreBack, IsEarlier}
use Rattle.dap_order.specs.declared.waits.Earlier.{Earlier}
use Rattle.dap_order.proofs.Lists.{there, get_map, got, one_item, len_map}
use Rattle.dap_order.proofs.PreviousPlaces.{previous_at}
use Rattle.dap_order.proofs.Covering.{covers_back, covers_none, covers_last}
use Rattle.dap_order.proofs.waits.Earlier.of_conversation.Goals as goal
use Rattle.dap_order.proofs.waits.Earlier.of_conversation.Goals.{in-Some+in_ok-push, in_default}

-- The place is within each list of messages that the parts describe.
within : (e : Earlier) (ms ns : List Sent) (place : ℕ) → IsEarlier ms e → IsEarlier ns e
    → place < length ns → place < length ms
within e ms ns place is was low =
    omega (
      arith,
      ap length is.are_responses,
      ap length was.are_responses,
      len_map is_numbered_response ms,
      len_map is_numbered_response ns,
    )

-- The test result that was read is that of the message.
tested : (ms : List Sent) (bs : List Bool) (place : ℕ) (b : Bool) (y : Sent)
    → bs ≡ map is_numbered_response ms → slice_get ms place ≡ Some y → place < length ms
    → slice_get bs place ≡ Some b → is_numbered_response y ≡ b
tested ms bs place b y are at low read =
    one_item (map is_numbered_response ms) place (is_numbered_response y) b
    (get_map is_numbered_response ms place y at)
    (ap (λ zs. slice_get zs place) (sym are) ∙ read)

pub returns-then-index : goal.returns-then-index
returns-then-index c ms is =
    let e = c.args.self.now in
    let low = within e ms c.requires.0 c.args.place is c.requires.1 c.requires.2 in
    let y = there ms c.args.place low in
    let read = got e.are_responses.items c.args.place c.index.result.now
    (omega (arith, low, ap length is.are_responses, len_map is_numbered_response ms))
    c.index.ensures in
    let r = tested ms e.are_responses.items c.args.place c.index.result.now y.0 is.are_responses y.1
    low read ∙ c.if-index.true in
    IfOk-weaker c.back_to_response.result
    (λ (waits : Vec ℕ Global). AreBack ms (conversation_key y.0) c.args.place waits.items)
    (λ (waits : Vec ℕ Global). Covers talk ms c.args.place waits.items)
    (λ waits back. covers_back ms c.args.place y.0 waits.items y.1 r back)
    (c.back_to_response.ensures ms (conversation_key y.0) is
    (get_map conversation_key ms c.args.place y.0 y.1))

pub returns : goal.returns
returns c ms is =
    let e = c.args.self.now in
    let low = within e ms c.requires.0 c.args.place is c.requires.1 c.requires.2 in
    let y = there ms c.args.place low in
    let read = got e.are_responses.items c.args.place c.index.result.now
    (omega (arith, low, ap length is.are_responses, len_map is_numbered_response ms))
    c.index.ensures in
    let plain = tested ms e.are_responses.items c.args.place c.index.result.now y.0
    is.are_responses y.1 low read ∙ c.if-index.false in
    let last = previous_at (map response_key ms) conversation_key ms e.responses.items is.responses
    c.args.place (conversation_key y.0) c.index-2.result.now
    (get_map conversation_key ms c.args.place y.0 y.1) c.index-2.ensures in
    elim c.match-index.branch [
      | in-Some+in_ok-push w ↦ (
          subst (Covers talk ms c.args.place)
          (sym (ap (λ (v : Vec ℕ Global). v.items) w.waits-is ∙ w.in_ok-push.ensures.items
          ∙ ap (λ zs. zs ++ w.in-Some.response ∷ []) c.new-waits.ensures.items))
          (covers_last ms c.args.place y.0 w.in-Some.response y.1 plain
          (subst (λ (o : Option ℕ). IsLastBelow (IsKeyAt (map response_key ms)
          (conversation_key y.0)) c.args.place o) w.in-Some.is last))
          )
      | in_default w ↦ (
          subst (Covers talk ms c.args.place)
          (sym (ap (λ (v : Vec ℕ Global). v.items) w.waits-is ∙ c.new-waits.ensures.items))
          (covers_none ms c.args.place y.0 y.1 plain
          (subst (λ (o : Option ℕ). IsLastBelow (IsKeyAt (map response_key ms)
          (conversation_key y.0)) c.args.place o) w.in_default.is last))
          )
    ]
