use Rattle.std.proofs.Common.{◌≡◌, ℕ, ◌+◌, ◌<◌, Bool, List, [], ◌∷◌, ◌++◌, map, length, Option}
use Rattle.std.proofs.Common.{sym, ap, ◌∙◌, subst, arith}
use Rattle.std.specs.Prelude.{slice_get}
use Rattle.dap_message.specs.Message.{Sent}
use Rattle.dap_order.specs.Keys.{conversation_key, is_numbered_response, IsKeyAt, IsLastBelow}
use Rattle.dap_order.specs.Waits.{AreConversations}
use Rattle.dap_order.proofs.Lists.{there, get_map, len_map}
use Rattle.dap_order.proofs.PreviousPlaces.{earlier_is, previous_at, previous_len}
use Rattle.dap_order.proofs.LastResponses.{AreResponses, responses_none, responses_begin}
use Rattle.dap_order.proofs.LastResponses.{responses_go_on, responses_all}
use Rattle.dap_order.proofs.waits.last_responses.Goals as goal
use Rattle.dap_order.proofs.waits.last_responses.Goals.{in-Some, in-None}

-- There is a place for each message.
places : (ms : List Sent) (previous : List (Option ℕ)) (tests : List Bool)
    → AreConversations ms previous tests → length previous ≡ length ms
places ms previous tests are =
    previous_len (map conversation_key ms) conversation_key ms previous are.are_previous

pub loop-place-init : goal.loop-place-init
loop-place-init c ms are =
    subst (AreResponses ms 0) (sym c.new-responses.ensures.items) (responses_none ms)

pub response_up_to-response-requires-clause-in_range
    : goal.response_up_to-response-requires-clause-in_range
response_up_to-response-requires-clause-in_range c =
    let ms = c.requires.0 in
    let are = c.requires.1 in
    let previous = c.args.in_conversation.now in
    let n = c.loop-place.place in
    let low : n < length ms = omega (
      arith,
      c.loop-place-test.true,
      previous.ok.0,
      places ms previous.items c.args.are_responses.now are,
    ) in
    let before = (earlier_is conversation_key ms previous.items are.are_previous n
    c.index.result.now c.in-Some.last low c.index.ensures c.in-Some.is).0 in
    omega (arith, before, low, ap length are.are_tests, len_map is_numbered_response ms)

pub response_up_to-response-requires-clause-known
    : goal.response_up_to-response-requires-clause-known
response_up_to-response-requires-clause-known c =
    let ms = c.requires.0 in
    let are = c.requires.1 in
    let previous = c.args.in_conversation.now in
    let n = c.loop-place.place in
    let low : n < length ms = omega (
      arith,
      c.loop-place-test.true,
      previous.ok.0,
      places ms previous.items c.args.are_responses.now are,
    ) in
    let before = (earlier_is conversation_key ms previous.items are.are_previous n
    c.index.result.now c.in-Some.last low c.index.ensures c.in-Some.is).0 in
    omega (arith, before, (c.loop-place.invariant ms are).len, ap length c.deref.ensures.value)

pub loop-place-preserved : goal.loop-place-preserved
loop-place-preserved c ms are =
    let previous = c.args.in_conversation.now in
    let tests = c.args.are_responses.now in
    let n = c.loop-place.place in
    let found = c.loop-place.responses.items in
    let so_far = c.loop-place.invariant ms are in
    let low : n < length ms = omega (
      arith,
      c.loop-place-test.true,
      previous.ok.0,
      places ms previous.items tests are,
    ) in
    let y = there ms n low in
    let last = previous_at (map conversation_key ms) conversation_key ms previous.items
    are.are_previous n (conversation_key y.0) c.index.result.now
    (get_map conversation_key ms n y.0 y.1) c.index.ensures in
    elim c.match-index.branch [
      | in-Some w ↦ subst (AreResponses ms (n + 1))
          (sym (c.in_ok-push.ensures.items
          ∙ ap (λ (r : Option ℕ). found ++ r ∷ []) w.response-is))
          (responses_go_on ms n found y.0 w.in-Some.last w.response_up_to-response.result tests
          so_far y.1
          (subst (λ (o : Option ℕ). IsLastBelow (IsKeyAt (map conversation_key ms)
          (conversation_key y.0)) n o) w.in-Some.is last) are.are_tests
          w.response_up_to-response.ensures.itself
          (λ f. ap (λ zs. slice_get zs w.in-Some.last) (sym w.deref.ensures.value)
          ∙ w.response_up_to-response.ensures.earlier f))
      | in-None w ↦ subst (AreResponses ms (n + 1))
          (sym (c.in_ok-push.ensures.items
          ∙ ap (λ (r : Option ℕ). found ++ r ∷ []) w.response-is))
          (responses_begin ms n found y.0 so_far y.1
          (subst (λ (o : Option ℕ). IsLastBelow (IsKeyAt (map conversation_key ms)
          (conversation_key y.0)) n o) w.in-None.is last))
    ]

pub returns : goal.returns
returns c ms are =
    let previous = c.args.in_conversation.now in
    responses_all ms c.loop-place.place c.loop-place.responses.items
    (omega (
      arith,
      c.loop-place-test.false,
      previous.ok.0,
      places ms previous.items c.args.are_responses.now are,
    )) (c.loop-place.invariant ms are)
