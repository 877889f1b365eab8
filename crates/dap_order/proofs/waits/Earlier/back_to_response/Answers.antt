use Rattle.std.proofs.Common.{◌≡◌, ℕ, ◌<◌, map, length, Option, Some, None}
use Rattle.std.proofs.Common.{true, sym, ap, ◌∙◌, subst, arith}
use Rattle.std.specs.Prelude.{slice_get}
use Rattle.dap_order.specs.Keys.{IsKeyAt, conversation_key, is_numbered_response}
use Rattle.dap_order.proofs.Lists.{there, get_below, get_mapped, got, len_map}
use Rattle.dap_order.proofs.PreviousPlaces.{previous_at, previous_len}
use Rattle.dap_order.proofs.Walking.{AreBackTo, steps, next_is, walk_begins, walk_ends, walk_stops}
use Rattle.dap_order.proofs.Walking.{walk_goes_on, walk_falls}
use Rattle.dap_order.proofs.waits.Earlier.back_to_response.Goals as goal

pub loop-next-init : goal.loop-next-init
loop-next-init c ms k is at =
    subst (AreBackTo ms k c.args.place c.index-next.result.now) (sym c.new-waits.ensures.items)
    (walk_begins ms k c.args.place c.index-next.result.now
    (previous_at (map conversation_key ms) conversation_key ms
    c.args.self.now.in_conversation.items is.in_conversation c.args.place k
    c.index-next.result.now at c.index-next.ensures))

pub index-requires : goal.index-requires
index-requires c =
    let ms = c.requires.0 in
    let is = c.requires.1 in
    let k = there (map conversation_key ms) c.args.place
    (omega (arith, c.requires.2, len_map conversation_key ms)) in
    let before = (next_is (map conversation_key ms) k.0 c.args.place c.loop-next.next
    c.in-Some.earlier c.in-Some.is (c.loop-next.invariant ms k.0 is k.1).now).0 in
    omega (
      arith,
      before,
      c.requires.2,
      c.args.self.now.are_responses.ok.0,
      ap length is.are_responses,
      len_map is_numbered_response ms,
    )

pub index-requires-else-index : goal.index-requires-else-index
index-requires-else-index c =
    let ms = c.requires.0 in
    let is = c.requires.1 in
    let k = there (map conversation_key ms) c.args.place
    (omega (arith, c.requires.2, len_map conversation_key ms)) in
    let before = (next_is (map conversation_key ms) k.0 c.args.place c.loop-next.next
    c.in-Some.earlier c.in-Some.is (c.loop-next.invariant ms k.0 is k.1).now).0 in
    omega (
      arith,
      before,
      c.requires.2,
      c.args.self.now.in_conversation.ok.0,
      previous_len (map conversation_key ms) conversation_key ms
          c.args.self.now.in_conversation.items is.in_conversation,
    )

pub loop-next-preserved-then-index : goal.loop-next-preserved-then-index
loop-next-preserved-then-index c ms k is at =
    let waits = c.loop-next.waits.items in
    let p = c.in-Some.earlier in
    let back = subst (λ (o : Option ℕ). AreBackTo ms k c.args.place o waits) c.in-Some.is
    (c.loop-next.invariant ms k is at) in
    let low : c.args.place < length (map conversation_key ms) =
    get_below (map conversation_key ms) c.args.place k at in
    let before : p < c.args.place = back.now.0 in
    let read : slice_get c.args.self.now.are_responses.items p ≡ Some c.index.result.now =
    got c.args.self.now.are_responses.items p c.index.result.now
    (omega (
      arith,
      ap length is.are_responses,
      len_map is_numbered_response ms,
      len_map conversation_key ms,
    )) c.index.ensures in
    let response : slice_get (map is_numbered_response ms) p ≡ Some true =
    ap (λ bs. slice_get bs p) (sym is.are_responses) ∙ read ∙ ap (λ b. Some b) c.if-index.true in
    subst (AreBackTo ms k c.args.place None) (sym c.in_ok-push.ensures.items)
    (walk_stops ms k c.args.place waits p back
    (get_mapped is_numbered_response ms p true response))

pub loop-next-smaller : goal.loop-next-smaller
loop-next-smaller c =
    let ms = c.requires.0 in
    let is = c.requires.1 in
    let k = there (map conversation_key ms) c.args.place
    (omega (arith, c.requires.2, len_map conversation_key ms)) in
    let now = next_is (map conversation_key ms) k.0 c.args.place c.loop-next.next
    c.in-Some.earlier c.in-Some.is (c.loop-next.invariant ms k.0 is k.1).now in
    subst (λ (o : Option ℕ). steps c.index-else-index.result.now < steps o) (sym c.in-Some.is)
    (walk_falls (IsKeyAt (map conversation_key ms) k.0) c.in-Some.earlier
    c.index-else-index.result.now
    (previous_at (map conversation_key ms) conversation_key ms
    c.args.self.now.in_conversation.items is.in_conversation c.in-Some.earlier k.0
    c.index-else-index.result.now now.1 c.index-else-index.ensures))

pub loop-next-preserved : goal.loop-next-preserved
loop-next-preserved c ms k is at =
    let waits = c.loop-next.waits.items in
    let p = c.in-Some.earlier in
    let back = subst (λ (o : Option ℕ). AreBackTo ms k c.args.place o waits) c.in-Some.is
    (c.loop-next.invariant ms k is at) in
    subst (AreBackTo ms k c.args.place c.index-else-index.result.now)
    (sym c.in_ok-push.ensures.items)
    (walk_goes_on ms k c.args.place waits p c.index-else-index.result.now back
    (previous_at (map conversation_key ms) conversation_key ms
    c.args.self.now.in_conversation.items is.in_conversation p k c.index-else-index.result.now
    back.now.1 c.index-else-index.ensures))

pub returns : goal.returns
returns c ms k is at =
    walk_ends ms k c.args.place c.loop-next.waits.items
    (subst (λ (o : Option ℕ). AreBackTo ms k c.args.place o c.loop-next.waits.items)
    c.in_default.is (c.loop-next.invariant ms k is at))
