use Rattle.std.proofs.Common.{◌≡◌, ◌∙◌, ◌∷◌, ap, sym, drop, Some, w64, to_z, of_z, arith}
use Rattle.std.proofs.lemmas.Int.{to_z-of_z}
use Rattle.dap_transcript.specs.Requests.{are_answered, first_open}
use Rattle.dap_transcript.proofs.OpenRequests.{first_is, first_passed, first_stays}
use Rattle.dap_transcript.proofs.Places.{is_empty, split_first}
use Rattle.dap_transcript.proofs.open_requests.skip_closed.Goals as goal

pub returns-then-not-is_closed : goal.returns-then-not-is_closed
returns-then-not-is_closed c all q =
    let answered = are_answered c.args.answered.now in
    let items = c.loop-request.queue.items in
    let request = c.in-Some.request in
    let so_far = c.loop-request.invariant all q in
    let n : to_z w64 (of_z w64 request.number) ≡ request.number = grind (arith, to_z-of_z) in (
      so_far,
      ap Some n
          ∙ first_stays answered all items (drop 1 items) request so_far
          (split_first items request c.in-Some.ensures)
          (sym c.is_closed.ensures ∙ c.if-not-is_closed.true),
    )

pub loop-request-preserved : goal.loop-request-preserved
loop-request-preserved c all q =
    let items = c.loop-request.queue.items in
    let request = c.in-Some.request in
    first_passed (are_answered c.args.answered.now) all items c.pop_front.new.self.items request
    (c.loop-request.invariant all q)
    (split_first items request c.in-Some.ensures
    ∙ ap (λ l. request ∷ l) (sym c.pop_front.ensures.rest))
    (sym c.is_closed.ensures ∙ c.if-not-is_closed.false)

pub returns : goal.returns
returns c all q =
    let answered = are_answered c.args.answered.now in
    let items = c.loop-request.queue.items in
    let so_far = c.loop-request.invariant all q in (
      so_far,
      sym (ap (first_open answered) (is_empty items c.in_default.ensures))
          ∙ first_is answered all items so_far,
    )
