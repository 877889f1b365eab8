use Rattle.std.proofs.Common.{◌≡◌, ap, ◌∙◌, sym, [], ◌∷◌, ◌++◌, bytes_eq, cond, w64, to_z, of_z}
use Rattle.std.proofs.Common.{arith}
use Rattle.std.proofs.lemmas.Int.{to_z-of_z}
use Rattle.std.specs.VecDeque.{deque_items}
use Rattle.dap_transcript.specs.Requests.{queue_of, request_at}
use Rattle.dap_transcript.proofs.RequestQueues.{none_added, one_added}
use Rattle.dap_transcript.proofs.open_requests.add_request.Goals as goal

pub returns-then-not-requests : goal.returns-then-not-requests
returns-then-not-requests c q =
    none_added _ (bytes_eq c.args.message.title.name.now q)
    (request_at c.args.message.seq c.args.place) (queue_of deque_items c.args.queues.now q)
    (sym c.requests.ensures ∙ c.if-not-requests.true)

pub returns : goal.returns
returns c q =
    let seq = c.args.message.seq in
    let n : to_z w64 (of_z w64 seq) ≡ seq = grind (arith, to_z-of_z) in
    let old = queue_of deque_items c.args.queues.now q in
    let same = bytes_eq c.args.message.title.name.now q in
    c.in_ok-push_request.ensures q
    ∙ ap (λ k. old ++ cond same (request_at k c.args.place ∷ []) []) n
    ∙ one_added _ same (request_at seq c.args.place) old
    (sym c.requests.ensures ∙ c.if-not-requests.false)
