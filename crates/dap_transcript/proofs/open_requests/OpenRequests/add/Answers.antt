use Rattle.std.proofs.Common.{◌∙◌, ap₂, Some, cond, [], ◌∷◌, ◌++◌, length}
use Rattle.std.proofs.Common.{ap}
use Rattle.std.specs.VecDeque.{deque_items}
use Rattle.dap_transcript.specs.Expected.{asks}
use Rattle.dap_transcript.specs.Requests.{are_answered, queue_of, request_at}
use Rattle.dap_transcript.proofs.OpenRequests.{tracks_more}
use Rattle.dap_transcript.proofs.RequestQueues.{request_is, response_is}
use Rattle.dap_transcript.proofs.open_requests.OpenRequests.add.Goals as goal

pub returns : goal.returns
returns c before m tracks is here =
    let x = c.args.message in
    let old = c.args.self.now in
    tracks_more c.args.side before old tracks m _
    (λ n. c.in_ok-add_response.ensures n
    ∙ ap₂ (λ b k. cond b (Some k) (are_answered old.answered n))
    (response_is m x is c.args.side n) here)
    (λ q. c.in_ok-add_request.ensures q
    ∙ ap₂ (λ b k. queue_of deque_items old.queues q ++ cond b (request_at x.seq k ∷ []) [])
    (request_is m x is c.args.side q) here
    ∙ ap (λ s. queue_of deque_items old.queues q
    ++ cond (asks c.args.side q m) (request_at s (length before) ∷ []) []) is.seq)
