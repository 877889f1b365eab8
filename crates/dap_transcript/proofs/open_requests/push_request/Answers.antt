use Rattle.std.proofs.Common.{ap, ◌∙◌, [], bytes_eq}
use Rattle.std.specs.VecDeque.{deque_items}
use Rattle.std.proofs.Common.{refl, ◌++◌, ◌∷◌}
use Rattle.std.proofs.lemmas.Map.Text.{btree_map_updates_str}
use Rattle.dap_transcript.proofs.RequestQueues.{items_of, queue_put}
use Rattle.dap_transcript.proofs.open_requests.push_request.Goals as goal

pub returns : goal.returns
returns c q =
    let command = c.args.command.now in
    let mid = c.take_queue-queue.new.queues in
    ap (items_of deque_items)
    (btree_map_updates_str command mid c.insert.new.self _ c.in_ok-insert.ensures.updates q)
    ∙ queue_put deque_items (bytes_eq command q) command q c.args.queues.now mid
    c.push_back.new.self c.args.request refl
    (c.in_ok-push_back.ensures.items
    ∙ ap (λ l. l ++ c.args.request ∷ []) c.take_queue-queue.ensures.queue)
    c.take_queue-queue.ensures.others
