use Rattle.std.proofs.Common.{ap, ◌∙◌, bytes_eq}
use Rattle.std.specs.VecDeque.{deque_items}
use Rattle.std.proofs.lemmas.Map.Text.{btree_map_updates_str}
use Rattle.dap_transcript.proofs.RequestQueues.{items_of, queue_taken}
use Rattle.dap_transcript.proofs.open_requests.take_queue.Goals as goal

pub returns-in-Some-clause-others : goal.returns-in-Some-clause-others
returns-in-Some-clause-others c q =
    ap (items_of deque_items) (btree_map_updates_str c.args.command.now c.args.queues.now
    c.remove.new.self _ c.in-Some.ensures.updates q)
    ∙ queue_taken deque_items (bytes_eq c.args.command.now q) q c.args.queues.now
