use Rattle.std.proofs.Common.{◌∙◌, ap, sym, subst, bytes_eq, refl, List, ℕ, [], rules}
use Rattle.std.proofs.lemmas.Map.Text.{btree_map_updates_str}
use Rattle.std.specs.VecDeque.{deque_items}
use Rattle.dap_transcript.specs.Requests.{IsQueue, are_answered, requests_from}
use Rattle.dap_transcript.proofs.OpenRequests.{first_is, oldest_is}
use Rattle.dap_transcript.proofs.RequestQueues.{items_of, queue_set}
use Rattle.dap_transcript.proofs.open_requests.OpenRequests.oldest.Goals as goal

pub returns-in-None : goal.returns-in-None
returns-in-None c side before tracks =
    let old = c.args.self.now in
    let command = c.args.command.now in
    let all = requests_from side command 0 before in
    let answered = are_answered old.answered in
    let empty : IsQueue answered all [] =
    subst (IsQueue answered all) (sym (ap (items_of deque_items) c.in-None.ensures.value))
    (tracks.queues command) in (
      rw (c.get_mut.follows.holds-at-none) tracks,
      first_is answered all [] empty ∙ oldest_is side before old tracks command,
    )

pub returns-in-Some : goal.returns-in-Some
returns-in-Some c side before tracks =
    let old = c.args.self.now in
    let command = c.args.command.now in
    let all = λ (q : List ℕ). requests_from side q 0 before in
    let answered = are_answered old.answered in
    let queue = c.skip_closed.new.queue in
    let here = subst (IsQueue answered (all command))
    (sym (ap (items_of deque_items) c.in-Some.ensures.value)) (tracks.queues command) in
    let skipped = c.skip_closed.ensures (all command) here in
    let updates = (c.get_mut.follows.holds queue).3 (search rules) in (
      record {
        answers = tracks.answers;
        queues = λ q. subst (IsQueue answered (all q))
            (sym (ap (items_of deque_items) (btree_map_updates_str command old.queues
            (c.get_mut.follows.lender queue) _ updates q)))
            (queue_set deque_items (bytes_eq command q) command q answered all old.queues queue refl
            skipped.0 (tracks.queues q));
      },
      skipped.1 ∙ oldest_is side before old tracks command,
    )
