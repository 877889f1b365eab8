use Rattle.std.proofs.Common.{ap, sym, ℕ, List, []}
use Rattle.std.specs.{BTreeMap.is_at, Borrow.Bor, Cmp.Lexicographic.slice_cmp, Map.lookup}
use Rattle.std.specs.VecDeque.{deque_items}
use Rattle.std.specs.{Option.option_map_or, Ordering.{int_cmp, nat_cmp}}
use Rattle.dap_transcript.proofs.open_requests.OpenRequests.new.Goals as goal

pub returns : goal.returns
returns c side = record {
  answers = λ n. ap (λ es. lookup (is_at (int_cmp n)) es) c.new-answered.ensures.empty;
  queues = λ q. record {
    passed = [];
    is = sym (ap (λ es. option_map_or deque_items
        (lookup (is_at (λ (k : Bor (List ℕ)). slice_cmp nat_cmp q k.now)) es) [])
        c.new-queues.ensures.empty);
    closed = tt;
  };
}
