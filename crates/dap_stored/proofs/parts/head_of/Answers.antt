use Rattle.std.proofs.Common.{rules}
use Rattle.dap_stored.proofs.parts.head_of.Goals as goal

pub returns-clause-head : goal.returns-clause-head
returns-clause-head g c = record {
  kind = c.kind.ensures.same;
  kind_reported = c.kind.ensures.reported;
  name = c.requires;
  name_utf8 = c.utf8.named;
  seq = search (c.seq.ensures, rules);
  request_seq = c.request_seq.ensures.same;
  request_seq_there = c.request_seq.ensures.of_responses;
  success = c.success.ensures.same;
  success_there = c.success.ensures.of_responses;
}
