use Rattle.std.proofs.Common.{◌≡◌, map}
use Rattle.std.specs.Iterator.Adapters.{zip_first, zip_second}
use Rattle.std.specs.Slice.Iter.{iter_rest}
use Rattle.dap_tokens.specs.Models.{labels_of}
use Rattle.dap_naming.specs.Joint.{KeepsNumbers, limit_of_both, table_of, join_all, value_pairs}
use Rattle.dap_naming.specs.Joint.{id_of, text_pairs}
use Rattle.dap_naming.proofs.joint.join_texts.Given as goal

-- the pairs of the tokens that are left are the rest of all pairs
abbrev pub invariant-loop-token_a : goal.invariant-loop-token_a
invariant-loop-token_a l = record {
  joined : join_all (table_of l.names)
      (value_pairs (map id_of (iter_rest (zip_first l.token_a-iterator)))
      (map id_of (iter_rest (zip_second l.token_a-iterator))))
      ≡ join_all (table_of l.initial.names)
      (text_pairs (labels_of l.labels_a) l.a (labels_of l.labels_b) l.b);
  kept : KeepsNumbers l.initial.names l.names;
  limit : limit_of_both l.names ≡ limit_of_both l.initial.names;
}
