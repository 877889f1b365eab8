use Rattle.std.proofs.Common.{ap}
use Rattle.dap_frame.proofs.Ends as items
use Rattle.dap_recording.proofs.Records.{record_grammar, readable}
use Rattle.dap_recording.proofs.laws.one_record.Goals as goal

pub returns : goal.returns
returns c = record {
  one = λ limits f g y z s t a b e p q.
      let one = items.one_item (record_grammar limits) f g y z (s, a) (t, b) e p q in
      (one.0, ap (λ m. m.0) one.1, ap (λ m. m.1) one.1);
  no_empty = λ limits side content. items.not_empty (readable limits) (side, content);
}
