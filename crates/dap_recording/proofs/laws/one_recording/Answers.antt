use Rattle.std.proofs.Common.{refl}
use Rattle.dap_frame.proofs.Ends.{not_empty}
use Rattle.dap_frame.proofs.ItemStreams as items
use Rattle.dap_recording.proofs.Records.{record_grammar, readable}
use Rattle.dap_recording.proofs.laws.one_recording.Goals as goal

pub returns : goal.returns
returns c = record {
  empty = λ limits. refl;
  one = λ limits. items.one_list (record_grammar limits) (not_empty (readable limits));
  some_stream = λ limits. items.some_stream (record_grammar limits) (not_empty (readable limits));
  one_stream = λ limits. items.one_stream (record_grammar limits);
}
