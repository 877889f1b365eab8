use Rattle.dap_frame.proofs.Ends as items
use Rattle.dap_recording.proofs.Records.{record_grammar}
use Rattle.dap_recording.proofs.laws.one_outcome.Goals as goal

pub returns : goal.returns
returns c = record {
  record_not_faulty =
      λ limits front more side content. items.item_not_faulty (record_grammar limits) front more
      (side, content);
  record_not_open =
      λ limits front more side content. items.item_not_open (record_grammar limits) front more
      (side, content);
  open_not_faulty = λ limits. items.open_not_faulty (record_grammar limits);
}
