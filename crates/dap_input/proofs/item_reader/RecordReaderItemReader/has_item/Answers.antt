use Rattle.std.proofs.Common.{subst}
use Rattle.dap_frame.specs.Grammar.{HasItem}
use Rattle.dap_input.specs.ItemReading.{record_items}
use Rattle.dap_input.proofs.item_reader.RecordReaderItemReader.has_item.Goals as goal

pub returns : goal.returns
returns c = λ limits bytes represents some.
    let found = c.has_record.ensures some in
    subst (λ l. HasItem (record_items l) c.args.piece.now) represents.0 (record {
      item = found.item;
      more = found.more;
      value = record { side = found.value.0; content = found.value.1 };
      bytes_are = found.bytes_are;
      is_item = found.is_item;
    })
