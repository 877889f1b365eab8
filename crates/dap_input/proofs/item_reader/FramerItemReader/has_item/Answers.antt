use Rattle.std.proofs.Common.{sym, subst, take, drop}
use Rattle.std.proofs.lemmas.List.{take-append-drop}
use Rattle.dap_frame.specs.Grammar.{HasItem}
use Rattle.dap_input.specs.ItemReading.{frame_items}
use Rattle.dap_input.proofs.item_reader.FramerItemReader.has_item.Goals as goal

pub returns-in-Some : goal.returns-in-Some
returns-in-Some c = λ limits bytes represents some.
    let frame = c.in-Some.ensures.frame in
    subst (λ l. HasItem (frame_items l) c.args.piece.now) represents.0 (record {
      item = take c.in-Some.field-0 c.args.piece.now;
      more = drop c.in-Some.field-0 c.args.piece.now;
      value = frame.0;
      bytes_are = sym (take-append-drop c.in-Some.field-0 c.args.piece.now);
      is_item = frame.1;
    })
