use Rattle.std.proofs.Common.{◌++◌, Err, ap, subst}
use Rattle.dap_frame.specs.Frame.{HasContentByte}
use Rattle.dap_input.proofs.ItemReaders.{frame_fault, frame_fed}
use Rattle.dap_input.proofs.item_reader.FramerItemReader.feed.Goals as goal

pub returns-in-Ok-clause-gives : goal.returns-in-Ok-clause-gives
returns-in-Ok-clause-gives c = λ limits bytes was.
    frame_fed limits bytes c.args.piece.now c.args.self.now c.feed.new.self was c.in-Ok.fed.used
    c.in-Ok.fed.content c.in-Ok.ensures.gives c.in-Ok.ensures.limits

pub returns-in-Memory-clause-memory : goal.returns-in-Memory-clause-memory
returns-in-Memory-clause-memory c = λ _. c.in-Err.ensures.memory (ap Err c.in-Memory.is)

pub returns-in-Memory-clause-memory_for_content : goal.returns-in-Memory-clause-memory_for_content
returns-in-Memory-clause-memory_for_content c = λ _ limits bytes was.
    subst (λ l. HasContentByte l (bytes ++ c.args.piece.now)) was.0
    (c.in-Err.ensures.memory_for_content (ap Err c.in-Memory.is) bytes was.1)

pub returns-in-Memory-clause-memory_for_bytes : goal.returns-in-Memory-clause-memory_for_bytes
returns-in-Memory-clause-memory_for_bytes c = λ _ limits bytes was.
    c.in-Err.ensures.memory_for_bytes (ap Err c.in-Memory.is) bytes was.1

pub returns-in_default-clause-gives : goal.returns-in_default-clause-gives
returns-in_default-clause-gives c = λ limits bytes was.
    frame_fault limits bytes c.args.piece.now c.args.self.now c.feed.new.self was c.in-Err.fault
    c.in_default.not-Memory c.in-Err.ensures.gives
