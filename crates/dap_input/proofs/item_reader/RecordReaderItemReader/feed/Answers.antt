use Rattle.std.proofs.Common.{◌≡◌, ◌++◌, subst}
use Rattle.dap_recording.specs.RecordReading.{HasMarkedContent}
use Rattle.dap_recording.specs.declared.record_fault.RecordCause.TheVariants.{Memory}
use Rattle.dap_input.proofs.ItemReaders.{record_fault, record_fed}
use Rattle.dap_input.proofs.item_reader.RecordReaderItemReader.feed.Goals as goal

pub returns-in-Ok-clause-gives : goal.returns-in-Ok-clause-gives
returns-in-Ok-clause-gives c = λ limits bytes was.
    record_fed limits bytes c.args.piece.now c.args.self.now c.feed.new.self was c.in-Ok.fed.used
    c.in-Ok.fed.whole c.in-Ok.ensures.gives c.in-Ok.ensures.limits

pub returns-in-Err-clause-gives : goal.returns-in-Err-clause-gives
returns-in-Err-clause-gives c = λ limits bytes was.
    record_fault limits bytes c.args.piece.now c.args.self.now c.feed.new.self was c.in-Err.fault
    c.in-Err.ensures.gives

pub returns-in-Err-clause-memory : goal.returns-in-Err-clause-memory
returns-in-Err-clause-memory c = λ same.
    let is : c.in-Err.fault.cause ≡ Memory = cc in c.in-Err.ensures.memory is

pub returns-in-Err-clause-memory_for_content : goal.returns-in-Err-clause-memory_for_content
returns-in-Err-clause-memory_for_content c = λ same limits bytes was.
    let is : c.in-Err.fault.cause ≡ Memory = cc in
    subst (λ l. HasMarkedContent l (bytes ++ c.args.piece.now)) was.0
    ((c.in-Err.ensures.gives was.1.0 bytes was.1.1).for_content is)

pub returns-in-Err-clause-memory_for_bytes : goal.returns-in-Err-clause-memory_for_bytes
returns-in-Err-clause-memory_for_bytes c = λ same limits bytes was.
    let is : c.in-Err.fault.cause ≡ Memory = cc in
    (c.in-Err.ensures.gives was.1.0 bytes was.1.1).for_bytes is
