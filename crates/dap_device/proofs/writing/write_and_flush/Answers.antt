use Rattle.dap_device.proofs.Sending.{all_then_flush}
use Rattle.dap_device.proofs.writing.write_and_flush.Goals as goal

pub returns : goal.returns
returns g c =
    all_then_flush g.W.Sink c.args.writer.now c.write_all.new.writer c.flush.new.self
    c.args.bytes.now c.flush.result c.in_ok-write_all.ensures c.flush.ensures.flushed
