use Rattle.dap_recording.proofs.RecordsWritten.{written_is_record, written_is_recording}
use Rattle.dap_recording.proofs.laws.written_is_record.Goals as goal

pub returns : goal.returns
returns c = record { one = written_is_record; all = written_is_recording }
