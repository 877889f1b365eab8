use Rattle.dap_golden.proofs.WrittenFiles.{read_as_frames}
use Rattle.dap_golden.proofs.forms.recording_in.Goals as goal

pub returns-then-not-is_read_as_transcript-clause-ok :
    goal.returns-then-not-is_read_as_transcript-clause-ok
returns-then-not-is_read_as_transcript-clause-ok c =
    read_as_frames c.args.form c.args.golden.items c.as_slice.result.now
    c.is_read_as_transcript.result c.is_read_as_transcript.ensures c.as_slice.ensures.value
    c.if-not-is_read_as_transcript.true
