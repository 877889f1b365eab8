use Rattle.std.proofs.Common.{sym, ◌∙◌}
use Rattle.std.proofs.lemmas.Result.{err_from_is_err_and}
use Rattle.dap_show.proofs.TranscriptInputs.{returns_error}
use Rattle.dap_show.proofs.transcripts.show_transcript.Goals as goal

pub returns-in_err-text-clause-outcome : goal.returns-in_err-text-clause-outcome
returns-in_err-text-clause-outcome g c =
    let because = err_from_is_err_and c.from_residual.result c.from_residual.ensures.1 in
    rw (because.1, because.2)
    (returns_error c.args.limits c.in-Ok.input.bytes.items g.R.Source c.args.reader.now
    c.read_all.new.reader g.W.Sink c.args.writer.now c.transcript_of.result c.in-Ok.input.stop
    c.in-Ok.ensures.came c.transcript_of.ensures.ok c.transcript_of.ensures.err
    c.in_err-text.field-0.0 (sym c.text_of_input.ensures ∙ c.in_err-text.was))
