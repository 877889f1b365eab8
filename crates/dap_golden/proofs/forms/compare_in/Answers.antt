use Rattle.std.proofs.Common.{rules, subst, sym}
use Rattle.dap_golden.specs.{GoldenForms.ComparesFile, GoldenSteps.bytes_of}
use Rattle.dap_golden.proofs.WrittenFiles.{compared}
use Rattle.dap_golden.proofs.forms.compare_in.Goals as goal

pub returns : goal.returns
returns c =
    let normal = c.args.made.now.text.bytes.items in
    subst
    (λ outcome. ComparesFile c.args.limits c.args.mode c.args.form c.args.golden.items normal
    (bytes_of c.args.made.now) outcome)
    (sym c.file_outcome.ensures)
    (compared c.args.limits c.args.mode c.args.form c.args.golden.items normal
    (bytes_of c.args.made.now) (search rules) c.in_ok-recording.recording.items
    c.in_ok-recording.ensures.ok c.requires.text c.compare_golden.result
    (rw (c.as_slice-3.ensures.value) at c.compare_golden.ensures.same)
    (rw (c.as_slice-3.ensures.value) at c.compare_golden.ensures.verdict)
    (rw (c.as_slice-3.ensures.value) at c.compare_golden.ensures.err))
