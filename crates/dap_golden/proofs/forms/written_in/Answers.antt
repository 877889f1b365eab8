use Rattle.std.proofs.Common.{ℕ, List, subst, sym}
use Rattle.dap_golden.specs.GoldenSteps.{IsNotWritten}
use Rattle.dap_golden.specs.declared.forms.GoldenForm.{GoldenForm}
use Rattle.dap_golden.specs.declared.forms.GoldenForm.TheVariants.{Transcript}
use Rattle.dap_golden.proofs.forms.written_in.Goals as goal

pub returns-in-Err-clause-err : goal.returns-in-Err-clause-err
returns-in-Err-clause-err c = subst
    (λ (form : GoldenForm). IsNotWritten c.args.limits c.args.mode form c.args.text.bytes.items
    c.in-Err.stop)
    (sym c.in-Transcript.is)
    (subst
    (λ (bytes : List ℕ). IsNotWritten c.args.limits c.args.mode Transcript bytes c.in-Err.stop)
    c.as_slice.ensures.value c.in-Err.ensures.err)
