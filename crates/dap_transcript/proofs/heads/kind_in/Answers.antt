use Rattle.std.proofs.Common.{◌∙◌, sym}
use Rattle.std.proofs.lemmas.Slice.Eq.{bytes_eq-Decides}
use Rattle.json.specs.Print.{escape_byte}
use Rattle.dap_transcript.proofs.heads.kind_in.Goals as goal

pub returns-then-eq : goal.returns-then-eq
unfolding escape_byte
returns-then-eq c =
    (bytes_eq-Decides c.args.value.now c.as_slice.result.now).0 (sym c.eq.ensures ∙ c.if-eq.true)
    ∙ c.as_slice.ensures

pub returns-then-eq-2 : goal.returns-then-eq-2
unfolding escape_byte
returns-then-eq-2 c =
    (bytes_eq-Decides c.args.value.now c.as_slice-2.result.now).0
    (sym c.eq-2.ensures ∙ c.if-eq-2.true)
    ∙ c.as_slice-2.ensures

pub returns-then-eq-3 : goal.returns-then-eq-3
unfolding escape_byte
returns-then-eq-3 c =
    (bytes_eq-Decides c.args.value.now c.as_slice-3.result.now).0
    (sym c.eq-3.ensures ∙ c.if-eq-3.true)
    ∙ c.as_slice-3.ensures
