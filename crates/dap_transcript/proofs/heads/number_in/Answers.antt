use Rattle.std.proofs.Common.{◌≡◌, ◌∙◌, arith, of_z, subst, to_z, w64}
use Rattle.std.proofs.lemmas.Int.{to_z-of_z}
use Rattle.std.specs.{Prelude.{Ok}, Str.Parse.ParsesSigned}
use Rattle.dap_transcript.proofs.HeadValues.{number_read}
use Rattle.dap_transcript.proofs.heads.number_in.Goals as goal

pub returns-in-Ok-parse : goal.returns-in-Ok-parse
returns-in-Ok-parse c z fits is =
    let v = c.in-Ok-parse.number in
    let n : to_z w64 (of_z w64 v) ≡ v = grind (arith, to_z-of_z) in
    n ∙ number_read z v fits
    (subst (λ t. ParsesSigned {E = Unit {0}} w64 10 t (Ok v)) (c.in-Ok.ensures.cases.0 ∙ is)
    c.in-Ok-parse.ensures.value.0)
