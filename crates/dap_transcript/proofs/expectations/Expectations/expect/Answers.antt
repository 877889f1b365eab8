use Rattle.std.proofs.Common.{◌≡◌, ◌∙◌, arith, w64, to_z, of_z}
use Rattle.std.proofs.lemmas.Int.{to_z-of_z}
use Rattle.dap_transcript.proofs.expectations.Expectations.expect.Goals as goal

pub returns : goal.returns
returns c ms r =
    let seq = c.expected-seq.result in
    let n : to_z w64 (of_z w64 seq) ≡ seq = grind (arith, to_z-of_z) in
    let found = c.oldest-request.ensures ms r in
    (found.0, record { seq = n ∙ c.expected-seq.ensures ms r.numbers; request = found.1 })
