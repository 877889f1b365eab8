use Rattle.std.proofs.Common.{◌≡◌, ◌∙◌, w64, to_z, of_z, arith}
use Rattle.std.specs.Option.{option_copied}
use Rattle.std.proofs.lemmas.Int.{to_z-of_z}
use Rattle.dap_transcript.specs.Requests.{are_answered}
use Rattle.dap_transcript.proofs.open_requests.answer_to.Goals as goal

pub returns : goal.returns
returns c =
    let n : to_z w64 (of_z w64 c.args.number) ≡ c.args.number = grind (arith, to_z-of_z) in
    let got : option_copied c.get.result ≡ are_answered c.args.answered.now c.args.number =
    rw n at c.get.ensures.value in
    c.copied.ensures ∙ got
