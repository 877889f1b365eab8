use Rattle.std.proofs.Common.{◌≡◌, ap, ◌∙◌, arith, w64, to_z, of_z}
use Rattle.std.proofs.lemmas.Int.{to_z-of_z}
use Rattle.dap_transcript.specs.Requests.{are_answered, is_before}
use Rattle.dap_transcript.proofs.open_requests.is_closed.Goals as goal

pub returns-in-None : goal.returns-in-None
returns-in-None c =
    let number = c.args.request.number in
    let n : to_z w64 (of_z w64 number) ≡ number = grind (arith, to_z-of_z) in
    ap (is_before c.args.request.place)
    (c.in-None.ensures ∙ ap (are_answered c.args.answered.now) n)

pub returns-in-Some : goal.returns-in-Some
returns-in-Some c =
    let number = c.args.request.number in
    let n : to_z w64 (of_z w64 number) ≡ number = grind (arith, to_z-of_z) in
    ap (is_before c.args.request.place)
    (c.in-Some.ensures ∙ ap (are_answered c.args.answered.now) n)
