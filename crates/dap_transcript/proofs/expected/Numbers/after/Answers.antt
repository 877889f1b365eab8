use Rattle.std.proofs.Common.{◌≡◌, ap, ◌∙◌, w64, to_z, of_z, arith, Some}
use Rattle.std.proofs.lemmas.Int.{to_z-of_z}
use Rattle.dap_transcript.specs.Numbers.{next_after}
use Rattle.dap_transcript.proofs.NextNumbers.{counts_more}
use Rattle.dap_transcript.proofs.expected.Numbers.after.Goals as goal

pub returns : goal.returns
returns c ns so_far =
    let next = c.next_after.result in
    let n : to_z w64 (of_z w64 c.args.number) ≡ c.args.number = grind (arith, to_z-of_z) in
    let same : to_z w64 (of_z w64 next) ≡ next = grind (arith, to_z-of_z) in
    counts_more c.args.self _ c.args.number ns so_far (ap Some n)
    (same ∙ c.next_after.ensures ∙ ap (next_after c.args.self.last) n)
