use Rattle.std.proofs.Common.{refl, subst}
use Rattle.std.proofs.Math.Logic.{∥∥₁_elim}
use Rattle.std.proofs.Props.{props}
use Rattle.dap_flat.specs.Lengths.{IsLengthWithin}
use Rattle.dap_stored.proofs.OwnNumbers.{own_numbers}
use Rattle.dap_stored.proofs.message.StoredMessageMeasured.length_with_ids.Goals as goal

pub returns : goal.returns
returns c =
    let s = c.args.self.now in
    ∥∥₁_elim s.marked (hlevel props)
    (λ m. subst (λ t. IsLengthWithin c.args.limit t c.spliced_length.result)
    (m.splices c.args.numbers.now)
    (c.spliced_length.ensures s.content.now refl (own_numbers _ _ _ m)))
