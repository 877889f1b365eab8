use Rattle.std.proofs.Common.{◌≡◌, List, ℤ, length, sym, subst, false}
use Rattle.std.proofs.Math.Logic.{∥∥₁_elim}
use Rattle.std.proofs.Props.{props}
use Rattle.dap_tree.specs.Ids.{with_ids}
use Rattle.dap_tree.specs.Json.{text_of}
use Rattle.dap_flat.specs.Pieces.{Represents}
use Rattle.dap_flat_message.specs.FlatMessages.{flat_doc}
use Rattle.dap_flat.specs.Lengths.{IsLengthWithin}
use Rattle.dap_flat_message.proofs.message.FlatMessageMeasured.length_with_ids.Goals as goal

pub returns : goal.returns
returns c =
    let d = flat_doc c.args.self.now in
    let text = text_of (with_ids d c.args.numbers.now) in
    ∥∥₁_elim c.args.self.now.shown (hlevel props)
    (λ shown. c.length_within.ensures d
    (subst (λ ns. Represents ns d) (sym c.deref.ensures.value) shown))
