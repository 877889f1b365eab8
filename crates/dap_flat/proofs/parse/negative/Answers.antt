use Rattle.std.proofs.Common.{◌≡◌, ap, rules, true, to_z, of_z, w64}
use Rattle.dap_tree.specs.Doc.{whole}
use Rattle.serde_json.specs.Read.{number_from}
use Rattle.dap_flat.specs.Pieces.{leaf}
use Rattle.dap_tree.specs.ReadTokens.{IsNumberOf}
use Rattle.dap_flat.proofs.parse.negative.Goals as goal

pub returns-then-n-lt0 : goal.returns-then-n-lt0
returns-then-n-lt0 c =
    let is : IsNumberOf (number_from true c.args.numeral.now) (whole c.in-Some.n) =
    search rules in
    let same : to_z w64 (of_z w64 c.in-Some.n) ≡ c.in-Some.n = search rules in
    (c.in-Some.n, is, ap (λ z. leaf (whole z)) same)
