use Rattle.std.proofs.Common.{pos, refl, rules}
use Rattle.dap_tree.specs.Doc.{whole}
use Rattle.serde_json.specs.Read.{number_from}
use Rattle.dap_tree.specs.ReadTokens.{IsNumberOf}
use Rattle.std.proofs.Common.{false}
use Rattle.dap_flat.proofs.parse.unsigned.Goals as goal

pub returns-in-Some : goal.returns-in-Some
returns-in-Some c =
    let is : IsNumberOf (number_from false c.args.numeral.now) (whole (pos c.in-Some.n)) =
    search rules in
    (pos c.in-Some.n, is, refl)
