use Rattle.std.proofs.Common.{◌≡◌, w64, to_z, of_z, arith}
use Rattle.std.proofs.lemmas.Int.{to_z-of_z}
use Rattle.dap_session.proofs.session.Session.has_seq.Goals as goal

pub returns : goal.returns
returns g c =
    let n : to_z w64 (of_z w64 c.seq_of.result) ≡ c.seq_of.result = grind (arith, to_z-of_z) in
    grind (arith, n, c.find.ensures, c.requests_of.ensures, c.side_of.ensures, c.seq_of.ensures)
