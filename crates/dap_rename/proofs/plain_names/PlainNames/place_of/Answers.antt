use Rattle.std.specs.Ordering.{int_eq}
use Rattle.std.proofs.lemmas.Int.{to_z-of_z}
use mir.Syntax.{w64}
use Rattle.dap_rename.proofs.Places.{position_tells}
use Rattle.dap_rename.proofs.plain_names.PlainNames.place_of.Goals as goal

pub returns : goal.returns
returns c =
    position_tells (int_eq c.args.number) c.args.self.now.items.items c.scan.result
    (rw (to_z-of_z w64 c.args.number c.ranges.number) at c.scan.ensures)
