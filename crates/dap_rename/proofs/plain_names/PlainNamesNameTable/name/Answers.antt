use Rattle.std.proofs.lemmas.Grind.{common_steps}
use Rattle.std.proofs.Common.{arith, ap, ◌∙◌, ◌≡◌, pos, suc, length, ◌+ℤ◌, to_z, of_z, w64, sym}
use Rattle.std.specs.Ordering.{int_eq}
use Rattle.std.specs.List.{position_or_len}
use Rattle.std.proofs.lemmas.Int.{ints, to_z-of_z}
use Rattle.dap_rename.proofs.Additions.{place_missing}
use Rattle.dap_rename.proofs.plain_names.PlainNamesNameTable.name.Goals as goal

pub returns-in-Ok-clause-named : goal.returns-in-Ok-clause-named
returns-in-Ok-clause-named c =
    let xs = c.args.self.now.items.items in
    let e : position_or_len (int_eq c.args.number) xs ≡ length xs =
    place_missing (int_eq c.args.number) xs
    (rw (to_z-of_z w64 c.args.number c.ranges.number) at c.in_default.ensures) in
    let k : to_z w64 (of_z w64 (to_z w64 c.len-count.result +ℤ pos 1)) ≡ pos (suc (length xs)) =
    omega (arith, ints) in
    k ∙ ap (λ n. pos (suc n)) (sym e)

pub invariant_of-self : goal.invariant_of-self
invariant_of-self c = grind (arith, common_steps)
