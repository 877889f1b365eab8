use Rattle.std.proofs.Common.{◌≡◌, subst, w64}
use Rattle.std.specs.List.{position}
use Rattle.std.specs.Ordering.{int_eq}
use Rattle.std.proofs.lemmas.Int.{to_z-of_z}
use Rattle.dap_rename.proofs.Places.{position_tells}
use Rattle.dap_rename.proofs.index_names.IndexNames.place_of.Goals as goal

pub returns : goal.returns
returns g c =
    let x = c.args.number in
    let xs = c.args.self.now.items.keys in
    let e : c.get_index_of.result ≡ position (int_eq x) xs =
    subst (λ n. c.get_index_of.result
    ≡ position (int_eq n) xs) (to_z-of_z w64 x c.ranges.number) c.get_index_of.ensures.index in
    position_tells (int_eq x) xs c.get_index_of.result e
