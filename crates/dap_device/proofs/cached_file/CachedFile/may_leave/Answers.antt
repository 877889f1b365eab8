use Rattle.std.proofs.Common.{inr, sym, subst, ⊎_elim}
use Rattle.std.proofs.lemmas.List.{take_rest}
use Rattle.std.specs.Option.{option_copied}
use Rattle.dap_device.specs.CachedFile.{CachedState, Leaves, MayLeave}
use Rattle.dap_device.proofs.Past.{any_from_one, one_from_any}
use Rattle.dap_device.proofs.cached_file.CachedFile.may_leave.Goals as goal

pub returns-else-leaves : goal.returns-else-leaves
returns-else-leaves c =
    let content = option_copied c.args.content in
    let earlier =
    rw (c.as_slice.ensures.value)
    at (rw (take_rest c.as_slice.result.now c.self.inside.settled) at c.any_leaves.ensures) in (
      λ yes. subst (λ (m : CachedState). MayLeave m content) c.self.view_is
          (inr (one_from_any (λ v. Leaves v content) _ (earlier.0 yes))),
      λ left. ⊎_elim
          (λ now. let yes = c.leaves.ensures.1 now in let no = c.if-leaves.false in absurd (cc))
          (λ had. earlier.1 (any_from_one (λ v. Leaves v content) _ had))
          (subst (λ (m : CachedState). MayLeave m content) (sym c.self.view_is) left),
    )
