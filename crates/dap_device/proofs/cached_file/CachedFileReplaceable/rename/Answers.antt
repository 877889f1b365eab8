use Rattle.std.proofs.Common.{◌≤◌, ◌∙◌, ap, length, subst}
use Rattle.dap_device.specs.Calls.{FileCounts}
use Rattle.dap_device.specs.CachedFile.{after_rename, CachedState}
use Rattle.dap_device.proofs.Past.{elapses_rename, leaves_rename}
use Rattle.dap_device.proofs.cached_file.CachedFileReplaceable.rename.Goals as goal

pub returns-in-Ok-clause-crash : goal.returns-in-Ok-clause-crash
returns-in-Ok-clause-crash c =
    let started = ap (λ (calls : FileCounts). record {
      target = c.self.inside.target;
      temporary = c.self.inside.temporary;
      past = c.self.inside.past.items;
      settled = c.self.inside.settled;
      failures = calls.failures;
      failed_at = calls.failed_at;
    }) c.in_ok-start.ensures ∙ c.self.view_is in
    λ known. leaves_rename c.args.self.now c.rename_temporary.new.self
    (c.in-Ok.ensures.ok ∙ ap after_rename started)
    (subst (λ (m : CachedState). m.settled ≤ length m.past) c.self.view_is c.self.invariant)

pub returns-in-Ok-clause-time : goal.returns-in-Ok-clause-time
returns-in-Ok-clause-time c =
    let started = ap (λ (calls : FileCounts). record {
      target = c.self.inside.target;
      temporary = c.self.inside.temporary;
      past = c.self.inside.past.items;
      settled = c.self.inside.settled;
      failures = calls.failures;
      failed_at = calls.failed_at;
    }) c.in_ok-start.ensures ∙ c.self.view_is in
    λ known. elapses_rename c.args.self.now c.rename_temporary.new.self
    (c.in-Ok.ensures.ok ∙ ap after_rename started)
    (subst (λ (m : CachedState). m.settled ≤ length m.past) c.self.view_is c.self.invariant)
