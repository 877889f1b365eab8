use Rattle.std.proofs.Common.{inl, refl, sym, subst, Ok, None}
use Rattle.dap_input.specs.RecordSteps.{Stops}
use Rattle.dap_input.proofs.records.Records.stopped.Goals as goal

pub returns-in-Ok : goal.returns-in-Ok
returns-in-Ok g c = λ limits.
    subst (λ s. Stops (g.I.ItemReader.represents limits) c.args.self.now s (Ok None))
    (sym c.in-End.is)
    (λ held reads. inl ((c.in-Ok.ensures.ok limits held reads).0 refl, refl))
