use Rattle.dap_normalise.proofs.normal_records.NormalRecords.has_next.Goals as goal

pub returns : goal.returns
returns g c = λ limits mode bytes messages normal was some.
    c.has_next.ensures limits.frame was.between some
