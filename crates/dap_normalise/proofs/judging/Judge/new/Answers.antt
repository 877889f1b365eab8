use Rattle.std.proofs.Common.{◌∙◌, refl}
use Rattle.dap_normalise.proofs.JudgedRecords.{none_stand}
use Rattle.dap_normalise.proofs.judging.Judge.new.Goals as goal

pub returns-clause-represents : goal.returns-clause-represents
returns-clause-represents g c =
    none_stand _ c.new.ensures c.new-2.ensures.represents (λ s. c.new-2.ensures.limits s
    ∙ c.requires.tables.1 s) refl
