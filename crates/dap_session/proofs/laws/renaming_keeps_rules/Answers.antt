use Rattle.dap_session.specs.Laws.{Renames}
use Rattle.dap_session.proofs.RenamingKeepsRules.{first_renamed, open_renamed, keeps_renamed}
use Rattle.dap_session.proofs.laws.renaming_keeps_rules.Goals as goal

pub returns-clause-first : goal.returns-clause-first
returns-clause-first c =
    λ pairs ms ns m n one is h. first_renamed (Renames pairs) one ms ns m n is h

pub returns-clause-open : goal.returns-clause-open
returns-clause-open c =
    λ pairs side ms ns one is h. open_renamed (Renames pairs) one side ms ns is h

pub returns-clause-kept : goal.returns-clause-kept
returns-clause-kept c = λ pairs ms ns one is h. keeps_renamed (Renames pairs) one ms ns is h
