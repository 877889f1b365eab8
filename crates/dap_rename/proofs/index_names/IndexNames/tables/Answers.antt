use Rattle.std.proofs.Common.{rules}
use Rattle.dap_tree.specs.declared.sort.Sort.TheVariants.{ClientSeq, AdapterSeq, Frame}
use Rattle.dap_tree.specs.declared.sort.Sort.TheVariants.{Reference, Thread, Breakpoint}
use Rattle.dap_rename.proofs.index_names.IndexNames.tables.Goals as goal

pub returns-clause-limits : goal.returns-clause-limits
returns-clause-limits g c ClientSeq = search rules
returns-clause-limits g c AdapterSeq = search rules
returns-clause-limits g c Frame = search rules
returns-clause-limits g c Reference = search rules
returns-clause-limits g c Thread = search rules
returns-clause-limits g c Breakpoint = search rules
