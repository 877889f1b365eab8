use Rattle.std.proofs.Common.{◌∙◌}
use Rattle.dap_rename.proofs.Distinct.{differ_from, fits_after}
use Rattle.dap_rename.proofs.index_names.IndexNamesNameTable.name.Goals as goal

pub invariant_of-self-clause-differ : goal.invariant_of-self-clause-differ
invariant_of-self-clause-differ g c =
    differ_from c.insert_full.new.self.keys c.insert_full.ensures.unique

pub invariant_of-self-clause-fits : goal.invariant_of-self-clause-fits
invariant_of-self-clause-fits g c =
    fits_after c.insert_full.result c.args.self.now.items.keys c.insert_full.new.self.keys
    c.args.self.now.limit c.insert_full.ensures.len c.insert_full.ensures.err
    c.args.self.now.fits (λ e. c.if-len-self.false (c.len.ensures.len ∙ e))

pub invariant_of-self-clause-small : goal.invariant_of-self-clause-small
invariant_of-self-clause-small g c = c.args.self.now.small
