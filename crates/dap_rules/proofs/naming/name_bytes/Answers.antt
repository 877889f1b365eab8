use Rattle.std.proofs.Common.{◌∙◌, ap, sym, subst, true≢false}
use Rattle.dap_device.specs.Memory.{GivenBytes}
use Rattle.dap_mask.specs.KeptRules.{mask_of}
use Rattle.dap_rules.specs.{Applying.RefusesToName, NamedRecordings.IsNamedTo}
use Rattle.dap_rules.specs.Memory.{WrittenBytes}
use Rattle.dap_rules.proofs.EmptyRecordings.{no_bytes, none_named}
use Rattle.dap_rules.proofs.MemoryRuns.{name_refused, named_whole}
use Rattle.dap_rules.proofs.naming.name_bytes.Goals as goal

pub returns-then-is_empty-clause-ok : goal.returns-then-is_empty-clause-ok
returns-then-is_empty-clause-ok c =
    let none = no_bytes c.args.recording.now (sym c.is_empty.ensures ∙ c.if-is_empty.true) in
    rw (none, c.new.ensures.items)
    (none_named c.args.limits c.requires.limits (mask_of c.args.rules.now).declared
    c.args.rules.now.list.labelled)

pub returns-in-Ok-clause-ok : goal.returns-in-Ok-clause-ok
returns-in-Ok-clause-ok c =
    let declared = (mask_of c.args.rules.now).declared in
    subst (λ bytes. IsNamedTo c.args.limits declared bytes c.into_bytes.result.items)
    (ap (λ (source : GivenBytes). source.left) c.new-reader.ensures)
    (subst (IsNamedTo c.args.limits declared c.new-reader.result.left) (sym c.into_bytes.ensures)
    (named_whole c.new-reader.result c.name.new.reader c.new-writer.result c.name.new.writer
    c.args.limits declared (ap (λ (sink : WrittenBytes). sink.out) c.new-writer.ensures)
    c.in-Ok.ensures.outcome))

pub returns-clause-err : goal.returns-clause-err
returns-clause-err c =
    let declared = (mask_of c.args.rules.now).declared in
    subst (λ bytes. RefusesToName c.args.limits declared bytes c.in-Err.refused)
    (ap (λ (source : GivenBytes). source.left) c.new-reader.ensures)
    (name_refused c.new-reader.result c.name.new.reader c.new-writer.result c.name.new.writer
    c.args.limits declared c.in-Err.refused
    (λ out. true≢false (sym (c.is_out_of_memory.ensures.1 out) ∙ c.if-is_out_of_memory.false))
    c.in-Err.ensures.outcome)
