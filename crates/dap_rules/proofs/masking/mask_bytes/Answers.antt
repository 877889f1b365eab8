use Rattle.std.proofs.Common.{◌∙◌, ap, sym, subst, true≢false}
use Rattle.dap_device.specs.Memory.{GivenBytes}
use Rattle.dap_mask.specs.KeptRules.{mask_of}
use Rattle.dap_rules.specs.MaskedRecordings.{IsMaskedTo}
use Rattle.dap_rules.specs.Applying.{RefusesToMask}
use Rattle.dap_rules.specs.Memory.{WrittenBytes}
use Rattle.dap_rules.proofs.EmptyRecordings.{no_bytes, none_masked}
use Rattle.dap_rules.proofs.MemoryRuns.{mask_refused, masked_whole}
use Rattle.dap_rules.proofs.masking.mask_bytes.Goals as goal

pub returns-then-is_empty-clause-ok : goal.returns-then-is_empty-clause-ok
returns-then-is_empty-clause-ok c =
    let none = no_bytes c.args.recording.now (sym c.is_empty.ensures ∙ c.if-is_empty.true) in
    rw (none, c.new.ensures.items)
    (none_masked c.args.limits c.requires.limits c.args.rules.now)

pub returns-in-Ok-clause-ok : goal.returns-in-Ok-clause-ok
returns-in-Ok-clause-ok c =
    let mask = mask_of c.args.rules.now in
    subst (λ bytes. IsMaskedTo c.args.limits mask bytes c.into_bytes.result.items)
    (ap (λ (source : GivenBytes). source.left) c.new-reader.ensures)
    (subst (IsMaskedTo c.args.limits mask c.new-reader.result.left) (sym c.into_bytes.ensures)
    (masked_whole c.new-reader.result c.mask.new.reader c.new-writer.result c.mask.new.writer
    c.args.limits mask (ap (λ (sink : WrittenBytes). sink.out) c.new-writer.ensures)
    c.in-Ok.ensures.outcome))

pub returns-clause-err : goal.returns-clause-err
returns-clause-err c =
    let mask = mask_of c.args.rules.now in
    subst (λ bytes. RefusesToMask c.args.limits mask bytes c.in-Err.refused)
    (ap (λ (source : GivenBytes). source.left) c.new-reader.ensures)
    (mask_refused c.new-reader.result c.mask.new.reader c.new-writer.result c.mask.new.writer
    c.args.limits mask c.in-Err.refused
    (λ out. true≢false (sym (c.is_out_of_memory.ensures.1 out) ∙ c.if-is_out_of_memory.false))
    c.in-Err.ensures.outcome)
