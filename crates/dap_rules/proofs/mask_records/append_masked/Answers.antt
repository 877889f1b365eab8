use Rattle.std.proofs.Common.{◌++◌, ◌∙◌, ap, refl, sym, true, false}
use Rattle.dap_tree.specs.Json.{text_of}
use Rattle.dap_mask.specs.{FlatMasking.AddsMasked, KeptRules.mask_of, Loose.LeavesFraction}
use Rattle.dap_normalise.specs.JudgingSteps.{payload_of}
use Rattle.dap_rules.proofs.MaskedRecords.{fraction_left, left_out, recorded}
use Rattle.dap_rules.proofs.mask_records.append_masked.Goals as goal

pub returns-in-Ok-true-clause-masked : goal.returns-in-Ok-true-clause-masked
returns-in-Ok-true-clause-masked c messages fits count =
    let mask = mask_of c.args.rules.now in
    let adds : AddsMasked mask c.args.whole.now.content true c.clear.new.self.items
    c.write_masked.new.out.items =
    rw (c.as_slice-content.ensures, c.in-Ok-true.field-0-test) at c.in-Ok-true.ensures.ok in
    recorded c.args.limits mask messages (payload_of c.args.whole.now) c.args.number c.args.written
    fits count adds.0 adds.1 c.args.out.now.items c.append_record.new.out.items
    c.args.room.now.numbers c.append_record.result
    (c.append_record.ensures.writes
    (record { side = c.args.whole.now.side; doc = adds.0 }) refl
    (sym (c.as_slice-content-in-Ok-true.ensures.value ∙ adds.2
    ∙ ap (λ xs. xs ++ text_of adds.0) c.clear.ensures.items)))

pub returns-in-Ok-false-clause-masked : goal.returns-in-Ok-false-clause-masked
returns-in-Ok-false-clause-masked c messages fits count =
    let mask = mask_of c.args.rules.now in
    let adds : AddsMasked mask c.args.whole.now.content false c.clear.new.self.items
    c.write_masked.new.out.items =
    rw (c.as_slice-content.ensures, c.in-Ok-false.field-0-test) at c.in-Ok-false.ensures.ok in
    left_out c.args.limits mask messages (payload_of c.args.whole.now) c.args.number c.args.written
    fits count c.args.out.now.items c.args.room.now.numbers adds.0

pub returns-in-Err-Fraction-clause-masked : goal.returns-in-Err-Fraction-clause-masked
returns-in-Err-Fraction-clause-masked c messages fits count =
    let mask = mask_of c.args.rules.now in
    let is : LeavesFraction mask c.args.whole.now.content =
    rw (c.as_slice-content.ensures, c.in-Err-Fraction.field-0-is) at c.in-Err-Fraction.ensures.err in
    fraction_left c.args.limits mask messages (payload_of c.args.whole.now) c.args.number
    c.args.written fits count is
