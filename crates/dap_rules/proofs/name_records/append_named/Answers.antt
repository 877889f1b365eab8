use Rattle.std.proofs.Common.{◌∙◌, ◌++◌, Err, ap, refl, subst, sym}
use Rattle.dap_tree.specs.{Json.{IsRead, text_of}, View.view}
use Rattle.dap_message.specs.Message.{Sent}
use Rattle.dap_mask.specs.KeptRules.{mask_of}
use Rattle.dap_naming.specs.{Known.{ExceedsLimit, FitsLimit, NamesDoc}, Sessions.rules_for}
use Rattle.dap_normalise.specs.JudgingSteps.{payload_of}
use Rattle.dap_rules.proofs.NamedRecords.{can_be_written, is_named, named_next, numbered_on}
use Rattle.dap_rules.proofs.NamedRecords.{own_ids}
use Rattle.dap_rules.proofs.NamedRecords.{recorded, too_many}
use Rattle.dap_rules.proofs.name_records.append_named.Goals as goal

pub returns-in-Err-Full-clause-named : goal.returns-in-Err-Full-clause-named
returns-in-Err-Full-clause-named c messages fits count was =
    let held = payload_of c.args.whole.now in
    let d = view c.in-Ok.tree in
    let old = c.args.room.now.numbers in
    let read : IsRead held.1 d = rw c.as_slice-content.ensures at c.in-Ok.ensures.ok in
    too_many c.args.limits (mask_of c.args.rules.now) messages held c.args.number c.args.written
    fits count d read old was
    (subst (λ ys. ExceedsLimit old (own_ids ys d)) c.declared.ensures.same
    (c.name_message.ensures.full (c.in-Err-Full.is ∙ ap Err c.in-Err-Full.field-0-is)))

pub write_tree_to-requires : goal.write_tree_to-requires
write_tree_to-requires c =
    let xs = (mask_of c.args.rules.now).declared in
    let d = view c.in-Ok.tree in
    let e = view c.name_message.new.tree in
    let old = c.args.room.now.numbers in
    let new = c.name_message.new.numbers in
    let m : Sent = record { side = c.args.whole.now.side; doc = d } in
    let names : NamesDoc old new (rules_for xs d) d e =
    subst (λ ys. NamesDoc old new (rules_for ys d) d e) c.declared.ensures.same
    c.in-Ok-name_message.ensures.names in
    let fit : FitsLimit old (own_ids xs d) =
    subst (λ ys. FitsLimit old (own_ids ys d)) c.declared.ensures.same
    c.in-Ok-name_message.ensures.few in
    can_be_written c.args.limits xs c.requires.numbered.0 m old new e c.requires.numbered.1 names
    fit
    c.requires.sound c.in-Ok.ensures.plain

pub returns-clause-named : goal.returns-clause-named
returns-clause-named c messages fits count was =
    let limits = c.args.limits in
    let mask = mask_of c.args.rules.now in
    let xs = mask.declared in
    let held = payload_of c.args.whole.now in
    let d = view c.in-Ok.tree in
    let e = view c.name_message.new.tree in
    let old = c.args.room.now.numbers in
    let new = c.name_message.new.numbers in
    let m : Sent = record { side = held.0; doc = d } in
    let read : IsRead held.1 d = rw c.as_slice-content.ensures at c.in-Ok.ensures.ok in
    let names : NamesDoc old new (rules_for xs d) d e =
    subst (λ ys. NamesDoc old new (rules_for ys d) d e) c.declared.ensures.same
    c.in-Ok-name_message.ensures.names in
    let fit : FitsLimit old (own_ids xs d) =
    subst (λ ys. FitsLimit old (own_ids ys d)) c.declared.ensures.same
    c.in-Ok-name_message.ensures.few in
    recorded limits mask messages held c.args.number c.args.written fits count d read new
    (numbered_on limits xs messages m old new e was names fit c.name_message.ensures.limit)
    c.args.out.now.items c.append_record.new.out.items c.append_record.result
    (c.append_record.ensures.writes (named_next xs messages m) refl
    (sym (c.as_slice-content-2.ensures.value ∙ c.in-Ok-write_tree_to.ensures.text
    ∙ ap (λ bytes. bytes ++ text_of e) c.clear.ensures.items
    ∙ ap text_of (is_named limits xs messages m old new e was names fit))))
