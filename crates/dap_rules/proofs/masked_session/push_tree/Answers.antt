use Rattle.std.proofs.Common.{◌≡◌, ◌++◌, ◌∙◌, [], None, Some, ap, length, sym, vec_len}
use Rattle.std.proofs.lemmas.Result.{err_from_is_err_and}
use Rattle.dap_tree.specs.{Json.text_of, View.view}
use Rattle.dap_mask.specs.{KeptRules.mask_of, Loose.{IsLeftOf, LeavesFraction}}
use Rattle.dap_message.specs.Message.{Sent}
use Rattle.dap_normalise.specs.JudgingSteps.{payload_of, record_of}
use Rattle.dap_rules.specs.Masking.{left_of}
use Rattle.dap_rules.proofs.MaskedRecords.{fraction_left, not_written}
use Rattle.dap_rules.proofs.MaskedSessions.{dropped, left_read, names_of, pushed}
use Rattle.dap_rules.proofs.masked_session.push_tree.Goals as goal

pub returns-in-Ok-None : goal.returns-in-Ok-None
returns-in-Ok-None c messages was =
    let mask = mask_of c.args.rules.now in
    let is : IsLeftOf mask c.args.whole.now.content None =
    rw (c.as_slice.ensures, c.in-Ok-None.field-0-is) at c.in-Ok-None.ensures.ok in
    dropped c.args.limits mask messages (payload_of c.args.whole.now) c.args.number c.args.written
    c.args.session.now was is

pub returns-in-Err-Fraction : goal.returns-in-Err-Fraction
returns-in-Err-Fraction c messages was =
    let mask = mask_of c.args.rules.now in
    let is : LeavesFraction mask c.args.whole.now.content =
    rw (c.as_slice.ensures, c.in-Err-Fraction.field-0-is) at c.in-Err-Fraction.ensures.err in
    fraction_left c.args.limits mask messages (payload_of c.args.whole.now) c.args.number
    c.args.written was.fits was.count is

pub returns-in_err-after : goal.returns-in_err-after
returns-in_err-after c messages was =
    let because = err_from_is_err_and c.from_residual.result c.from_residual.ensures.1 in
    let mask = mask_of c.args.rules.now in
    let tree = c.in-Ok-Some.tree in
    let is : IsLeftOf mask c.args.whole.now.content (Some (view tree)) =
    rw (c.as_slice.ensures, c.in-Ok-Some.field-0-is) at c.in-Ok-Some.ensures.ok in
    let one : Sent = record { side = c.args.whole.now.side; doc = view tree } in
    let len : vec_len c.write_tree_to.new.out ≡ length c.write_tree_to.new.out.items = search in
    let text : c.write_tree_to.new.out.items ≡ text_of (view tree) =
    c.in-Ok.ensures.text ∙ ap (λ t. t ++ text_of (view tree)) c.new-text.ensures.items in
    rw (because.1, because.2)
    (not_written c.args.limits mask messages (payload_of c.args.whole.now) c.args.number
    c.args.written was.fits was.count (view tree) is _ [] (record_of one)
    (c.in_err-after.ensures.counts one (sym (c.len-content_len.ensures ∙ len ∙ ap length text))))

pub add_named_tree-requires-clause-read : goal.add_named_tree-requires-clause-read
add_named_tree-requires-clause-read c =
    let mask = mask_of c.args.rules.now in
    let tree = c.in-Ok-Some.tree in
    let is : IsLeftOf mask c.args.whole.now.content (Some (view tree)) =
    rw (c.as_slice.ensures, c.in-Ok-Some.field-0-is) at c.in-Ok-Some.ensures.ok in
    (text_of (view tree), left_read c.args.rules.now c.args.whole.now.content (view tree) is)

pub add_named_tree-requires-clause-len : goal.add_named_tree-requires-clause-len
add_named_tree-requires-clause-len c =
    let tree = c.in-Ok-Some.tree in
    let len : vec_len c.write_tree_to.new.out ≡ length c.write_tree_to.new.out.items = search in
    let text : c.write_tree_to.new.out.items ≡ text_of (view tree) =
    c.in-Ok.ensures.text ∙ ap (λ t. t ++ text_of (view tree)) c.new-text.ensures.items in
    sym (c.len-content_len.ensures ∙ len ∙ ap length text)

pub add_named_tree-requires-clause-named : goal.add_named_tree-requires-clause-named
add_named_tree-requires-clause-named c =
    let mask = mask_of c.args.rules.now in
    let was = c.requires.represents in (
      left_of mask was.0,
      names_of c.args.limits mask was.0 c.args.written c.args.session.now was.1,
    )

pub returns-in-Some : goal.returns-in-Some
returns-in-Some c messages was =
    let mask = mask_of c.args.rules.now in
    let tree = c.in-Ok-Some.tree in
    let is : IsLeftOf mask c.args.whole.now.content (Some (view tree)) =
    rw (c.as_slice.ensures, c.in-Ok-Some.field-0-is) at c.in-Ok-Some.ensures.ok in
    let one : Sent = record { side = c.args.whole.now.side; doc = view tree } in
    let len : vec_len c.write_tree_to.new.out ≡ length c.write_tree_to.new.out.items = search in
    let text : c.write_tree_to.new.out.items ≡ text_of (view tree) =
    c.in-Ok.ensures.text ∙ ap (λ t. t ++ text_of (view tree)) c.new-text.ensures.items in
    pushed c.args.limits mask messages (payload_of c.args.whole.now) c.args.number c.args.written
    c.args.session.now was (view tree) is [] (record_of one) c.in_ok-after.after
    (c.in_ok-after.ensures.counts one (sym (c.len-content_len.ensures ∙ len ∙ ap length text)))
    c.add_named_tree.new.self c.in-Some.ensures
