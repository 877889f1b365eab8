use Rattle.std.proofs.Common.{◌<◌, ◌∙◌, [], None, Some, ap, false, inl, length, refl, sym}
use Rattle.std.proofs.Common.{subst}
use Rattle.std.proofs.lemmas.Result.{err_from_is_err_and}
use Rattle.dap_tree.specs.{Doc.Doc, Ids.with_ids, Json.text_of}
use Rattle.dap_flat.specs.Pieces.{Represents}
use Rattle.dap_mask.specs.{KeptRules.mask_of, Loose.IsLeftOf}
use Rattle.dap_mask.specs.FlatMasking.{IsLeftFlat}
use Rattle.dap_message.specs.Message.{Sent}
use Rattle.dap_stored.proofs.OwnNumbers.{own_ids}
use Rattle.dap_input.specs.declared.refused.Refused.TheVariants.{Grew}
use Rattle.dap_normalise.specs.JudgingSteps.{payload_of, record_of}
use Rattle.dap_rules.specs.Masking.{left_of}
use Rattle.dap_rules.specs.MaskedSessions.{AddsNamed, AddsNamedIf}
use Rattle.dap_rules.proofs.MaskedRecords.{not_written}
use Rattle.dap_rules.proofs.MaskedSessions.{dropped, kept, left_read, names_of, pushed}
use Rattle.dap_rules.proofs.masked_session.push_flat.Goals as goal

pub returns-in-Ok-None : goal.returns-in-Ok-None
returns-in-Ok-None c messages was =
    let mask = mask_of c.args.rules.now in
    let is : IsLeftOf mask c.args.whole.now.content None =
    rw (c.as_slice-content.ensures, c.in-Ok-None.field-0-is) at c.in-Ok-None.ensures.ok in
    dropped c.args.limits mask messages (payload_of c.args.whole.now) c.args.number c.args.written
    c.args.session.now was is

pub returns-in_default-length_within : goal.returns-in_default-length_within
returns-in_default-length_within c messages was =
    let mask = mask_of c.args.rules.now in
    let left : IsLeftFlat mask c.args.whole.now.content (Some c.in-Ok-Some.nodes) =
    rw (c.as_slice-content.ensures, c.in-Ok-Some.field-0-is) at c.in-Ok-Some.ensures.ok in
    let d = left.0 in
    let long : c.args.limits.frame.content < length (text_of (with_ids d [])) =
    c.in_default-length_within.ensures d
    (subst (λ ns. Represents ns d) (sym c.deref.ensures.value) left.2) in
    not_written c.args.limits mask messages (payload_of c.args.whole.now) c.args.number
    c.args.written was.fits was.count d left.1 (Grew c.args.number) [] [] (
      refl,
      inl (subst (λ (e : Doc). c.args.limits.frame.content < length (text_of e)) (own_ids d)
          long),
    )

pub returns-in_err-after : goal.returns-in_err-after
returns-in_err-after c messages was =
    let because = err_from_is_err_and c.from_residual.result c.from_residual.ensures.1 in
    let mask = mask_of c.args.rules.now in
    let left : IsLeftFlat mask c.args.whole.now.content (Some c.in-Ok-Some.nodes) =
    rw (c.as_slice-content.ensures, c.in-Ok-Some.field-0-is) at c.in-Ok-Some.ensures.ok in
    let d = left.0 in
    let one : Sent = record { side = c.args.whole.now.side; doc = d } in
    let len = c.in-Some.ensures d
    (subst (λ ns. Represents ns d) (sym c.deref.ensures.value) left.2) in
    rw (because.1, because.2)
    (not_written c.args.limits mask messages (payload_of c.args.whole.now) c.args.number
    c.args.written was.fits was.count d left.1 _ [] (record_of one)
    (c.in_err-after.ensures.counts one
    (ap (λ (e : Doc). length (text_of e)) (sym (own_ids d)) ∙ sym len.0)))

pub add_named_nodes-requires-clause-read : goal.add_named_nodes-requires-clause-read
add_named_nodes-requires-clause-read c =
    let mask = mask_of c.args.rules.now in
    let left : IsLeftFlat mask c.args.whole.now.content (Some c.in-Ok-Some.nodes) =
    rw (c.as_slice-content.ensures, c.in-Ok-Some.field-0-is) at c.in-Ok-Some.ensures.ok in (
      text_of left.0,
      (left.0, left_read c.args.rules.now c.args.whole.now.content left.0 left.1, left.2),
    )

pub add_named_nodes-requires-clause-len : goal.add_named_nodes-requires-clause-len
add_named_nodes-requires-clause-len c d shown =
    let len = c.in-Some.ensures d
    (subst (λ ns. Represents ns d) (sym c.deref.ensures.value) shown) in
    ap (λ (e : Doc). length (text_of e)) (sym (own_ids d)) ∙ sym len.0

pub add_named_nodes-requires-clause-named : goal.add_named_nodes-requires-clause-named
add_named_nodes-requires-clause-named c =
    let mask = mask_of c.args.rules.now in
    let was = c.requires.represents in (
      left_of mask was.0,
      names_of c.args.limits mask was.0 c.args.written c.args.session.now was.1,
    )

pub returns-in-Some-true : goal.returns-in-Some-true
returns-in-Some-true c messages was =
    let mask = mask_of c.args.rules.now in
    let held = payload_of c.args.whole.now in
    let left : IsLeftFlat mask c.args.whole.now.content (Some c.in-Ok-Some.nodes) =
    rw (c.as_slice-content.ensures, c.in-Ok-Some.field-0-is) at c.in-Ok-Some.ensures.ok in
    let d = left.0 in
    let one : Sent = record { side = c.args.whole.now.side; doc = d } in
    let len = c.in-Some.ensures d
    (subst (λ ns. Represents ns d) (sym c.deref.ensures.value) left.2) in
    let adds : AddsNamed c.args.limits mask.declared one c.args.session.now
    c.add_named_nodes.new.self =
    rw c.in-Some-true.field-0-test at c.in-Some-true.ensures (text_of d) d
    (left_read c.args.rules.now c.args.whole.now.content d left.1) left.2 in
    pushed c.args.limits mask messages held c.args.number c.args.written c.args.session.now was d
    left.1 [] (record_of one) c.in_ok-after.after
    (c.in_ok-after.ensures.counts one
    (ap (λ (e : Doc). length (text_of e)) (sym (own_ids d)) ∙ sym len.0))
    c.add_named_nodes.new.self adds

pub returns-in-Some-false : goal.returns-in-Some-false
returns-in-Some-false c messages was =
    let mask = mask_of c.args.rules.now in
    let left : IsLeftFlat mask c.args.whole.now.content (Some c.in-Ok-Some.nodes) =
    rw (c.as_slice-content.ensures, c.in-Ok-Some.field-0-is) at c.in-Ok-Some.ensures.ok in
    let d = left.0 in
    let one : Sent = record { side = c.args.whole.now.side; doc = d } in
    let keeps : AddsNamedIf c.args.limits mask.declared one c.args.session.now
    c.add_named_nodes.new.self false =
    rw c.in-Some-false.field-0-test at c.in-Some-false.ensures (text_of d) d
    (left_read c.args.rules.now c.args.whole.now.content d left.1) left.2 in
    kept c.args.limits mask messages (payload_of c.args.whole.now) c.args.number c.args.written
    c.args.session.now was one c.add_named_nodes.new.self keeps
