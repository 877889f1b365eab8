use Rattle.std.proofs.Common.{◌≡◌, ◌∙◌, Some, ap, arith, codes, of_z, sym, to_z, w64}
use Rattle.std.proofs.lemmas.Int.{to_z-of_z}
use Rattle.dap_profile.specs.declared.profile.Kind.TheVariants.{Response}
use Rattle.dap_session.specs.Messages.{is_yes, same_kind}
use Rattle.dap_tree.specs.{Doc.{boolean, whole}, Ids.without_ids}
use Rattle.dap_transcript.specs.Transcript.{members_in}
use Rattle.dap_transcript.proofs.HeadValues.{one_flag, plain_number, value_there}
use Rattle.dap_transcript.proofs.MessageHeads.{has_content, has_head}
use Rattle.dap_transcript.proofs.heads.answer_of.Goals as goal

pub returns : goal.returns
returns c m of kind =
    let has = has_head m (has_content m of.0).enveloped in
    let no = ap (same_kind Response) (sym kind) ∙ sym c.is_response.ensures
    ∙ c.if-is_response.false in
    (sym (has.no_request no), ap is_yes (sym (has.no_success no)))

pub returns-then-is_response : goal.returns-then-is_response
returns-then-is_response c m of kind =
    let content = has_content m of.0 in
    let has = has_head m content.enveloped in
    let yes = ap (same_kind Response) (sym kind) ∙ sym c.is_response.ensures
    ∙ c.if-is_response.true in
    let request = has.request_is yes in
    let success = has.success_is yes in
    let v = c.in_ok-request.request in
    let n : to_z w64 (of_z w64 v) ≡ v = grind (arith, to_z-of_z) in
    let number = c.in_ok-request.ensures request.0
    (plain_number request.0 (codes "request_seq") (without_ids m.doc) content.plain request.2)
    (value_there c.args.values.request_seq c.in_ok-values.field-0 (codes "request_seq")
    (members_in m) (whole request.0) c.in_ok-values.was of.1.request_is request.2) in
    let flag = one_flag c.in_ok-success.success success.0
    (sym c.in_ok-success.ensures
    ∙ value_there c.args.values.success c.in_ok-values-2.field-0 (codes "success") (members_in m)
    (boolean success.0) c.in_ok-values-2.was of.1.success_is success.2) in
    (ap Some (n ∙ number) ∙ sym request.1, flag ∙ ap is_yes (sym success.1))
