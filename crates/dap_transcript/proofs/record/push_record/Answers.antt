use Rattle.std.proofs.Common.{◌≡◌, ◌&&◌, ◌++◌, ◌∙◌, ap, ap₂, arith, of_z, sym, to_z, w64}
use Rattle.std.specs.Ordering.{int_eq}
use Rattle.std.proofs.lemmas.{Int.to_z-of_z, Result.on_ok_weaker}
use Rattle.serde_json.specs.Written.{compact_text}
use Rattle.dap_tree.specs.Ids.{without_ids}
use Rattle.dap_tree.proofs.WithoutIds.{data-without}
use Rattle.dap_profile.specs.declared.profile.Kind.TheVariants.{Response}
use Rattle.dap_session.specs.Messages.{same_kind}
use Rattle.dap_transcript.specs.Transcript.{same_number}
use Rattle.dap_transcript.proofs.RecordLists.{omitted_same, record_pushed, title_line_is}
use Rattle.dap_transcript.proofs.record.push_record.Goals as goal

pub returns : goal.returns
returns c =
    let o = c.omitted_of.result in
    let told = c.omitted_of.ensures in
    let old = c.args.out.now.items in
    let own = c.args.seq in
    let n : to_z w64 (of_z w64 own) ≡ own = grind (arith, to_z-of_z) in
    on_ok_weaker c.push_content.result
    (λ is m head ordered before seq request.
    let numbered = head.numbered in
    record_pushed o before m old c.push_head.new.out.items c.push_content.new.out.items
    (omitted_same o before m (to_z w64 (of_z w64 own)) c.args.request (told.kind ∙ numbered.kind)
    (told.seq ∙ ap (λ z. int_eq z (to_z w64 (of_z w64 own))) numbered.seq)
    (told.request_seq
    ∙ ap₂ (λ k r. same_kind Response k && same_number r c.args.request) numbered.kind
    numbered.request)
    (told.success ∙ head.success_is) (n ∙ seq) request)
    (c.in_ok-push_head.ensures ∙ ap (λ t. old ++ t) (title_line_is m c.args.head.numbered numbered))
    (is (without_ids m.doc) (head.content_is ∙ sym (ap compact_text (data-without m.doc))) ordered))
    c.push_content.ensures
