use Rattle.std.proofs.Common.{◌≡◌, ◌+◌, [], ◌∷◌, ◌++◌, ◌∙◌, ap, ap₂, sym, map, take}
use Rattle.std.proofs.lemmas.List.{map_more}
use Rattle.dap_recording.specs.Recording.{record_text}
use Rattle.dap_stored.specs.Sessions.{stored_sent}
use Rattle.dap_normalise.specs.{Accepting.text, JudgingSteps.record_of}
use Rattle.dap_normalise.proofs.JudgedRecords.{text_push}
use Rattle.dap_rules.proofs.writing.text_of_messages.Goals as goal

pub loop-message-preserved : goal.loop-message-preserved
loop-message-preserved c =
    let all = c.args.messages.now in
    let i = c.loop-message.message-index in
    let before = map stored_sent (take i all) in
    let item = c.message-item.result in
    let next : map stored_sent (take (i + 1) all) ≡ before ++ stored_sent item ∷ [] =
    map_more stored_sent all i item c.loop-message-test.true
    ∙ ap (λ x. before ++ stored_sent x ∷ []) (sym c.message-item.is) in
    let wrote : c.write_record.new.out.items
    ≡ c.loop-message.written.items ++ record_text c.side.result c.content.result.now =
    c.in-Ok.ensures.ok in
    wrote
    ∙ ap₂ (λ side content. c.loop-message.written.items ++ record_text side content) c.side.ensures
    c.content.ensures
    ∙ ap (λ t. t ++ record_of (stored_sent item)) c.loop-message.invariant
    ∙ sym (ap text next ∙ text_push before (stored_sent item))
