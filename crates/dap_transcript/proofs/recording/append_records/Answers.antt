use Rattle.std.proofs.Common.{◌≡◌, suc, ◌+◌, ◌<◌, [], ◌∷◌, ◌++◌, ◌∙◌, ap, ap₂, sym, map, take, refl}
use Rattle.std.proofs.Common.{arith, append-nil, append_assoc, length, subst}
use Rattle.std.proofs.lemmas.List.{map_more}
use Rattle.dap_tree.specs.Json.{text_of}
use Rattle.dap_recording.specs.Recording.{record_text}
use Rattle.dap_stored.specs.Sessions.{stored_sent}
use Rattle.dap_transcript.specs.Recordings.{frames}
use Rattle.dap_transcript.proofs.MoreFrames.{frames_push}
use Rattle.dap_transcript.proofs.Places.{map_there}
use Rattle.dap_transcript.proofs.TooLong.{Fit, at_most, first_too_long, none_too_long}
use Rattle.dap_transcript.proofs.TooLong.{one_fits}
use Rattle.dap_transcript.proofs.recording.append_records.Goals as goal

pub loop-message-init : goal.loop-message-init
loop-message-init c = record {
  number_is = refl;
  appended = sym (append-nil c.args.out.now.items);
  fit = none_too_long c.args.limits.content (map stored_sent c.args.messages.now);
}

pub loop-message-preserved : goal.loop-message-preserved
loop-message-preserved c =
    let all = c.args.messages.now in
    let i = c.loop-message.message-index in
    let limit = c.args.limits.content in
    let up : suc i ≡ i + 1 = omega arith in
    let before = map stored_sent (take i all) in
    let item = c.message-item.result in
    let m = stored_sent item in
    let start = c.args.out.now.items in
    let next : map stored_sent (take (i + 1) all) ≡ before ++ m ∷ [] =
    map_more stored_sent all i item c.loop-message-test.true
    ∙ ap (λ x. before ++ stored_sent x ∷ []) (sym c.message-item.is) in
    let wrote : c.write_record.new.out.items
    ≡ c.loop-message.out.items ++ record_text c.side.result c.content.result.now =
    c.in-Ok.ensures.ok in
    let number = c.loop-message.invariant.number_is in
    let is = map_there stored_sent all i item c.loop-message-test.true c.message-item.is in
    record {
      number_is = omega (arith, number);
      appended =
          wrote
          ∙ ap₂ (λ side content. c.loop-message.out.items ++ record_text side content)
          c.side.ensures c.content.ensures
          ∙ ap (λ t. t ++ record_text m.side (text_of m.doc)) c.loop-message.invariant.appended
          ∙ append_assoc start (frames before) (record_text m.side (text_of m.doc))
          ∙ ap (λ t. start ++ t) (sym (ap frames next ∙ frames_push before m));
      fit = subst (λ k. Fit limit (take k (map stored_sent all))) up
          (one_fits (map stored_sent all) i m limit is c.loop-message.invariant.fit
          (at_most limit (length (text_of m.doc))
          (λ long. let no = c.in-Ok.ensures.too_long.1
          (subst (λ t. limit < length t) (sym c.content.ensures) long) in
          absurd (cc))));
    }

pub returns-in-Err-clause-too_long : goal.returns-in-Err-clause-too_long
returns-in-Err-clause-too_long c e =
    let all = c.args.messages.now in
    let i = c.loop-message.message-index in
    let limit = c.args.limits.content in
    let item = c.message-item.result in
    let is = map_there stored_sent all i item c.loop-message-test.true c.message-item.is in
    first_too_long (map stored_sent all) i (stored_sent item) limit _ is
    c.loop-message.invariant.fit (omega (arith, c.loop-message.invariant.number_is))
    (subst (λ t. limit < length t) c.content.ensures (c.in-Err.ensures.too_long.0 (cc)))
