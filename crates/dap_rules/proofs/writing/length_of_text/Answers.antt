use Rattle.std.proofs.Common.{◌≡◌, suc, ◌+◌, ◌<◌, [], ◌∷◌, ◌++◌, ◌∙◌, ap, sym, subst, arith, drop}
use Rattle.std.proofs.Common.{length, map, take, refl}
use Rattle.std.proofs.lemmas.List.{length-map, length-take-le, map-append, map_more}
use Rattle.std.proofs.Math.Seq.{split_at}
use Rattle.std.proofs.lemmas.Result.{err_from_is_err_and}
use Rattle.dap_stored.specs.Sessions.{stored_sent}
use Rattle.dap_rules.specs.OrderingSteps.{IsLengthOf}
use Rattle.dap_rules.proofs.WrittenTexts.{none_counted, not_counted, one_more}
use Rattle.dap_rules.proofs.writing.length_of_text.Goals as goal

pub loop-message-init : goal.loop-message-init
loop-message-init c = record {
  number = refl;
  within = omega arith;
  counted = none_counted c.args.limits;
}

pub returns-in_err-len : goal.returns-in_err-len
returns-in_err-len c =
    let because = err_from_is_err_and c.from_residual.result c.from_residual.ensures.1 in
    let all = c.args.messages.now in
    let i = c.loop-message.message-index in
    let before = map stored_sent (take i all) in
    let item = c.message-item.result in
    let m = stored_sent item in
    let inv = c.loop-message.invariant in
    let rest = drop (suc i) all in
    let low = c.loop-message-test.true in
    let split : map stored_sent all ≡ before ++ m ∷ map stored_sent rest =
    ap (map stored_sent) (split_at all i item low
    ∙ ap (λ x. take i all ++ x ∷ rest) (sym c.message-item.is))
    ∙ map-append stored_sent (take i all) (item ∷ rest) in
    let count : length before ≡ i =
    length-map (take i all) stored_sent
    ∙ length-take-le i all (let low : i < length all = c.loop-message-test.true in omega arith) in
    let number = inv.number in
    rw (because.1, because.2)
    (not_counted c.args.limits before m c.loop-message.len inv.counted (map stored_sent all)
    (map stored_sent rest) split (c.loop-message.number + 1) (omega (arith, number, count)) _
    (c.in_err-len.ensures.counts m (sym (ap length c.content.ensures))))

pub loop-message-preserved : goal.loop-message-preserved
loop-message-preserved c =
    let all = c.args.messages.now in
    let i = c.loop-message.message-index in
    let before = map stored_sent (take i all) in
    let item = c.message-item.result in
    let m = stored_sent item in
    let inv = c.loop-message.invariant in
    let next : map stored_sent (take (i + 1) all) ≡ before ++ m ∷ [] =
    map_more stored_sent all i item c.loop-message-test.true
    ∙ ap (λ x. before ++ stored_sent x ∷ []) (sym c.message-item.is) in
    let counted = c.in_ok-len.ensures.counts m
    (sym (ap length c.content.ensures)) in
    let number = inv.number in
    record {
      number = omega (arith, number);
      within = counted.3;
      counted = subst (λ ms. IsLengthOf c.args.limits ms c.in_ok-len.len) (sym next)
          (one_more c.args.limits before m c.loop-message.len inv.counted
          (c.loop-message.number + 1) _ counted);
    }
