use Rattle.std.proofs.Common.{◌≡◌, ◌+◌, [], ◌∷◌, ◌++◌, map, take, arith, ap, sym, ◌∙◌}
use Rattle.std.proofs.lemmas.List.{take_all, take_more, map-append}
use Rattle.dap_order.specs.Entries.{sent_by}
use Rattle.dap_order.specs.Keys.{is_numbered_response}
use Rattle.dap_order.proofs.waits.are_responses.Goals as goal

pub loop-entry-preserved : goal.loop-entry-preserved
loop-entry-preserved g c =
    let i = c.loop-entry.entry-index in
    let all = c.args.entries.now in
    let e = c.entry-item.result in
    let ms = map sent_by (take i all) in
    let next : map sent_by (take (i + 1) all) ≡ ms ++ sent_by e ∷ [] =
    ap (map sent_by) (take_more all i e c.loop-entry-test.true
    ∙ ap (λ z. take i all ++ z ∷ []) (sym c.entry-item.is))
    ∙ map-append sent_by (take i all) (e ∷ []) in
    c.in_ok-push.ensures.items
    ∙ ap (λ bs. bs ++ c.is_numbered_response.result ∷ []) c.loop-entry.invariant
    ∙ ap (λ b. map is_numbered_response ms ++ b ∷ []) c.is_numbered_response.ensures
    ∙ sym (ap (map is_numbered_response) next
    ∙ map-append is_numbered_response ms (sent_by e ∷ []))

pub returns : goal.returns
returns g c =
    c.loop-entry.invariant
    ∙ ap (λ es. map is_numbered_response (map sent_by es))
    (take_all c.loop-entry.entry-index c.args.entries.now
    (omega (arith, c.loop-entry-test.false)))
