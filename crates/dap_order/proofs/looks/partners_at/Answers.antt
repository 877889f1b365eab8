use Rattle.std.proofs.Common.{◌≡◌, ◌≤◌, length, Some, None, sym, ◌∙◌, subst, map, arith}
use Rattle.std.proofs.lemmas.Option.{slice_get_past}
use Rattle.std.proofs.lemmas.Result.{IfOk-weaker}
use Rattle.std.specs.Prelude.{slice_get}
use Rattle.dap_message.specs.SwapRules.{swaps_of}
use Rattle.dap_order.specs.Entries.{sent_by}
use Rattle.dap_order.specs.Looks.{ArePartnersAt}
use Rattle.dap_order.specs.Partners.{ArePartners}
use Rattle.dap_order.proofs.Lists.{get_map, got, len_map, one_item}
use Rattle.dap_order.proofs.looks.partners_at.Goals as goal

pub returns-in-None : goal.returns-in-None
returns-in-None g c =
    λ x at.
    let entries = c.args.entries.now in
    let past : length entries ≤ c.args.place = c.in-None.ensures.lookup.3 in
    let none : slice_get (map sent_by entries) c.args.place ≡ None =
    slice_get_past (map sent_by entries) c.args.place
    (omega (arith, len_map sent_by entries)) in
    let no : Some x ≡ None = sym at ∙ none in
    absurd cc

pub returns-in-Some : goal.returns-in-Some
returns-in-Some g c =
    let entries = c.args.entries.now in
    let place = c.args.place in
    let rules = swaps_of c.args.rules.now in
    let e = c.in-Some.entry.now in
    let ms = map sent_by entries in
    let there : slice_get ms place ≡ Some (sent_by e) =
    get_map sent_by entries place e (got entries place e c.in-Some.ensures.lookup.3.0
    c.in-Some.ensures.lookup.1) in
    IfOk-weaker c.partners_of.result (ArePartners rules (sent_by e))
    (ArePartnersAt rules ms place)
    (λ set are x at. subst (λ m. ArePartners rules m set)
    (one_item ms place (sent_by e) x there at) are)
    c.partners_of.ensures
