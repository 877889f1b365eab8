use Rattle.std.proofs.Common.{◌≡◌, List, Option, Some, None, get_or, refl, sym, ◌∙◌}
use Rattle.std.proofs.lemmas.List.{get_or_default}
use Rattle.dap_session.specs.declared.store.Request.{Request}
use Rattle.dap_session.proofs.StoredSlots.{slots_answered}
use Rattle.dap_session.proofs.store.answer_slot.Goals as goal

pub returns-in-Some : goal.returns-in-Some
returns-in-Some c =
    λ command asked.
    let slots : List (Option Request) = c.args.slots.now.items in
    let there : get_or slots c.args.index None ≡ Some c.in-Some.request =
    get_or_default slots c.args.index None c.index_mut-slot.result.now c.requires
    ∙ sym c.index_mut-slot.ensures.value ∙ c.in-Some.is in
    slots_answered slots _ c.args.index c.in-Some.request _ command
    there asked refl refl
