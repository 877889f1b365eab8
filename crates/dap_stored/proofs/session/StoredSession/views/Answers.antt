use Rattle.std.proofs.Common.{◌≡◌, ◌∙◌, ◌<◌, ℕ, List, length, get_or, ap, sym, subst, arith}
use Rattle.std.proofs.lemmas.List.{length-map}
use Rattle.std.specs.List.{All}
use mathlib.Core.Logic.{∥∥₁_map}
use Rattle.dap_stored.specs.declared.head.Head.{Head}
use Rattle.dap_stored.specs.Heads.{IsStored, message_at}
use Rattle.dap_stored.proofs.session.StoredSession.views.Goals as goal

at_each : (P : Head → Type 0) (xs ys : List Head) (k : ℕ) (d : Head) → ys ≡ xs → k < length ys
    → All P xs → P (get_or ys k d)
at_each P xs ys k d same within all =
    subst (λ hs. P (get_or hs k d)) (sym same)
    (all k d (subst (λ hs. k < length hs) same within))

pub message-requires : goal.message-requires
message-requires c =
    let s = c.args.self.now in
    ∥∥₁_map s.stored
    (at_each (IsStored s.parts) s.heads.items _ _ _ c.deref-head-items.ensures.value
    c.loop-head-test.true)

pub returns-in_err-push-clause-empty : goal.returns-in_err-push-clause-empty
returns-in_err-push-clause-empty c = λ empty.
    let s = c.args.self.now in
    let none : length s.heads.items ≡ 0 =
    sym (length-map s.heads.items (message_at s.parts)) ∙ ap length empty in
    absurd (omega (
      arith,
      none,
      ap length c.deref-head-items.ensures.value,
      c.loop-head-test.true,
    ))
