use Rattle.std.proofs.Common.{◌≡◌, ℕ, ◌+◌, ◌<◌, Bool, List, [], ◌∷◌, ◌++◌, map, take, length}
use Rattle.std.proofs.Common.{get_or, arith, ap, sym, ◌∙◌}
use Rattle.std.proofs.lemmas.List.{take_all, take_more, map-append}
use Rattle.dap_message.specs.SwapRules.{swaps_of}
use Rattle.dap_order.specs.Entries.{sent_by}
use Rattle.dap_order.specs.Looks.{blocks_at}
use Rattle.dap_order.proofs.looks.row_of.Goals as goal

one_more : (f : ℕ → Bool) (xs : List ℕ) (i : ℕ) (row new : List Bool) (b : Bool) → i < length xs
    → new ≡ row ++ b ∷ [] → row ≡ map f (take i xs) → b ≡ f (get_or xs i 0)
    → new ≡ map f (take (i + 1) xs)
one_more f xs i row new b low pushed so_far is =
    pushed ∙ ap (λ bs. bs ++ b ∷ []) so_far ∙ ap (λ c. map f (take i xs) ++ c ∷ []) is
    ∙ sym (ap (map f) (take_more xs i 0 low) ∙ map-append f (take i xs) (get_or xs i 0 ∷ []))

pub loop-other-preserved : goal.loop-other-preserved
loop-other-preserved g c =
    one_more (blocks_at (swaps_of c.args.rules.now) (map sent_by c.args.entries.now) c.args.place)
    c.args.firsts.now c.loop-other.other-index c.loop-other.row.items c.push.new.self.items
    c.is_blocked.result c.loop-other-test.true c.in_ok-push.ensures.items c.loop-other.invariant
    (c.is_blocked.ensures (swaps_of c.args.rules.now) c.in_ok-partners.ensures)

pub returns : goal.returns
returns g c =
    c.loop-other.invariant
    ∙ ap (map (blocks_at (swaps_of c.args.rules.now) (map sent_by c.args.entries.now) c.args.place))
    (take_all c.loop-other.other-index c.args.firsts.now (omega (arith, c.loop-other-test.false)))
