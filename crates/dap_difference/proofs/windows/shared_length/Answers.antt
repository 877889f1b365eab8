use Rattle.std.proofs.Common.{◌≡◌, ℕ, ◌≤◌, List, [], ◌∷◌, length, drop, nat_eq}
use Rattle.std.proofs.Common.{refl, ap, ◌∙◌, arith}
use Rattle.std.proofs.lemmas.List.{drop_all}
use Rattle.std.specs.List.{common_prefix_len}
use Rattle.dap_difference.proofs.windows.shared_length.Goals as goal

none_of_empty : (s : List ℕ) → common_prefix_len nat_eq s [] ≡ 0
none_of_empty [] = refl
none_of_empty (b ∷ s) = refl

-- no byte is shared with a string after its end
none_shared : (s t : List ℕ) (i : ℕ) → length t ≤ i → common_prefix_len nat_eq s (drop i t) ≡ 0
none_shared s t i past =
    ap (λ r. common_prefix_len nat_eq s r) (drop_all i t past) ∙ none_of_empty s

pub returns-in-None-clause-len : goal.returns-in-None-clause-len
returns-in-None-clause-len c =
    let past : length c.args.other.now ≤ c.loop-i.i = c.in-None.ensures.lookup.3 in
    let none = none_shared (drop c.loop-i.i c.args.text.now) c.args.other.now c.loop-i.i past in
    omega (arith, c.loop-i.invariant, none)
