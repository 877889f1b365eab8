-- Swaps and a renaming turn one list into another if and only if the renaming turns the order of
-- the first into the order of the second.
use Rattle.std.proofs.Common.{◌≡◌, ℤ, List, [], ◌∷◌, ◌++◌, sym, ap, ◌∙◌, refl, subst}
use Rattle.std.specs.List.{All, AllZip}
use Rattle.std.proofs.lemmas.List.Sorted.{All-permutation}
use Rattle.dap_tree.specs.declared.sort.Sort.{Sort}
use Rattle.dap_message.specs.Message.{Sent}
use Rattle.dap_session.specs.RenamedLists.{IsNumbered, DifferInIds, IsOneToOne}
use Rattle.dap_session.specs.Rules.{KeepsRules}
use Rattle.dap_order.specs.Swaps.{Swapped, Reordered, unmoved, swapped}
use Rattle.dap_order.proofs.Kept.{reordered_permutation}
use Rattle.dap_order.proofs.Moves.{reordered_on, reordered_back}
use Rattle.dap_message.specs.SwapRules.{SwapRule}
use Rattle.dap_order.specs.Free.{free}
use Rattle.dap_order.specs.MessageOrder.{ordered}
use Rattle.dap_order.specs.SameButOrder.{SameButOrder}
use Rattle.dap_order.proofs.Independence.{free_both_ways}
use Rattle.dap_order.proofs.SwapsKeepRules.{reordered_keeps}
use Rattle.dap_order.proofs.MessageOrder.{to_ordered, one_ordered}
use Rattle.dap_order.proofs.RenamedOrder.{Renamed, known, free_alike, all_renamed, all_differ}
use Rattle.dap_order.proofs.RenamedOrder.{ordered_renamed}

module _ {X : Type 0} (P : X → X → Type 0) where
  -- The two neighbours in xs that are related to x and y.
  record Across (xs front back : List X) (x y : X) : Type 0 where
    ahead : List X
    rest : List X
    one : X
    two : X
    is : xs ≡ ahead ++ one ∷ two ∷ rest
    all_ahead : AllZip P ahead front
    first : P one x
    second : P two y
    all_rest : AllZip P rest back

  across_two : (xs front back : List X) (x y : X) → AllZip P xs (front ++ x ∷ y ∷ back)
      → Across xs front back x y
  across_two [] [] back x y h = absurd h
  across_two (a ∷ []) [] back x y h = absurd h.1
  across_two (a ∷ b ∷ xs) [] back x y h = record {
    ahead = [];
    rest = xs;
    one = a;
    two = b;
    is = refl;
    all_ahead = tt;
    first = h.0;
    second = h.1.0;
    all_rest = h.1.1;
  }
  across_two [] (f ∷ front) back x y h = absurd h
  across_two (a ∷ xs) (f ∷ front) back x y h =
      let w = across_two xs front back x y h.1 in
      record {
        ahead = a ∷ w.ahead;
        rest = w.rest;
        one = w.one;
        two = w.two;
        is = ap (λ t. a ∷ t) w.is;
        all_ahead = (h.0, w.all_ahead);
        first = w.first;
        second = w.second;
        all_rest = w.all_rest;
      }

  joined : (xs front us back : List X) → AllZip P xs front → AllZip P us back
      → AllZip P (xs ++ us) (front ++ back)
  joined [] [] us back h g = g
  joined [] (f ∷ front) us back h g = absurd h
  joined (x ∷ xs) [] us back h g = absurd h
  joined (x ∷ xs) (f ∷ front) us back h g = (h.0, joined xs front us back h.1 g)

module _ (R : Sort → ℤ → ℤ → Type 0) (one : IsOneToOne R) (rules : List SwapRule) where
  -- A swap of renamed messages is a swap of the messages before the renaming.
  swap_back : (xs us vs : List Sent) → Swapped (free rules) us vs → AllZip (Renamed R one) xs us
      → (ys : List Sent) × Swapped (free rules) xs ys × AllZip (Renamed R one) ys vs
  swap_back xs us vs s h =
      let w = across_two (Renamed R one) xs s.front s.back s.x s.y
      (subst (λ (t : List Sent). AllZip (Renamed R one) xs t) s.before h) in (
        w.ahead ++ w.two ∷ w.one ∷ w.rest,
        record {
          front = w.ahead;
          back = w.rest;
          x = w.one;
          y = w.two;
          are_free =
              free_alike R one rules w.one w.two s.x s.y (known R one w.one s.x w.first)
              (known R one w.two s.y w.second) ∙ s.are_free;
          before = w.is;
          after = refl;
        },
        subst (λ (t : List Sent). AllZip (Renamed R one) (w.ahead ++ w.two ∷ w.one ∷ w.rest) t)
            (sym s.after)
            (joined (Renamed R one) w.ahead s.front (w.two ∷ w.one ∷ w.rest)
            (s.y ∷ s.x ∷ s.back) w.all_ahead (w.second, (w.first, w.all_rest))),
      )

  swaps_back : (xs us vs : List Sent) → Reordered (free rules) us vs
      → AllZip (Renamed R one) xs us
      → (ys : List Sent) × Reordered (free rules) xs ys × AllZip (Renamed R one) ys vs
  swaps_back xs us vs unmoved h = (xs, unmoved, h)
  swaps_back xs us vs (swapped {ys = ts} p s) h =
      let w = swaps_back xs us ts p h in
      let v = swap_back w.0 ts vs s w.2 in (v.0, swapped w.1 v.1, v.2)

  numbered_still : (ms ns : List Sent) → Reordered (free rules) ms ns → All IsNumbered ms
      → All IsNumbered ns
  numbered_still ms ns p is =
      All-permutation IsNumbered ms ns (reordered_permutation (free rules) ms ns p) is

  pub orders_renamed : (ms ns : List Sent) → All IsNumbered ms → KeepsRules ms
      → SameButOrder R rules ms ns → DifferInIds R (ordered rules ms) (ordered rules ns)
  orders_renamed ms ns is keeps same =
      subst (λ (t : List Sent). DifferInIds R t (ordered rules ns))
      (sym (one_ordered rules ms same.between same.swaps))
      (ordered_renamed R one rules same.between ns
      (numbered_still ms same.between same.swaps is)
      (reordered_keeps rules ms same.between same.swaps keeps) same.renaming)

  pub same_from_orders : (ms ns : List Sent) → All IsNumbered ms
      → DifferInIds R (ordered rules ms) (ordered rules ns) → SameButOrder R rules ms ns
  same_from_orders ms ns is h =
      let w = swaps_back (ordered rules ms) (ordered rules ns) ns
      (reordered_back (free rules) (free_both_ways rules) ns (ordered rules ns)
      (to_ordered rules ns))
      (all_renamed R one (ordered rules ms) (ordered rules ns)
      (numbered_still ms (ordered rules ms) (to_ordered rules ms) is) h) in
      record {
        between = w.0;
        swaps = reordered_on (free rules) ms (ordered rules ms) w.0 (to_ordered rules ms) w.1;
        renaming = all_differ R one w.0 ns w.2;
      }
