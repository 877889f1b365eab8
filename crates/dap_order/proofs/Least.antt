-- The order starts with the least ready item, and continues with the order of the other items.
use Rattle.std.proofs.Common.{◌≡◌, true, List, [], ◌∷◌, ◌++◌, refl, sym, ap, ◌∙◌, subst}
use Rattle.std.proofs.lemmas.Bool.{and_parts, and_from}
use Rattle.std.proofs.lemmas.List.{append_assoc}
use Rattle.dap_order.specs.Swaps.{Swaps, AreSwaps, Swapped, Reordered, unmoved, swapped}
use Rattle.dap_order.specs.Order.{all_free, order}
use Rattle.dap_order.specs.Least.{IsReady, IsLeast}
use Rattle.dap_order.proofs.Put.{free_parts, free_joined, two_cuts, TwoCuts, item_earlier}
use Rattle.dap_order.proofs.Put.{item_same, item_later}
use Rattle.dap_order.proofs.Moves.{reordered_on, reordered_before, reordered_after}
use Rattle.dap_order.proofs.Moves.{moved_to_front, order_reordered}
use Rattle.dap_order.proofs.InOrder.{IsFirst, ordered_from, order_ordered}
use Rattle.dap_order.proofs.Unique.{order_is}

module _ {X : Type 0} (s : Swaps X) (are : AreSwaps s) where
  -- An item that is ready after a swap was ready before it.
  ready_swapped : (x : X) (xs ys : List X) → Swapped s.free xs ys → IsReady s x ys
      → IsReady s x xs
  ready_swapped x xs ys one ready =
      at (two_cuts one.front one.y (one.x ∷ one.back) ready.front x ready.back
      (sym one.after ∙ ready.where_it_is))
    where
      two_free : (u v : X) (g : List X) → all_free s x (u ∷ v ∷ g) ≡ true
          → all_free s x (v ∷ u ∷ g) ≡ true
      two_free u v g h =
          let here = and_parts (s.free x u) (all_free s x (v ∷ g)) h in
          let next = and_parts (s.free x v) (all_free s x g) here.1 in
          and_from (s.free x v) (all_free s x (u ∷ g)) next.0
          (and_from (s.free x u) (all_free s x g) here.0 next.1)

      after : (m : List X) → ready.front ≡ one.front ++ one.y ∷ m
          → one.x ∷ one.back ≡ m ++ x ∷ ready.back → IsReady s x xs
      after [] p q =
          let is : one.x ≡ x = cc in
          record {
            front = one.front;
            back = one.y ∷ one.back;
            where_it_is = one.before
                ∙ ap (λ z. one.front ++ z ∷ one.y ∷ one.back) is;
            are_free = (free_parts s x one.front (one.y ∷ [])
                (subst (λ zs. all_free s x zs ≡ true) p ready.are_free)).0;
          }
      after (w ∷ m) p q =
          let is : one.x ≡ w = cc in
          let rest : one.back ≡ m ++ x ∷ ready.back = cc in
          let parts =
          free_parts s x one.front (one.y ∷ w ∷ m)
          (subst (λ zs. all_free s x zs ≡ true) p ready.are_free) in
          record {
            front = one.front ++ one.x ∷ one.y ∷ m;
            back = ready.back;
            where_it_is = one.before
                ∙ ap (λ zs. one.front ++ one.x ∷ one.y ∷ zs) rest
                ∙ sym (append_assoc one.front (one.x ∷ one.y ∷ m) (x ∷ ready.back));
            are_free = free_joined s x one.front (one.x ∷ one.y ∷ m) parts.0
                (subst (λ z. all_free s x (z ∷ one.y ∷ m) ≡ true) (sym is)
                (two_free one.y w m parts.1));
          }

      at : TwoCuts one.front one.y (one.x ∷ one.back) ready.front x ready.back → IsReady s x xs
      at (item_earlier m p q) = record {
        front = ready.front;
        back = m ++ one.x ∷ one.y ∷ one.back;
        where_it_is = one.before ∙ ap (λ zs. zs ++ one.x ∷ one.y ∷ one.back) p
            ∙ append_assoc ready.front (x ∷ m) (one.x ∷ one.y ∷ one.back);
        are_free = ready.are_free;
      }
      at (item_same p e q) = record {
        front = one.front ++ one.x ∷ [];
        back = one.back;
        where_it_is = one.before
            ∙ sym (append_assoc one.front (one.x ∷ []) (one.y ∷ one.back))
            ∙ ap (λ z. (one.front ++ one.x ∷ []) ++ z ∷ one.back) e;
        are_free = free_joined s x one.front (one.x ∷ [])
            (subst (λ zs. all_free s x zs ≡ true) (sym p) ready.are_free)
            (and_from (s.free x one.x) true
            (subst (λ z. s.free z one.x ≡ true) e (are.both_ways one.x one.y one.are_free)) refl);
      }
      at (item_later m p q) = after m p q

  ready_reordered : (x : X) (xs ys : List X) → Reordered s.free xs ys → IsReady s x ys
      → IsReady s x xs
  ready_reordered x xs ys unmoved ready = ready
  ready_reordered x xs ys (swapped {ys = us} p one) ready =
      ready_reordered x xs us p (ready_swapped x us ys one ready)

  ready_moved : (x : X) (front back : List X) → all_free s x front ≡ true
      → Reordered s.free (front ++ x ∷ back) (x ∷ (front ++ back))
  ready_moved x front back f =
      subst (λ zs. Reordered s.free zs (x ∷ (front ++ back))) (append_assoc front (x ∷ []) back)
      (reordered_before s.free (front ++ x ∷ []) (x ∷ front) back
      (moved_to_front s are x front f))

  pub order-least : (x : X) (front back : List X) → all_free s x front ≡ true
      → IsLeast s x (front ++ x ∷ back)
      → order s (front ++ x ∷ back) ≡ x ∷ order s (front ++ back)
  order-least x front back f least =
      order_is s are (front ++ x ∷ back) (x ∷ order s (front ++ back)) leads
      (ordered_from s x (order s (front ++ back)) first (order_ordered s are (front ++ back)))
    where
      leads : Reordered s.free (front ++ x ∷ back) (x ∷ order s (front ++ back))
      leads =
          reordered_on s.free (front ++ x ∷ back) (x ∷ (front ++ back))
          (x ∷ order s (front ++ back)) (ready_moved x front back f)
          (reordered_after s.free x (front ++ back) (order s (front ++ back))
          (order_reordered s are (front ++ back)))

      first : IsFirst s x (order s (front ++ back))
      first = record {
        none = λ between rest y e free below.
            least y
            (ready_reordered y (front ++ x ∷ back) (x ∷ order s (front ++ back)) leads (record {
              front = x ∷ between;
              back = rest;
              where_it_is = ap (λ zs. x ∷ zs) e;
              are_free = free;
            }))
            below;
      }
