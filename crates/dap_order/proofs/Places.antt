-- The place of an item, found by a loop from the end of the list.
use Rattle.std.proofs.Common.{◌≡◌, ℕ, suc, ◌+◌, ◌-◌, ◌<◌, ◌≤◌, true, false, List, [], ◌∷◌}
use Rattle.std.proofs.Common.{◌++◌, length, take, drop, get_or, refl, sym, ap, ◌∙◌, subst, arith}
use Rattle.std.specs.List.{insert}
use Rattle.std.proofs.lemmas.Bool.{and_from, and_left, and_right}
use Rattle.std.proofs.lemmas.List.{drop_more, drop_all, take-append-drop}
use Rattle.std.proofs.lemmas.List.{length-take-le}
use Rattle.std.proofs.lemmas.List.Edits.{insert-append_right}
use Rattle.dap_order.specs.Swaps.{Swaps}
use Rattle.dap_order.specs.Order.{all_free, put}
use Rattle.dap_order.proofs.Put.{put-here, put-later, goes_from}

module _ {X : Type 0} (s : Swaps X) where
  -- An item remains after one that it is not free with.
  not_all_free : (x y : X) (a b : List X) → s.free x y ≡ false
      → all_free s x (a ++ y ∷ b) ≡ false
  not_all_free x y [] b f = and_left (s.free x y) (all_free s x b) f
  not_all_free x y (z ∷ a) b f =
      and_right (s.free x z) (all_free s x (a ++ y ∷ b)) (not_all_free x y a b f)

  pub put_after : (x y : X) (a b : List X) → s.free x y ≡ false
      → put s (a ++ y ∷ b) x ≡ a ++ y ∷ put s b x
  put_after x y [] b f =
      put-later s x y b (and_left (all_free s x (y ∷ b)) (s.less x y) (not_all_free x y [] b f))
  put_after x y (z ∷ a) b f =
      put-later s x z (a ++ y ∷ b)
      (and_left (all_free s x (z ∷ (a ++ y ∷ b))) (s.less x z) (not_all_free x y (z ∷ a) b f))
      ∙ ap (λ zs. z ∷ zs) (put_after x y a b f)

  -- All items from `at` on are free with x, and among these x goes to this place.
  pub record IsPlace (done : List X) (x : X) (at place : ℕ) : Type 0 where
    pub after : ℕ
    pub sum : at + after ≡ place
    pub within : place ≤ length done
    pub are_free : all_free s x (drop at done) ≡ true
    pub is : put s (drop at done) x ≡ insert (drop at done) after x

  pub place_begun : (done : List X) (x : X) (at : ℕ) → at ≡ length done → IsPlace done x at at
  place_begun done x at e =
      let none = drop_all at done (omega arith) in
      record {
        after = 0;
        sum = omega arith;
        within = omega arith;
        are_free = subst (λ zs. all_free s x zs ≡ true) (sym none) refl;
        is = subst (λ zs. put s zs x ≡ insert zs 0 x) (sym none) refl;
      }

  module _ (done : List X) (x y : X) (at n place : ℕ) (next : at ≡ n + 1)
      (in_list : n < length done)
      (is_y : y ≡ get_or done n y) where
    rest : drop n done ≡ y ∷ drop at done
    rest =
        drop_more done n y in_list
        ∙ ap (λ z. z ∷ drop (n + 1) done) (sym is_y)
        ∙ ap (λ k. y ∷ drop k done) (sym next)

    free_rest : all_free s x (drop at done) ≡ true → s.free x y ≡ true
        → all_free s x (y ∷ drop at done) ≡ true
    free_rest all f = and_from (s.free x y) (all_free s x (drop at done)) f all

    pub place_here : IsPlace done x at place → s.free x y ≡ true → s.less x y ≡ true
        → IsPlace done x n n
    place_here was f l = record {
      after = 0;
      sum = omega arith;
      within = omega arith;
      are_free = subst (λ zs. all_free s x zs ≡ true) (sym rest) (free_rest was.are_free f);
      is = subst (λ zs. put s zs x ≡ insert zs 0 x) (sym rest)
          (put-here s x y (drop at done) (goes_from s x y (drop at done) f was.are_free l));
    }

    pub place_stays : IsPlace done x at place → s.free x y ≡ true → s.less x y ≡ false
        → IsPlace done x n place
    place_stays was f l = record {
      after = suc was.after;
      sum = omega (arith, was.sum);
      within = was.within;
      are_free = subst (λ zs. all_free s x zs ≡ true) (sym rest) (free_rest was.are_free f);
      is = subst (λ zs. put s zs x ≡ insert zs (suc was.after) x) (sym rest)
          (put-later s x y (drop at done)
          (and_right (all_free s x (y ∷ drop at done)) (s.less x y) l)
          ∙ ap (λ zs. y ∷ zs) was.is);
    }

    pub place_stopped : IsPlace done x at place → s.free x y ≡ false
        → put s done x ≡ insert done place x
    place_stopped was f =
        let parts : done ≡ take n done ++ y ∷ drop at done =
        sym (take-append-drop n done) ∙ ap (λ zs. take n done ++ zs) rest in
        let e : place - n ≡ suc was.after = omega (arith, was.sum) in
        let whole =
        insert-append_right (take n done) (y ∷ drop at done) n place x
        (length-take-le n done (omega arith)) (omega (arith, was.sum)) in
        ap (λ zs. put s zs x) parts
        ∙ put_after x y (take n done) (drop at done) f
        ∙ ap (λ zs. take n done ++ y ∷ zs) was.is
        ∙ sym (whole ∙ ap (λ k. take n done ++ insert (y ∷ drop at done) k x) e)
        ∙ ap (λ zs. insert zs place x) (sym parts)

  pub place_ended : (done : List X) (x : X) (at place : ℕ) → IsPlace done x at place → at ≡ 0
      → put s done x ≡ insert done place x
  place_ended done x at place was e =
      let sum : was.after ≡ place = omega (arith, was.sum) in
      subst (λ k. put s done x ≡ insert done k x) sum
      (subst (λ k. put s (drop k done) x ≡ insert (drop k done) was.after x) e was.is)
