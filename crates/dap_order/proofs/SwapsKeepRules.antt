-- Swaps of free neighbours violate no rule, and preserve the number of unanswered requests.
use Rattle.std.proofs.Common.{◌≡◌, ℕ, Bool, not, cond, ◌&&◌, ◌+◌, List, [], ◌∷◌}
use Rattle.std.proofs.Common.{◌++◌, sym, ap, ◌∙◌, refl, subst, append_assoc, append-nil}
use Rattle.std.specs.List.{fold}
use Rattle.std.specs.List.Sorted.{IsPermutation}
use Rattle.std.proofs.lemmas.List.Sorted.{list_any-IsPermutation, sum_by-IsPermutation}
use Rattle.dap_tree.specs.declared.side.Side.{Side}
use Rattle.dap_message.specs.Message.{Sent}
use Rattle.dap_session.specs.Messages.{seq_of, is_request, is_response_to, is_from}
use Rattle.dap_session.specs.Rules.{is_answered, KeepsRules, open_requests}
use Rattle.dap_session.proofs.RulesOneByOne.{keeps_push, keeps_front}
use Rattle.dap_order.specs.Swaps.{Swapped, Reordered, unmoved, swapped}
use Rattle.dap_order.proofs.Kept.{reordered_permutation}
use Rattle.dap_message.specs.SwapRules.{SwapRule}
use Rattle.dap_order.specs.Free.{free}
use Rattle.dap_order.proofs.Independence.{Apart, apart}
use Rattle.dap_order.proofs.Histories.{SameHistory, swapped_history, Fine, fine_from, none_from}
use Rattle.dap_order.proofs.Histories.{same_fine}
use Rattle.dap_order.proofs.Neighbours.{without_first, after_second}

-- The lists have the same history, including after any further messages.
record SameFuture (ms ns : List Sent) : Type 0 where
  after : (rest : List Sent) → SameHistory (ms ++ rest) (ns ++ rest)

same_now : (ms ns : List Sent) → SameFuture ms ns → SameHistory ms ns
same_now ms ns s =
    subst (λ (t : List Sent). SameHistory t ns) (append-nil ms)
    (subst (λ (t : List Sent). SameHistory (ms ++ []) t) (append-nil ns) (s.after []))

same_next : (ms ns : List Sent) (m : Sent) → SameFuture ms ns
    → SameFuture (ms ++ m ∷ []) (ns ++ m ∷ [])
same_next ms ns m s = record {
  after = λ rest.
      subst (λ (t : List Sent). SameHistory t ((ns ++ m ∷ []) ++ rest))
      (sym (append_assoc ms (m ∷ []) rest))
      (subst (λ (t : List Sent). SameHistory (ms ++ m ∷ rest) t)
      (sym (append_assoc ns (m ∷ []) rest)) (s.after (m ∷ rest)));
}

keeps_rest : (ms ns rest : List Sent) → SameFuture ms ns → KeepsRules (ms ++ rest) → KeepsRules ns
    → KeepsRules (ns ++ rest)
keeps_rest ms ns [] s keeps done = subst KeepsRules (sym (append-nil ns)) done
keeps_rest ms ns (m ∷ rest) s keeps done =
    let fine : Fine ns m =
    same_fine ms ns m (same_now ms ns s) (fine_from ms m (keeps ms rest m refl)) in
    subst KeepsRules (append_assoc ns (m ∷ []) rest)
    (keeps_rest (ms ++ m ∷ []) (ns ++ m ∷ []) rest (same_next ms ns m s)
    (subst KeepsRules (sym (append_assoc ms (m ∷ []) rest)) keeps)
    (keeps_push ns m done (none_from ns m fine)))

two_future : (front : List Sent) (x y : Sent) → Apart x y
    → SameFuture (front ++ x ∷ y ∷ []) (front ++ y ∷ x ∷ [])
two_future front x y a = record {
  after = λ rest.
      subst (λ (t : List Sent). SameHistory t ((front ++ y ∷ x ∷ []) ++ rest))
      (sym (append_assoc front (x ∷ y ∷ []) rest))
      (subst (λ (t : List Sent). SameHistory (front ++ x ∷ y ∷ rest) t)
      (sym (append_assoc front (y ∷ x ∷ []) rest)) (swapped_history front rest x y a));
}

two_keep : (front back : List Sent) (x y : Sent) → Apart x y
    → KeepsRules (front ++ x ∷ y ∷ back) → KeepsRules (front ++ y ∷ x ∷ [])
two_keep front back x y a keeps =
    let first : Fine front x = fine_from front x (keeps front (y ∷ back) x refl) in
    let second : Fine (front ++ x ∷ []) y =
    fine_from (front ++ x ∷ []) y
    (keeps (front ++ x ∷ []) back y (sym (append_assoc front (x ∷ []) (y ∷ back)))) in
    let before : KeepsRules front = keeps_front front (x ∷ y ∷ back) keeps in
    let one : KeepsRules (front ++ y ∷ []) =
    keeps_push front y before
    (none_from front y (λ quiet r. without_first r front x y a first quiet (second quiet r))) in
    subst KeepsRules (append_assoc front (y ∷ []) (x ∷ []))
    (keeps_push (front ++ y ∷ []) x one
    (none_from (front ++ y ∷ []) x (λ quiet r. after_second r front x y a first second quiet)))

swap_keeps : (front back : List Sent) (x y : Sent) → Apart x y
    → KeepsRules (front ++ x ∷ y ∷ back) → KeepsRules (front ++ y ∷ x ∷ back)
swap_keeps front back x y a keeps =
    subst KeepsRules (append_assoc front (y ∷ x ∷ []) back)
    (keeps_rest (front ++ x ∷ y ∷ []) (front ++ y ∷ x ∷ []) back (two_future front x y a)
    (subst KeepsRules (sym (append_assoc front (x ∷ y ∷ []) back)) keeps)
    (two_keep front back x y a keeps))

swapped_keeps : (rules : List SwapRule) (ms ns : List Sent) → Swapped (free rules) ms ns
    → KeepsRules ms → KeepsRules ns
swapped_keeps rules ms ns one keeps =
    subst KeepsRules (sym one.after)
    (swap_keeps one.front one.back one.x one.y (apart rules one.x one.y one.are_free)
    (subst KeepsRules one.before keeps))

pub reordered_keeps : (rules : List SwapRule) (ms ns : List Sent) → Reordered (free rules) ms ns
    → KeepsRules ms → KeepsRules ns
reordered_keeps rules ms ns unmoved keeps = keeps
reordered_keeps rules ms ns (swapped {ys = us} p one) keeps =
    swapped_keeps rules us ns one (reordered_keeps rules ms us p keeps)

-- ---- unanswered requests

count_from : (p q : Sent → Bool) → ((m : Sent) → p m ≡ q m) → (ms : List Sent) (k : ℕ)
    → fold (λ n m. n + cond (p m) 1 0) k ms ≡ fold (λ n m. n + cond (q m) 1 0) k ms
count_from p q each [] k = refl
count_from p q each (m ∷ ms) k =
    ap (λ b. fold (λ n m. n + cond (p m) 1 0) (k + cond b 1 0) ms) (each m)
    ∙ count_from p q each ms (k + cond (q m) 1 0)

open_permutation : (side : Side) (ms ns : List Sent) → IsPermutation ms ns
    → open_requests side ms ≡ open_requests side ns
unfolding open_requests
open_permutation side ms ns p =
    sym (sum_by-IsPermutation (λ m. cond (is_request m && is_from side m
    && not (is_answered side (seq_of m) ms)) 1 0) ms ns p)
    ∙ count_from (λ m. is_request m && is_from side m && not (is_answered side (seq_of m) ms))
    (λ m. is_request m && is_from side m && not (is_answered side (seq_of m) ns))
    (λ m. ap (λ b. is_request m && is_from side m && not b)
    (list_any-IsPermutation (λ r. is_response_to side (seq_of m) r) ms ns p)) ns 0

pub reordered_open : (rules : List SwapRule) (side : Side) (ms ns : List Sent)
    → Reordered (free rules) ms ns → open_requests side ms ≡ open_requests side ns
reordered_open rules side ms ns p =
    open_permutation side ms ns (reordered_permutation (free rules) ms ns p)
