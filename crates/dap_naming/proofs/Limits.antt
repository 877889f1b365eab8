-- The limit of the numbers of values: lists of ids that leave each label within the limit, and
-- lists with too many values.
use Rattle.std.proofs.Common.{◌≡◌, ℕ, ◌+◌, ◌<◌, ◌≤◌, false, List, [], ◌∷◌}
use Rattle.std.proofs.Common.{◌++◌, length, refl, ap, sym, ◌∙◌, subst, arith, append_assoc}
use Rattle.std.proofs.Common.{append-nil, bytes_eq, Result, Err}
use Rattle.std.specs.List.{list_any}
use Rattle.std.specs.Result.{IsErrAnd}
use Rattle.dap_tokens.specs.Naming.{Id, Numbering}
use Rattle.dap_naming.specs.declared.fault.NamingFault.{NamingFault, TheVariants.{Full}}
use Rattle.dap_naming.specs.Numbers.{values, add, add_all, distinct}
use Rattle.dap_naming.specs.Sessions.{AreFew, HasTooMany}
use Rattle.dap_naming.specs.Known.{is_known, limit_of, Names, IsFull, HasRoom, FitsLimit}
use Rattle.dap_naming.specs.Known.{ExceedsLimit}
use Rattle.dap_naming.specs.declared.value_numbers.ValueNumbers.{ValueNumbers}
use Rattle.dap_naming.proofs.Lists.{by_bool}
use Rattle.dap_naming.proofs.Additions.{itself, distinct-append}
use Rattle.dap_naming.proofs.Knowing.{distinct-known, count_more}

-- ---- the fault that `?` passes on

pub same_fault : {T U : Type 0} (s : Result T NamingFault) (r : Result U NamingFault)
    (f : NamingFault) → s ≡ Err f → IsErrAnd r (λ g. g ≡ f) → r ≡ Err Full → s ≡ Err Full
same_fault s r f was gives e =
    was ∙ ap Err (sym (subst (λ q. IsErrAnd q (λ g. g ≡ f)) e gives))

-- ---- more ids have no fewer values

length-add : (vs : List (List ℕ)) (v : List ℕ) → length vs ≤ length (add vs v)
length-add vs v =
    by_bool (list_any (bytes_eq v) vs) (λ e. rw e (omega arith))
    (λ e. rw e (grows vs v))
  where
    grows : (xs : List (List ℕ)) (x : List ℕ) → length xs ≤ length (xs ++ x ∷ [])
    grows [] x = omega arith
    grows (y ∷ xs) x = let r = grows xs x in omega arith

length-add_all : (vs ws : List (List ℕ)) → length vs ≤ length (add_all vs ws)
length-add_all vs [] = omega arith
length-add_all vs (w ∷ ws) =
    let one = length-add vs w in let rest = length-add_all (add vs w) ws in omega arith

distinct-grows : (label : List ℕ) (is js : List Id)
    → length (distinct label is) ≤ length (distinct label (is ++ js))
distinct-grows label is js =
    let e = ap length (distinct-append label is js) in
    let h = length-add_all (distinct label is) (values label js) in omega arith

too_many_more : (limit : ℕ) (is js : List Id) → HasTooMany limit is → HasTooMany limit (is ++ js)
too_many_more limit is js h =
    (h.0, let more = distinct-grows h.0 is js in let less = h.1 in omega arith)

-- ---- one id

few_one : (is : List Id) (l v m : List ℕ) (limit : ℕ) → length (distinct m is) ≤ limit
    → (is_known is l v ≡ false → length (distinct l is) < limit)
    → length (distinct m (is ++ (l, v) ∷ [])) ≤ limit
few_one is l v m limit few room =
    by_bool (is_known is l v)
    (λ e. let same = ap length (distinct-known is m l v e) in omega arith)
    (λ e. let more = count_more is l v m e in
    let less = room e in
    by_bool (bytes_eq l m)
    (λ f. let one = rw f at more in omega arith)
    (λ f. let none = rw f at more in omega arith))

pub fits_one : (a : ValueNumbers) (l v : List ℕ) → HasRoom a (l, v) → FitsLimit a ((l, v) ∷ [])
fits_one a l v room is h few = λ m. few_one is l v m (limit_of a) (few m) (room is h)

pub exceeds_one : (a : ValueNumbers) (l v : List ℕ) → IsFull a (l, v)
    → ExceedsLimit a ((l, v) ∷ [])
exceeds_one a l v full is h =
    let f = full is h in
    let more : length (distinct l (is ++ (l, v) ∷ [])) ≡ length (distinct l is) + 1 =
    count_more is l v l f.0 ∙ rw (itself l) refl in
    let most = f.1 in
    (l, omega arith)

-- ---- ids after other ids

pub fits_none : (a : ValueNumbers) → FitsLimit a []
fits_none a is h few = subst (AreFew (limit_of a)) (sym (append-nil is)) few

module _ (a b : ValueNumbers) (js : List Id) (P : Numbering → Type 0) (names : Names a b js P)
    (same : limit_of b ≡ limit_of a) where
  pub fits_then : (ks : List Id) → FitsLimit a js → FitsLimit b ks → FitsLimit a (js ++ ks)
  fits_then ks f g is h few =
      let known = (names is h).0 in
      let first : AreFew (limit_of b) (is ++ js) =
      subst (λ n. AreFew n (is ++ js)) (sym same) (f is h few) in
      subst (AreFew (limit_of a)) (append_assoc is js ks)
      (subst (λ n. AreFew n ((is ++ js) ++ ks)) same (g (is ++ js) known first))

  pub exceeds_then : (ks us : List Id) → ExceedsLimit b ks → ExceedsLimit a (js ++ (ks ++ us))
  exceeds_then ks us g is h =
      let known = (names is h).0 in
      let many : HasTooMany (limit_of a) ((is ++ js) ++ ks) =
      subst (λ n. HasTooMany n ((is ++ js) ++ ks)) same (g (is ++ js) known) in
      subst (HasTooMany (limit_of a))
      (append_assoc (is ++ js) ks us ∙ append_assoc is js (ks ++ us))
      (too_many_more (limit_of a) ((is ++ js) ++ ks) us many)
