-- Lemmas about renamed ids: a one-to-one renaming changes no number.
use Rattle.std.proofs.Common.{◌≡◌, ℕ, suc, List, [], ◌∷◌}
use Rattle.std.proofs.Common.{map, refl, ap, sym, ◌∙◌, true≢false, subst}
use Rattle.std.specs.List.{list_any, position_or_len, AllByRecursion}
use Rattle.std.specs.Str.{bytes_eq}
use Rattle.std.proofs.lemmas.List.{map-append}
use Rattle.dap_tokens.specs.Naming.{Id, numbered}
use Rattle.dap_naming.specs.Numbers.{values, add, add_all, distinct, number}
use Rattle.dap_naming.specs.Numbers.{numbers, renamed, AreRenamed}
use Rattle.dap_naming.proofs.Lists.{by_bool, head_of, tail_of, same_cons, each-append}
use Rattle.dap_naming.proofs.Additions.{same_bytes, bytes_same}

-- ---- lists of values

module _ (to back : List ℕ → List ℕ) where
  -- `back` leads back from the value of v
  abbrev pub IsUndone : List ℕ → Type 0
  IsUndone v = back (to v) ≡ v

  pub bytes_kept : (v w : List ℕ) → IsUndone v → IsUndone w
      → bytes_eq (to v) (to w) ≡ bytes_eq v w
  bytes_kept v w p q =
      by_bool (bytes_eq v w)
      (λ e. rw e (bytes_same _ _ (ap to (same_bytes v w e))))
      (λ e. by_bool (bytes_eq (to v) (to w))
      (λ t. let s : v ≡ w = sym p ∙ (ap back (same_bytes _ _ t) ∙ q) in
      absurd (true≢false (sym (bytes_same v w s) ∙ e)))
      (λ t. rw (t, e) refl))

  pub any-map : (v : List ℕ) (vs : List (List ℕ)) → IsUndone v → AllByRecursion IsUndone vs
      → list_any (bytes_eq (to v)) (map to vs) ≡ list_any (bytes_eq v) vs
  any-map v [] p h = refl
  any-map v (w ∷ vs) p h = rw (bytes_kept v w p h.0, any-map v vs p h.1) refl

  pub place-map : (v : List ℕ) (vs : List (List ℕ)) → IsUndone v → AllByRecursion IsUndone vs
      → position_or_len (bytes_eq (to v)) (map to vs) ≡ position_or_len (bytes_eq v) vs
  place-map v [] p h = refl
  place-map v (w ∷ vs) p h = rw (bytes_kept v w p h.0, place-map v vs p h.1) refl

  pub undone-add : (vs : List (List ℕ)) (v : List ℕ) → AllByRecursion IsUndone vs → IsUndone v
      → AllByRecursion IsUndone (add vs v)
  undone-add vs v h p =
      by_bool (list_any (bytes_eq v) vs) (λ a. rw a h)
      (λ a. rw a (each-append IsUndone vs (v ∷ []) h (p, tt)))

  pub add-map : (vs : List (List ℕ)) (v : List ℕ) → AllByRecursion IsUndone vs → IsUndone v
      → add (map to vs) (to v) ≡ map to (add vs v)
  add-map vs v h p =
      rw (any-map v vs p h)
      (by_bool (list_any (bytes_eq v) vs) (λ a. rw a refl)
      (λ a. rw a (sym (map-append to vs (v ∷ [])))))

  pub add_all-map : (vs ws : List (List ℕ)) → AllByRecursion IsUndone vs
      → AllByRecursion IsUndone ws → add_all (map to vs) (map to ws) ≡ map to (add_all vs ws)
  add_all-map vs [] h k = refl
  add_all-map vs (w ∷ ws) h k =
      ap (λ us. add_all us (map to ws)) (add-map vs w h k.0)
      ∙ add_all-map (add vs w) ws (undone-add vs w h k.0) k.1

  pub undone-add_all : (vs ws : List (List ℕ)) → AllByRecursion IsUndone vs
      → AllByRecursion IsUndone ws → AllByRecursion IsUndone (add_all vs ws)
  undone-add_all vs [] h k = h
  undone-add_all vs (w ∷ ws) h k = undone-add_all (add vs w) ws (undone-add vs w h k.0) k.1

-- ---- lists of ids

module _ (there back : List ℕ → List ℕ → List ℕ) where
  -- `back` leads back from the value of the id
  abbrev pub IsIdUndone : Id → Type 0
  IsIdUndone i = back i.0 (there i.0 i.1) ≡ i.1

  pub values-renamed : (label : List ℕ) (is : List Id)
      → values label (renamed there is) ≡ map (there label) (values label is)
  values-renamed label [] = refl
  values-renamed label (i ∷ is) =
      by_bool (bytes_eq label i.0)
      (λ e. rw e (same_cons _ _ _ _ (ap (λ l. there l i.1) (sym (same_bytes label i.0 e)))
      (values-renamed label is)))
      (λ e. rw e (values-renamed label is))

  pub undone-values : (label : List ℕ) (is : List Id) → AllByRecursion IsIdUndone is
      → AllByRecursion (IsUndone (there label) (back label)) (values label is)
  undone-values label [] h = tt
  undone-values label (i ∷ is) h =
      by_bool (bytes_eq label i.0)
      (λ e. let u = subst (λ l. back l (there l i.1) ≡ i.1) (sym (same_bytes label i.0 e)) h.0 in
      rw e (u, undone-values label is h.1))
      (λ e. rw e (undone-values label is h.1))

  pub distinct-renamed : (label : List ℕ) (is : List Id) → AllByRecursion IsIdUndone is
      → distinct label (renamed there is) ≡ map (there label) (distinct label is)
  distinct-renamed label is h =
      ap (add_all []) (values-renamed label is)
      ∙ add_all-map (there label) (back label) [] (values label is) tt (undone-values label is h)

  pub number-renamed : (is : List Id) (i : Id) → AllByRecursion IsIdUndone is → IsIdUndone i
      → number (renamed there is) i.0 (there i.0 i.1) ≡ number is i.0 i.1
  number-renamed is i h p =
      ap (λ vs. suc (position_or_len (bytes_eq (there i.0 i.1)) vs)) (distinct-renamed i.0 is h)
      ∙ ap suc (place-map (there i.0) (back i.0) i.1 (distinct i.0 is) p
      (undone-add_all (there i.0) (back i.0) [] (values i.0 is) tt (undone-values i.0 is h)))

  pub same_numbered : (i : Id) (n m : ℕ) (ks ls : List (List ℕ × ℕ)) → n ≡ m → ks ≡ ls
      → ◌≡◌ {A = List (List ℕ × ℕ)} ((i.0, n) ∷ ks) ((i.0, m) ∷ ls)
  same_numbered i n m ks ls e f = rw (e, f) refl

  pub numbered-renamed : (is ks : List Id) → AllByRecursion IsIdUndone is
      → AllByRecursion IsIdUndone ks
      → numbered (number (renamed there is)) (renamed there ks) ≡ numbered (number is) ks
  numbered-renamed is [] h k = refl
  numbered-renamed is (i ∷ ks) h k =
      same_numbered i _ _ _ _ (number-renamed is i h k.0) (numbered-renamed is ks h k.1)

  pub numbers-renamed : (is : List Id) → AllByRecursion IsIdUndone is
      → numbers (renamed there is) ≡ numbers is
  numbers-renamed is h = numbered-renamed is is h h

  -- a renaming that leads back undoes each id
  pub each_undone : (is : List Id) → renamed back (renamed there is) ≡ is
      → AllByRecursion IsIdUndone is
  each_undone [] e = tt
  each_undone (i ∷ is) e =
      (ap (λ (j : Id). j.1) (head_of e), each_undone is (tail_of e))

pub numbers_of_renamed : (is js : List Id) → AreRenamed is js → numbers is ≡ numbers js
numbers_of_renamed is js r =
    let b : renamed r.back (renamed r.there is) ≡ is
    = ap (renamed r.back) r.leads_there ∙ r.leads_back in
    sym (numbers-renamed r.there r.back is (each_undone r.there r.back is b))
    ∙ ap numbers r.leads_there
