-- Lemmas about lists of distinct values: a value is added at the end if it is new.
use Rattle.std.proofs.Common.{◌≡◌, ℕ, true, ◌||◌}
use Rattle.std.proofs.Common.{List, [], ◌∷◌, ◌++◌, get_or, refl, ap, sym, ◌∙◌, arith}
use Rattle.std.proofs.lemmas.List.Sums.{passes_at_first}
use Rattle.std.specs.List.{list_any, position_or_len}
use Rattle.std.specs.Str.{bytes_eq}
use Rattle.std.proofs.lemmas.Slice.Eq.{bytes_eq-Decides}
use Rattle.std.proofs.lemmas.List.Folds.{list_any-append}
use Rattle.dap_tokens.specs.Naming.{Id}
use Rattle.dap_naming.specs.Numbers.{values, add, add_all, distinct}
use Rattle.dap_naming.proofs.Lists.{by_bool, at_end, place_below}

pub same_bytes : (xs ys : List ℕ) → bytes_eq xs ys ≡ true → xs ≡ ys
same_bytes xs ys h = (bytes_eq-Decides xs ys).0 h

pub bytes_same : (xs ys : List ℕ) → xs ≡ ys → bytes_eq xs ys ≡ true
bytes_same xs ys e = (bytes_eq-Decides xs ys).1 e

pub itself : (xs : List ℕ) → bytes_eq xs xs ≡ true
itself xs = bytes_same xs xs refl

-- ---- what the list has

pub any-same : (y x : List ℕ) (vs : List (List ℕ)) → bytes_eq y x ≡ true
    → list_any (bytes_eq x) vs ≡ true → list_any (bytes_eq y) vs ≡ true
any-same y x vs e h = let q : y ≡ x = same_bytes y x e in rw q h

pub any-add : (y x : List ℕ) (vs : List (List ℕ))
    → list_any (bytes_eq y) (add vs x) ≡ (list_any (bytes_eq y) vs || bytes_eq y x)
any-add y x vs =
    by_bool (list_any (bytes_eq x) vs)
    (λ h. by_bool (bytes_eq y x) (λ e. let q : list_any (bytes_eq y) vs
    ≡ true = any-same y x vs e h in rw (h, q) refl) (λ e. rw (h, e) (grind arith)))
    (λ h. rw (h, list_any-append) (grind arith))

pub any-add_all : (y : List ℕ) (vs ws : List (List ℕ))
    → list_any (bytes_eq y) (add_all vs ws) ≡ (list_any (bytes_eq y) vs || list_any (bytes_eq y) ws)
any-add_all y vs [] = grind arith
any-add_all y vs (w ∷ ws) = rw (any-add_all y (add vs w) ws, any-add y w vs) (grind arith)

pub any-distinct : (label v : List ℕ) (is : List Id)
    → list_any (bytes_eq v) (distinct label is) ≡ list_any (bytes_eq v) (values label is)
any-distinct label v is = any-add_all v [] (values label is)

-- ---- the list grows only at its end

pub add_all-append : (vs xs ys : List (List ℕ)) → add_all vs (xs ++ ys) ≡ add_all (add_all vs xs) ys
add_all-append vs [] ys = refl
add_all-append vs (x ∷ xs) ys = add_all-append (add vs x) xs ys

pub values-append : (label : List ℕ) (is js : List Id)
    → values label (is ++ js) ≡ values label is ++ values label js
values-append label [] js = refl
values-append label (i ∷ is) js = grind (arith, values-append label is js)

pub distinct-append : (label : List ℕ) (is js : List Id)
    → distinct label (is ++ js) ≡ add_all (distinct label is) (values label js)
distinct-append label is js =
    ap (add_all []) (values-append label is js)
    ∙ add_all-append [] (values label is) (values label js)

pub keeps-add : (vs : List (List ℕ)) (x y : List ℕ) → list_any (bytes_eq x) vs ≡ true
    → position_or_len (bytes_eq x) (add vs y) ≡ position_or_len (bytes_eq x) vs
keeps-add vs x y h =
    by_bool (list_any (bytes_eq y) vs) (λ a. rw a refl)
    (λ a. rw a (at_end (bytes_eq x) vs (y ∷ []) h))

pub keeps-add_all : (vs ys : List (List ℕ)) (x : List ℕ) → list_any (bytes_eq x) vs ≡ true
    → position_or_len (bytes_eq x) (add_all vs ys) ≡ position_or_len (bytes_eq x) vs
keeps-add_all vs [] x h = refl
keeps-add_all vs (y ∷ ys) x h =
    keeps-add_all (add vs y) ys x (rw any-add (grind arith)) ∙ keeps-add vs x y h

-- ---- a value at its position

pub at_position : (v d : List ℕ) (vs : List (List ℕ)) → list_any (bytes_eq v) vs ≡ true
    → get_or vs (position_or_len (bytes_eq v) vs) d ≡ v
at_position v d vs h =
    sym (same_bytes v _ (passes_at_first (bytes_eq v) vs d (place_below (bytes_eq v) vs h)))
