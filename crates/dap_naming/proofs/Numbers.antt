-- The laws of numbers of ids.
use Rattle.std.proofs.Common.{◌≡◌, ℕ, suc, ◌-◌, ◌<◌, ◌^◌, true}
use Rattle.std.proofs.Common.{List, [], ◌∷◌, ◌++◌, length, get_or, refl, ap, sym, ◌∙◌, arith}
use Rattle.std.proofs.Common.{subst}
use Rattle.std.specs.List.{list_any, position_or_len, AllByRecursion, Contains}
use Rattle.std.specs.Str.{bytes_eq}
use Rattle.std.proofs.Math.Logic.{∥∥₁_elim}
use Rattle.std.proofs.Props.{props}
use Rattle.std.proofs.lemmas.List.{length-map}
use Rattle.std.specs.{Fmt.decimal, Str.Parse.digits_value}
use Rattle.std.proofs.lemmas.Fmt.{decimal_is_IsNumeral}
use Rattle.dap_tokens.specs.Naming.{IsNumbering, Id, numbered}
use Rattle.dap_naming.specs.Numbers.{values, distinct, number}
use Rattle.dap_naming.specs.Numbers.{numbers, renamed, renumbered, AreRenamed, AreCountable}
use Rattle.dap_naming.specs.Laws.{EqualNumbers, NumbersAreFresh, NumbersStay}
use Rattle.dap_naming.proofs.Lists.{by_bool, head_of, tail_of, same_cons, at_index, each-more}
use Rattle.dap_naming.proofs.Lists.{place_within}
use Rattle.dap_naming.proofs.Additions.{itself, any-distinct, distinct-append, keeps-add_all}
use Rattle.dap_naming.proofs.Additions.{at_position}
use Rattle.dap_naming.proofs.Renamed.{numbers_of_renamed, numbers-renamed, distinct-renamed}

-- ---- the values of a list have positions

-- the value of the id is among the distinct values of its label
abbrev pub IsAmong : List Id → Id → Type 0
IsAmong is i = list_any (bytes_eq i.1) (distinct i.0 is) ≡ true

pub among_first : (i : Id) (is : List Id) → list_any (bytes_eq i.1) (values i.0 (i ∷ is)) ≡ true
among_first i is = rw (itself i.0, itself i.1) refl

pub among_rest : (i j : Id) (is : List Id) → list_any (bytes_eq i.1) (values i.0 is) ≡ true
    → list_any (bytes_eq i.1) (values i.0 (j ∷ is)) ≡ true
among_rest i j is h = by_bool (bytes_eq i.0 j.0) (λ e. rw e (grind arith)) (λ e. rw e h)

pub each_among_values : (is : List Id)
    → AllByRecursion (λ i. list_any (bytes_eq i.1) (values i.0 is) ≡ true) is
each_among_values [] = tt
each_among_values (i ∷ is) = (
  among_first i is,
  each-more _ _ is (λ j h. among_rest j i is h) (each_among_values is),
)

pub each_among : (is : List Id) → AllByRecursion (IsAmong is) is
each_among is =
    each-more _ _ is (λ i h. any-distinct i.0 i.1 is ∙ h) (each_among_values is)

pub among_contained : (is : List Id) (i : Id) → Contains is i → IsAmong is i
among_contained is i c =
    subst (IsAmong is) c.2 (at_index (IsAmong is) is c.0 i (each_among is) c.1)

-- ---- more ids change no number

pub stays_among : (is js : List Id) (i : Id) → IsAmong is i
    → number (is ++ js) i.0 i.1 ≡ number is i.0 i.1
stays_among is js i h =
    ap (λ vs. suc (position_or_len (bytes_eq i.1) vs)) (distinct-append i.0 is js)
    ∙ ap suc (keeps-add_all (distinct i.0 is) (values i.0 js) i.1 h)

pub numbers_stay : NumbersStay
numbers_stay is js i c = stays_among is js i (among_contained is i c)

-- ---- equal numbers give a renaming

pub partner : List Id → List Id → List ℕ → List ℕ → List ℕ
partner is js label v =
    get_or (distinct label js) (position_or_len (bytes_eq v) (distinct label is)) []

pub partner_of : (is js : List Id) (i j : Id) → i.0 ≡ j.0
    → number is i.0 i.1 ≡ number js j.0 j.1 → IsAmong js j → partner is js i.0 i.1 ≡ j.1
unfolding partner
partner_of is js i j l n h =
    let p : position_or_len (bytes_eq i.1) (distinct i.0 is)
    ≡ position_or_len (bytes_eq j.1) (distinct j.0 js) = omega arith in
    ap (λ k. get_or (distinct i.0 js) k []) p
    ∙ (ap (λ label. get_or (distinct label js) (position_or_len (bytes_eq j.1) (distinct j.0 js))
    []) l
    ∙ at_position j.1 [] (distinct j.0 js) h)

pub same_id : (l m v w : List ℕ) → l ≡ m → v ≡ w → ◌≡◌ {A = Id} (l, v) (m, w)
same_id l m v w e f = rw (e, f) refl

pub partners : (is js ks bs : List Id) → numbered (number is) ks ≡ numbered (number js) bs
    → AllByRecursion (IsAmong js) bs → renamed (partner is js) ks ≡ bs
partners is js [] [] e h = refl
partners is js [] (b ∷ bs) e h = absurd cc
partners is js (a ∷ ks) [] e h = absurd cc
partners is js (a ∷ ks) (b ∷ bs) e h =
    let l : a.0 ≡ b.0 = ap (λ (t : List ℕ × ℕ). t.0) (head_of e) in
    let n : number is a.0 a.1 ≡ number js b.0 b.1 = ap (λ (t : List ℕ × ℕ). t.1) (head_of e) in
    same_cons _ _ _ _ (same_id a.0 b.0 _ b.1 l (partner_of is js a b l n h.0))
    (partners is js ks bs (tail_of e) h.1)

pub renaming_from : (is js : List Id) → numbers is ≡ numbers js → AreRenamed is js
renaming_from is js e = record {
  there = partner is js;
  back = partner js is;
  leads_there = partners is js is js e (each_among js);
  leads_back = partners js is js is (sym e) (each_among is);
}

pub equal_numbers : EqualNumbers
equal_numbers is js = (
  λ e. ∣ renaming_from is js e ∣₁,
  λ t. ∥∥₁_elim t (hlevel props) (λ r. numbers_of_renamed is js r),
)

-- ---- the numbers of numbers

pub number-positive : (is : List Id) (label v : List ℕ) → 0 < number is label v
number-positive is label v = omega arith

pub number-small : (is : List Id) → AreCountable is → (label v : List ℕ)
    → number is label v < 2 ^ 64
number-small is small label v =
    let l : length (distinct label is) < 2 ^ 63 = small label in
    let p = place_within (bytes_eq v) (distinct label is) in omega arith

pub number-is_numbering : (is : List Id) → AreCountable is → IsNumbering (number is)
number-is_numbering is small label v = (number-positive is label v, number-small is small label v)

pub from_decimal : List Id → List ℕ → List ℕ → List ℕ
from_decimal is label t = get_or (distinct label is) (digits_value 10 t - 1) []

pub from_decimal_of : (is : List Id) → AreCountable is → (i : Id) → IsAmong is i
    → from_decimal is i.0 (decimal (number is i.0 i.1)) ≡ i.1
unfolding from_decimal
from_decimal_of is small i h =
    let v : digits_value 10 (decimal (number is i.0 i.1)) ≡ number is i.0 i.1
    = (decimal_is_IsNumeral (number is i.0 i.1) (number-small is small i.0 i.1)).1 in
    let k : digits_value 10 (decimal (number is i.0 i.1)) - 1
    ≡ position_or_len (bytes_eq i.1) (distinct i.0 is) = omega arith in
    ap (λ n. get_or (distinct i.0 is) n []) k ∙ at_position i.1 [] (distinct i.0 is) h

pub numbers_are_fresh : NumbersAreFresh
numbers_are_fresh is small =
    numbers-renamed (λ label v. decimal (number is label v)) (from_decimal is) is
    (each-more _ _ is (λ i h. from_decimal_of is small i h) (each_among is))

-- ---- the numbers of a list are countable

pub numbers-are_countable : (is : List Id) → AreCountable is → AreCountable (renumbered is)
numbers-are_countable is small label =
    let to : (List ℕ → List ℕ → List ℕ) = λ l v. decimal (number is l v) in
    let e = distinct-renamed to (from_decimal is) label is
    (each-more _ _ is (λ i h. from_decimal_of is small i h) (each_among is)) in
    let l = small label in
    let m = length-map (distinct label is) (to label) in
    omega (arith, ap length e)

-- ---- a prefix has the same numbers

pub numbered_in_prefix : (is js ks : List Id) → AllByRecursion (IsAmong is) ks
    → numbered (number (is ++ js)) ks ≡ numbered (number is) ks
numbered_in_prefix is js [] h = refl
numbered_in_prefix is js (k ∷ ks) h =
    same_cons _ _ _ _ (ap (λ n. (k.0, n)) (stays_among is js k h.0))
    (numbered_in_prefix is js ks h.1)
