-- The keys of values: two keys are equal if and only if the labels and the values are equal.
use Rattle.std.proofs.Common.{◌≡◌, ℕ, Bool, true, false, cond, ◌&&◌, List, []}
use Rattle.std.proofs.Common.{◌∷◌, Option, refl, ap, sym, ◌∙◌, arith, eqb}
use Rattle.std.specs.Str.{bytes_eq}
use Rattle.std.specs.declared.alloc.Global.{Global}
use Rattle.std.specs.declared.vec.Vec.{Vec}
use Rattle.std.proofs.Common.{subst, true≢false, ◌++◌, reverse}
use Rattle.std.proofs.lemmas.List.{reverse-reverse}
use Rattle.std.specs.BTreeMap.{BTreeMap, Updates, get_by}
use Rattle.std.specs.Map.{KeepsOthers, IsKeyTest, AreApart, lookup}
use Rattle.std.proofs.lemmas.Cmp.{eq_by_cmp_equiv, nat_list_cmp_total}
use Rattle.std.specs.Cmp.Lexicographic.{slice_cmp}
use Rattle.std.specs.Ordering.{nat_cmp, is_eq}
use Rattle.std.proofs.lemmas.Map.Text.{is_eq-slice_cmp}
use Rattle.std.proofs.lemmas.Bool.Decides.{nat_tests}
use Rattle.dap_words.specs.Runs.{all_of}
use Rattle.dap_tokens.specs.Tokens.{is_of_label, is_label}
use Rattle.dap_naming.specs.Known.{key}
use Rattle.dap_naming.proofs.Lists.{by_bool, first_of_both, second_of_both}
use Rattle.dap_naming.proofs.Additions.{same_bytes, bytes_same}

not_blank : (b : ℕ) → is_of_label b ≡ true → eqb 32 b ≡ false
not_blank b h = grind (arith, nat_tests)

not_blank_too : (b : ℕ) → is_of_label b ≡ true → eqb b 32 ≡ false
not_blank_too b h = grind (arith, nat_tests)

and_assoc : (a b c : Bool) → ((a && b) && c) ≡ (a && (b && c))
and_assoc true b c = refl
and_assoc false b c = refl

-- a key before it is reversed
abbrev forward : List ℕ → List ℕ → List ℕ
forward l v = l ++ 32 ∷ v

same_keys : (l m v w : List ℕ) → all_of is_of_label l ≡ true → all_of is_of_label m ≡ true
    → bytes_eq (forward l v) (forward m w) ≡ (bytes_eq l m && bytes_eq v w)
same_keys [] [] v w h k = refl
same_keys [] (b ∷ m) v w h k = rw (not_blank b (first_of_both _ _ k)) refl
same_keys (a ∷ l) [] v w h k = rw (not_blank_too a (first_of_both _ _ h)) refl
same_keys (a ∷ l) (b ∷ m) v w h k =
    ap (λ t. eqb a b && t) (same_keys l m v w (second_of_both _ _ h) (second_of_both _ _ k))
    ∙ sym (and_assoc (eqb a b) (bytes_eq l m) (bytes_eq v w))

back : (xs ys : List ℕ) → reverse xs ≡ reverse ys → xs ≡ ys
back xs ys e = sym (reverse-reverse xs) ∙ ap reverse e ∙ reverse-reverse ys

both_reversed : (xs ys : List ℕ) → bytes_eq (reverse xs) (reverse ys) ≡ bytes_eq xs ys
both_reversed xs ys =
    by_bool (bytes_eq xs ys)
    (λ e. bytes_same (reverse xs) (reverse ys) (ap reverse (same_bytes xs ys e)) ∙ sym e)
    (λ e. by_bool (bytes_eq (reverse xs) (reverse ys))
    (λ f. absurd (true≢false
    (sym (bytes_same xs ys (back xs ys (same_bytes (reverse xs) (reverse ys) f))) ∙ e)))
    (λ f. f ∙ sym e))

pub of_label : (l : List ℕ) → is_label l ≡ true → all_of is_of_label l ≡ true
of_label [] h = refl
of_label (b ∷ l) h = second_of_both _ _ h

pub bytes_eq-key : (l m v w : List ℕ) → is_label l ≡ true → is_label m ≡ true
    → bytes_eq (key l v) (key m w) ≡ (bytes_eq l m && bytes_eq v w)
bytes_eq-key l m v w h k =
    both_reversed (forward l v) (forward m w) ∙ same_keys l m v w (of_label l h) (of_label m k)

other_entries : {K X : Type 0} (eq : K → K → Bool) (test : K → Bool) (old new : List (K × X))
    → KeepsOthers eq test old new → (other : K → Bool) → IsKeyTest eq other → AreApart test other
    → lookup other new ≡ lookup other old
unfolding KeepsOthers
other_entries eq test old new h = h

apart : (p q k : List ℕ) → bytes_eq p q ≡ false → is_eq (slice_cmp nat_cmp p k) ≡ true
    → is_eq (slice_cmp nat_cmp q k) ≡ false
apart p q k n y =
    by_bool (is_eq (slice_cmp nat_cmp q k))
    (λ z. let a : p ≡ k = same_bytes p k (sym (is_eq-slice_cmp p k) ∙ y) in
    let b : q ≡ k = same_bytes q k (sym (is_eq-slice_cmp q k) ∙ z) in
    absurd (true≢false (sym (bytes_same p q (a ∙ sym b)) ∙ n)))
    (λ z. z)

-- what a map has at any bytes after an insertion
pub get_inserted : (old new : BTreeMap (Vec ℕ Global) ℕ) (k : Vec ℕ Global) (w : Option ℕ)
    → Updates (λ x y. slice_cmp nat_cmp x.items y.items) old new k w → (q : List ℕ)
    → get_by (λ x. slice_cmp nat_cmp q x.items) new
    ≡ cond (bytes_eq k.items q) w (get_by (λ x. slice_cmp nat_cmp q x.items) old)
get_inserted old new k w h q =
    by_bool (bytes_eq k.items q)
    (λ e. rw e (subst (λ (l : List ℕ). get_by (λ x. slice_cmp nat_cmp l x.items) new ≡ w)
    (same_bytes k.items q e) h.1))
    (λ e. rw e (other_entries _ _ _ _ h.3 (λ x. is_eq (slice_cmp nat_cmp q x.items))
    (λ x y. (eq_by_cmp_equiv nat_list_cmp_total).congr q x.items y.items)
    (λ x. apart k.items q x.items e)))
