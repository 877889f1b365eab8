-- The count that bytes start with, and the number of digits that they start with.
use Rattle.std.proofs.Common.{◌≡◌, ℕ, suc, ◌+◌, ◌<◌, Bool, true, false, cond, ◌&&◌, List, [], ◌∷◌}
use Rattle.std.proofs.Common.{◌++◌, length, take, drop, refl, sym, ◌∙◌, ap, subst, inl, inr, arith}
use Rattle.std.proofs.Common.{take-append-drop}
use Rattle.std.proofs.Math.Seq.{drop-append_seam}
use Rattle.std.proofs.lemmas.List.Folds.{length-prefix_len}
use Rattle.std.specs.Char.{is_ascii_digit}
use Rattle.std.specs.Cmp.Derive.{both_true}
use Rattle.std.specs.List.{list_all, prefix_len}
use Rattle.dap_golden.specs.TraceHead.{IsLineEnd, StartsWithCount}

-- Both parts of a conjunction are true.
both_of : (a b : Bool) → (a && b) ≡ true → (a ≡ true) × (b ≡ true)
both_of true b is = (refl, is)
both_of false b is = absurd cc

-- In digits followed by a line end, exactly the digits are counted.
digits_counted : (digits rest : List ℕ) → list_all is_ascii_digit digits ≡ true → IsLineEnd rest
    → prefix_len is_ascii_digit (digits ++ rest) ≡ length digits
digits_counted [] rest all (inl none) = ap (prefix_len is_ascii_digit) none
digits_counted [] rest all (inr more) = ap (prefix_len is_ascii_digit) more.1
digits_counted (x ∷ digits) rest all end =
    let both = both_of (is_ascii_digit x) (list_all is_ascii_digit digits) all in
    let more = digits_counted digits rest both.1 end in
    ap (λ b. cond b (1 + prefix_len is_ascii_digit (digits ++ rest)) 0) both.0
    ∙ omega (arith, more)

-- The bytes counted are digits.
one_more : (x : ℕ) (bytes : List ℕ) (b : Bool) → is_ascii_digit x ≡ b
    → list_all is_ascii_digit (take (prefix_len is_ascii_digit bytes) bytes) ≡ true
    → list_all is_ascii_digit (take (cond b (1 + prefix_len is_ascii_digit bytes) 0) (x ∷ bytes))
    ≡ true
one_more x bytes true is more =
    let next : suc (prefix_len is_ascii_digit bytes) ≡ 1 + prefix_len is_ascii_digit bytes =
    omega arith in
    subst (λ n. list_all is_ascii_digit (take n (x ∷ bytes)) ≡ true) next (both_true is more)
one_more x bytes false is more = refl

counted_are_digits : (bytes : List ℕ)
    → list_all is_ascii_digit (take (prefix_len is_ascii_digit bytes) bytes) ≡ true
counted_are_digits [] = refl
counted_are_digits (x ∷ bytes) =
    one_more x bytes (is_ascii_digit x) refl (counted_are_digits bytes)

module _ (bytes : List ℕ) (n : ℕ) (is : n ≡ prefix_len is_ascii_digit bytes) where
  pub starts : 0 < n → IsLineEnd (drop n bytes) → StartsWithCount bytes
  starts some end = record {
    digits = take n bytes;
    rest = drop n bytes;
    split = sym (take-append-drop n bytes);
    some = let long : length (take n bytes) ≡ n =
        subst (λ k. length (take k bytes) ≡ k) (sym is) (length-prefix_len is_ascii_digit bytes)
        in omega (arith, long, some);
    are_digits = subst (λ k. list_all is_ascii_digit (take k bytes) ≡ true) (sym is)
        (counted_are_digits bytes);
    line_end = end;
  }

  module _ (count : StartsWithCount bytes) where
    number_is : n ≡ length count.digits
    number_is = is ∙ ap (prefix_len is_ascii_digit) count.split
        ∙ digits_counted count.digits count.rest count.are_digits count.line_end

    pub some_counted : 0 < n
    some_counted = let same = number_is in let some = count.some in omega (arith, same, some)

    pub end_behind : IsLineEnd (drop n bytes)
    end_behind =
        let rest : drop n bytes ≡ count.rest =
        ap (λ k. drop k bytes) number_is ∙ ap (drop (length count.digits)) count.split
        ∙ drop-append_seam count.digits count.rest in
        subst IsLineEnd (sym rest) count.line_end
