-- A run of steps over the value of a length states what the whole value states.
use Rattle.std.proofs.Common.{◌≡◌, ℕ, zero, suc, ◌+◌, ◌-◌, ◌*◌, ◌^◌, ◌<◌, ◌≤◌, Bool, true, false}
use Rattle.std.proofs.Common.{◌&&◌, cond, List, [], ◌∷◌, length, take, drop, get_or, Result, Err}
use Rattle.std.proofs.Common.{refl, sym, ap, ◌∙◌, arith, lit<, inl, inr, nat_lt, nat_le}
use Rattle.std.proofs.lemmas.Bool.{cases_Bool, and_parts, and_cases, cond-true, cond-false}
use Rattle.std.proofs.lemmas.List.Sums.{suffix_len_is}
use native.Mathlib.Numerals.{unary_clauses}
use Rattle.std.proofs.Math.Nat.{pow-le-pow_right}
use Rattle.std.specs.List.{list_all, prefix_len, suffix_len, fold}
use Rattle.std.specs.Char.{is_ascii_digit}
use Rattle.dap_frame.specs.declared.limits.FrameLimits.{FrameLimits}
use Rattle.dap_frame.specs.declared.fault.FrameFault.{FrameFault}
use Rattle.dap_frame.specs.declared.fault.FrameFault.TheVariants.{BadLength}
use Rattle.dap_frame.specs.declared.length_scan.LengthScan.{LengthScan}
use Rattle.dap_frame.specs.declared.length_scan.LengthScan.TheVariants.{Blank, Digits, Padded}
use Rattle.dap_frame.specs.declared.length_scan.LengthScan.TheVariants.{Invalid}
use Rattle.dap_frame.specs.Lines.{is_blank, without_front, trimmed}
use Rattle.dap_frame.specs.Frame.{length_from}
use Rattle.dap_frame.specs.LengthScan.{length_step, length_outcome, number_outcome}

abbrev pub is_nil : List ℕ → Bool
is_nil [] = true
is_nil (x ∷ xs) = false

-- without trailing blanks
abbrev pub without_end : List ℕ → List ℕ
without_end [] = []
without_end (x ∷ xs) = cond (is_blank x && is_nil (without_end xs)) [] (x ∷ without_end xs)

nil_is : (xs : List ℕ) → is_nil xs ≡ true → xs ≡ []
nil_is [] e = refl
nil_is (x ∷ xs) e = cc

end_short : (xs : List ℕ) → length (without_end xs) ≤ length xs
end_short [] = omega arith
end_short (x ∷ xs) =
    let ih = end_short xs in
    elim (cases_Bool (is_blank x && is_nil (without_end xs))) [
      | inl h ↦ rw h (omega arith)
      | inr h ↦ rw h (omega arith)
    ]

end_front : (xs : List ℕ) → without_end xs ≡ take (length (without_end xs)) xs
end_front [] = refl
end_front (x ∷ xs) =
    elim (cases_Bool (is_blank x && is_nil (without_end xs))) [
      | inl h ↦ rw h refl
      | inr h ↦ rw h (ap (λ ys. x ∷ ys) (end_front xs))
    ]

end_length : (x : ℕ) (xs : List ℕ) → (is_blank x && is_nil (without_end xs)) ≡ false
    → length (without_end (x ∷ xs)) ≡ suc (length (without_end xs))
end_length x xs h =
    ap length (cond-false (is_blank x && is_nil (without_end xs)) [] (x ∷ without_end xs) h)

end_none : (x : ℕ) (xs : List ℕ) → (is_blank x && is_nil (without_end xs)) ≡ true
    → length (without_end (x ∷ xs)) ≡ 0
end_none x xs h =
    ap length (cond-true (is_blank x && is_nil (without_end xs)) [] (x ∷ without_end xs) h)

end_behind : (xs : List ℕ) (k : ℕ) → length (without_end xs) ≤ k → k < length xs
    → is_blank (get_or xs k 0) ≡ true
end_behind [] k le lt = absurd (omega arith)
end_behind (x ∷ xs) zero le lt =
    elim (cases_Bool (is_blank x && is_nil (without_end xs))) [
      | inl h ↦ (and_parts _ _ h).0
      | inr h ↦ absurd (omega (arith, end_length x xs h))
    ]
end_behind (x ∷ xs) (suc k) le lt =
    elim (cases_Bool (is_blank x && is_nil (without_end xs))) [
      | inl h ↦ end_behind xs k
          (omega (arith, ap length (nil_is (without_end xs) (and_parts _ _ h).1))) (omega arith)
      | inr h ↦ end_behind xs k (omega (arith, end_length x xs h)) (omega arith)
    ]

last_of : (x : ℕ) (xs ws : List ℕ) → (is_blank x && is_nil ws) ≡ false
    → (0 < length ws → is_blank (get_or xs (length ws - 1) 0) ≡ false)
    → is_blank (get_or (x ∷ xs) (length ws) 0) ≡ false
last_of x xs [] h ih = elim (and_cases (is_blank x) true h) [
  | inl e ↦ e
  | inr e ↦ cc
]
last_of x xs (w ∷ ws) h ih =
    let e : suc (length ws) - 1 ≡ length ws = omega arith in
    ap (λ n. is_blank (get_or xs n 0)) (sym e) ∙ ih (omega arith)

end_last : (xs : List ℕ) → 0 < length (without_end xs)
    → is_blank (get_or xs (length (without_end xs) - 1) 0) ≡ false
end_last [] some = absurd (omega arith)
end_last (x ∷ xs) some =
    elim (cases_Bool (is_blank x && is_nil (without_end xs))) [
      | inl h ↦ absurd (omega (arith, end_none x xs h))
      | inr h ↦ let e : length (without_end (x ∷ xs)) - 1 ≡ length (without_end xs) =
          omega (arith, end_length x xs h) in ap (λ n. is_blank (get_or (x ∷ xs) n 0)) e
          ∙ last_of x xs (without_end xs) h (end_last xs)
    ]

cut_is : (xs : List ℕ) → take (length xs - suffix_len is_blank xs) xs ≡ without_end xs
cut_is xs =
    let s = suffix_len_is is_blank xs (length (without_end xs)) 0 (end_short xs) (end_behind xs)
    (end_last xs) in
    let e : length xs - suffix_len is_blank xs ≡ length (without_end xs) =
    omega (arith, s, end_short xs) in
    ap (λ n. take n xs) e ∙ sym (end_front xs)

abbrev pub length_run : LengthScan → List ℕ → LengthScan
length_run d [] = d
length_run d (b ∷ bs) = length_run (length_step d b) bs

-- the result for n digits of this number and the text after them
abbrev said_from : FrameLimits → ℕ → ℕ → List ℕ → Result ℕ FrameFault
said_from limits c n [] = number_outcome limits n
said_from limits c n (b ∷ t) =
    cond (is_ascii_digit b && (nat_lt c 10 && nat_lt n 1000000000))
    (said_from limits (c + 1) (n * 10 + (b - 48)) t) (Err BadLength)

abbrev said_text : FrameLimits → List ℕ → Result ℕ FrameFault
said_text limits [] = Err BadLength
said_text limits (b ∷ t) = cond (is_ascii_digit b) (said_from limits 1 (b - 48) t) (Err BadLength)

run_wrong : (xs : List ℕ) → length_run Invalid xs ≡ Invalid
run_wrong [] = refl
run_wrong (b ∷ bs) = run_wrong bs

run_behind : (limits : FrameLimits) (n : ℕ) (xs : List ℕ)
    → length_outcome limits (length_run (Padded n) xs)
    ≡ cond (is_nil (without_end xs)) (number_outcome limits n) (Err BadLength)
run_behind limits n [] = refl
run_behind limits n (b ∷ bs) =
    elim (cases_Bool (is_blank b)) [
      | inl h ↦ elim (cases_Bool (is_nil (without_end bs))) [
        | inl k ↦ rw (h, k) (run_behind limits n bs ∙ cond-true _ _ _ k)
        | inr k ↦ rw (h, k) (run_behind limits n bs ∙ cond-false _ _ _ k)
      ]
      | inr h ↦ rw h (ap (length_outcome limits) (run_wrong bs))
    ]

blank_no_digit : (b : ℕ) → is_blank b ≡ true → is_ascii_digit b ≡ false
blank_no_digit b h = grind (arith, h)

run_run : (limits : FrameLimits) (c n : ℕ) (xs : List ℕ)
    → length_outcome limits (length_run (Digits c n) xs) ≡ said_from limits c n (without_end xs)
run_run limits c n [] = refl
run_run limits c n (b ∷ bs) =
    elim (cases_Bool (is_blank b)) [
      | inl h ↦ elim (cases_Bool (is_nil (without_end bs))) [
        | inl k ↦ rw (h, k) (run_behind limits n bs ∙ cond-true _ _ _ k)
        | inr k ↦ rw (h, k, blank_no_digit b h) (run_behind limits n bs ∙ cond-false _ _ _ k)
      ]
      | inr h ↦ elim (cases_Bool (is_ascii_digit b && (nat_lt c 10 && nat_lt n 1000000000))) [
        | inl g ↦ rw (h, g) (run_run limits (c + 1) (n * 10 + (b - 48)) bs)
        | inr g ↦ rw (h, g) (ap (length_outcome limits) (run_wrong bs))
      ]
    ]

front_more : (b : ℕ) (bs : List ℕ) → is_blank b ≡ true → without_front (b ∷ bs) ≡ without_front bs
front_more b bs h =
    ap (λ n. drop n (b ∷ bs)) (cond-true (is_blank b) (1 + prefix_len is_blank bs) 0 h
    ∙ (let e : 1 + prefix_len is_blank bs ≡ suc (prefix_len is_blank bs) = omega arith in e))

front_none : (b : ℕ) (bs : List ℕ) → is_blank b ≡ false → without_front (b ∷ bs) ≡ b ∷ bs
front_none b bs h =
    ap (λ n. drop n (b ∷ bs)) (cond-false (is_blank b) (1 + prefix_len is_blank bs) 0 h)

run_front : (limits : FrameLimits) (xs : List ℕ)
    → length_outcome limits (length_run Blank xs)
    ≡ said_text limits (without_end (without_front xs))
run_front limits [] = refl
run_front limits (b ∷ bs) =
    elim (cases_Bool (is_blank b)) [
      | inl h ↦ ap (λ d. length_outcome limits (length_run d bs)) (cond-true (is_blank b) Blank _ h)
          ∙ run_front limits bs
          ∙ ap (λ t. said_text limits (without_end t)) (sym (front_more b bs h))
      | inr h ↦ elim (cases_Bool (is_ascii_digit b)) [
        | inl g ↦ rw (front_none b bs h, h, g) (run_run limits 1 (b - 48) bs)
        | inr g ↦ rw (front_none b bs h, h, g) (ap (length_outcome limits) (run_wrong bs))
      ]
    ]

-- the closed form of what a text states
closed : (limits : FrameLimits) (c n : ℕ) (t : List ℕ) → n + 1 ≤ 10 ^ c → c ≤ 10
    → cond (nat_le (c + length t) 10 && list_all is_ascii_digit t)
    (number_outcome limits (fold (λ n digit. n * 10 + (digit - 48)) n t)) (Err BadLength)
    ≡ said_from limits c n t
closed limits c n [] small few =
    let test : nat_le (c + 0) 10 ≡ true = grind (arith, few) in
    rw test refl
closed limits c n (b ∷ t) small few =
    elim (cases_Bool (is_ascii_digit b)) [
      | inl g ↦ elim (cases_Bool (nat_lt c 10)) [
        | inl h ↦
            (let less : c < 10 = grind (arith, h) in
            let bound : 10 ^ c ≤ 10 ^ 9 =
            (let short : c ≤ 9 = omega arith in pow-le-pow_right (lit< tt) short) in
            let low : nat_lt n 1000000000 ≡ true = grind (arith, bound, small) in
            let digit : b - 48 ≤ 9 = grind (arith, g) in
            let power : 10 ^ (c + 1) ≡ 10 ^ c * 10 = simp unary_clauses in
            let more : n * 10 + (b - 48) + 1 ≤ 10 ^ (c + 1) = omega (arith, small, power) in
            let next = closed limits (c + 1) (n * 10 + (b - 48)) t more (omega arith) in
            let same : c + suc (length t) ≡ c + 1 + length t = omega arith in
            rw (g, h, low, same) next)
        | inr h ↦ (
            let long : nat_le (c + suc (length t)) 10 ≡ false = grind (arith, h) in
            rw (g, h, long) refl)
      ]
      | inr g ↦ elim (cases_Bool (nat_le (c + suc (length t)) 10)) [
        | inl h ↦ rw (g, h) refl
        | inr h ↦ rw (g, h) refl
      ]
    ]

text_said : (limits : FrameLimits) (text : List ℕ) → length_from limits text ≡ said_text limits text
text_said limits [] = refl
text_said limits (b ∷ t) =
    elim (cases_Bool (is_ascii_digit b)) [
      | inl g ↦ (
          let digit : b - 48 ≤ 9 = grind (arith, g) in
          let small : 0 * 10 + (b - 48) + 1 ≤ 10 ^ 1 = omega arith in
          let start : 0 * 10 + (b - 48) ≡ b - 48 = omega arith in
          let is = closed limits 1 (0 * 10 + (b - 48)) t small (omega arith)
          ∙ ap (λ n. said_from limits 1 n t) start in
          let same : 1 + length t ≡ suc (length t) = omega arith in
          let some : nat_lt 0 (suc (length t)) ≡ true = grind arith in
          elim (cases_Bool (nat_le (suc (length t)) 10)) [
            | inl h ↦ elim (cases_Bool (list_all is_ascii_digit t)) [
              | inl k ↦ rw (some, h, g, k) (rw (same, h, k) at is)
              | inr k ↦ rw (some, h, g, k) (rw (same, h, k) at is)
            ]
            | inr h ↦ rw (some, h, g) (rw (same, h) at is)
          ])
      | inr g ↦ elim (cases_Bool (nat_lt 0 (suc (length t)) && nat_le (suc (length t)) 10)) [
        | inl h ↦ rw (g, h) refl
        | inr h ↦ rw (g, h) refl
      ]
    ]

pub length_says : (limits : FrameLimits) (value : List ℕ)
    → length_from limits (trimmed value) ≡ length_outcome limits (length_run Blank value)
length_says limits value =
    ap (length_from limits) (cut_is (without_front value))
    ∙ text_said limits (without_end (without_front value)) ∙ sym (run_front limits value)
