-- The results of `digits` and `hex` for strings that these functions returned.
use Rattle.std.proofs.Common.{◌≡◌, ℕ, ◌==◌, Bool, true, false, cond, not, ◌&&◌, List, [], ◌∷◌}
use Rattle.std.proofs.Common.{refl, sym, ap, ◌∙◌, subst, true≢false}
use Rattle.std.proofs.lemmas.Bool.{eqb-true}
use Rattle.std.specs.Char.{is_ascii_digit, is_ascii_hexdigit}
use Rattle.dap_message.proofs.Edits.{by_bool}
use Rattle.dap_tree.proofs.Booleans.{and_left, and_right, and_both}
use Rattle.dap_words.proofs.Settled.{done, done_digits, left_done, no_digit}
use Rattle.dap_mask.specs.Texts.{digits_from, digits, is_x, goes_on_as_hex, begins_hex, hex}
use Rattle.dap_mask.specs.Texts.{behind_zero, in_number}

-- ---- digits

mutual
  digits_again : (s : List ℕ) → digits_from false (digits_from false s) ≡ digits_from false s
  digits_again [] = refl
  digits_again (b ∷ s) = by_bool (is_ascii_digit b)
      (λ h. rw h (ap (λ t. 48 ∷ t) (inside_again s true)))
      (λ h. rw (h, h) (ap (λ t. b ∷ t) (digits_again s)))

  inside_again : (s : List ℕ) (i : Bool) → digits_from i (digits_from true s) ≡ digits_from true s
  inside_again [] i = refl
  inside_again (b ∷ s) i = by_bool (is_ascii_digit b)
      (λ h. rw h (inside_again s i))
      (λ h. rw (h, h) (ap (λ t. b ∷ t) (digits_again s)))

pub digits_twice : (s : List ℕ) → digits (digits s) ≡ digits s
digits_twice s = digits_again s

rest_done : (i : Bool) (b : ℕ) (s : List ℕ) → done i (b ∷ s) ≡ true → done (is_ascii_digit b) s
    ≡ true
rest_done i b s h = go (is_ascii_digit b) h
  where
    go : (d : Bool) → cond d (not i && ((b == 48) && done true s)) (done false s) ≡ true → done d s
        ≡ true
    go true k = and_right (b == 48) (done true s) (and_right (not i) ((b == 48) && done true s) k)
    go false k = k

-- ---- hexadecimal numbers

x_is_not_zero : (c : ℕ) → is_x c ≡ true → (c == 48) ≡ false
x_is_not_zero c h = by_bool (c == 48) (λ k. let is = eqb-true c 48 k in
    absurd (true≢false (sym h ∙ ap is_x is))) (λ k. k)

pub begins_zero : (b : ℕ) (s : List ℕ) → begins_hex b s ≡ true → b ≡ 48
begins_zero b s h = eqb-true b 48 (and_left (b == 48) (goes_on_as_hex s) h)

goes_on_hex : (s : List ℕ) → goes_on_as_hex (hex s) ≡ goes_on_as_hex s
goes_on_hex [] = refl
goes_on_hex (c ∷ []) = by_bool (c == 48) (λ h. rw h refl) (λ h. rw h refl)
goes_on_hex (c ∷ h ∷ r) = by_bool (is_x c)
    (λ x. rw (x_is_not_zero c x) (by_bool (begins_hex h r)
    (λ k. rw k (ap (λ b. is_x c && is_ascii_hexdigit b) (sym (begins_zero h r k))))
    (λ k. rw k refl)))
    (λ x. by_bool (begins_hex c (h ∷ r))
    (λ k. rw (k, x) refl)
    (λ k. by_bool (begins_hex h r) (λ l. rw (k, l, x) refl) (λ l. rw (k, l, x) refl)))

mutual
  hex_again : (s : List ℕ) → hex (hex s) ≡ hex s
  hex_again [] = refl
  hex_again (b ∷ s) = by_bool (begins_hex b s)
      (λ h. rw h (number_again s (and_right (b == 48) (goes_on_as_hex s) h)))
      (λ h. rw h (rw (ap (λ g. (b == 48) && g) (goes_on_hex s) ∙ h)
      (ap (λ t. b ∷ t) (hex_again s))))

  number_again : (s : List ℕ) → goes_on_as_hex s ≡ true → hex (48 ∷ behind_zero s) ≡ 48
      ∷ behind_zero s
  number_again [] h = cc
  number_again (x ∷ []) h = cc
  number_again (x ∷ d ∷ s) h = ap (λ t. 48 ∷ 120 ∷ 48 ∷ t) (in_again s)

  in_again : (s : List ℕ) → in_number (in_number s) ≡ in_number s
  in_again [] = refl
  in_again (b ∷ s) = by_bool (is_ascii_hexdigit b)
      (λ h. rw h (in_again s))
      (λ h. rw (h, h) (ap (λ t. b ∷ t) (hex_again s)))

pub hex_twice : (s : List ℕ) → hex (hex s) ≡ hex s
hex_twice = hex_again

-- ---- `hex` after `digits`

plain : (i : Bool) (b : ℕ) (s : List ℕ) → done i (b ∷ s) ≡ true
    → (done true s ≡ true → done true (hex s) ≡ true) → (done false s ≡ true → done false (hex s)
    ≡ true) → done i (b ∷ hex s) ≡ true
plain i b s h inside outside = go (is_ascii_digit b) h
  where
    go : (d : Bool) → cond d (not i && ((b == 48) && done true s)) (done false s) ≡ true
        → cond d (not i && ((b == 48) && done true (hex s))) (done false (hex s)) ≡ true
    go true k =
        let rest = and_right (not i) ((b == 48) && done true s) k in
        and_both _ _ (and_left (not i) ((b == 48) && done true s) k)
        (and_both _ _ (and_left (b == 48) (done true s) rest)
        (inside (and_right (b == 48) (done true s) rest)))
    go false k = outside k

mutual
  hex_done : (i : Bool) (s : List ℕ) → done i s ≡ true → done i (hex s) ≡ true
  hex_done i [] h = refl
  hex_done i (b ∷ s) h = by_bool (begins_hex b s)
      (λ k. rw k (number_done i s (and_right (b == 48) (goes_on_as_hex s) k)
      (subst (λ n. done i (n ∷ s) ≡ true) (begins_zero b s k) h)))
      (λ k. rw k (plain i b s h (hex_done true s) (hex_done false s)))

  number_done : (i : Bool) (s : List ℕ) → goes_on_as_hex s ≡ true → done i (48 ∷ s) ≡ true
      → done i (48 ∷ behind_zero s) ≡ true
  number_done i [] k h = cc
  number_done i (x ∷ []) k h = cc
  number_done true (x ∷ d ∷ s) k h = cc
  number_done false (x ∷ d ∷ s) k h =
      in_done (is_ascii_digit d) s (rest_done (is_ascii_digit x) d s (rest_done true x (d ∷ s) h))

  in_done : (i : Bool) (s : List ℕ) → done i s ≡ true → done true (in_number s) ≡ true
  in_done i [] h = refl
  in_done i (b ∷ s) h = by_bool (is_ascii_hexdigit b)
      (λ k. rw k (in_done (is_ascii_digit b) s (rest_done i b s h)))
      (λ k. let no = no_digit b k in
      rw (k, no) (hex_done false s (subst (λ d. done d s ≡ true) no (rest_done i b s h))))

-- if `digits` does not change a string, it does not change the result of `hex` for this string
pub digits_behind_hex : (s : List ℕ) → digits s ≡ s → digits (hex s) ≡ hex s
digits_behind_hex s h =
    left_done false (hex s) (hex_done false s (subst (λ t. done false t ≡ true) h (done_digits s)))
