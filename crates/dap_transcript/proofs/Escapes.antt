-- Strings and their escapes in JSON.
use Rattle.std.proofs.Common.{◌≡◌, ℕ, ◌/◌, ◌%◌, ◌<◌, ◌≤◌, ◌==◌, ◌⊎◌, inl, inr, true, false, cond}
use Rattle.std.proofs.Common.{List, [], ◌∷◌, ◌++◌, not, refl, sym, ap, ap₂, ◌∙◌, subst, arith}
use Rattle.std.proofs.lemmas.Bool.{and_from, and_parts, cases_eq, cases_lt, cond_both, le-ltb}
use Rattle.std.proofs.lemmas.Bool.{lt-ltb, ltb-true, ne_eqb}
use Rattle.std.proofs.lemmas.Bool.Decides.{nat_tests}
use Rattle.std.specs.Prelude.{nat_lt}
use Rattle.std.specs.{Char.digit_char, Cmp.Lexicographic.slice_cmp, List.list_all}
use Rattle.std.specs.Ordering.{nat_cmp, ordering_then}
use Rattle.std.specs.declared.cmp.Ordering.TheVariants.{Greater}
use Rattle.json.specs.Print.{escape, escape_byte, escape_letter}
use Rattle.json.proofs.Printed.Strings.{escape_byte_plain}
use Rattle.dap_transcript.specs.Scalars.{is_simple}

-- ---- what the escape of a byte is

-- The escape starts with a backslash. Such a byte is not above a backslash.
record IsEscaped (x : ℕ) : Type 0 where
  pub tail : List ℕ
  pub is : escape_byte x ≡ 92 ∷ tail
  pub low : x ≤ 92

-- A byte is itself, or is escaped.
escape_forms : (x : ℕ) → (escape_byte x ≡ x ∷ []) ⊎ IsEscaped x
unfolding escape_byte
escape_forms x = go (cases_eq x 34) (cases_eq x 92) (cases_lt x 32)
  where
    control : x < 32 → IsEscaped x
    control small =
        let digits = 117 ∷ 48 ∷ 48 ∷ digit_char (x / 16) ∷ digit_char (x % 16) ∷ [] in
        cond_both (nat_lt 0 (escape_letter x)) (92 ∷ escape_letter x ∷ [])
        (cond (nat_lt x 32) (92 ∷ digits) (x ∷ []))
        (λ (bs : List ℕ). escape_byte x ≡ bs → IsEscaped x)
        (λ _ is. record { tail = escape_letter x ∷ []; is = is; low = omega arith })
        (λ _ is. record {
          tail = digits;
          is = is ∙ ap (λ t. cond t (92 ∷ digits) (x ∷ [])) (lt-ltb x 32 small);
          low = omega arith;
        })
        refl

    go : (x ≡ 34) ⊎ (x ≡ 34 → ⊥) → (x ≡ 92) ⊎ (x ≡ 92 → ⊥) → (x < 32) ⊎ (32 ≤ x)
        → (escape_byte x ≡ x ∷ []) ⊎ IsEscaped x
    go (inl e) b c = inr (record {
      tail = 34 ∷ [];
      is = ap escape_byte e;
      low = omega arith;
    })
    go (inr q) (inl e) c = inr (record {
      tail = 92 ∷ [];
      is = ap escape_byte e;
      low = omega arith;
    })
    go (inr q) (inr b) (inl small) = inr (control small)
    go (inr q) (inr b) (inr large) = inl (escape_byte_plain x q b large)

-- ---- a string without escapes

abbrev no_backslash : List ℕ → Type 0
no_backslash s = list_all (λ b. not (b == 92)) s ≡ true

unescaped_more : (x : ℕ) (s : List ℕ) → (escape_byte x ≡ x ∷ []) ⊎ IsEscaped x
    → (no_backslash (escape s) → escape s ≡ s) → no_backslash (escape (x ∷ s))
    → escape (x ∷ s) ≡ x ∷ s
unescaped_more x s (inl is) rest h =
    let all = subst (λ (bs : List ℕ). no_backslash (bs ++ escape s)) is h in
    let parts = and_parts (not (x == 92)) _ all in
    ap₂ (λ (xs ys : List ℕ). xs ++ ys) is (rest parts.1)
unescaped_more x s (inr other) rest h =
    let all : false ≡ true = subst (λ (bs : List ℕ). no_backslash (bs ++ escape s)) other.is h in
    absurd (cc)

pub unescaped : (s : List ℕ) → list_all (λ b. not (b == 92)) (escape s) ≡ true → escape s ≡ s
unescaped [] h = refl
unescaped (x ∷ s) h = unescaped_more x s (escape_forms x) (unescaped s) h

pub simple_is : (b : ℕ) → is_simple b ≡ true
    → (b ≡ 34 → ⊥) × (b ≡ 92 → ⊥) × (32 ≤ b) × (not (b == 92) ≡ true)
simple_is b h = (
  λ e. grind (arith, nat_tests),
  λ e. grind (arith, nat_tests),
  grind (arith, nat_tests),
  grind (arith, nat_tests),
)

pub simple_stays : (s : List ℕ) → list_all is_simple s ≡ true → escape s ≡ s
simple_stays [] h = refl
simple_stays (b ∷ s) h =
    let parts = and_parts (is_simple b) (list_all is_simple s) h in
    let is = simple_is b parts.0 in
    ap₂ (λ (xs ys : List ℕ). xs ++ ys) (escape_byte_plain b is.0 is.1 is.2)
    (simple_stays s parts.1)

simple_no_backslash : (s : List ℕ) → list_all is_simple s ≡ true → no_backslash s
simple_no_backslash [] h = refl
simple_no_backslash (b ∷ s) h =
    let parts = and_parts (is_simple b) (list_all is_simple s) h in
    and_from _ _ (simple_is b parts.0).3 (simple_no_backslash s parts.1)

pub simple_inside : (s : List ℕ) → list_all is_simple (escape s) ≡ true → escape s ≡ s
simple_inside s h = unescaped s (simple_no_backslash (escape s) h)

-- ---- the order of a name and an escaped name

greater : (a x : ℕ) → x < a → nat_cmp a x ≡ Greater
greater a x h = rw (le-ltb a x (omega arith), ne_eqb a x (λ e. omega arith)) refl

first_byte : (x : ℕ) (s : List ℕ) → (escape_byte x ≡ x ∷ []) ⊎ IsEscaped x
    → slice_cmp nat_cmp [] (escape (x ∷ s)) ≡ slice_cmp nat_cmp [] (x ∷ s)
first_byte x s (inl is) = ap (λ (bs : List ℕ). slice_cmp nat_cmp [] (bs ++ escape s)) is
first_byte x s (inr other) = ap (λ (bs : List ℕ). slice_cmp nat_cmp [] (bs ++ escape s)) other.is

same_order_more : (a : ℕ) (w : List ℕ) (x : ℕ) (s : List ℕ)
    → (escape_byte x ≡ x ∷ []) ⊎ IsEscaped x → 92 < a
    → slice_cmp nat_cmp w (escape s) ≡ slice_cmp nat_cmp w s
    → slice_cmp nat_cmp (a ∷ w) (escape (x ∷ s)) ≡ slice_cmp nat_cmp (a ∷ w) (x ∷ s)
same_order_more a w x s (inl is) above rest =
    ap (λ (bs : List ℕ). slice_cmp nat_cmp (a ∷ w) (bs ++ escape s)) is
    ∙ ap (ordering_then (nat_cmp a x)) rest
same_order_more a w x s (inr other) above rest =
    ap (λ (bs : List ℕ). slice_cmp nat_cmp (a ∷ w) (bs ++ escape s)) other.is
    ∙ ap (λ o. ordering_then o (slice_cmp nat_cmp w (other.tail ++ escape s))) (greater a 92 above)
    ∙ sym (ap (λ o. ordering_then o (slice_cmp nat_cmp w s))
    (greater a x (omega (arith, other.low, above))))

-- A name whose bytes are all above a backslash is before a name if it is before its escape.
pub same_order : (w s : List ℕ) → list_all (λ b. nat_lt 92 b) w ≡ true
    → slice_cmp nat_cmp w (escape s) ≡ slice_cmp nat_cmp w s
same_order [] [] h = refl
same_order [] (x ∷ s) h = first_byte x s (escape_forms x)
same_order (a ∷ w) [] h = refl
same_order (a ∷ w) (x ∷ s) h =
    let parts = and_parts (nat_lt 92 a) (list_all (λ b. nat_lt 92 b) w) h in
    same_order_more a w x s (escape_forms x) (ltb-true 92 a parts.0) (same_order w s parts.1)
