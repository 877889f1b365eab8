-- A token that stays is a token of its form in the written string too.
use Rattle.std.proofs.Common.{◌≡◌, ℕ, ◌+◌, ◌==◌, Bool, true, false, cond, not, ◌&&◌, List, [], ◌∷◌}
use Rattle.std.proofs.Common.{◌++◌, length, drop, refl, ap, ◌∙◌, arith}
use Rattle.std.specs.Char.{is_ascii_digit, is_ascii_hexdigit}
use Rattle.dap_words.specs.Runs.{begins_with}
use Rattle.dap_words.specs.Digits.{is_x}
use Rattle.dap_words.specs.Long.{is_long}
use Rattle.dap_words.specs.Uuids.{nil_uuid, fits_at, begins_in_form, begins_uuid}
use Rattle.dap_tokens.specs.Tokens.{Labels, token_length, hex_run, starts_hex}
use Rattle.dap_tokens.specs.declared.form.Form.{Form}
use Rattle.dap_tokens.specs.declared.form.Form.TheVariants.{Whole, Digits, Hex, Long, Uuid}
use Rattle.dap_tokens.proofs.Booleans.{by_bool, and_left, and_right, and_both, not_true, not_false}
use Rattle.dap_tokens.proofs.Lists.{yes}
use Rattle.dap_tokens.proofs.Runs.{RunKept, run_kept, run_again, run_same}
use Rattle.dap_tokens.proofs.Starts.{Scans, BesideUuids}
use Rattle.dap_tokens.proofs.Agrees.{Agree, ends_too, begins_hexdigit}

-- ---- numbers with `0x`

-- the digits are a run
pub record HexKept (b : ℕ) (t s : List ℕ) : Type 0 where
  pub letter : ℕ
  pub digits : List ℕ
  pub whole : t ≡ letter ∷ digits
  pub run : RunKept is_ascii_hexdigit digits s
  pub first : (b == 48) ≡ true
  pub second : is_x letter ≡ true

pub hex_kept : (b : ℕ) (t s : List ℕ) → starts_hex (b ∷ t ++ s) ≡ true
    → 2 + length (hex_run (drop 2 (b ∷ t ++ s))) ≡ length (b ∷ t) → HexKept b t s
hex_kept b [] s h e = absurd (omega arith)
hex_kept b (x ∷ []) [] h e = let none = and_right (b == 48) false h in absurd cc
hex_kept b (x ∷ []) (c ∷ s) h e =
    let digit = and_right (is_x x) (is_ascii_hexdigit c)
    (and_right (b == 48) (is_x x && is_ascii_hexdigit c) h) in
    let some = ap length (yes is_ascii_hexdigit c s digit) in
    absurd (omega arith)
hex_kept b (x ∷ y ∷ t) s h e = record {
  letter = x;
  digits = y ∷ t;
  whole = refl;
  run = run_kept is_ascii_hexdigit (y ∷ t) s (omega arith);
  first = and_left (b == 48) (is_x x && is_ascii_hexdigit y) h;
  second = and_left (is_x x) (is_ascii_hexdigit y)
      (and_right (b == 48) (is_x x && is_ascii_hexdigit y) h);
}

hex_again : {labels : Labels} {n : ℕ} {d : Bool} {s w : List ℕ} (b : ℕ) (t : List ℕ)
    → Agree labels n d s w → starts_hex (b ∷ t ++ s) ≡ true
    → 2 + length (hex_run (drop 2 (b ∷ t ++ s))) ≡ length (b ∷ t)
    → cond (starts_hex (b ∷ t ++ w)) (2 + length (hex_run (drop 2 (b ∷ t ++ w)))) 0 ≡ length (b ∷ t)
hex_again b [] a h e = absurd (omega arith)
hex_again {s = []} b (x ∷ []) a h e = let none = and_right (b == 48) false h in absurd cc
hex_again {s = c ∷ s} b (x ∷ []) a h e =
    let digit = and_right (is_x x) (is_ascii_hexdigit c)
    (and_right (b == 48) (is_x x && is_ascii_hexdigit c) h) in
    let some = ap length (yes is_ascii_hexdigit c s digit) in
    absurd (omega arith)
hex_again {s = s} {w = w} b (x ∷ y ∷ t) a h e =
    let same = ap length (run_again is_ascii_hexdigit (y ∷ t) refl a (omega arith)) in
    ap (λ x. cond x (2 + length (hex_run (y ∷ t ++ w))) 0) h ∙ (omega arith)

-- ---- UUIDs

form_again : {labels : Labels} {n : ℕ} {d : Bool} {s w : List ℕ} (shape t : List ℕ)
    → length shape ≡ length t → Agree labels n d s w → begins_in_form shape (t ++ s) ≡ true
    → begins_in_form shape (t ++ w) ≡ true
form_again {s = s} {w = w} [] [] l a h = not_false (begins_with is_ascii_hexdigit w)
    (ends_too is_ascii_hexdigit refl a (not_true (begins_with is_ascii_hexdigit s) h))
form_again [] (b ∷ t) l a h = absurd (omega arith)
form_again (f ∷ shape) [] l a h = absurd (omega arith)
form_again {s = s} {w = w} (f ∷ shape) (b ∷ t) l a h =
    and_both (fits_at f b) (begins_in_form shape (t ++ w))
    (and_left (fits_at f b) (begins_in_form shape (t ++ s)) h)
    (form_again shape t (omega arith) a (and_right (fits_at f b) (begins_in_form shape (t ++ s)) h))

-- ---- each form

pub token_again : {labels : Labels} (form : Form) (d : Bool) {s w : List ℕ} (b : ℕ) (t : List ℕ)
    → Scans form → Agree labels 0 false s w → token_length form d (b ∷ t ++ s) ≡ length (b ∷ t)
    → token_length form d (b ∷ t ++ w) ≡ length (b ∷ t)
token_again Whole d b t i a h = absurd i
token_again Digits d b t i a h = ap length (run_again is_ascii_digit (b ∷ t) refl a h)
token_again Hex true b t i a h = absurd (omega arith)
token_again Hex false {s} {w} b t i a h = by_bool (starts_hex (b ∷ t ++ s))
    (λ k. hex_again b t a k (rw k at h))
    (λ k. let none : 0 ≡ length (b ∷ t) = rw k at h in absurd (omega arith))
token_again Long d {s} {w} b t i a h = by_bool (not d && is_long (hex_run (b ∷ t ++ s)))
    (λ k. let len : length (hex_run (b ∷ t ++ s)) ≡ length (b ∷ t) = rw k at h in
    ap (λ r. cond (not d && is_long r) (length r) 0)
    (run_same is_ascii_hexdigit (b ∷ t) refl a len) ∙ h)
    (λ k. let none : 0 ≡ length (b ∷ t) = rw k at h in absurd (omega arith))
token_again Uuid d {s} {w} b t i a h = by_bool (begins_uuid d (b ∷ t ++ s))
    (λ k. let len : 36 ≡ length (b ∷ t) = rw k at h in
    let both = and_both (not d) (begins_in_form nil_uuid (b ∷ t ++ w))
    (and_left (not d) (begins_in_form nil_uuid (b ∷ t ++ s)) k)
    (form_again nil_uuid (b ∷ t) len a
    (and_right (not d) (begins_in_form nil_uuid (b ∷ t ++ s)) k)) in
    ap (λ x. cond x 36 0) both ∙ len)
    (λ k. let none : 0 ≡ length (b ∷ t) = rw k at h in absurd (omega arith))

-- ---- what follows

form_ends : (shape t s : List ℕ) → length shape ≡ length t → begins_in_form shape (t ++ s) ≡ true
    → begins_hexdigit s ≡ false
form_ends [] [] s l h = not_true (begins_hexdigit s) h
form_ends [] (b ∷ t) s l h = absurd (omega arith)
form_ends (f ∷ shape) [] s l h = absurd (omega arith)
form_ends (f ∷ shape) (b ∷ t) s l h = form_ends shape t s (omega arith)
    (and_right (fits_at f b) (begins_in_form shape (t ++ s)) h)

-- beside UUIDs, no hexadecimal digit follows a token
pub token_ends : (form : Form) (d : Bool) (b : ℕ) (t s : List ℕ) → BesideUuids form
    → token_length form d (b ∷ t ++ s) ≡ length (b ∷ t) → begins_hexdigit s ≡ false
token_ends Whole d b t s i h = absurd i
token_ends Digits d b t s i h = absurd i
token_ends Hex d b t s i h = by_bool (not d && starts_hex (b ∷ t ++ s))
    (λ k. (hex_kept b t s (and_right (not d) (starts_hex (b ∷ t ++ s)) k) (rw k at h)).run.ends)
    (λ k. let none : 0 ≡ length (b ∷ t) = rw k at h in absurd (omega arith))
token_ends Long d b t s i h = by_bool (not d && is_long (hex_run (b ∷ t ++ s)))
    (λ k. let len : length (hex_run (b ∷ t ++ s)) ≡ length (b ∷ t) = rw k at h in
    (run_kept is_ascii_hexdigit (b ∷ t) s len).ends)
    (λ k. let none : 0 ≡ length (b ∷ t) = rw k at h in absurd (omega arith))
token_ends Uuid d b t s i h = by_bool (begins_uuid d (b ∷ t ++ s))
    (λ k. let len : 36 ≡ length (b ∷ t) = rw k at h in
    form_ends nil_uuid (b ∷ t) s len
    (and_right (not d) (begins_in_form nil_uuid (b ∷ t ++ s)) k))
    (λ k. let none : 0 ≡ length (b ∷ t) = rw k at h in absurd (omega arith))

-- beside UUIDs, no literal hexadecimal digit comes before a token
pub token_begins : (form : Form) (d : Bool) (s : List ℕ) → BesideUuids form
    → (token_length form d s ≡ 0 → ⊥) → d ≡ false
token_begins form false s i h = refl
token_begins Whole true s i h = absurd i
token_begins Digits true s i h = absurd i
token_begins Hex true s i h = absurd (h refl)
token_begins Long true s i h = absurd (h refl)
token_begins Uuid true s i h = absurd (h refl)
