-- A named string in UTF-8 is in UTF-8.
use Rattle.std.proofs.Common.{◌≡◌, ℕ, zero, suc, ◌+◌, ◌/◌, ◌%◌, ◌<◌, ◌≤◌, ◌==◌, Bool, true, false}
use Rattle.std.proofs.Common.{not, ◌&&◌, List, [], ◌∷◌, ◌++◌, length, refl, sym, ap, ◌∙◌, subst}
use Rattle.std.proofs.Common.{arith, append-nil, inl, inr, Option, Some, None}
use Rattle.std.specs.Prelude.{decimal}
use Rattle.std.specs.Fmt.{digits, digits_onto, digit_glyph}
use Rattle.std.specs.Str.{is_utf8}
use Rattle.std.specs.Char.{is_ascii_digit, is_ascii_hexdigit}
use Rattle.std.proofs.lemmas.Bool.{eqb-true, lt-ltb, ltb-false}
use Rattle.std.proofs.lemmas.Str.{IsUtf8-from_is_utf8, is_utf8-from_IsUtf8}
use Rattle.dap_words.specs.Runs.{all_of}
use Rattle.dap_words.specs.Digits.{is_x}
use Rattle.dap_words.specs.Long.{is_long}
use Rattle.dap_words.specs.Uuids.{nil_uuid, fits_at, begins_in_form, begins_uuid}
use Rattle.dap_tokens.specs.Tokens.{Labels, token_at, tried, is_of_label, is_label, name}
use Rattle.dap_tokens.specs.Tokens.{token_length, hex_run, starts_hex, Part, parts_from, whole_or}
use Rattle.dap_tokens.specs.Values.{value, is_nothing}
use Rattle.dap_tokens.specs.Naming.{Numbering, named_token, named_parts, named}
use Rattle.dap_tokens.specs.Laws.{AreLabels}
use Rattle.dap_tokens.specs.declared.form.Form.{Form}
use Rattle.dap_tokens.specs.declared.form.Form.TheVariants.{Whole, Digits, Hex, Long, Uuid}
use Rattle.dap_tokens.proofs.Booleans.{by_bool, and_left, and_right, and_both}
use Rattle.dap_tokens.proofs.FirstTokens.{token_with, found_count}
use Rattle.dap_tokens.proofs.Starts.{Scans, token_counts, token_of, label_of, scans}
use Rattle.dap_tokens.proofs.Readings.{Read, ended, byte, found, parts_are_read}
use Rattle.dap_tokens.proofs.Classes.{all_append, digits_of_numeral}
use Rattle.dap_tokens.proofs.Runs.{run_kept}
use Rattle.dap_tokens.proofs.TokensAgain.{HexKept, hex_kept}
use Rattle.dap_tokens.proofs.Stays.{name_first}
use Rattle.dap_tokens.proofs.Written.{unnamed, renamed}
use Rattle.dap_tokens.proofs.Utf8.{Edited, utf8_edited, is_low, utf8_low, kept, replaced}

-- ---- classes of ASCII bytes

-- each byte of the class is below n
low_by : (class : ℕ → Bool) → ((b : ℕ) → 128 ≤ b → class b ≡ true → ⊥) → (b : ℕ)
    → class b ≡ true → is_low b ≡ true
low_by class far b h = by_bool (is_low b) (λ k. k)
    (λ k. absurd (far b (ltb-false b 128 k) h))

all_low : (class : ℕ → Bool) → ((b : ℕ) → class b ≡ true → is_low b ≡ true) → (s : List ℕ)
    → all_of class s ≡ true → all_of is_low s ≡ true
all_low class low [] h = refl
all_low class low (b ∷ s) h = and_both (is_low b) (all_of is_low s)
    (low b (and_left (class b) (all_of class s) h))
    (all_low class low s (and_right (class b) (all_of class s) h))

far_digit : (b : ℕ) → 128 ≤ b → is_ascii_digit b ≡ true → ⊥
far_digit b l k = grind (arith, l, k)

far_hexdigit : (b : ℕ) → 128 ≤ b → is_ascii_hexdigit b ≡ true → ⊥
far_hexdigit b l k = grind (arith, l, k)

far_label : (b : ℕ) → 128 ≤ b → is_of_label b ≡ true → ⊥
far_label b l k = grind (arith, l, k)

far_x : (b : ℕ) → 128 ≤ b → is_x b ≡ true → ⊥
far_x b l k = grind (arith, l, k)

low_fit : (f b : ℕ) → fits_at f b ≡ true → is_low b ≡ true
low_fit f b h = by_bool (f == 45)
    (λ k. ap is_low (eqb-true b 45 (rw k at h)))
    (λ k. low_by is_ascii_hexdigit far_hexdigit b (rw k at h))

-- ---- names

low_digit : (n : ℕ) → is_low (digit_glyph false (n % 10)) ≡ true
low_digit n =
    let small : n % 10 < 10 = omega arith in
    rw (lt-ltb (n % 10) 10 small) (lt-ltb (48 + n % 10) 128 (omega arith))

low_name : (label k : List ℕ) → is_label label ≡ true → all_of is_low k ≡ true
    → all_of is_low (name label k) ≡ true
low_name label k l h =
    all_append is_low (60 ∷ label ++ 32 ∷ [] ++ k) (62 ∷ [])
    (all_append is_low (60 ∷ label ++ 32 ∷ []) k
    (all_append is_low (60 ∷ label) (32 ∷ [])
    (all_low is_of_label (low_by is_of_label far_label) label
    (and_right _ (all_of is_of_label label) l)) refl) h) refl

-- ---- tokens

low_form : (shape t s : List ℕ) → length shape ≡ length t → begins_in_form shape (t ++ s) ≡ true
    → all_of is_low t ≡ true
low_form [] [] s l h = refl
low_form [] (b ∷ t) s l h = absurd (omega arith)
low_form (f ∷ shape) [] s l h = absurd (omega arith)
low_form (f ∷ shape) (b ∷ t) s l h = and_both (is_low b) (all_of is_low t)
    (low_fit f b (and_left (fits_at f b) (begins_in_form shape (t ++ s)) h))
    (low_form shape t s (omega arith)
    (and_right (fits_at f b) (begins_in_form shape (t ++ s)) h))

low_hex : (b : ℕ) (t s : List ℕ) → HexKept b t s → all_of is_low (b ∷ t) ≡ true
low_hex b t s k =
    ap (λ x. all_of is_low (b ∷ x)) k.whole
    ∙ and_both (is_low b) (all_of is_low (k.letter ∷ k.digits)) (ap is_low (eqb-true b 48 k.first))
    (and_both (is_low k.letter) (all_of is_low k.digits) (low_by is_x far_x k.letter k.second)
    (all_low is_ascii_hexdigit (low_by is_ascii_hexdigit far_hexdigit) k.digits k.run.all))

low_token : (form : Form) (d : Bool) (b : ℕ) (t s : List ℕ) → Scans form
    → token_length form d (b ∷ t ++ s) ≡ length (b ∷ t) → all_of is_low (b ∷ t) ≡ true
low_token Whole d b t s i h = absurd i
low_token Digits d b t s i h = all_low is_ascii_digit (low_by is_ascii_digit far_digit) (b ∷ t)
    (run_kept is_ascii_digit (b ∷ t) s h).all
low_token Hex d b t s i h = by_bool (not d && starts_hex (b ∷ t ++ s))
    (λ k. low_hex b t s
    (hex_kept b t s (and_right (not d) (starts_hex (b ∷ t ++ s)) k) (rw k at h)))
    (λ k. let none : 0 ≡ length (b ∷ t) = rw k at h in absurd (omega arith))
low_token Long d b t s i h = by_bool (not d && is_long (hex_run (b ∷ t ++ s)))
    (λ k. let len : length (hex_run (b ∷ t ++ s)) ≡ length (b ∷ t) = rw k at h in
    all_low is_ascii_hexdigit (low_by is_ascii_hexdigit far_hexdigit) (b ∷ t)
    (run_kept is_ascii_hexdigit (b ∷ t) s len).all)
    (λ k. let none : 0 ≡ length (b ∷ t) = rw k at h in absurd (omega arith))
low_token Uuid d b t s i h = by_bool (begins_uuid d (b ∷ t ++ s))
    (λ k. let len : 36 ≡ length (b ∷ t) = rw k at h in
    low_form nil_uuid (b ∷ t) s len
    (and_right (not d) (begins_in_form nil_uuid (b ∷ t ++ s)) k))
    (λ k. let none : 0 ≡ length (b ∷ t) = rw k at h in absurd (omega arith))

low_part : (labels : Labels) (form : Form) (label : List ℕ) (d : Bool) (b : ℕ) (t s : List ℕ)
    → AreLabels labels
    → token_at labels d (b ∷ t ++ s) ≡ Some (token_with form label (length (b ∷ t)))
    → all_of is_low (b ∷ t) ≡ true
low_part labels form label d b t s l h =
    let first = token_with form label (length (b ∷ t)) in
    elim (token_of labels d (b ∷ t ++ s) first h) [
      | inl k ↦ (let is = name_first labels form label (b ∷ t) s k in
          ap (all_of is_low) is.whole
          ∙ low_name label is.number (l form label (label_of labels d (b ∷ t ++ s) first h))
          (all_low is_ascii_digit (low_by is_ascii_digit far_digit) is.number
          (digits_of_numeral is.number is.numeral)))
      | inr (n, k) ↦ low_token form d b t s (scans labels d (b ∷ t ++ s) first k)
          (found_count labels (token_counts d (b ∷ t ++ s)) first (tried labels) k)
    ]

-- ---- strings

low_onto : (k n : ℕ) (acc : List ℕ) → all_of is_low acc ≡ true
    → all_of is_low (digits_onto k 10 false n acc) ≡ true
low_onto zero n acc h = h
low_onto (suc k) n acc h =
    let g = digit_glyph false (n % 10) in
    let low = and_both (is_low g) (all_of is_low acc) (low_digit n) h in
    by_bool (n / 10 == 0) (λ e. rw e low) (λ e. rw e (low_onto k (n / 10) (g ∷ acc) low))

low_decimal : (n : ℕ) → all_of is_low (decimal n) ≡ true
unfolding digits
low_decimal n = low_onto 64 n [] refl

module _ (labels : Labels) (number : Numbering) (l : AreLabels labels) where
  edited : {d : Bool} {s : List ℕ} {ps : List Part} → Read labels d s ps
      → Edited s (named_parts number ps)
  edited ended = refl
  edited (byte {ps = ps} n r) = inl (named_parts number ps, refl, edited r)
  edited (found {d} {u} {s} {ps} form label b t e n r) =
      let w = named_parts number ps in
      by_bool (is_nothing (value label form (b ∷ t)))
      (λ k. let same = unnamed number form label (b ∷ t) k in
      subst (λ x. Edited u (x ++ w)) (sym same)
      (subst (λ x. Edited x (b ∷ t ++ w)) (sym e) (kept (b ∷ t) s w (edited r))))
      (λ k. let same = renamed number form label (b ∷ t) k in
      let first = token_with form label (length (b ∷ t)) in
      let digits_here = decimal (number label (value label form (b ∷ t))) in
      let here = ap (token_at labels d) (sym e) ∙ n in
      let low = low_part labels form label d b t s l here in
      let ok = l form label (label_of labels d (b ∷ t ++ s) first here) in
      subst (λ x. Edited u (x ++ w)) (sym same)
      (subst (λ x. Edited x (name label digits_here ++ w)) (sym e)
      (replaced b t (name label digits_here) s w low
      (low_name label digits_here ok (low_decimal (number label (value label form (b ∷ t)))))
      (edited r))))

  scanned_utf8 : (s : List ℕ) → is_utf8 s ≡ true
      → is_utf8 (named_parts number (parts_from labels 0 false s)) ≡ true
  scanned_utf8 s u = is_utf8-from_IsUtf8 _ (utf8_edited s _ (IsUtf8-from_is_utf8 s u)
      (edited (parts_are_read labels false s)))

  whole_utf8 : (label s : List ℕ) → labels Whole ≡ Some label → is_utf8 s ≡ true
      → is_utf8 (named_token number Whole label s) ≡ true
  whole_utf8 label s w u = by_bool (is_nothing (value label Whole s))
      (λ k. ap is_utf8 (unnamed number Whole label s k) ∙ u)
      (λ k. let digits_here = decimal (number label (value label Whole s)) in
      ap is_utf8 (renamed number Whole label s k)
      ∙ is_utf8-from_IsUtf8 (name label digits_here) (utf8_low (name label digits_here)
      (low_name label digits_here (l Whole label w)
      (low_decimal (number label (value label Whole s))))))

  utf8_by : (s : List ℕ) (o : Option (List ℕ)) → labels Whole ≡ o → is_utf8 s ≡ true
      → is_utf8 (named_parts number (whole_or o s (parts_from labels 0 false s))) ≡ true
  utf8_by s None w u = scanned_utf8 s u
  utf8_by s (Some label) w u =
      ap is_utf8 (append-nil (named_token number Whole label s)) ∙ whole_utf8 label s w u

pub named_utf8 : (labels : Labels) (number : Numbering) (s : List ℕ) → AreLabels labels
    → is_utf8 s ≡ true → is_utf8 (named labels number s) ≡ true
named_utf8 labels number s l u = utf8_by labels number l s (labels Whole) refl u
