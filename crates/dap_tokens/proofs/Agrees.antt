-- A string and the written one agree up to the first token that is replaced.
use Rattle.std.proofs.Common.{◌≡◌, ℕ, zero, suc, ◌==◌, Bool, true, false, not, is_some, List, []}
use Rattle.std.proofs.Common.{◌∷◌, ◌++◌, length, drop, refl, sym, ap, ap₂, ◌∙◌}
use Rattle.std.specs.Char.{is_ascii_hexdigit}
use Rattle.std.proofs.lemmas.Bool.{eqb-true}
use Rattle.dap_words.specs.Runs.{all_of, begins_with}
use Rattle.dap_words.specs.Uuids.{nil_uuid, fits_at, begins_in_form, begins_uuid}
use Rattle.dap_tokens.specs.Tokens.{Labels}
use Rattle.dap_tokens.specs.declared.form.Form.TheVariants.{Uuid}
use Rattle.dap_tokens.proofs.Booleans.{by_bool, and_left, and_right, and_both, not_false, no_test}
use Rattle.dap_tokens.proofs.Classes.{not_opening}

abbrev pub has_uuids : Labels → Bool
has_uuids labels = is_some (labels Uuid)

abbrev pub begins_hexdigit : List ℕ → Bool
begins_hexdigit s = begins_with is_ascii_hexdigit s

-- the first n bytes belong to a token that stays; the Bool is true if a literal hexadecimal digit
-- comes before
pub data Agree (labels : Labels) : ℕ → Bool → List ℕ → List ℕ → Type 0 where
  end : {n : ℕ} {d : Bool} → Agree labels n d [] []
  within : {n : ℕ} {d : Bool} {b : ℕ} {s w : List ℕ} → Agree labels n false s w
      → Agree labels (suc n) d (b ∷ s) (b ∷ w)
  byte : {d : Bool} {b : ℕ} {s w : List ℕ} → Agree labels 0 (is_ascii_hexdigit b) s w
      → Agree labels 0 d (b ∷ s) (b ∷ w)
  stays : {d : Bool} {b : ℕ} {s w : List ℕ} → (n : ℕ)
      → (has_uuids labels ≡ true → begins_hexdigit (drop n s) ≡ false) → Agree labels n false s w
      → Agree labels 0 d (b ∷ s) (b ∷ w)
  changed : {d : Bool} {s w : List ℕ}
      → (has_uuids labels ≡ true → begins_hexdigit s ≡ true → d ≡ false)
      → Agree labels 0 d s (60 ∷ w)

pub within_all : {labels : Labels} (t : List ℕ) {s w : List ℕ} → Agree labels 0 false s w
    → Agree labels (length t) false (t ++ s) (t ++ w)
within_all [] r = r
within_all (b ∷ t) r = within (within_all t r)

-- ---- what both start with

pub record Front (s p : List ℕ) : Type 0 where
  pub rest : List ℕ
  pub whole : s ≡ p ++ rest

front_step : (b c : ℕ) (s w p rest : List ℕ) → b ∷ w ≡ c ∷ p ++ rest
    → (w ≡ p ++ rest → Front s p) → Front (b ∷ s) (c ∷ p)
front_step b c s w p rest e f =
    let same : b ≡ c = cc in
    let later : w ≡ p ++ rest = cc in
    let more = f later in
    record {
      rest = more.rest;
      whole = ap₂ (λ x y. x ∷ y) same more.whole;
    }

-- the bytes before the first `<` of the written string are in the string too
pub same_front : {labels : Labels} (p rest : List ℕ) {n : ℕ} {d : Bool} {s w : List ℕ}
    → Agree labels n d s w → all_of not_opening p ≡ true → w ≡ p ++ rest → Front s p
same_front [] rest {s = s} a h e = record {
  rest = s;
  whole = refl;
}
same_front (c ∷ p) rest end h e = absurd cc
same_front (c ∷ p) rest (within {b = b} {s = s} {w = w} r) h e =
    front_step b c s w p rest e
    (same_front p rest r (and_right (not_opening c) (all_of not_opening p) h))
same_front (c ∷ p) rest (byte {b = b} {s = s} {w = w} r) h e =
    front_step b c s w p rest e
    (same_front p rest r (and_right (not_opening c) (all_of not_opening p) h))
same_front (c ∷ p) rest (stays {b = b} {s = s} {w = w} n l r) h e =
    front_step b c s w p rest e
    (same_front p rest r (and_right (not_opening c) (all_of not_opening p) h))
same_front (c ∷ p) rest (changed {w = w} l) h e =
    let same : 60 ≡ c = cc in
    let no : not_opening 60 ≡ true = ap not_opening same
    ∙ and_left (not_opening c) (all_of not_opening p) h in
    cc

-- a run that ends before the string ends before the written one too
pub ends_too : {labels : Labels} {n : ℕ} {d : Bool} {s w : List ℕ} (class : ℕ → Bool)
    → class 60 ≡ false → Agree labels n d s w → begins_with class s ≡ false
    → begins_with class w ≡ false
ends_too class h end e = e
ends_too class h (within r) e = e
ends_too class h (byte r) e = e
ends_too class h (stays n l r) e = e
ends_too class h (changed l) e = h

-- ---- UUIDs

fits_60 : (f : ℕ) → fits_at f 60 ≡ false
fits_60 f = by_bool (f == 45) (λ k. rw k refl) (λ k. rw k refl)

-- the last byte of a form is a digit
abbrev ends_in_digit : List ℕ → Bool
ends_in_digit [] = true
ends_in_digit (f ∷ []) = f == 48
ends_in_digit (f ∷ g ∷ form) = ends_in_digit (g ∷ form)

ends_later : (f : ℕ) (form : List ℕ) → ends_in_digit (f ∷ form) ≡ true
    → ends_in_digit form ≡ true
ends_later f [] h = refl
ends_later f (g ∷ form) h = h

-- the first n bytes are before the end of a token that stays, and no hexadecimal digit follows it;
-- after the last byte of a form, a literal hexadecimal digit comes before, or none follows
abbrev pub Ready : ℕ → List ℕ → Bool → List ℕ → Type 0
Ready (suc n) form d s = begins_hexdigit (drop (suc n) s) ≡ false
Ready zero [] d s = begins_hexdigit s ≡ true → d ≡ true
Ready zero (f ∷ form) d s = Unit {0}

pub ready_inside : (n : ℕ) (form s : List ℕ) → begins_hexdigit (drop n s) ≡ false
    → Ready n form false s
ready_inside zero [] s h = λ k. no_test (begins_hexdigit s) k h
ready_inside zero (f ∷ form) s h = tt
ready_inside (suc n) form s h = h

ready_after : (f b : ℕ) (form s : List ℕ) → ends_in_digit (f ∷ form) ≡ true → fits_at f b ≡ true
    → Ready 0 form (is_ascii_hexdigit b) s
ready_after f b [] s e h =
    let zero_here : f ≡ 48 = eqb-true f 48 e in
    λ k. ap (λ x. fits_at x b) (sym zero_here) ∙ h
ready_after f b (g ∷ form) s e h = tt

-- the written string has the form only if the string has
form_in_both : (labels : Labels) (form : List ℕ) {n : ℕ} {d : Bool} {s w : List ℕ}
    → has_uuids labels ≡ true → Agree labels n d s w → ends_in_digit form ≡ true
    → Ready n form d s → begins_in_form form w ≡ true → begins_in_form form s ≡ true
form_in_both labels [] u end e r h = h
form_in_both labels [] u (within a) e r h = h
form_in_both labels [] u (byte a) e r h = h
form_in_both labels [] u (stays n k a) e r h = h
form_in_both labels [] u (changed {d = d} {s = s} k) e r h =
    by_bool (begins_hexdigit s)
    (λ digit. no_test d (r digit) (k u digit))
    (λ none. not_false (begins_hexdigit s) none)
form_in_both labels (f ∷ form) u end e r h = h
form_in_both labels (f ∷ form) u (within {n = n} {b = b} {s = s} {w = w} a) e r h =
    and_both (fits_at f b) (begins_in_form form s)
    (and_left (fits_at f b) (begins_in_form form w) h)
    (form_in_both labels form u a (ends_later f form e) (ready_inside n form s r)
    (and_right (fits_at f b) (begins_in_form form w) h))
form_in_both labels (f ∷ form) u (byte {b = b} {s = s} {w = w} a) e r h =
    let fits = and_left (fits_at f b) (begins_in_form form w) h in
    and_both (fits_at f b) (begins_in_form form s) fits
    (form_in_both labels form u a (ends_later f form e) (ready_after f b form s e fits)
    (and_right (fits_at f b) (begins_in_form form w) h))
form_in_both labels (f ∷ form) u (stays {b = b} {s = s} {w = w} n k a) e r h =
    and_both (fits_at f b) (begins_in_form form s)
    (and_left (fits_at f b) (begins_in_form form w) h)
    (form_in_both labels form u a (ends_later f form e) (ready_inside n form s (k u))
    (and_right (fits_at f b) (begins_in_form form w) h))
form_in_both labels (f ∷ form) u (changed {w = w} k) e r h =
    no_test (fits_at f 60) (and_left (fits_at f 60) (begins_in_form form w) h) (fits_60 f)

-- ---- after the first byte

-- the string and the written one agree after a literal byte, or inside a token that stays
pub record Follows (labels : Labels) (s w : List ℕ) : Type 0 where
  pub inside : ℕ
  pub digit : Bool
  pub agree : Agree labels inside digit s w
  pub ready : has_uuids labels ≡ true → Ready inside (drop 1 nil_uuid) digit s

pub follows_byte : {labels : Labels} (b : ℕ) {s w : List ℕ}
    → Agree labels 0 (is_ascii_hexdigit b) s w → Follows labels s w
follows_byte b a = record {
  inside = 0;
  digit = is_ascii_hexdigit b;
  agree = a;
  ready = λ u. tt;
}

pub follows_stay : {labels : Labels} (t : List ℕ) {s w : List ℕ}
    → (has_uuids labels ≡ true → begins_hexdigit (drop (length t) (t ++ s)) ≡ false)
    → Agree labels 0 false s w → Follows labels (t ++ s) (t ++ w)
follows_stay t {s} {w} k a = record {
  inside = length t;
  digit = false;
  agree = within_all t a;
  ready = λ u. ready_inside (length t) (drop 1 nil_uuid) (t ++ s) (k u);
}

-- a UUID that starts with this byte in the written string starts in the string too
pub uuid_in_both : (labels : Labels) (d : Bool) (b : ℕ) {s w : List ℕ} → has_uuids labels ≡ true
    → Follows labels s w → begins_uuid d (b ∷ w) ≡ true → begins_uuid d (b ∷ s) ≡ true
uuid_in_both labels d b {s} {w} u f h =
    let form = drop 1 nil_uuid in
    let fits = and_right (not d) (begins_in_form nil_uuid (b ∷ w)) h in
    and_both (not d) (begins_in_form nil_uuid (b ∷ s))
    (and_left (not d) (begins_in_form nil_uuid (b ∷ w)) h)
    (and_both (fits_at 48 b) (begins_in_form form s)
    (and_left (fits_at 48 b) (begins_in_form form w) fits)
    (form_in_both labels form u f.agree refl (f.ready u)
    (and_right (fits_at 48 b) (begins_in_form form w) fits)))
