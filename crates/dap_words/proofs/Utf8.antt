-- If only ASCII bytes of a UTF-8 text are replaced or removed, the result is UTF-8.
use Rattle.std.proofs.Common.{◌≡◌, ◌⊎◌, inl, inr, ℕ, ◌<◌, ◌≤◌, ◌+◌, ◌/◌, Bool, true}
use Rattle.std.proofs.Common.{false, cond, ltb, leb, ◌==◌, ◌||◌, List, [], ◌∷◌, ◌++◌, IsUtf8}
use Rattle.std.proofs.Common.{refl, sym, ap, ◌∙◌, subst, arith, lit<, append_assoc, append-nil}
use Rattle.std.proofs.Common.{drop}
use Rattle.std.proofs.lemmas.Bool.{ltb-true, ltb-false, leb-true, leb-false, eqb-true}
use Rattle.std.proofs.lemmas.Str.{IsUtf8-nil, IsUtf8-append, IsUtf8-encode, encode_ascii}
use Rattle.std.specs.Char.{is_ascii_hexdigit}
use lib.Utf8.{encode, encodes, scalar, scalars, next, low_scalar}
use Rattle.dap_words.specs.Runs.{all_of}
use Rattle.dap_words.specs.Long.{is_long, shortened, long_from, long}
use Rattle.dap_words.specs.Uuids.{nil_uuid, fits_at, begins_in_form, begins_uuid, uuid_from, uuid}
use Rattle.dap_words.proofs.Booleans.{by_bool, and_left, and_right}
use Rattle.dap_words.proofs.LongRuns.{all_more}
use Rattle.dap_words.proofs.ClearedUuids.{is_form, begun, begun_rest}

-- t is s with texts in the place of some ASCII bytes
abbrev pub Edited : List ℕ → List ℕ → Type 0
Edited [] t = t ≡ []
Edited (b ∷ s) t = ((u : List ℕ) × (t ≡ b ∷ u) × Edited s u)
    ⊎ ((b < 128) × ((u : List ℕ) × (v : List ℕ) × IsUtf8 v × (t ≡ v ++ u) × Edited s u))

abbrev AllHigh : List ℕ → Type 0
AllHigh [] = Unit {0}
AllHigh (b ∷ s) = (128 ≤ b) × AllHigh s

all_high : (c : ℕ) → 128 ≤ c → AllHigh (encode c)
unfolding encode
all_high c h = go (ltb c 128) (ltb c 2048) (ltb c 65536) refl
  where
    go : (a b d : Bool) → ltb c 128 ≡ a
        → AllHigh (cond a (c ∷ []) (cond b ((192 + c / 64) ∷ next c ∷ []) (cond d ((224 + c / 4096)
        ∷ next (c / 64) ∷ next c ∷ []) ((240 + c / 262144) ∷ next (c / 4096) ∷ next (c / 64)
        ∷ next c ∷ []))))
    go true b d e = absurd (omega (arith, ltb-true c 128 e, h))
    go false true d e = (omega arith, (omega arith, tt))
    go false false true e = (omega arith, (omega arith, (omega arith, tt)))
    go false false false e = (omega arith, (omega arith, (omega arith, (omega arith, tt))))

high_kept : (bs s t : List ℕ) → AllHigh bs → Edited (bs ++ s) t → (u : List ℕ) × (t ≡ bs ++ u)
    × Edited s u
high_kept [] s t h e = (t, refl, e)
high_kept (b ∷ bs) s t h e = elim e [
  | inl (u, is, r) ↦ (let rest = high_kept bs s u h.1 r in
      (rest.0, is ∙ ap (λ x. b ∷ x) rest.1, rest.2))
  | inr (low, r) ↦ absurd (omega (arith, low, h.0))
]

utf8_of : (cs t : List ℕ) → scalars cs ≡ true → Edited (encodes cs) t → IsUtf8 t
utf8_of [] t h e = subst IsUtf8 (sym e) IsUtf8-nil
utf8_of (c ∷ cs) t h e = by_bool (ltb c 128)
    (λ low. let one = encode_ascii c (ltb-true c 128 low) in
    let first : IsUtf8 (c ∷ []) = subst IsUtf8 one own in
    elim (subst (λ x. Edited (x ++ encodes cs) t) one e) [
      | inl (u, is, r) ↦ subst IsUtf8 (sym is) (IsUtf8-append (c ∷ []) u first
          (utf8_of cs u rest r))
      | inr (lt, (u, v, ok, is, r)) ↦ subst IsUtf8 (sym is)
          (IsUtf8-append v u ok (utf8_of cs u rest r))
    ])
    (λ high. let k = high_kept (encode c) (encodes cs) t (all_high c (ltb-false c 128 high)) e in
    subst IsUtf8 (sym k.1) (IsUtf8-append (encode c) k.0 own (utf8_of cs k.0 rest k.2)))
  where
    own : IsUtf8 (encode c)
    own = IsUtf8-encode c (and_left (scalar c) (scalars cs) h)

    rest : scalars cs ≡ true
    rest = and_right (scalar c) (scalars cs) h

pub utf8_edited : (s t : List ℕ) → IsUtf8 s → Edited s t → IsUtf8 t
utf8_edited s t u e = utf8_of u.0 t u.1.0 (subst (λ x. Edited x t) (sym u.1.1) e)

pub ascii_one : (b : ℕ) → b < 128 → IsUtf8 (b ∷ [])
ascii_one b h = subst IsUtf8 (encode_ascii b h) (IsUtf8-encode b (low_scalar b (omega (arith, h))))

pub hexdigit_low : (b : ℕ) → is_ascii_hexdigit b ≡ true → b < 128
hexdigit_low b h = by_bool (leb b 102) (λ k. let below = leb-true b 102 k in omega (arith, below))
    (λ k. let above = leb-false b 102 k in absurd (far b above h))
  where
    far : (b : ℕ) → 102 < b → is_ascii_hexdigit b ≡ true → ⊥
    far b l k = grind (arith, l, k)

-- ---- runs of hexadecimal digits

left_out : (ds s t : List ℕ) → all_of is_ascii_hexdigit ds ≡ true → Edited s t
    → Edited (ds ++ s) t
left_out [] s t h e = e
left_out (b ∷ ds) s t h e =
    inr (
      hexdigit_low b (and_left (is_ascii_hexdigit b) (all_of is_ascii_hexdigit ds) h),
      (
        t,
        [],
        IsUtf8-nil,
        refl,
        left_out ds s t (and_right (is_ascii_hexdigit b) (all_of is_ascii_hexdigit ds) h) e,
      ),
    )

kept : (ds s t : List ℕ) → Edited s t → Edited (ds ++ s) (ds ++ t)
kept [] s t e = e
kept (b ∷ ds) s t e = inl (ds ++ t, refl, kept ds s t e)

zero_for : (ds s t : List ℕ) → is_long ds ≡ true → all_of is_ascii_hexdigit ds ≡ true → Edited s t
    → Edited (ds ++ s) (48 ∷ t)
zero_for [] s t l h e = cc
zero_for (b ∷ ds) s t l h e =
    inr (
      hexdigit_low b (and_left (is_ascii_hexdigit b) (all_of is_ascii_hexdigit ds) h),
      (
        t,
        48 ∷ [],
        ascii_one 48 (lit< tt),
        refl,
        left_out ds s t (and_right (is_ascii_hexdigit b) (all_of is_ascii_hexdigit ds) h) e,
      ),
    )

shortened_edited : (ds s t : List ℕ) → all_of is_ascii_hexdigit ds ≡ true → Edited s t
    → Edited (ds ++ s) (shortened ds ++ t)
shortened_edited ds s t h e = by_bool (is_long ds) (λ k. rw k (zero_for ds s t k h e))
    (λ k. rw k (kept ds s t e))

long_edited : (ds s : List ℕ) → all_of is_ascii_hexdigit ds ≡ true
    → Edited (ds ++ s) (long_from ds s)
long_edited ds [] h = subst (Edited (ds ++ [])) (append-nil (shortened ds))
    (shortened_edited ds [] [] h refl)
long_edited ds (b ∷ s) h = by_bool (is_ascii_hexdigit b)
    (λ k. rw k (subst (λ u. Edited u (long_from (ds ++ b ∷ []) s)) (append_assoc ds (b ∷ []) s)
    (long_edited (ds ++ b ∷ []) s (all_more ds b h k))))
    (λ k. rw k (shortened_edited ds (b ∷ s) (b ∷ long s) h
    (inl (long s, refl, long_edited [] s refl))))

pub long_utf8 : (s : List ℕ) → IsUtf8 s → IsUtf8 (long s)
long_utf8 s u = utf8_edited s (long s) u (long_edited [] s refl)

-- ---- UUIDs

form_low : (f : ℕ) → ((f == 45) || (f == 48)) ≡ true → f < 128
form_low f h = by_bool (f == 45)
    (λ k. let is = eqb-true f 45 k in omega (arith, is))
    (λ k. let is = eqb-true f 48 (rw k at h) in omega (arith, is))

fit_low : (f b : ℕ) → fits_at f b ≡ true → b < 128
fit_low f b h = by_bool (f == 45)
    (λ k. let is = eqb-true b 45 (rw k at h) in omega (arith, is))
    (λ k. hexdigit_low b (rw k at h))

over : (f b : ℕ) (s t : List ℕ) → ((f == 45) || (f == 48)) ≡ true → fits_at f b ≡ true → Edited s t
    → Edited (b ∷ s) (f ∷ t)
over f b s t i h e = inr (fit_low f b h, (t, f ∷ [], ascii_one f (form_low f i), refl, e))

uuid_edited : (s form : List ℕ) (d : Bool) → is_form form ≡ true → begun form s ≡ true
    → Edited s (uuid_from s form d)
uuid_edited [] form d i h = refl
uuid_edited (b ∷ s) (f ∷ form) d i h =
    over f b s (uuid_from s form true) (and_left ((f == 45) || (f == 48)) (is_form form) i)
    (and_left (fits_at f b) (begins_in_form form s) h)
    (uuid_edited s form true (and_right ((f == 45) || (f == 48)) (is_form form) i)
    (begun_rest f form b s h))
uuid_edited (b ∷ s) [] d i h = by_bool (begins_uuid d (b ∷ s))
    (λ k. let form = drop 1 nil_uuid in
    let fits = and_right _ (begins_in_form nil_uuid (b ∷ s)) k in
    rw k (over 48 b s (uuid_from s form true) refl
    (and_left (fits_at 48 b) (begins_in_form form s) fits)
    (uuid_edited s form true refl (begun_rest 48 form b s fits))))
    (λ k. rw k (inl (
      uuid_from s [] (is_ascii_hexdigit b),
      refl,
      uuid_edited s [] (is_ascii_hexdigit b) refl refl,
    )))

pub uuid_utf8 : (s : List ℕ) → IsUtf8 s → IsUtf8 (uuid s)
uuid_utf8 s u = utf8_edited s (uuid s) u (uuid_edited s [] false refl refl)
