-- If only ASCII bytes of a UTF-8 text are replaced or removed, the result is UTF-8.
use Rattle.std.proofs.Common.{◌≡◌, ◌⊎◌, inl, inr, ℕ, ◌<◌, ◌≤◌, ◌+◌, ◌/◌, Bool, true, false, cond, ltb}
use Rattle.std.proofs.Common.{List, [], ◌∷◌, ◌++◌, IsUtf8, refl, sym, ap, ◌∙◌, subst, arith}
use Rattle.std.proofs.lemmas.Bool.{ltb-true, ltb-false}
use Rattle.std.proofs.lemmas.Str.{IsUtf8-nil, IsUtf8-append, IsUtf8-encode, encode_ascii}
use lib.Utf8.{encode, encodes, scalar, scalars, next, low_scalar}
use Rattle.dap_words.specs.Runs.{all_of}
use Rattle.dap_tokens.proofs.Booleans.{by_bool, and_left, and_right}

-- t is s with texts in the place of some ASCII bytes
abbrev pub Edited : List ℕ → List ℕ → Type 0
Edited [] t = t ≡ []
Edited (b ∷ s) t = ((u : List ℕ) × (t ≡ b ∷ u) × Edited s u)
    ⊎ ((b < 128) × ((u : List ℕ) × (v : List ℕ) × IsUtf8 v × (t ≡ v ++ u) × Edited s u))

abbrev AllHigh : List ℕ → Type 0
AllHigh [] = Unit {0}
AllHigh (b ∷ s) = (128 ≤ b) × AllHigh s

all_high : (c : ℕ) → 128 ≤ c → AllHigh (encode c)
unfolding encode
all_high c h = go (ltb c 128) (ltb c 2048) (ltb c 65536) refl
  where
    go : (a b d : Bool) → ltb c 128 ≡ a
        → AllHigh (cond a (c ∷ []) (cond b ((192 + c / 64) ∷ next c ∷ []) (cond d ((224 + c / 4096)
        ∷ next (c / 64) ∷ next c ∷ []) ((240 + c / 262144) ∷ next (c / 4096) ∷ next (c / 64)
        ∷ next c ∷ []))))
    go true b d e = absurd (omega (arith, ltb-true c 128 e, h))
    go false true d e = (omega arith, (omega arith, tt))
    go false false true e = (omega arith, (omega arith, (omega arith, tt)))
    go false false false e = (omega arith, (omega arith, (omega arith, (omega arith, tt))))

high_kept : (bs s t : List ℕ) → AllHigh bs → Edited (bs ++ s) t → (u : List ℕ) × (t ≡ bs ++ u)
    × Edited s u
high_kept [] s t h e = (t, refl, e)
high_kept (b ∷ bs) s t h e = elim e [
  | inl (u, is, r) ↦ (let rest = high_kept bs s u h.1 r in
      (rest.0, is ∙ ap (λ x. b ∷ x) rest.1, rest.2))
  | inr (low, r) ↦ absurd (omega (arith, low, h.0))
]

utf8_of : (cs t : List ℕ) → scalars cs ≡ true → Edited (encodes cs) t → IsUtf8 t
utf8_of [] t h e = subst IsUtf8 (sym e) IsUtf8-nil
utf8_of (c ∷ cs) t h e = by_bool (ltb c 128)
    (λ low. let one = encode_ascii c (ltb-true c 128 low) in
    let first : IsUtf8 (c ∷ []) = subst IsUtf8 one own in
    elim (subst (λ x. Edited (x ++ encodes cs) t) one e) [
      | inl (u, is, r) ↦ subst IsUtf8 (sym is) (IsUtf8-append (c ∷ []) u first
          (utf8_of cs u rest r))
      | inr (lt, (u, v, ok, is, r)) ↦ subst IsUtf8 (sym is)
          (IsUtf8-append v u ok (utf8_of cs u rest r))
    ])
    (λ high. let k = high_kept (encode c) (encodes cs) t (all_high c (ltb-false c 128 high)) e in
    subst IsUtf8 (sym k.1) (IsUtf8-append (encode c) k.0 own (utf8_of cs k.0 rest k.2)))
  where
    own : IsUtf8 (encode c)
    own = IsUtf8-encode c (and_left (scalar c) (scalars cs) h)

    rest : scalars cs ≡ true
    rest = and_right (scalar c) (scalars cs) h

pub utf8_edited : (s t : List ℕ) → IsUtf8 s → Edited s t → IsUtf8 t
utf8_edited s t u e = utf8_of u.0 t u.1.0 (subst (λ x. Edited x t) (sym u.1.1) e)

pub ascii_one : (b : ℕ) → b < 128 → IsUtf8 (b ∷ [])
ascii_one b h = subst IsUtf8 (encode_ascii b h) (IsUtf8-encode b (low_scalar b (omega (arith, h))))

-- ---- ASCII

-- a byte of ASCII
abbrev pub is_low : ℕ → Bool
is_low b = ltb b 128

pub utf8_low : (s : List ℕ) → all_of is_low s ≡ true → IsUtf8 s
utf8_low [] h = IsUtf8-nil
utf8_low (b ∷ s) h = IsUtf8-append (b ∷ []) s
    (ascii_one b (ltb-true b 128 (and_left (is_low b) (all_of is_low s) h)))
    (utf8_low s (and_right (is_low b) (all_of is_low s) h))

pub left_out : (t s u : List ℕ) → all_of is_low t ≡ true → Edited s u → Edited (t ++ s) u
left_out [] s u h e = e
left_out (b ∷ t) s u h e =
    inr (
      ltb-true b 128 (and_left (is_low b) (all_of is_low t) h),
      (
        u,
        [],
        IsUtf8-nil,
        refl,
        left_out t s u (and_right (is_low b) (all_of is_low t) h) e,
      ),
    )

pub kept : (t s u : List ℕ) → Edited s u → Edited (t ++ s) (t ++ u)
kept [] s u e = e
kept (b ∷ t) s u e = inl (t ++ u, refl, kept t s u e)

-- a text in the place of ASCII bytes
pub replaced : (b : ℕ) (t v s u : List ℕ) → all_of is_low (b ∷ t) ≡ true → all_of is_low v ≡ true
    → Edited s u → Edited (b ∷ t ++ s) (v ++ u)
replaced b t v s u h k e =
    inr (
      ltb-true b 128 (and_left (is_low b) (all_of is_low t) h),
      (
        u,
        v,
        utf8_low v k,
        refl,
        left_out t s u (and_right (is_low b) (all_of is_low t) h) e,
      ),
    )
