-- The steps of the loop that clears UUIDs in place.
use Rattle.std.proofs.Common.{◌≡◌, ℕ, ◌+◌, ◌<◌, ◌≤◌, ◌==◌, Bool, true, false, cond, ◌&&◌, List, []}
use Rattle.std.proofs.Common.{◌∷◌, ◌++◌, take, drop, set, length, get_or, refl, sym, ap, ap₂, ◌∙◌}
use Rattle.std.proofs.Common.{arith, append_assoc}
use Rattle.std.proofs.lemmas.Bool.{eqb-true, eq-eqb}
use Rattle.std.proofs.lemmas.List.{take_more, take_more_set, drop-set-lt, drop_more}
use Rattle.std.specs.Char.{is_ascii_hexdigit}
use Rattle.dap_words.specs.Uuids.{nil_uuid, begins_uuid, uuid_from}
use Rattle.dap_words.specs.Placed.{place_at}
use Rattle.dap_words.proofs.Booleans.{by_bool, and_left, and_right}

started : (b : ℕ) (s : List ℕ) (d : Bool) → begins_uuid d (b ∷ s) ≡ true
    → uuid_from (b ∷ s) [] d ≡ 48 ∷ uuid_from s (drop 1 nil_uuid) true
started b s d h = rw h refl

not_started : (b : ℕ) (s : List ℕ) (d : Bool) → begins_uuid d (b ∷ s) ≡ false
    → uuid_from (b ∷ s) [] d ≡ b ∷ uuid_from s [] (is_ascii_hexdigit b)
not_started b s d h = rw h refl

-- the place if no UUID starts, and if one starts
stays : (place p : ℕ) (test : Bool) → p ≡ cond test 0 place → test ≡ false → p ≡ place
stays place p test h k = h ∙ rw k refl

begun : (place p : ℕ) (test : Bool) → p ≡ cond test 0 place → test ≡ true → p ≡ 0
begun place p test h k = h ∙ rw k refl

written_over : (b : ℕ) (s : List ℕ) (d : Bool) (p : ℕ) → p < 36
    → uuid_from (b ∷ s) (drop p nil_uuid) d
    ≡ get_or nil_uuid p 0 ∷ uuid_from s (drop (p + 1) nil_uuid) true
written_over b s d p h = ap (λ form. uuid_from (b ∷ s) form d) (drop_more nil_uuid p 0 h)

in_uuid : (b : ℕ) (s : List ℕ) (d : Bool) (place p : ℕ) → p ≡ place_at place d (b ∷ s) → p < 36
    → uuid_from (b ∷ s) (drop place nil_uuid) d
    ≡ get_or nil_uuid p 0 ∷ uuid_from s (drop (p + 1) nil_uuid) true
in_uuid b s d place p e h = by_bool ((place == 36) && begins_uuid d (b ∷ s))
    (λ k. let outside = eqb-true place 36 (and_left (place == 36) (begins_uuid d (b ∷ s)) k) in
    let first : p ≡ 0 = begun place p _ e k in
    ap (λ n. uuid_from (b ∷ s) (drop n nil_uuid) d) outside
    ∙ started b s d (and_right (place == 36) (begins_uuid d (b ∷ s)) k)
    ∙ ap (λ n. get_or nil_uuid n 0 ∷ uuid_from s (drop (n + 1) nil_uuid) true) (sym first))
    (λ k. let same : p ≡ place = stays place p _ e k in
    ap (λ n. uuid_from (b ∷ s) (drop n nil_uuid) d) (sym same) ∙ written_over b s d p h)

out_of_uuid : (b : ℕ) (s : List ℕ) (d : Bool) (place p : ℕ) → place ≤ 36
    → p ≡ place_at place d (b ∷ s) → 36 ≤ p
    → uuid_from (b ∷ s) (drop place nil_uuid) d
    ≡ b ∷ uuid_from s (drop p nil_uuid) (is_ascii_hexdigit b)
out_of_uuid b s d place p w e h = by_bool ((place == 36) && begins_uuid d (b ∷ s))
    (λ k. let first : p ≡ 0 = begun place p _ e k in absurd (omega arith))
    (λ k. let same : p ≡ place = stays place p _ e k in
    let outside : place ≡ 36 = omega arith in
    let last : p ≡ 36 = omega arith in
    ap (λ n. uuid_from (b ∷ s) (drop n nil_uuid) d) outside
    ∙ not_started b s d (none (place == 36) (begins_uuid d (b ∷ s)) (eq-eqb place 36 outside) k)
    ∙ ap (λ n. b ∷ uuid_from s (drop n nil_uuid) (is_ascii_hexdigit b)) (sym last))
  where
    none : (x y : Bool) → x ≡ true → (x && y) ≡ false → y ≡ false
    none true y h k = k
    none false y h k = cc

pub step_in : (bytes : List ℕ) (i : ℕ) (d : Bool) (place p f : ℕ) (whole : List ℕ)
    → i < length bytes → p ≡ place_at place d (drop i bytes) → p < 36 → f ≡ get_or nil_uuid p 0
    → take i bytes ++ uuid_from (drop i bytes) (drop place nil_uuid) d ≡ whole
    → take (i + 1) (set bytes i f)
    ++ uuid_from (drop (i + 1) (set bytes i f)) (drop (p + 1) nil_uuid) true ≡ whole
step_in bytes i d place p f whole l e h g w =
    let b = get_or bytes i 0 in
    let rest = drop (i + 1) bytes in
    let here = drop_more bytes i 0 l in
    let at = e ∙ ap (place_at place d) here in
    ap₂ (λ x y. x ++ uuid_from y (drop (p + 1) nil_uuid) true) (take_more_set bytes i f l)
    (drop-set-lt (i + 1) bytes i f (omega arith))
    ∙ append_assoc (take i bytes) (f ∷ []) (uuid_from rest (drop (p + 1) nil_uuid) true)
    ∙ ap (λ x. take i bytes ++ x)
    (ap (λ x. x ∷ uuid_from rest (drop (p + 1) nil_uuid) true) g
    ∙ sym (in_uuid b rest d place p at h)
    ∙ ap (λ x. uuid_from x (drop place nil_uuid) d) (sym here))
    ∙ w

pub step_out : (bytes : List ℕ) (i : ℕ) (d : Bool) (place p b : ℕ) (whole : List ℕ)
    → i < length bytes → place ≤ 36 → p ≡ place_at place d (drop i bytes) → 36 ≤ p
    → b ≡ get_or bytes i 0
    → take i bytes ++ uuid_from (drop i bytes) (drop place nil_uuid) d ≡ whole
    → take (i + 1) bytes
    ++ uuid_from (drop (i + 1) bytes) (drop p nil_uuid) (is_ascii_hexdigit b) ≡ whole
step_out bytes i d place p b whole l m e h g w =
    let c = get_or bytes i 0 in
    let rest = drop (i + 1) bytes in
    let here = drop_more bytes i 0 l in
    let at = e ∙ ap (place_at place d) here in
    ap₂ (λ x y. x ++ uuid_from rest (drop p nil_uuid) (is_ascii_hexdigit y))
    (take_more bytes i 0 l) g
    ∙ append_assoc (take i bytes) (c ∷ []) (uuid_from rest (drop p nil_uuid) (is_ascii_hexdigit c))
    ∙ ap (λ x. take i bytes ++ x)
    (sym (out_of_uuid c rest d place p m at h)
    ∙ ap (λ x. uuid_from x (drop place nil_uuid) d) (sym here))
    ∙ w

pub place_within : (place p : ℕ) (d : Bool) (s : List ℕ) → place ≤ 36 → p ≡ place_at place d s
    → p ≤ 36
place_within place p d s h e = by_bool ((place == 36) && begins_uuid d s)
    (λ k. let first : p ≡ 0 = begun place p _ e k in omega arith)
    (λ k. let same : p ≡ place = stays place p _ e k in omega arith)
