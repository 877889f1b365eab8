-- The steps of the loop that shortens runs in place.
use Rattle.std.proofs.Common.{◌≡◌, ℕ, ◌+◌, ◌-◌, ◌<◌, ◌≤◌, Bool, true, false, ◌||◌, List}
use Rattle.std.proofs.Common.{[], ◌∷◌, ◌++◌, take, drop, set, length, get_or, refl, sym, ap}
use Rattle.std.proofs.Common.{ap₂, ◌∙◌, arith, append_assoc}
use Rattle.std.proofs.lemmas.List.{length-take-le, take_more_set, drop-append-le}
use Rattle.std.proofs.lemmas.List.{drop-set-lt, drop-drop, drop_all}
use Rattle.std.proofs.lemmas.List.{take-set-le, drop_more, length-set}
use Rattle.std.specs.Char.{is_ascii_digit, is_ascii_hexdigit}
use Rattle.dap_words.specs.Runs.{some_of}
use Rattle.dap_words.specs.Long.{shortened, long_from, long}
use Rattle.dap_words.proofs.LongRuns.{run_ends}

-- the bytes from start to end
abbrev pub cut : List ℕ → ℕ → ℕ → List ℕ
cut bytes start end = drop start (take end bytes)

-- ---- a hexadecimal digit

pub cut_more : (bytes : List ℕ) (start kept b : ℕ) → start ≤ kept → kept < length bytes
    → cut (set bytes kept b) start (kept + 1) ≡ cut bytes start kept ++ b ∷ []
cut_more bytes start kept b h l =
    ap (λ xs. drop start xs) (take_more_set bytes kept b l)
    ∙ drop-append-le start (take kept bytes) (b ∷ [])
    (omega (arith, length-take-le kept bytes (omega arith)))

pub some_more : (class : ℕ → Bool) (s : List ℕ) (b : ℕ)
    → some_of class (s ++ b ∷ []) ≡ (some_of class s || class b)
some_more class [] b = or_false (class b)
  where
    or_false : (a : Bool) → (a || false) ≡ a
    or_false true = refl
    or_false false = refl
some_more class (c ∷ s) b = ap (λ x. class c || x) (some_more class s b)
    ∙ or_assoc (class c) (some_of class s) (class b)
  where
    or_assoc : (x y z : Bool) → (x || (y || z)) ≡ ((x || y) || z)
    or_assoc true y z = refl
    or_assoc false y z = refl

pub digit_more : (bytes : List ℕ) (start kept b : ℕ) (decimal : Bool) → start ≤ kept
    → kept < length bytes → decimal ≡ some_of is_ascii_digit (cut bytes start kept)
    → (decimal || is_ascii_digit b)
    ≡ some_of is_ascii_digit (cut (set bytes kept b) start (kept + 1))
digit_more bytes start kept b decimal h l d =
    ap (λ x. x || is_ascii_digit b) d ∙ sym (some_more is_ascii_digit (cut bytes start kept) b)
    ∙ ap (some_of is_ascii_digit) (sym (cut_more bytes start kept b h l))

hex_goes_on : (run : List ℕ) (b : ℕ) (s : List ℕ) → is_ascii_hexdigit b ≡ true
    → long_from run (b ∷ s) ≡ long_from (run ++ b ∷ []) s
hex_goes_on run b s h = rw h refl

pub whole_more : (bytes : List ℕ) (start kept i b : ℕ) (whole : List ℕ) → start ≤ kept → kept ≤ i
    → i < length bytes → b ≡ get_or bytes i 0 → is_ascii_hexdigit b ≡ true
    → take start bytes ++ long_from (cut bytes start kept) (drop i bytes) ≡ whole
    → take start (set bytes kept b) ++ long_from (cut (set bytes kept b) start (kept + 1))
    (drop (i + 1) (set bytes kept b)) ≡ whole
whole_more bytes start kept i b whole h k l e d w =
    ap₂ (λ x y. x ++ y) (take-set-le start bytes kept b h)
    (ap₂ long_from (cut_more bytes start kept b h (omega arith))
    (drop-set-lt (i + 1) bytes kept b (omega arith))
    ∙ sym (hex_goes_on (cut bytes start kept) b (drop (i + 1) bytes) d)
    ∙ ap (long_from (cut bytes start kept))
    (ap (λ x. x ∷ drop (i + 1) bytes) e ∙ sym (drop_more bytes i 0 l)))
    ∙ w

-- ---- any other byte

pub later : (xs ys : List ℕ) (kept j : ℕ) → kept ≤ j → drop kept xs ≡ drop kept ys
    → drop j xs ≡ drop j ys
later xs ys kept j h e =
    let sum : j ≡ kept + (j - kept) = omega arith in
    ap (λ n. drop n xs) sum ∙ sym (drop-drop (j - kept) kept xs) ∙ ap (drop (j - kept)) e
    ∙ drop-drop (j - kept) kept ys ∙ ap (λ n. drop n ys) (sym sum)

pub cut_none : (bytes : List ℕ) (n : ℕ) → n ≤ length bytes → cut bytes n n ≡ []
cut_none bytes n h = drop_all n (take n bytes) (omega (arith, length-take-le n bytes h))

pub whole_ended : (bytes ended : List ℕ) (start kept now i b : ℕ) (whole : List ℕ)
    → start ≤ kept → kept ≤ i → now ≤ kept → i < length bytes → length ended ≡ length bytes
    → b ≡ get_or bytes i 0 → is_ascii_hexdigit b ≡ false
    → take now ended ≡ take start bytes ++ shortened (cut bytes start kept)
    → drop kept ended ≡ drop kept bytes
    → take start bytes ++ long_from (cut bytes start kept) (drop i bytes) ≡ whole
    → take (now + 1) (set ended now b) ++ long_from (cut (set ended now b) (now + 1) (now + 1))
    (drop (i + 1) (set ended now b)) ≡ whole
whole_ended bytes ended start kept now i b whole h k m l same e d t r w =
    let run = cut bytes start kept in
    let rest = drop (i + 1) bytes in
    let len : now + 1 ≤ length (set ended now b) = omega (arith, length-set ended now b) in
    ap₂ (λ x y. x ++ y)
    (take_more_set ended now b (omega arith) ∙ ap (λ x. x ++ b ∷ []) t)
    (ap₂ long_from (cut_none (set ended now b) (now + 1) len)
    (drop-set-lt (i + 1) ended now b (omega arith)
    ∙ later ended bytes kept (i + 1) (omega arith) r))
    ∙ append_assoc (take start bytes ++ shortened run) (b ∷ []) (long rest)
    ∙ append_assoc (take start bytes) (shortened run) (b ∷ long rest)
    ∙ ap (λ x. take start bytes ++ x)
    (sym (run_ends run b rest d)
    ∙ ap (long_from run) (ap (λ x. x ∷ rest) e ∙ sym (drop_more bytes i 0 l)))
    ∙ w

pub digit_none : (ended : List ℕ) (now b : ℕ) → now < length ended
    → false ≡ some_of is_ascii_digit (cut (set ended now b) (now + 1) (now + 1))
digit_none ended now b h =
    let len : now + 1 ≤ length (set ended now b) = omega (arith, length-set ended now b) in
    ap (some_of is_ascii_digit) (sym (cut_none (set ended now b) (now + 1) len))
