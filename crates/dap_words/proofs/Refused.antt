-- Pairs of actions that do not stay settled at one place in this order.
use Rattle.std.proofs.Common.{◌≡◌, ℕ, ◌≤◌, ◌==◌, Bool, true, false, not, ◌&&◌, ◌||◌, List, [], ◌∷◌}
use Rattle.std.proofs.Common.{◌++◌, length, get_or, drop, take, nat_le, refl, sym, ap, ap₂, ◌∙◌}
use Rattle.std.proofs.Common.{subst, arith, append_assoc, append-nil}
use Rattle.std.proofs.lemmas.List.{append_cancel_left}
use Rattle.std.specs.Char.{is_ascii_digit, is_ascii_hexdigit}
use Rattle.std.specs.Prelude.{codes}
use Rattle.dap_words.specs.Runs.{all_of, some_of}
use Rattle.dap_words.specs.Digits.{digits_from, digits, is_x, goes_on_as_hex, begins_hex, hex}
use Rattle.dap_words.specs.Long.{is_long, shortened, long_from, long}
use Rattle.dap_words.specs.Uuids.{nil_uuid, uuid}
use Rattle.dap_words.specs.TextLaws.{StaysAfter}
use Rattle.dap_words.proofs.Booleans.{by_bool, and_left, and_right, and_both, not_true, both_false}
use Rattle.dap_words.proofs.LongRuns.{run_goes_on, run_ends}
use Rattle.dap_words.proofs.LongSteps.{some_more}

-- ---- short texts

pub hex_digits : StaysAfter hex digits → ⊥
hex_digits h =
    let again : codes "0x0" ≡ codes "0xA" = h (codes "1xA") refl in
    absurd (omega (arith, ap (λ t. get_or t 2 0) again))

pub hex_long : StaysAfter hex long → ⊥
hex_long h =
    let again : codes "0x0" ≡ codes "0x1" = h (codes "123456x1") refl in
    absurd (omega (arith, ap (λ t. get_or t 2 0) again))

-- ---- long texts, whose bytes are visible to some proofs only

-- a UUID with no decimal digit, and the bytes after the first ones of the nil UUID
marked : List ℕ
marked = codes "abcdefab-abcd-abcd-abcd-abcdefabcdef"

after_two : List ℕ
after_two = drop 2 nil_uuid

after_group : List ℕ
after_group = drop 9 nil_uuid

abbrev no_digit : ℕ → Bool
no_digit b = not (is_ascii_digit b)

marked_plain : all_of no_digit marked ≡ true
unfolding marked
marked_plain = refl

marked_two : uuid marked ≡ 48 ∷ 48 ∷ after_two
unfolding marked after_two
marked_two = refl

abbrev eight : List ℕ
eight = 48 ∷ 48 ∷ 48 ∷ 48 ∷ 48 ∷ 48 ∷ 48 ∷ 48 ∷ []

marked_group : uuid marked ≡ eight ++ 45 ∷ after_group
unfolding marked after_group
marked_group = refl

digits_plain : (s : List ℕ) (i : Bool) → all_of no_digit s ≡ true → digits_from i s ≡ s
digits_plain [] i h = refl
digits_plain (b ∷ s) i h =
    rw (not_true (is_ascii_digit b) (and_left (no_digit b) (all_of no_digit s) h))
    (ap (λ t. b ∷ t) (digits_plain s false (and_right (no_digit b) (all_of no_digit s) h)))

shorter : (s : List ℕ) (i : Bool) → length (digits_from i s) ≤ length s
shorter [] i = omega arith
shorter (b ∷ s) true = by_bool (is_ascii_digit b)
    (λ k. let rest = shorter s true in rw k (omega (arith, rest)))
    (λ k. let rest = shorter s false in rw k (omega (arith, rest)))
shorter (b ∷ s) false = by_bool (is_ascii_digit b)
    (λ k. let rest = shorter s true in rw k (omega (arith, rest)))
    (λ k. let rest = shorter s false in rw k (omega (arith, rest)))

two_zeros : (s : List ℕ) → digits (48 ∷ 48 ∷ s) ≡ 48 ∷ 48 ∷ s → ⊥
two_zeros s e =
    let rest = shorter s true in
    let same : length (48 ∷ digits_from true s) ≡ length (48 ∷ 48 ∷ s) = ap length e in
    omega (arith, same, rest)

pub digits_uuid : StaysAfter digits uuid → ⊥
digits_uuid h =
    two_zeros after_two (subst (λ t. digits t ≡ t) marked_two
    (h marked (digits_plain marked false marked_plain)))

no_long : (ds : List ℕ) → some_of is_ascii_digit ds ≡ false → is_long ds ≡ false
no_long ds h = none (nat_le 6 (length ds)) (some_of is_ascii_digit ds) h
  where
    none : (x y : Bool) → y ≡ false → (x && y) ≡ false
    none true y h = h
    none false y h = refl

long_plain : (ds s : List ℕ) → some_of is_ascii_digit ds ≡ false → all_of no_digit s ≡ true
    → long_from ds s ≡ ds ++ s
long_plain ds [] n h = rw (no_long ds n) (sym (append-nil ds))
long_plain ds (b ∷ s) n h =
    let plain = not_true (is_ascii_digit b) (and_left (no_digit b) (all_of no_digit s) h) in
    let rest = and_right (no_digit b) (all_of no_digit s) h in
    by_bool (is_ascii_hexdigit b)
    (λ k. rw k (long_plain (ds ++ b ∷ []) s
    (some_more is_ascii_digit ds b ∙ both_false _ _ n plain) rest ∙ append_assoc ds (b ∷ []) s))
    (λ k. rw k (ap₂ (λ x t. x ++ b ∷ t) (rw (no_long ds n) refl) (long_plain [] s refl rest)))

first_group : (s : List ℕ) → long (eight ++ 45 ∷ s) ≡ eight ++ 45 ∷ s → ⊥
first_group s e =
    let made = sym (run_goes_on [] eight (45 ∷ s) refl ∙ run_ends eight 45 s refl) ∙ e in
    omega (arith, ap (λ t. get_or t 1 0) made)

pub long_uuid : StaysAfter long uuid → ⊥
long_uuid h =
    first_group after_group (subst (λ t. long t ≡ t) marked_group
    (h marked (long_plain [] marked refl marked_plain)))

-- ---- `hex`, and a UUID before an x

numbered : List ℕ
numbered = codes "abcdefab-abcd-abcd-abcd-abcdefabcdefx1"

all_but_last : List ℕ
all_but_last = take 35 nil_uuid

abbrev no_zero : ℕ → Bool
no_zero b = not (b == 48)

numbered_plain : all_of no_zero numbered ≡ true
unfolding numbered
numbered_plain = refl

numbered_made : uuid numbered ≡ all_but_last ++ 48 ∷ 120 ∷ 49 ∷ []
unfolding numbered all_but_last
numbered_made = refl

abbrev no_x : ℕ → Bool
no_x b = not (is_x b)

all_but_last_plain : all_of no_x all_but_last ≡ true
unfolding all_but_last
all_but_last_plain = refl

hex_plain : (s : List ℕ) → all_of no_zero s ≡ true → hex s ≡ s
hex_plain [] h = refl
hex_plain (b ∷ s) h =
    rw (not_true (b == 48) (and_left (no_zero b) (all_of no_zero s) h))
    (ap (λ t. b ∷ t) (hex_plain s (and_right (no_zero b) (all_of no_zero s) h)))

no_number : (b : ℕ) (s : List ℕ) → is_x b ≡ false → goes_on_as_hex (b ∷ s) ≡ false
no_number b [] h = refl
no_number b (c ∷ s) h = rw h refl

none_begins : (b : ℕ) (s : List ℕ) → goes_on_as_hex s ≡ false → begins_hex b s ≡ false
none_begins b s h = by_bool (b == 48) (λ k. rw (k, h) refl) (λ k. rw k refl)

number_made : (p : List ℕ) → all_of no_x p ≡ true
    → hex (p ++ 48 ∷ 120 ∷ 49 ∷ []) ≡ p ++ 48 ∷ 120 ∷ 48 ∷ []
number_made [] h = refl
number_made (b ∷ []) h = rw (none_begins b (48 ∷ 120 ∷ 49 ∷ []) refl) refl
number_made (b ∷ c ∷ p) h =
    let rest = and_right (no_x b) (all_of no_x (c ∷ p)) h in
    let no_c = not_true (is_x c) (and_left (no_x c) (all_of no_x p) rest) in
    rw (none_begins b (c ∷ p ++ 48 ∷ 120 ∷ 49 ∷ []) (no_number c (p ++ 48 ∷ 120 ∷ 49 ∷ []) no_c))
    (ap (λ t. b ∷ t) (number_made (c ∷ p) rest))

number_moves : (p : List ℕ) → all_of no_x p ≡ true
    → hex (p ++ 48 ∷ 120 ∷ 49 ∷ []) ≡ p ++ 48 ∷ 120 ∷ 49 ∷ [] → ⊥
number_moves p h e =
    let last = append_cancel_left p (48 ∷ 120 ∷ 48 ∷ []) (48 ∷ 120 ∷ 49 ∷ [])
    (sym (number_made p h) ∙ e) in
    omega (arith, ap (λ t. get_or t 2 0) last)

pub hex_uuid : StaysAfter hex uuid → ⊥
hex_uuid h =
    number_moves all_but_last all_but_last_plain (subst (λ t. hex t ≡ t) numbered_made
    (h numbered (hex_plain numbered numbered_plain)))

-- ---- `uuid`, and nine digits that become eight

later : List ℕ
later = codes "bcdefa-abcd-abcd-abcd-abcdefabcdef"

later_plain : all_of no_digit later ≡ true
unfolding later
later_plain = refl

nine : uuid (97 ∷ 49 ∷ 49 ∷ later) ≡ 97 ∷ 49 ∷ 49 ∷ later
unfolding later
nine = refl

eight_now : uuid (97 ∷ 48 ∷ later) ≡ nil_uuid
unfolding later
eight_now = refl

pub uuid_digits : StaysAfter uuid digits → ⊥
uuid_digits h =
    let less : digits (97 ∷ 49 ∷ 49 ∷ later) ≡ 97 ∷ 48 ∷ later =
    ap (λ t. 97 ∷ 48 ∷ t) (digits_plain later true later_plain) in
    let again = subst (λ t. uuid t ≡ t) less (h (97 ∷ 49 ∷ 49 ∷ later) nine) in
    absurd (omega (arith, ap (λ t. get_or t 0 0) (sym eight_now ∙ again)))
