-- What is printed of a long JSON text. Source: own.
--
-- A text is cut by its characters (UTF-8), and `...` replaces each part that is left out. A sign is
-- one character, or one escape sequence of a JSON string, such as `\n` or `\u001b`.
--
-- Worked cases: s has more than 200 characters, the limit is 200, and the other text differs from
-- s. By the number of signs of s that start before the first byte that differs:
-- * 16 or fewer: the first 200 characters of s are printed.
-- * 17: one sign is left out, and the next 200 characters are printed.
-- * 900: 884 signs are left out, and the next 200 characters are printed. The first 16 of these
--   signs are also in the other text; the last of them may be the one in which both texts differ.
-- * All signs of s, since the other text continues: the last 16 signs are printed.
-- So a window never starts inside a character or an escape sequence. It may end inside an escape
-- sequence: the dots after it are not part of one.
use Rattle.std.specs.Prelude.{ℕ, ◌+◌, ◌-◌, ◌==◌, Bool, cond, not, ◌&&◌, nat_eq, nat_lt, List}
use Rattle.std.specs.Prelude.{[], ◌∷◌, ◌++◌, take, length, codes, if◌then◌else◌}
use Rattle.std.specs.List.{common_prefix_len}

-- A continuation byte (UTF-8): it belongs to the same character as the byte before it.
abbrev pub goes_on : ℕ → Bool
goes_on b = not (nat_lt b 128) && nat_lt b 192

-- How many characters start in the text.
abbrev pub characters : List ℕ → ℕ
characters [] = 0
characters (b ∷ s) = cond (goes_on b) 0 1 + characters s

-- The bytes of the first n characters.
abbrev pub first_characters : ℕ → List ℕ → List ℕ
first_characters n [] = []
first_characters n (b ∷ s) =
    cond (goes_on b) (b ∷ first_characters n s)
    (cond (nat_lt 0 n) (b ∷ first_characters (n - 1) s) [])

-- The text has more characters than the limit.
abbrev pub is_long : ℕ → List ℕ → Bool
is_long limit s = nat_lt (length (first_characters limit s)) (length s)

-- A text, truncated after as many characters as the limit.
abbrev pub cut : ℕ → List ℕ → List ℕ
cut limit s = first_characters limit s ++ (if is_long limit s then codes "..." else [])

-- How many bytes of an escape sequence can follow the byte b, if n can before it. A sequence is a
-- backslash (92) and one more byte; if that byte is a `u` (117), four digits follow.
abbrev pub left_after : ℕ → ℕ → ℕ
left_after n b =
    if n == 0 then (if b == 92 then 5 else 0) else (if (n == 5) && not (b == 117) then 0 else n - 1)

-- The byte starts a sign, if n bytes of an escape sequence can follow the byte before it.
abbrev pub starts_sign : ℕ → ℕ → Bool
starts_sign n b = (n == 0) && not (goes_on b)

-- How many signs start in the text.
abbrev pub signs_from : ℕ → List ℕ → ℕ
signs_from n [] = 0
signs_from n (b ∷ s) = (if starts_sign n b then 1 else 0) + signs_from (left_after n b) s

abbrev pub signs : List ℕ → ℕ
signs s = signs_from 0 s

-- The text after its first k signs.
abbrev pub after_signs_from : ℕ → ℕ → List ℕ → List ℕ
after_signs_from n k [] = []
after_signs_from n k (b ∷ s) =
    cond (starts_sign n b)
    (cond (nat_lt 0 k) (after_signs_from (left_after n b) (k - 1) s) (b ∷ s))
    (after_signs_from (left_after n b) k s)

abbrev pub after_signs : ℕ → List ℕ → List ℕ
after_signs k s = after_signs_from 0 k s

-- The bytes with which both texts start.
abbrev pub shared : List ℕ → List ℕ → List ℕ
shared s t = take (common_prefix_len nat_eq s t) s

-- How many signs precede the window: all that start before the first byte that differs, except for
-- the last 16.
abbrev pub signs_before : List ℕ → List ℕ → ℕ
signs_before s t = signs (shared s t) - 16

-- What is printed of the text s, if t is the other text. If s has more characters than the limit,
-- its window begins with the last 16 signs that start before the first byte that differs.
abbrev pub window : ℕ → List ℕ → List ℕ → List ℕ
window limit s t =
    if is_long limit s && nat_lt 0 (signs_before s t)
    then codes "..." ++ cut limit (after_signs (signs_before s t) s)
    else cut limit s
