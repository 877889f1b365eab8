-- The length of a text with other numbers at its marks.
use Rattle.std.proofs.Common.{◌≡◌, ℕ, ℤ, ◌+◌, ◌-◌, ◌<◌, List, [], ◌∷◌, ◌++◌, length, take, drop, get_or}
use Rattle.std.proofs.Common.{ap, arith, length-append}
use Rattle.std.specs.Fmt.{signed_decimal}
use Rattle.std.proofs.lemmas.List.{at_drop_more}
use Rattle.dap_flat.specs.declared.marks.Mark.{Mark}
use Rattle.dap_flat.specs.Marks.{digits_length, numbers_length, spliced}

-- The length of the text between the numbers.
abbrev between : ℕ → List ℕ → List Mark → ℕ
between at text [] = length text
between at text (m ∷ ms) = length (take (m.at - at) text)
    + between (m.at + digits_length m) (drop (digits_length m) (drop (m.at - at) text)) ms

pub spliced_parts : (at : ℕ) (text : List ℕ) (ms : List Mark) (ns : List ℤ)
    → length (spliced at text ms ns) ≡ between at text ms + numbers_length ms ns
spliced_parts at text [] ns = omega arith
spliced_parts at text (m ∷ ms) ns =
    let front = take (m.at - at) text in
    let digits = signed_decimal (get_or ns 0 m.number) in
    let after = drop (digits_length m) (drop (m.at - at) text) in
    let rest = spliced (m.at + digits_length m) after ms (drop 1 ns) in
    let later = spliced_parts (m.at + digits_length m) after ms (drop 1 ns) in
    omega (arith, later, length-append front (digits ++ rest), length-append digits rest)

-- A text that has the numbers of its marks is as long as the text between them and these numbers.
pub own_parts : (text : List ℕ) (ms : List Mark) → spliced 0 text ms [] ≡ text
    → length text ≡ between 0 text ms + numbers_length ms []
own_parts text ms own =
    let parts = spliced_parts 0 text ms [] in
    let same = ap length own in
    omega (arith, parts, same)

-- the number of the next mark, and those after it
pub next_number : (ms : List Mark) (i : ℕ) (x : Mark) (ns : List ℤ) → i < length ms
    → numbers_length (drop i ms) ns
    ≡ length (signed_decimal (get_or ns 0 (get_or ms i x).number))
    + numbers_length (drop (i + 1) ms) (drop 1 ns)
next_number ms i x ns within = at_drop_more (λ ks. numbers_length ks ns) ms i x within
