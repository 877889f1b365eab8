-- If the lines of all rows are empty, no row is requested.
use Rattle.std.proofs.Common.{◌≡◌, ◌<◌, ◌∙◌, ◌++◌, ◌∷◌, ℕ, Bool, true, false, cond, List, []}
use Rattle.std.proofs.Common.{Option, ap, codes, decimal, drop, get_or, length, map, refl, suc, sym}
use Rattle.std.proofs.Math.Seq.{drop-cons}
use Rattle.std.specs.List.{flat_map}
use Rattle.dap_profile.specs.Profile.{want_word}
use Rattle.dap_profile.specs.ProfileRows.{ProfileRow, row_of}
use Rattle.dap_profile.specs.declared.profile.Row.{Row}
use Rattle.dap_profile.specs.RowLines.{asked_line, has_number, messages_words, need_word}
use Rattle.dap_profile.specs.RowLines.{place_words, row_line}

left_nil : (a b : List ℕ) → a ++ b ≡ [] → a ≡ []
left_nil [] b h = refl
left_nil (x ∷ a) b h = cc

right_nil : (a b : List ℕ) → a ++ b ≡ [] → b ≡ []
right_nil [] b h = h
right_nil (x ∷ a) b h = cc

-- The line of a row ends with LF, so it is not empty.
row_line_some : (row : ProfileRow) → row_line row ≡ [] → ⊥
row_line_some row h =
    let before = decimal row.number ++ codes " " ++ messages_words row ++ codes " "
    ++ place_words row.place ++ need_word row.needed ++ want_word row.want in
    let none : codes "\n" ≡ [] = right_nil before (codes "\n") h in cc

asked_for : (asked : Bool) (row : ProfileRow) → cond asked (row_line row) [] ≡ [] → asked ≡ false
asked_for true row h = absurd (row_line_some row h)
asked_for false row h = refl

pub not_asked : (text : Option (List ℕ)) (rows : List Row) (i : ℕ) (row : Row)
    (out all : List ℕ)
    → i < length rows → out ++ flat_map (asked_line text) (map row_of (drop i rows)) ≡ all
    → all ≡ [] → has_number text (row_of (get_or rows i row)) ≡ false
not_asked text rows i row out all within so_far none =
    let line = asked_line text in
    let here = row_of (get_or rows i row) in
    let later = flat_map line (map row_of (drop (suc i) rows)) in
    let left : flat_map line (map row_of (drop i rows)) ≡ [] =
    right_nil out (flat_map line (map row_of (drop i rows))) (so_far ∙ none) in
    let parted : line here ++ later ≡ [] =
    sym (ap (λ rest. flat_map line (map row_of rest)) (drop-cons rows i row within)) ∙ left in
    asked_for (has_number text here) here (left_nil (line here) later parted)
