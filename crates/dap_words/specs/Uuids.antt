-- The action `uuid` on a text: it replaces each UUID by the nil UUID.
use Rattle.std.specs.Prelude.{◌≡◌, ℕ, ◌==◌, Bool, true, false, cond, not, ◌&&◌, List, [], ◌∷◌}
use Rattle.std.specs.Prelude.{◌++◌, drop, codes}
use Rattle.std.specs.Char.{is_ascii_hexdigit}
use Rattle.dap_words.specs.Runs.{begins_with}

-- ---- as a relation

abbrev pub nil_uuid : List ℕ
nil_uuid = codes "00000000-0000-0000-0000-000000000000"

-- The byte b is allowed where the nil UUID has f: a dash at a dash, a hexadecimal digit at a zero.
abbrev pub fits_at : ℕ → ℕ → Bool
fits_at f b = cond (f == 45) (b == 45) (is_ascii_hexdigit b)

-- The list is as long as the form, and each of its bytes is allowed at its place in the form.
abbrev pub is_of_form : List ℕ → List ℕ → Bool
is_of_form [] [] = true
is_of_form (f ∷ form) (b ∷ s) = fits_at f b && is_of_form form s
is_of_form _ _ = false

-- A UUID and the rest after it (own): 8, 4, 4, 4 and 12 hexadecimal digits with dashes between. The
-- rest does not start with a hexadecimal digit.
pub record IsUuid (id rest : List ℕ) : Type 0 where
  pub form : is_of_form nil_uuid id ≡ true
  pub ends : begins_with is_ascii_hexdigit rest ≡ false

-- The text starts with a list of the form, and no hexadecimal digit comes after it.
abbrev pub begins_in_form : List ℕ → List ℕ → Bool
begins_in_form [] s = not (begins_with is_ascii_hexdigit s)
begins_in_form (f ∷ form) [] = false
begins_in_form (f ∷ form) (b ∷ s) = fits_at f b && begins_in_form form s

-- A UUID starts here. `after_digit` is true if a hexadecimal digit comes before. No UUID starts
-- then, since a UUID is not part of a longer run of hexadecimal digits at either end.
abbrev pub begins_uuid : Bool → List ℕ → Bool
begins_uuid after_digit s = not after_digit && begins_in_form nil_uuid s

-- t is s with each UUID replaced by the nil UUID, and every other byte unchanged (own). The Bool is
-- true if a hexadecimal digit comes before s.
pub data AreUuidsOf : Bool → List ℕ → List ℕ → Type 0 where
  at_end : {after_digit : Bool} → AreUuidsOf after_digit [] []
  other : {after_digit : Bool} {b : ℕ} {s t : List ℕ} → begins_uuid after_digit (b ∷ s) ≡ false
      → AreUuidsOf (is_ascii_hexdigit b) s t → AreUuidsOf after_digit (b ∷ s) (b ∷ t)
  cleared : {u s t : List ℕ} → (id : List ℕ) → u ≡ id ++ s → IsUuid id s → AreUuidsOf true s t
      → AreUuidsOf false u (nil_uuid ++ t)

-- ---- the same as a function

-- The rest of a form replaces the first bytes. After it each UUID is replaced.
abbrev pub uuid_from : List ℕ → List ℕ → Bool → List ℕ
uuid_from [] form after_digit = []
uuid_from (b ∷ s) (f ∷ form) after_digit = f ∷ uuid_from s form true
uuid_from (b ∷ s) [] after_digit =
    cond (begins_uuid after_digit (b ∷ s)) (48 ∷ uuid_from s (drop 1 nil_uuid) true) (b
    ∷ uuid_from s [] (is_ascii_hexdigit b))

abbrev pub uuid : List ℕ → List ℕ
uuid s = uuid_from s [] false
