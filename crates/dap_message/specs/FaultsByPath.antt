-- The error of a message, in terms of paths and of row numbers.
use Rattle.dap_tree.specs.Doc.{Doc, object, get_member}
use Rattle.dap_tree.specs.Path.{Step, name, step, IsBefore}
use Rattle.std.specs.Prelude.{◌≡◌, ℕ, ◌+◌, ◌<◌, true, List, [], ◌∷◌, length, Contains, Option, Some}
use Rattle.std.specs.Prelude.{option_and_then, slice_index_or}
use Rattle.dap_profile.specs.Profile.{profile}
use Rattle.dap_profile.specs.ProfileRows.{ProfileRow}
use Rattle.dap_message.specs.Faults.{has_kind}
use Rattle.dap_message.specs.Places.{fits_place, is_object}
use Rattle.dap_message.specs.Rows.{row_applies, cause_against}
use Rattle.dap_message.specs.declared.broken_rows.Cause.{Cause}

-- The value at a path (own). It is `Some (Some e)` if the path leads to the document e, and
-- `Some None` if its last step names a member that the object lacks. Otherwise it is `None`.
abbrev pub shown : List Step → Doc → Option (Option Doc)
shown [] d = Some (Some d)
shown (name k ∷ []) (object ms) = Some (get_member k ms)
shown (s ∷ p) d = option_and_then (shown p) (step s d)

-- The row is violated at the path for this cause: the row applies to the document, its path
-- matches, and the value at the path is not as the row requires.
pub record BreaksAt (r : ProfileRow) (d : Doc) (p : List Step) (c : Cause) : Type 0 where
  pub asked : row_applies r.kind r.name d ≡ true
  pub place : fits_place r.place p ≡ true
  pub found : Option Doc
  pub shows : shown p d ≡ Some found
  pub cause : cause_against r.want r.needed found ≡ Some c

-- The row is violated at no path.
abbrev pub IsKept : ProfileRow → Doc → Type 0
IsKept r d = (p : List Step) (c : Cause) → BreaksAt r d p c → ⊥

-- The row is violated, and this is the cause at the first path at which it is violated.
pub record BreaksFirst (r : ProfileRow) (d : Doc) (c : Cause) : Type 0 where
  pub path : List Step
  pub breaks : BreaksAt r d path c
  pub first : (q : List Step) (e : Cause) → IsBefore q path → BreaksAt r d q e → ⊥

-- The row with this number is violated for this cause, and no row with a lower number is violated.
pub record IsLeastBroken (d : Doc) (n : ℕ) (c : Cause) : Type 0 where
  pub row : ProfileRow
  pub listed : Contains profile row
  pub number : row.number ≡ n
  pub broken : BreaksFirst row d c
  pub least : (r : ProfileRow) → Contains profile r → r.number < n → IsKept r d

-- The document is an object of a known kind, so rows apply to it.
abbrev pub IsJudged : Doc → Type 0
IsJudged d = (is_object d ≡ true) × (has_kind d ≡ true)

-- The rows are numbered from 1, in order.
abbrev pub AreNumbered : List ProfileRow → Type 0
AreNumbered rs = (i : ℕ) (r : ProfileRow) → i < length rs → slice_index_or rs i r ≡ r
    → r.number ≡ i + 1
