-- The rows that apply to a message of a kind and a name, and runs of rows with one name.
use Rattle.std.specs.Prelude.{ℕ, Bool, true, false, cond, ◌&&◌, List, [], ◌∷◌, map, Option}
use Rattle.std.specs.Prelude.{length, take, drop, nat_le, bytes_eq}
use Rattle.std.specs.Borrow.{Bor}
use Rattle.std.specs.List.{filter, flat_map, list_all}
use Rattle.std.specs.Option.{option_map_or}
use Rattle.dap_profile.specs.Profile.{profile}
use Rattle.dap_profile.specs.ProfileRows.{ProfileRow, row_of}
use Rattle.dap_profile.specs.declared.profile.Kind.{Kind}
use Rattle.dap_profile.specs.declared.profile.Kind.TheVariants.{Request, Response, Event}
use Rattle.dap_profile.specs.declared.profile.Row.{Row}

-- The rows of some ranges of the profile.
abbrev pub rows_in : List (Bor (List Row)) → List ProfileRow
rows_in stretches = flat_map (λ rows. map row_of rows.now) stretches

-- ---- by kind and name

abbrev pub same_kind : Kind → Kind → Bool
same_kind Request Request = true
same_kind Response Response = true
same_kind Event Event = true
same_kind _ _ = false

-- The row applies to every kind, or to this kind.
abbrev pub may_apply : Option Kind → ProfileRow → Bool
may_apply k r = option_map_or (λ j. option_map_or (same_kind j) k false) r.kind true

-- The row has this name.
abbrev pub has_name : Option (List ℕ) → ProfileRow → Bool
has_name n r = option_map_or (λ m. option_map_or (bytes_eq m) n false) r.name false

-- The row applies to a document of this kind and name.
abbrev pub asks : Option Kind → Option (List ℕ) → ProfileRow → Bool
asks k n r =
    option_map_or (λ j. option_map_or (same_kind j) k false
    && option_map_or (λ m. option_map_or (bytes_eq m) n false) r.name true) r.kind true

-- The rows that apply to a document of this kind and name, in order.
unfoldable pub rows_asked : Option Kind → Option (List ℕ) → List ProfileRow
rows_asked k n = filter (asks k n) profile

-- ---- rows with one name

-- The rows with a name.
unfoldable pub rows_named : Option (List ℕ) → List ProfileRow → List ProfileRow
rows_named n rs = filter (has_name n) rs

abbrev pub none_of : (ProfileRow → Bool) → List ProfileRow → Bool
none_of p [] = true
none_of p (r ∷ rs) = cond (p r) false (none_of p rs)

-- Each row has the name of the first.
abbrev pub one_name : List ProfileRow → Bool
one_name [] = true
one_name (r ∷ rs) = list_all (has_name r.name) (r ∷ rs)

-- There are n leading rows, which have the name of the first row. No later row has this name.
abbrev pub is_run : ℕ → List ProfileRow → Bool
is_run n [] = false
is_run n (r ∷ rs) =
    nat_le n (length (r ∷ rs)) && list_all (has_name r.name) (take n (r ∷ rs))
    && none_of (has_name r.name) (drop n (r ∷ rs))

-- The rows are runs of these lengths, one after the other.
abbrev pub are_runs : List ℕ → List ProfileRow → Bool
are_runs [] [] = true
are_runs [] (r ∷ rs) = false
are_runs (n ∷ ns) rs = is_run n rs && are_runs ns (drop n rs)
