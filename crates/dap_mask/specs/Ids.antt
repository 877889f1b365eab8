-- Rules and the places of the ids in the rows of a profile.
use Rattle.std.specs.Prelude.{◌≡◌, ◌⊎◌, ℕ, Bool, true, not, ◌&&◌, List, [], ◌∷◌, Option, Some, None}
use Rattle.std.specs.{Prelude.{option_map, Contains}, List.list_any}
use Rattle.dap_tree.specs.{Doc.Doc, Path.{Step, at}}
use Rattle.dap_message.specs.{Marks.top, Places.fits_place, Rows.row_applies}
use Rattle.dap_profile.specs.{Profile.{profile, wants_id}, ProfileRows.ProfileRow}
use Rattle.dap_profile.specs.declared.profile.Kind.{Kind}
use Rattle.dap_mask.specs.Rules.{Rule, same_place, same_kind, share_name, plain_place_of}
use Rattle.dap_mask.specs.Masked.{left}

-- The rule and the row may apply to the same message.
abbrev pub meets : Rule → Option Kind → Option (List ℕ) → Bool
meets r None n = true
meets r (Some k) n = same_kind r.kind k && share_name r.name n

-- The place of the rule is that of the ids of the row, and both may apply to the same message.
abbrev pub takes_id : Rule → ProfileRow → Bool
takes_id r row =
    wants_id row.want && (same_place (plain_place_of r) row.place && meets r row.kind row.name)

-- The place of no rule is that of an id of the row.
abbrev pub leave_row : List Rule → ProfileRow → Bool
leave_row [] row = true
leave_row (r ∷ rs) row = not (takes_id r row) && leave_row rs row

-- The place of the rule is that of an id of one of the rows.
abbrev pub takes_id_of : Rule → List ProfileRow → Bool
takes_id_of r rows = list_any (takes_id r) rows

-- The place of the rule is that of an id of the profile.
unfoldable pub takes_profile_id : Rule → Bool
takes_profile_id r = takes_id_of r profile

-- The place of no rule is that of an id of the profile.
abbrev pub leave_ids : List Rule → Bool
leave_ids [] = true
leave_ids (r ∷ rs) = not (takes_profile_id r) && leave_ids rs

-- No rule changes an id of the profile (own). The id is unchanged, or is removed with a value that
-- contains it.
abbrev pub LeavesIds : Type 0
LeavesIds = (rules : List Rule) (d : Doc) (p : List Step) (o : Option Doc) (row : ProfileRow)
    → leave_ids rules ≡ true → Contains profile row → wants_id row.want ≡ true
    → row_applies row.kind row.name d ≡ true → fits_place row.place p ≡ true
    → (left rules d p o ≡ o) ⊎ (left rules d p o ≡ None)

-- The value at the path of each id of the profile is the same in e as in d, or e has no value
-- there.
unfoldable pub KeepsIds : Doc → Doc → Type 0
KeepsIds d e = (p : List Step) (row : ProfileRow) → Contains profile row → wants_id row.want ≡ true
    → row_applies row.kind row.name d ≡ true → fits_place row.place p ≡ true
    → (option_map top (at p e) ≡ option_map top (at p d)) ⊎ (at p e ≡ None)
