-- The ids of a message: which of its numbers are ids, in terms of paths, and the resulting
-- document.
use Rattle.dap_tree.specs.Doc.{Doc, null, whole, list, object, id, Items, no_items, item, Members}
use Rattle.dap_tree.specs.Doc.{no_members, member, change_child, change_items}
use Rattle.dap_tree.specs.Path.{Step, at}
use Rattle.dap_tree.specs.declared.side.Side.{Side}
use Rattle.dap_tree.specs.declared.side.Side.TheVariants.{Client, Adapter}
use Rattle.dap_tree.specs.declared.sort.Sort.{Sort}
use Rattle.dap_tree.specs.declared.sort.Sort.TheVariants.{ClientSeq, AdapterSeq, Frame as FrameSort}
use Rattle.dap_tree.specs.declared.sort.Sort.TheVariants.{Reference as ReferenceSort}
use Rattle.dap_tree.specs.declared.sort.Sort.TheVariants.{Thread as ThreadSort}
use Rattle.dap_tree.specs.declared.sort.Sort.TheVariants.{Breakpoint as BreakpointSort}
use Rattle.std.specs.Prelude.{◌≡◌, ℤ, pos, Bool, cond, not, ◌&&◌, List, [], ◌∷◌, Option, Some, None}
use Rattle.std.specs.Prelude.{option_map}
use Rattle.std.specs.Option.{option_map_or}
use Rattle.std.specs.Ordering.{int_eq}
use Rattle.dap_profile.specs.PlaceSteps.{PlaceStep, named, each}
use Rattle.dap_profile.specs.Profile.{profile}
use Rattle.dap_profile.specs.ProfileRows.{ProfileRow}
use Rattle.dap_profile.specs.declared.profile.Want.{Want}
use Rattle.dap_profile.specs.declared.profile.Want.TheVariants.{OwnSeq, OtherSeq, Frame, Reference}
use Rattle.dap_profile.specs.declared.profile.Want.TheVariants.{Thread, Breakpoint}
use Rattle.dap_message.specs.Places.{fits_place}
use Rattle.dap_message.specs.Rows.{row_applies, is_id_number}

-- The kind of the id that is expected. Each side numbers its own messages (DAP specification,
-- ProtocolMessage.seq), so `request_seq` belongs to the other side.
abbrev pub sort_of : Side → Want → Option Sort
sort_of Client OwnSeq = Some ClientSeq
sort_of Adapter OwnSeq = Some AdapterSeq
sort_of Client OtherSeq = Some AdapterSeq
sort_of Adapter OtherSeq = Some ClientSeq
sort_of side Frame = Some FrameSort
sort_of side Reference = Some ReferenceSort
sort_of side Thread = Some ThreadSort
sort_of side Breakpoint = Some BreakpointSort
sort_of side _ = None

-- A variables reference of 0 refers to nothing (DAP specification, Variable.variablesReference), so
-- it is not an id.
abbrev pub is_id_of : Sort → ℤ → Bool
is_id_of ReferenceSort n = is_id_number n && not (int_eq n (pos 0))
is_id_of s n = is_id_number n

-- Turns a number into an id, if it may be one.
abbrev pub marked : Sort → Doc → Doc
marked s (whole n) = cond (is_id_of s n) (id s n) (whole n)
marked _ d = d

-- ---- path by path

-- The value that a row makes of x at the path p: an id, if the row applies to the document, expects
-- an id, and its path matches p. Otherwise x is unchanged.
abbrev pub made_by : ProfileRow → Side → Doc → List Step → Doc → Doc
made_by r side d p x =
    option_map_or (λ s. cond (row_applies r.kind r.name d && fits_place r.place p) (marked s x) x)
    (sort_of side r.want) x

-- The value that all rows make of x, one after another.
abbrev pub made : List ProfileRow → Side → Doc → List Step → Doc → Doc
made [] side d p x = x
made (r ∷ rs) side d p x = made rs side d p (made_by r side d p x)

-- Items and members with each document replaced by null.
abbrev pub items_top : Items → Items
items_top no_items = no_items
items_top (item d ds) = item null (items_top ds)

abbrev pub members_top : Members → Members
members_top no_members = no_members
members_top (member k d ms) = member k null (members_top ms)

-- A document with each of its parts replaced by null: only its first level.
abbrev pub top : Doc → Doc
top (list ds) = list (items_top ds)
top (object ms) = object (members_top ms)
top d = d

-- The document e is d with its ids marked (own): both have the same value at every path, except for
-- the numbers that rows turn into ids.
unfoldable pub IsMarked : List ProfileRow → Side → Doc → Doc → Type 0
IsMarked rows side d e = (p : List Step)
    → option_map top (at p e) ≡ option_map top (option_map (made rows side d p) (at p d))

-- ---- as a document

-- The document with f applied at every path that matches.
abbrev pub edit : List PlaceStep → (Doc → Doc) → Doc → Doc
edit [] f d = f d
edit (named k ∷ ps) f d = change_child k (edit ps f) d
edit (each ∷ ps) f d = change_items (edit ps f) d

-- The document with the ids that a row defines.
abbrev pub mark_row : ProfileRow → Side → Doc → Doc
mark_row r side d =
    option_map_or (λ s. cond (row_applies r.kind r.name d) (edit r.place (marked s) d) d)
    (sort_of side r.want) d

-- The document with the ids that these rows define.
abbrev pub mark_rows : List ProfileRow → Side → Doc → Doc
mark_rows [] side d = d
mark_rows (r ∷ rs) side d = mark_rows rs side (mark_row r side d)

-- The same, for rows that a proof does not unfold.
unfoldable pub mark_by_rows : List ProfileRow → Side → Doc → Doc
mark_by_rows rows side d = mark_rows rows side d

-- The document with the ids that the profile defines.
abbrev pub mark : Side → Doc → Doc
mark side d = mark_by_rows profile side d
