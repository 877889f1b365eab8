-- The theorems that the functions of `laws` state.
use Rattle.dap_tree.specs.Doc.{Doc, is_plain, is_sound, is_ordered, all_utf8}
use Rattle.dap_tree.specs.Ids.{ids, with_ids, skeleton, without_ids}
use Rattle.dap_tree.specs.Json.{text_of}
use Rattle.dap_tree.specs.declared.side.Side.{Side}
use Rattle.dap_tree.specs.declared.sort.Sort.TheVariants.{Reference}
use Rattle.std.specs.Prelude.{◌≡◌, ◌⊎◌, ◌↔◌, ℕ, ℤ, pos, List, Contains, true, length, map, Some}
use Rattle.dap_profile.specs.Profile.{profile, first_rows}
use Rattle.dap_profile.specs.ProfileRows.{ProfileRow}
use Rattle.dap_message.specs.Capabilities.{filled}
use Rattle.dap_message.specs.Envelope.{kind_of, name_of, success_of, has_envelope}
use Rattle.dap_message.specs.Faults.{fault, Fits, FitsRows}
use Rattle.dap_message.specs.FaultsByPath.{IsKept, IsLeastBroken, IsJudged, AreNumbered}
use Rattle.dap_message.specs.LaterIds.{first_ids, with_later_ids, HasLaterIds}
use Rattle.dap_message.specs.Marks.{IsMarked, mark}
use Rattle.dap_message.specs.Message.{IsTyped, IsTypedAs, IsTypedContent, Refusal, HasRefusal}
use Rattle.dap_message.specs.Message.{side_of, IsTypedByRows, IsTypedContentByRows}
use Rattle.dap_message.specs.Numbers.{is_proper, has_id_numbers, has_small_ids, renumbered}
use Rattle.dap_message.specs.Rows.{of_row}
use Rattle.dap_message.specs.Views.{frame_of, frames_of, listed_frames, scope_of, scopes_of}
use Rattle.dap_message.specs.Views.{listed_scopes, variable_of, variables_of, listed_variables}
use Rattle.dap_message.specs.Views.{shows_all}
use Rattle.dap_message.specs.declared.broken_rows.Cause.{Cause}
use Rattle.dap_message.specs.declared.message.Message.{Message}

-- ---- one outcome of a content

-- A content is at most one message.
abbrev pub OneMessage : Type 0
OneMessage = (side : Side) (bytes : List ℕ) (m n : Doc) → IsTypedContent side bytes m
    → IsTypedContent side bytes n → m ≡ n

-- A content is rejected for at most one reason.
abbrev pub OneRefusal : Type 0
OneRefusal = (bytes : List ℕ) (e f : Refusal) → HasRefusal bytes e → HasRefusal bytes f → e ≡ f

-- No message is rejected.
abbrev pub TypedNotRefused : Type 0
TypedNotRefused = (side : Side) (bytes : List ℕ) (m : Doc) (e : Refusal)
    → IsTypedContent side bytes m → HasRefusal bytes e → ⊥

-- Every content is a message or is rejected.
abbrev pub SomeMessage : Type 0
SomeMessage = (side : Side) (bytes : List ℕ)
    → ((m : Doc) × IsTypedContent side bytes m) ⊎ ((e : Refusal) × HasRefusal bytes e)

-- ---- the properties of every message

-- A message has the side that it was typed for.
abbrev pub TypedSide : Type 0
TypedSide = (side : Side) (d : Doc) (m : Message) → IsTypedAs side d m → side_of m ≡ side

-- No id is a variables reference of 0.
abbrev pub TypedProper : Type 0
TypedProper = (side : Side) (d m : Doc) → is_plain d ≡ true → IsTyped side d m
    → Contains (ids m) (Reference, pos 0) → ⊥

-- The document of a message is sound and has the members of its kind.
abbrev pub TypedSound : Type 0
TypedSound = (side : Side) (d m : Doc) → is_plain d ≡ true → IsTyped side d m → is_sound m ≡ true

abbrev pub TypedEnveloped : Type 0
TypedEnveloped = (side : Side) (d m : Doc) → IsTyped side d m → has_envelope m ≡ true

-- The members of a message are in order, and its strings are UTF-8, if this holds for the document
-- that it was typed from.
abbrev pub TypedOrdered : Type 0
TypedOrdered = (side : Side) (d m : Doc) → is_ordered d ≡ true → IsTyped side d m
    → is_ordered m ≡ true

abbrev pub TypedUtf8 : Type 0
TypedUtf8 = (side : Side) (d m : Doc) → all_utf8 d ≡ true → IsTyped side d m → all_utf8 m ≡ true

-- A well-formed document of a message (own) is sound, and no id is a variables reference of 0. It
-- has the members of its kind, its members are in order, and its strings are UTF-8.
pub record IsWellFormed (m : Doc) : Type 0 where
  pub proper : is_proper m ≡ true
  pub sound : is_sound m ≡ true
  pub enveloped : has_envelope m ≡ true
  pub ordered : is_ordered m ≡ true
  pub utf8 : all_utf8 m ≡ true

-- The document of the message of a content is well-formed, without a premise on the tree that was
-- read.
abbrev pub ContentWellFormed : Type 0
ContentWellFormed = (side : Side) (bytes : List ℕ) (m : Doc) → IsTypedContent side bytes m
    → IsWellFormed m

-- ---- views

-- Each frame, scope and variable that the message of a content lists has all members of its view.
abbrev pub ContentShown : Type 0
ContentShown = (side : Side) (bytes : List ℕ) (m : Doc) → IsTypedContent side bytes m
    → shows_all m ≡ true

-- This does not depend on the numbers of the ids.
abbrev pub ShownAlike : Type 0
ShownAlike = (m n : Doc) → skeleton n ≡ skeleton m → shows_all n ≡ shows_all m

-- If so, the views are all elements of the array, in order.
abbrev pub EachShown : Type 0
EachShown = (m : Doc) → shows_all m ≡ true
    → (map Some (frames_of m) ≡ map frame_of (listed_frames m))
    × (map Some (scopes_of m) ≡ map scope_of (listed_scopes m))
    × (map Some (variables_of m) ≡ map variable_of (listed_variables m))

-- ---- typed again

-- Let n differ from a message only in the numbers of its ids, all of which are valid for their
-- kinds. Then n with its ids as integers is typed as n.
abbrev pub RenumberedTyped : Type 0
RenumberedTyped = (side : Side) (d m n : Doc) → is_plain d ≡ true → IsTyped side d m
    → skeleton n ≡ skeleton m → has_id_numbers n ≡ true → IsTyped side (without_ids n) n

-- If the message has a content, then the text of such a document n is a content of n.
abbrev pub RenumberedContentTyped : Type 0
RenumberedContentTyped = (side : Side) (bytes : List ℕ) (m n : Doc) → IsTypedContent side bytes m
    → skeleton n ≡ skeleton m → has_id_numbers n ≡ true → IsTypedContent side (text_of n) n

-- The numbers from 1 to 2,147,483,647 are valid for ids of every kind.
abbrev pub SmallAreIdNumbers : Type 0
SmallAreIdNumbers = (n : Doc) → has_small_ids n ≡ true → has_id_numbers n ≡ true

-- Therefore n is also typed as n if each number is from 1 to 2,147,483,647.
abbrev pub TypedAgain : Type 0
TypedAgain = (side : Side) (d m n : Doc) → is_plain d ≡ true → IsTyped side d m
    → skeleton n ≡ skeleton m → has_small_ids n ≡ true → IsTyped side (without_ids n) n

abbrev pub ContentTypedAgain : Type 0
ContentTypedAgain = (side : Side) (bytes : List ℕ) (m n : Doc) → IsTypedContent side bytes m
    → skeleton n ≡ skeleton m → has_small_ids n ≡ true → IsTypedContent side (text_of n) n

-- A message with its own ids as integers is typed as itself, whatever their numbers are.
abbrev pub OwnContentTypedAgain : Type 0
OwnContentTypedAgain = (side : Side) (d m : Doc) → is_plain d ≡ true → IsTyped side d m
    → IsTyped side (without_ids m) m

-- ---- the first rows and the later rows

-- A document that fits the profile fits its first rows.
abbrev pub FitsFirst : Type 0
FitsFirst = (d : Doc) → Fits d → FitsRows first_rows d

-- The profile's message of a document is its message by the first rows with the ids that the later
-- rows define. Its other ids are those of the message by the first rows.
abbrev pub MarkedInTwo : Type 0
MarkedInTwo = (side : Side) (d first m : Doc) → is_plain d ≡ true
    → IsTypedByRows first_rows side d first → IsTyped side d m
    → (m ≡ with_later_ids side first) × (first_ids m ≡ ids first)

-- Let n differ from a message by the first rows only in the numbers of its ids, all of which are
-- valid for their kinds. Then n with its ids as integers is typed by the profile, as n with the ids
-- that the later rows define. This result differs from the profile's message of the same document
-- at most in the numbers of its other ids, which are those of n.
abbrev pub FirstTypedAgain : Type 0
FirstTypedAgain = (side : Side) (d first m n : Doc) → is_plain d ≡ true
    → IsTypedByRows first_rows side d first → IsTyped side d m → skeleton n ≡ skeleton first
    → has_id_numbers n ≡ true
    → IsTyped side (without_ids n) (with_later_ids side n) × HasLaterIds side m n

-- The same for the text of such a document, if some content is that of both messages.
abbrev pub FirstContentTypedAgain : Type 0
FirstContentTypedAgain = (side : Side) (bytes : List ℕ) (first m n : Doc)
    → IsTypedContentByRows first_rows side bytes first → IsTypedContent side bytes m
    → skeleton n ≡ skeleton first → has_id_numbers n ≡ true
    → IsTypedContent side (text_of n) (with_later_ids side n) × HasLaterIds side m n

-- ---- properties that do not depend on the numbers

-- The skeleton of a message determines its kind, its name and its success.
abbrev pub SkeletonIffSameButIds : Type 0
SkeletonIffSameButIds = (m n : Doc) → skeleton n ≡ skeleton m
    → (kind_of n ≡ kind_of m) × (name_of n ≡ name_of m) × (success_of n ≡ success_of m)

-- The i-th id has the i-th number.
abbrev pub Renumbers : Type 0
Renumbers = (d : Doc) (ns : List ℤ) → length ns ≡ length (ids d)
    → ids (with_ids d ns) ≡ renumbered d ns

-- ---- violated rows

-- The rows are numbered from 1 to the last, in order.
abbrev pub ProfileNumbered : Type 0
ProfileNumbered = AreNumbered profile

-- A document fits if and only if it is an object of a known kind and no row is violated at any
-- path.
abbrev pub FitsByPath : Type 0
FitsByPath = (d : Doc)
    → Fits d ↔ (IsJudged d × ((r : ProfileRow) → Contains profile r → IsKept r d))

-- The error names a row if and only if the following holds. The document is an object of a known
-- kind, and the row is violated at some path, for this cause at the first one. No row with a lower
-- number is violated at any path.
abbrev pub FaultByPath : Type 0
FaultByPath = (d : Doc) (n : ℕ) (c : Cause)
    → (fault d ≡ Some (of_row n c)) ↔ (IsJudged d × IsLeastBroken d n c)

-- ---- marks and capabilities

-- The ids are exactly those that the rows define, path by path.
abbrev pub MarkedByPath : Type 0
MarkedByPath = (side : Side) (d : Doc) → IsMarked profile side d (mark side d)

-- No other document has exactly these ids.
abbrev pub OneMarked : Type 0
OneMarked = (side : Side) (d e : Doc) → is_ordered d ≡ true → IsMarked profile side d e
    → e ≡ mark side d

-- Filling in capabilities violates no row.
abbrev pub FilledFits : Type 0
FilledFits = (side : Side) (d : Doc) → Fits d → Fits (filled side d)

-- Filling them in twice is the same as once.
abbrev pub FilledOnce : Type 0
FilledOnce = (side : Side) (d : Doc) → filled side (filled side d) ≡ filled side d
