-- The ids that the later rows of the profile define, in addition to those of its first rows.
use Rattle.dap_tree.specs.Doc.{Doc}
use Rattle.dap_tree.specs.Ids.{ids, skeleton}
use Rattle.dap_tree.specs.declared.side.Side.{Side}
use Rattle.dap_tree.specs.declared.sort.Sort.{Sort}
use Rattle.dap_tree.specs.declared.sort.Sort.TheVariants.{Thread, Breakpoint}
use Rattle.std.specs.Prelude.{◌≡◌, ℤ, Bool, true, false, not, List}
use Rattle.std.specs.List.{filter}
use Rattle.dap_profile.specs.Profile.{later_rows}
use Rattle.dap_message.specs.Marks.{mark_by_rows}

-- The kinds of ids that the first rows do not define (own).
abbrev pub is_later_sort : Sort → Bool
is_later_sort Thread = true
is_later_sort Breakpoint = true
is_later_sort s = false

-- The ids of the kinds that the first rows define, and those of the later kinds, in order.
abbrev pub first_ids : Doc → List (Sort × ℤ)
first_ids d = filter (λ i. not (is_later_sort i.0)) (ids d)

abbrev pub later_ids : Doc → List (Sort × ℤ)
later_ids d = filter (λ i. is_later_sort i.0) (ids d)

-- The document with the ids that the later rows define.
abbrev pub with_later_ids : Side → Doc → Doc
with_later_ids side d = mark_by_rows later_rows side d

-- The document n, with the ids that the later rows define, differs from m at most in the numbers of
-- its ids of the first kinds. These are the ids of n.
pub record HasLaterIds (side : Side) (m n : Doc) : Type 0 where
  pub skeleton : skeleton (with_later_ids side n) ≡ skeleton m
  pub first : first_ids (with_later_ids side n) ≡ ids n
  pub later : later_ids (with_later_ids side n) ≡ later_ids m
