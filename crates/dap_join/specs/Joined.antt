-- The records of a recording with its output joined. Source: own, over the event `output` of the
-- DAP specification.
use Rattle.std.specs.Prelude.{ℕ, ℤ, Bool, true, false, cond, List, [], ◌∷◌, ◌++◌, map, Option, Some}
use Rattle.std.specs.Prelude.{None, codes, bytes_eq}
use Rattle.std.specs.List.{flat_map, list_any}
use Rattle.std.specs.Cmp.Lexicographic.{slice_cmp}
use Rattle.std.specs.Ordering.{nat_cmp, match_ordering}
use Rattle.dap_tree.specs.Doc.{Doc, whole, text, object, Members, no_members, member}
use Rattle.dap_tree.specs.Json.{text_of}
use Rattle.dap_tree.specs.declared.side.Side.TheVariants.{Adapter}
use Rattle.dap_normalise.specs.Accepting.{Payload}
use Rattle.dap_join.specs.Outputs.{Item, Output, Part, output, stopped, other}
use Rattle.dap_mask.specs.declared.joining.Joining.{Joining}
use Rattle.dap_mask.specs.declared.joining.Joining.TheVariants.{Whole, PerStop}

-- A record of the joined recording, and the number of the record of the input that it is, or of the
-- first one if several are joined.
pub record Numbered : Type 0 where
  pub number : ℕ
  pub held : Payload

-- ---- the output of one category

-- The joined output of a category: all of its text, with the number and the `seq` of its first
-- event.
pub record Group : Type 0 where
  pub number : ℕ
  pub seq : Option ℤ
  pub category : List ℕ
  pub text : List ℕ

-- The member `seq` before these members, if there is a `seq`.
abbrev pub seq_before : Option ℤ → Members → Members
seq_before None ms = ms
seq_before (Some z) ms = member (codes "seq") (whole z) ms

-- The body of the event of joined output.
abbrev pub body_of : List ℕ → List ℕ → Doc
body_of category s = object (member (codes "category") (text category)
    (member (codes "output") (text s) no_members))

-- The event of joined output. Its members are in byte order.
abbrev pub event_of : Group → Doc
event_of group = object (member (codes "body") (body_of group.category group.text)
    (member (codes "event") (text (codes "output"))
    (seq_before group.seq (member (codes "type") (text (codes "event")) no_members))))

-- The record of joined output.
abbrev pub joined_output : Group → Numbered
joined_output group =
    record { number = group.number; held = (Adapter, text_of (event_of group)) }

-- ---- the output by categories

abbrev pub has_category : List ℕ → List Group → Bool
has_category category groups = list_any (λ group. bytes_eq category group.category) groups

-- Appends the text to that of the first group of the category.
abbrev pub append_text : List ℕ → List ℕ → List Group → List Group
append_text category s [] = []
append_text category s (group ∷ groups) =
    cond (bytes_eq category group.category)
    (record {
      number = group.number;
      seq = group.seq;
      category = group.category;
      text = group.text ++ s;
    } ∷ groups)
    (group ∷ append_text category s groups)

-- Inserts a group of a new category at its place in the byte order of the categories.
abbrev pub insert_group : Group → List Group → List Group
insert_group new [] = new ∷ []
insert_group new (group ∷ groups) =
    match_ordering (slice_cmp nat_cmp new.category group.category) (new ∷ group ∷ groups)
    (group ∷ groups) (group ∷ insert_group new groups)

-- The group of one output.
abbrev pub group_of : ℕ → Output → Group
group_of number o =
    record { number = number; seq = o.seq; category = o.category; text = o.text }

-- Joins one more output to the groups.
abbrev pub add_output : ℕ → Output → List Group → List Group
add_output number o groups =
    cond (has_category o.category groups) (append_text o.category o.text groups)
    (insert_group (group_of number o) groups)

abbrev pub add_part : ℕ → Part → List Group → List Group
add_part number (output o) groups = add_output number o groups
add_part number stopped groups = groups
add_part number other groups = groups

-- The groups after these items.
abbrev pub groups_after : List Group → List Item → List Group
groups_after groups [] = groups
groups_after groups (item ∷ items) =
    groups_after (add_part item.number item.part groups) items

-- The output among the items: a group for each category, in the byte order of the categories.
abbrev pub groups_of : List Item → List Group
groups_of items = groups_after [] items

-- ---- the joined records

-- The record of the item, unless it is output.
abbrev pub kept : ℕ → Payload → Part → List Numbered
kept number held (output o) = []
kept number held stopped = record { number = number; held = held } ∷ []
kept number held other = record { number = number; held = held } ∷ []

-- The records of the items that are not output, unchanged.
abbrev pub others : List Item → List Numbered
others items = flat_map (λ item. kept item.number item.held item.part) items

-- The items that are not output, and after them the joined output of each category.
abbrev pub gathered : List Item → List Numbered
gathered items = others items ++ map joined_output (groups_of items)

-- The item starts a new segment.
abbrev pub starts : Joining → Part → Bool
starts Whole part = false
starts PerStop (output o) = false
starts PerStop stopped = true
starts PerStop other = false

-- The items before the first one that starts a new segment.
abbrev pub first_segment : Joining → List Item → List Item
first_segment joining [] = []
first_segment joining (item ∷ items) =
    cond (starts joining item.part) [] (item ∷ first_segment joining items)

-- The segments after the first one. Each starts with the item that starts it.
abbrev pub later_segments : Joining → List Item → List (List Item)
later_segments joining [] = []
later_segments joining (item ∷ items) =
    cond (starts joining item.part)
    ((item ∷ first_segment joining items) ∷ later_segments joining items)
    (later_segments joining items)

-- The segments in which output is joined: the whole recording, or its parts between two `stopped`
-- events.
abbrev pub segments : Joining → List Item → List (List Item)
segments joining items = first_segment joining items ∷ later_segments joining items

-- The records of the joined recording.
abbrev pub joined : Joining → List Item → List Numbered
joined joining items = flat_map gathered (segments joining items)
