-- The model of a tree: a JSON value of integers and ids. Every `Tree` has the members of its
-- objects in the byte order of their names.
use Rattle.std.specs.Prelude.{ℕ, suc, max, ◌^◌, ◌-◌, ℤ, pos, negsuc, List, [], Bool, true, false}
use Rattle.std.specs.Prelude.{◌&&◌, ◌||◌, not, nat_le, nat_lt, Option, Some, None}
use Rattle.std.specs.Ordering.{nat_cmp, match_ordering, is_lt}
use Rattle.std.specs.Cmp.Lexicographic.{slice_cmp}
use Rattle.std.specs.Str.{is_utf8}
use Rattle.dap_tree.specs.declared.sort.Sort.{Sort}

mutual
  pub data Doc : Type 0 where
    null : Doc
    boolean : Bool → Doc
    whole : ℤ → Doc
    text : List ℕ → Doc
    list : Items → Doc
    object : Members → Doc
    id : Sort → ℤ → Doc

  pub data Items : Type 0 where
    no_items : Items
    item : Doc → Items → Items

  pub data Members : Type 0 where
    no_members : Members
    member : List ℕ → Doc → Members → Members

-- The document is null, a boolean, a number or an id: its tree has a fixed size and owns no memory.
abbrev pub has_fixed_size : Doc → Bool
has_fixed_size null = true
has_fixed_size (boolean b) = true
has_fixed_size (whole z) = true
has_fixed_size (text s) = false
has_fixed_size (list ds) = false
has_fixed_size (object ms) = false
has_fixed_size (id s z) = true

-- The document is an empty string, array or object.
abbrev pub is_empty : Doc → Bool
is_empty (text []) = true
is_empty (list no_items) = true
is_empty (object no_members) = true
is_empty _ = false

-- ---- sound documents

-- Nesting depth (own). An array or object is one level deeper than its deepest element or member;
-- everything else has depth 0.
abbrev mutual
  pub depth : Doc → ℕ
  depth null = 0
  depth (boolean b) = 0
  depth (whole z) = 0
  depth (text s) = 0
  depth (list ds) = suc (items_depth ds)
  depth (object ms) = suc (members_depth ms)
  depth (id s z) = 0

  pub items_depth : Items → ℕ
  items_depth no_items = 0
  items_depth (item d ds) = max (depth d) (items_depth ds)

  pub members_depth : Members → ℕ
  members_depth no_members = 0
  members_depth (member k d ms) = max (depth d) (members_depth ms)

-- The integers that a tree may contain (own): from -2^63 to 2^64 - 1.
abbrev pub in_range : ℤ → Bool
in_range (pos n) = nat_lt n (2 ^ 64)
in_range (negsuc n) = nat_lt n (2 ^ 63)

-- Every integer of the document is in range. The number of an id is not checked: it always has 64
-- bits.
abbrev mutual
  pub all_in_range : Doc → Bool
  all_in_range null = true
  all_in_range (boolean b) = true
  all_in_range (whole z) = in_range z
  all_in_range (text s) = true
  all_in_range (list ds) = items_in_range ds
  all_in_range (object ms) = members_in_range ms
  all_in_range (id s z) = true

  pub items_in_range : Items → Bool
  items_in_range no_items = true
  items_in_range (item d ds) = all_in_range d && items_in_range ds

  pub members_in_range : Members → Bool
  members_in_range no_members = true
  members_in_range (member k d ms) = all_in_range d && members_in_range ms

-- The maximum nesting depth of JSON (the reader of serde_json).
abbrev pub max_depth : ℕ
max_depth = 127

-- A sound document (own) can be written and read back.
abbrev pub is_sound : Doc → Bool
is_sound d = nat_le (depth d) max_depth && all_in_range d

-- The document contains an id.
abbrev mutual
  pub has_id : Doc → Bool
  has_id null = false
  has_id (boolean b) = false
  has_id (whole z) = false
  has_id (text s) = false
  has_id (list ds) = items_have_id ds
  has_id (object ms) = members_have_id ms
  has_id (id s z) = true

  pub items_have_id : Items → Bool
  items_have_id no_items = false
  items_have_id (item d ds) = has_id d || items_have_id ds

  pub members_have_id : Members → Bool
  members_have_id no_members = false
  members_have_id (member k d ms) = has_id d || members_have_id ms

-- A plain document (own) is sound and has no id. Every content that is accepted is read as a plain
-- document.
abbrev pub is_plain : Doc → Bool
is_plain d = is_sound d && not (has_id d)

-- For lemmas: the properties of a plain document other than its depth. Every integer is in range,
-- and there is no id.
abbrev mutual
  pub all_plain : Doc → Bool
  all_plain null = true
  all_plain (boolean b) = true
  all_plain (whole z) = in_range z
  all_plain (text s) = true
  all_plain (list ds) = items_plain ds
  all_plain (object ms) = members_plain ms
  all_plain (id s z) = false

  pub items_plain : Items → Bool
  items_plain no_items = true
  items_plain (item d ds) = all_plain d && items_plain ds

  pub members_plain : Members → Bool
  members_plain no_members = true
  members_plain (member k d ms) = all_plain d && members_plain ms

-- For private clauses: every integer of the document is in range, and it nests at most n levels
-- deep.
abbrev mutual
  pub fits : ℕ → Doc → Bool
  fits n null = true
  fits n (boolean b) = true
  fits n (whole z) = in_range z
  fits n (text s) = true
  fits n (list ds) = nat_lt 0 n && items_fit (n - 1) ds
  fits n (object ms) = nat_lt 0 n && members_fit (n - 1) ms
  fits n (id s z) = true

  pub items_fit : ℕ → Items → Bool
  items_fit n no_items = true
  items_fit n (item d ds) = fits n d && items_fit n ds

  pub members_fit : ℕ → Members → Bool
  members_fit n no_members = true
  members_fit n (member k d ms) = fits n d && members_fit n ms

-- ---- members

-- The members of an object.
abbrev pub as_object : Doc → Option Members
as_object null = None
as_object (boolean b) = None
as_object (whole z) = None
as_object (text s) = None
as_object (list ds) = None
as_object (object ms) = Some ms
as_object (id s z) = None

abbrev pub get_member : List ℕ → Members → Option Doc
get_member k no_members = None
get_member k (member l e ms) =
    match_ordering (slice_cmp nat_cmp k l) (get_member k ms) (Some e) (get_member k ms)

-- The member of that name (JSON). Only an object has members.
abbrev pub get : List ℕ → Doc → Option Doc
get k null = None
get k (boolean b) = None
get k (whole z) = None
get k (text s) = None
get k (list ds) = None
get k (object ms) = get_member k ms
get k (id s z) = None

-- Inserts d at the name k: replaces the member of that name, or inserts one in byte order.
abbrev pub put : List ℕ → Doc → Members → Members
put k d no_members = member k d no_members
put k d (member l e ms) =
    match_ordering (slice_cmp nat_cmp k l) (member k d (member l e ms)) (member l d ms)
    (member l e (put k d ms))

abbrev pub change_member : List ℕ → (Doc → Doc) → Members → Members
change_member k f no_members = no_members
change_member k f (member l e ms) =
    match_ordering (slice_cmp nat_cmp k l) (member l e (change_member k f ms)) (member l (f e) ms)
    (member l e (change_member k f ms))

-- Replaces the member of that name by f of it (own). The document is unchanged if there is no such
-- member.
abbrev pub change_child : List ℕ → (Doc → Doc) → Doc → Doc
change_child k f null = null
change_child k f (boolean b) = boolean b
change_child k f (whole z) = whole z
change_child k f (text s) = text s
change_child k f (list ds) = list ds
change_child k f (object ms) = object (change_member k f ms)
change_child k f (id s z) = id s z

-- The name is less in byte order than the name of each member.
abbrev pub is_below_all : List ℕ → Members → Bool
is_below_all k no_members = true
is_below_all k (member l e ms) = is_lt (slice_cmp nat_cmp k l) && is_below_all k ms

-- The members of each object are in the byte order of their names, and each name occurs once (own).
-- This holds for every `Tree`.
abbrev mutual
  pub is_ordered : Doc → Bool
  is_ordered null = true
  is_ordered (boolean b) = true
  is_ordered (whole z) = true
  is_ordered (text s) = true
  is_ordered (list ds) = items_ordered ds
  is_ordered (object ms) = members_ordered ms
  is_ordered (id s z) = true

  pub items_ordered : Items → Bool
  items_ordered no_items = true
  items_ordered (item d ds) = is_ordered d && items_ordered ds

  pub members_ordered : Members → Bool
  members_ordered no_members = true
  members_ordered (member k d ms) = is_below_all k ms && (is_ordered d && members_ordered ms)

-- Every string and every member name of the document is UTF-8. This holds for every `Tree`.
abbrev mutual
  pub all_utf8 : Doc → Bool
  all_utf8 null = true
  all_utf8 (boolean b) = true
  all_utf8 (whole z) = true
  all_utf8 (text s) = is_utf8 s
  all_utf8 (list ds) = items_utf8 ds
  all_utf8 (object ms) = members_utf8 ms
  all_utf8 (id s z) = true

  pub items_utf8 : Items → Bool
  items_utf8 no_items = true
  items_utf8 (item d ds) = all_utf8 d && items_utf8 ds

  pub members_utf8 : Members → Bool
  members_utf8 no_members = true
  members_utf8 (member k d ms) = is_utf8 k && (all_utf8 d && members_utf8 ms)

-- ---- items

abbrev pub map_items : (Doc → Doc) → Items → Items
map_items f no_items = no_items
map_items f (item d ds) = item (f d) (map_items f ds)

-- Replaces each item of an array by f of it (own). A document that is not an array is unchanged.
abbrev pub change_items : (Doc → Doc) → Doc → Doc
change_items f null = null
change_items f (boolean b) = boolean b
change_items f (whole z) = whole z
change_items f (text s) = text s
change_items f (list ds) = list (map_items f ds)
change_items f (object ms) = object ms
change_items f (id s z) = id s z
