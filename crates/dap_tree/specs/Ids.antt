-- The ids of a document in the order of its text, and replacing their numbers.
use Rattle.std.specs.Prelude.{◌≡◌, ℕ, ◌+◌, ℤ, pos, List, [], ◌∷◌, ◌++◌, map, drop, slice_index_or}
use Rattle.std.specs.Prelude.{Bool, true, ◌&&◌}
use Rattle.dap_tree.specs.declared.sort.Sort.{Sort}
use Rattle.dap_tree.specs.Doc.{Doc, null, boolean, whole, text, list, object, id, Items, no_items}
use Rattle.dap_tree.specs.Doc.{item, Members, no_members, member, in_range}

-- The ids, each a kind and a number, in the order in which they occur in the text of the document
-- (own).
abbrev mutual
  pub ids : Doc → List (Sort × ℤ)
  ids null = []
  ids (boolean b) = []
  ids (whole z) = []
  ids (text s) = []
  ids (list ds) = items_ids ds
  ids (object ms) = members_ids ms
  ids (id s z) = (s, z) ∷ []

  pub items_ids : Items → List (Sort × ℤ)
  items_ids no_items = []
  items_ids (item d ds) = ids d ++ items_ids ds

  pub members_ids : Members → List (Sort × ℤ)
  members_ids no_members = []
  members_ids (member k d ms) = ids d ++ members_ids ms

-- The kinds of the ids, and their numbers.
abbrev pub sorts_of : List (Sort × ℤ) → List Sort
sorts_of is = map (λ i. i.0) is

abbrev pub numbers_of : List (Sort × ℤ) → List ℤ
numbers_of is = map (λ i. i.1) is

-- The number of ids of the document.
abbrev mutual
  pub id_count : Doc → ℕ
  id_count null = 0
  id_count (boolean b) = 0
  id_count (whole z) = 0
  id_count (text s) = 0
  id_count (list ds) = items_id_count ds
  id_count (object ms) = members_id_count ms
  id_count (id s z) = 1

  pub items_id_count : Items → ℕ
  items_id_count no_items = 0
  items_id_count (item d ds) = id_count d + items_id_count ds

  pub members_id_count : Members → ℕ
  members_id_count no_members = 0
  members_id_count (member k d ms) = id_count d + members_id_count ms

-- Sets the i-th id of the document to the i-th number (own). If there are fewer numbers than ids,
-- the remaining ids are unchanged.
abbrev mutual
  pub with_ids : Doc → List ℤ → Doc
  with_ids null ns = null
  with_ids (boolean b) ns = boolean b
  with_ids (whole z) ns = whole z
  with_ids (text s) ns = text s
  with_ids (list ds) ns = list (items_with_ids ds ns)
  with_ids (object ms) ns = object (members_with_ids ms ns)
  with_ids (id s z) ns = id s (slice_index_or ns 0 z)

  pub items_with_ids : Items → List ℤ → Items
  items_with_ids no_items ns = no_items
  items_with_ids (item d ds) ns = item (with_ids d ns) (items_with_ids ds (drop (id_count d) ns))

  pub members_with_ids : Members → List ℤ → Members
  members_with_ids no_members ns = no_members
  members_with_ids (member k d ms) ns =
      member k (with_ids d ns) (members_with_ids ms (drop (id_count d) ns))

-- Replaces each id of the document by f of its kind and number (own).
abbrev mutual
  pub map_ids : (Sort → ℤ → Doc) → Doc → Doc
  map_ids f null = null
  map_ids f (boolean b) = boolean b
  map_ids f (whole z) = whole z
  map_ids f (text s) = text s
  map_ids f (list ds) = list (items_map_ids f ds)
  map_ids f (object ms) = object (members_map_ids f ms)
  map_ids f (id s z) = f s z

  pub items_map_ids : (Sort → ℤ → Doc) → Items → Items
  items_map_ids f no_items = no_items
  items_map_ids f (item d ds) = item (map_ids f d) (items_map_ids f ds)

  pub members_map_ids : (Sort → ℤ → Doc) → Members → Members
  members_map_ids f no_members = no_members
  members_map_ids f (member k d ms) = member k (map_ids f d) (members_map_ids f ms)

-- An id as an integer, and an id with the number 0.
abbrev pub as_whole : Sort → ℤ → Doc
as_whole s z = whole z

abbrev pub as_zero : Sort → ℤ → Doc
as_zero s z = id s (pos 0)

-- The document with each id as an integer (own). Its text is the same.
abbrev pub without_ids : Doc → Doc
without_ids d = map_ids as_whole d

abbrev pub items_without_ids : Items → Items
items_without_ids ds = items_map_ids as_whole ds

abbrev pub members_without_ids : Members → Members
members_without_ids ms = members_map_ids as_whole ms

-- The document with 0 as the number of each id (own): two documents have the same skeleton if they
-- differ at most in the numbers of their ids.
abbrev pub skeleton : Doc → Doc
skeleton d = map_ids as_zero d

abbrev pub items_skeleton : Items → Items
items_skeleton ds = items_map_ids as_zero ds

abbrev pub members_skeleton : Members → Members
members_skeleton ms = members_map_ids as_zero ms

-- The number of each id is in the range of integers (own). This holds for every `Tree`, since its
-- ids have 64 bits.
abbrev mutual
  pub ids_in_range : Doc → Bool
  ids_in_range null = true
  ids_in_range (boolean b) = true
  ids_in_range (whole z) = true
  ids_in_range (text s) = true
  ids_in_range (list ds) = items_ids_in_range ds
  ids_in_range (object ms) = members_ids_in_range ms
  ids_in_range (id s z) = in_range z

  pub items_ids_in_range : Items → Bool
  items_ids_in_range no_items = true
  items_ids_in_range (item d ds) = ids_in_range d && items_ids_in_range ds

  pub members_ids_in_range : Members → Bool
  members_ids_in_range no_members = true
  members_ids_in_range (member k d ms) = ids_in_range d && members_ids_in_range ms

-- For private clauses: the new list is the old list, possibly with more appended.
abbrev pub Extends : List (Sort × ℤ) → List (Sort × ℤ) → Type 0
Extends old new = (more : List (Sort × ℤ)) × (new ≡ old ++ more)
