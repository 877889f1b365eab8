-- The theorems that the functions of `laws` state.
use Rattle.std.specs.Prelude.{◌≡◌, ◌≢◌, ◌↔◌, ℕ, ℤ, List, [], ◌∷◌, length, true, false, option_map}
use Rattle.std.specs.Prelude.{option_and_then}
use Rattle.dap_tree.specs.Doc.{Doc, get, change_child, change_items, has_id, depth, is_sound}
use Rattle.dap_tree.specs.Doc.{is_plain, is_ordered, all_utf8}
use Rattle.dap_tree.specs.Ids.{ids, sorts_of, numbers_of, id_count, with_ids, without_ids, skeleton}
use Rattle.dap_tree.specs.Ids.{ids_in_range}
use Rattle.dap_tree.specs.Json.{text_of, IsRead, Outcome, HasOutcome}
use Rattle.dap_tree.specs.Path.{Step, name, place, step, at, AreIdPaths}
use Rattle.dap_tree.specs.declared.sort.Sort.{Sort}

-- Every content has an outcome.
abbrev pub SomeOutcome : Type 0
SomeOutcome = (bytes : List ℕ) → (o : Outcome) × HasOutcome bytes o

-- No content has two outcomes, nor two documents.
abbrev pub OneOutcome : Type 0
OneOutcome = (bytes : List ℕ) (o p : Outcome) → HasOutcome bytes o → HasOutcome bytes p → o ≡ p

-- A document that was read is plain.
abbrev pub ReadIsPlain : Type 0
ReadIsPlain = (bytes : List ℕ) (d : Doc) → IsRead bytes d → is_plain d ≡ true

-- The members of every object of a document that was read are in order.
abbrev pub ReadIsOrdered : Type 0
ReadIsOrdered = (bytes : List ℕ) (d : Doc) → IsRead bytes d → is_ordered d ≡ true

-- The strings and member names of a document that was read are UTF-8.
abbrev pub ReadIsUtf8 : Type 0
ReadIsUtf8 = (bytes : List ℕ) (d : Doc) → IsRead bytes d → all_utf8 d ≡ true

-- After a change at a name, the member of that name is f of the old member.
abbrev pub ChangesMember : Type 0
ChangesMember = (k : List ℕ) (f : Doc → Doc) (d : Doc)
    → get k (change_child k f d) ≡ option_map f (get k d)

-- A change at a name does not change any member with another name.
abbrev pub KeepsMembers : Type 0
KeepsMembers = (k : List ℕ) (f : Doc → Doc) (d : Doc) (other : List ℕ) → other ≢ k
    → get other (change_child k f d) ≡ get other d

-- After a change at a name, a path that starts with the name continues in the new member.
abbrev pub ChangesPaths : Type 0
ChangesPaths = (k : List ℕ) (f : Doc → Doc) (d : Doc) (rest : List Step)
    → at (name k ∷ rest) (change_child k f d) ≡ option_and_then (λ e. at rest (f e)) (get k d)

-- A path that starts with another step leads to the same document as before.
abbrev pub KeepsPaths : Type 0
KeepsPaths = (k : List ℕ) (f : Doc → Doc) (d : Doc) (first : Step) (rest : List Step)
    → first ≢ name k → at (first ∷ rest) (change_child k f d) ≡ at (first ∷ rest) d

-- After a change of items, each item is f of the old item.
abbrev pub ChangesItems : Type 0
ChangesItems = (f : Doc → Doc) (d : Doc) (n : ℕ)
    → step (place n) (change_items f d) ≡ option_map f (step (place n) d)

-- A change of items does not change any member.
abbrev pub LeavesMembers : Type 0
LeavesMembers = (f : Doc → Doc) (d : Doc) (k : List ℕ) → get k (change_items f d) ≡ get k d

-- ---- ids

-- A document has no id if and only if its list of ids is empty.
abbrev pub FindsNoIds : Type 0
FindsNoIds = (d : Doc) → (has_id d ≡ false) ↔ (ids d ≡ [])

-- The list of ids has as many elements as are counted.
abbrev pub CountsIds : Type 0
CountsIds = (d : Doc) → length (ids d) ≡ id_count d

-- The i-th id has the i-th number.
abbrev pub NumbersIds : Type 0
NumbersIds = (d : Doc) (ns : List ℤ) → length ns ≡ id_count d
    → numbers_of (ids (with_ids d ns)) ≡ ns

-- A document with the numbers of a list of ids has exactly these ids, if their kinds are those of
-- its own ids.
abbrev pub TakesIds : Type 0
TakesIds = (d : Doc) (is : List (Sort × ℤ)) → sorts_of is ≡ sorts_of (ids d)
    → ids (with_ids d (numbers_of is)) ≡ is

-- Replacing the numbers by the document's own numbers does not change it.
abbrev pub KeepsOwnIds : Type 0
KeepsOwnIds = (d : Doc) → with_ids d (numbers_of (ids d)) ≡ d

-- Replacing the numbers does not change whether a document is sound.
abbrev pub KeepsSound : Type 0
KeepsSound = (d : Doc) (ns : List ℤ) → is_sound (with_ids d ns) ≡ is_sound d

-- Replacing the numbers does not change the skeleton.
abbrev pub KeepsSkeleton : Type 0
KeepsSkeleton = (d : Doc) (ns : List ℤ) → skeleton (with_ids d ns) ≡ skeleton d

-- If two documents have the same skeleton, replacing the numbers of the first by those of the
-- second yields the second.
abbrev pub DiffersInNumbers : Type 0
DiffersInNumbers = (d e : Doc) → skeleton d ≡ skeleton e → with_ids d (numbers_of (ids e)) ≡ e

-- Two documents with the same skeleton and the same ids are equal.
abbrev pub SkeletonIffSameButIds : Type 0
SkeletonIffSameButIds = (d e : Doc) → skeleton d ≡ skeleton e → ids d ≡ ids e → d ≡ e

-- Documents with the same skeleton have ids of the same kinds, in the same order.
abbrev pub SkeletonHasSorts : Type 0
SkeletonHasSorts = (d e : Doc) → skeleton d ≡ skeleton e → sorts_of (ids d) ≡ sorts_of (ids e)

-- Documents with the same skeleton have equally many ids.
abbrev pub SkeletonHasCount : Type 0
SkeletonHasCount = (d e : Doc) → skeleton d ≡ skeleton e → id_count d ≡ id_count e

-- A skeleton has the same depth as its document.
abbrev pub SkeletonHasDepth : Type 0
SkeletonHasDepth = (d : Doc) → depth (skeleton d) ≡ depth d

-- A skeleton is sound if and only if its document is.
abbrev pub SkeletonIsAsSound : Type 0
SkeletonIsAsSound = (d : Doc) → is_sound (skeleton d) ≡ is_sound d

-- The members of a skeleton are in order if and only if those of its document are.
abbrev pub SkeletonIsAsOrdered : Type 0
SkeletonIsAsOrdered = (d : Doc) → is_ordered (skeleton d) ≡ is_ordered d

-- The strings and member names of a skeleton are UTF-8 if and only if those of its document are.
abbrev pub SkeletonIsAsUtf8 : Type 0
SkeletonIsAsUtf8 = (d : Doc) → all_utf8 (skeleton d) ≡ all_utf8 d

-- A sound document becomes plain when its ids are replaced by integers.
abbrev pub WithoutIdsIsPlain : Type 0
WithoutIdsIsPlain = (d : Doc) → is_sound d ≡ true → ids_in_range d ≡ true
    → is_plain (without_ids d) ≡ true

-- Replacing ids by integers does not change a document without ids.
abbrev pub WithoutIdsIsSame : Type 0
WithoutIdsIsSame = (d : Doc) → has_id d ≡ false → without_ids d ≡ d

-- Replacing ids by integers does not change the text of a document.
abbrev pub HasSameText : Type 0
HasSameText = (d : Doc) → text_of (without_ids d) ≡ text_of d

-- Reading the text of a sound document yields the document with its ids replaced by integers.
abbrev pub TextIsRead : Type 0
TextIsRead = (d : Doc) → is_sound d ≡ true → ids_in_range d ≡ true → is_ordered d ≡ true
    → all_utf8 d ≡ true → IsRead (text_of d) (without_ids d)

-- The ids in the order of the text are in the order of their paths.
abbrev pub IdsStandByPath : Type 0
IdsStandByPath = (d : Doc) → is_ordered d ≡ true → (paths : List (List Step)) × AreIdPaths d paths
