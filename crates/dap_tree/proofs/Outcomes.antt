-- Each content has exactly one outcome, and a document that was read is sound.
use Rattle.std.proofs.Common.{◌≡◌, ℕ, ◌≤◌, ◌<◌, inl, inr, ℤ, pos, negsuc, List, [], ◌∷◌, length}
use Rattle.std.proofs.Common.{Bool, true, false, not, ◌&&◌, Option, Some, None, Result, Ok, Err}
use Rattle.std.proofs.Common.{IfOk, IfErr, MatchResult, refl, sym, ap, ap₂, ◌∙◌, subst, leb, le-leb}
use Rattle.std.proofs.Common.{arith}
use Rattle.std.proofs.lemmas.Bool.{cases_Bool}
use Rattle.std.proofs.lemmas.Str.{IsUtf8-from_is_utf8, is_utf8-from_IsUtf8}
use Rattle.std.specs.Str.{is_utf8}
use Rattle.std.specs.Prelude.{IsUtf8}
use Rattle.serde_json.specs.Data as json
use Rattle.serde_json.specs.Find.{of_integer, is_float}
use Rattle.serde_json.specs.Read.{read}
use Rattle.serde_json.specs.Written.{has_float, items_have_float, members_have_float}
use Rattle.serde_json.proofs.Nesting.{depth-read}
use Rattle.serde_json.proofs.OnLiterals.{serde_json_on_literals}
use Rattle.dap_tree.specs.Doc.{Doc, null, boolean, whole, text, list, object, id, Items, no_items}
use Rattle.dap_tree.specs.Doc.{item, Members, no_members, member, in_range, all_in_range}
use Rattle.dap_tree.specs.Doc.{items_in_range, members_in_range, has_id, items_have_id}
use Rattle.dap_tree.specs.Doc.{members_have_id, depth, is_sound, is_plain}
use Rattle.dap_tree.specs.Ids.{without_ids, items_without_ids, members_without_ids}
use Rattle.dap_tree.specs.Json.{data_of, items_data, members_data, Reads, IsRead, HasFraction}
use Rattle.dap_tree.specs.Json.{Outcome, document, no_reading, fraction, HasOutcome, ExplainsText}
use Rattle.dap_tree.specs.Json.{ExplainsData, FaultMatches}
use Rattle.dap_tree.specs.View.{view}
use Rattle.dap_tree.specs.declared.tree.Tree.{Tree}
use Rattle.dap_tree.specs.declared.fault.TreeFault.{TreeFault}
use Rattle.dap_tree.specs.declared.fault.TreeFault.TheVariants.{Json, Fraction, Memory}
use Rattle.dap_tree.proofs.Booleans.{and_left, and_right, and_both, or_left, or_right, or_both}
use Rattle.dap_tree.proofs.Depths.{depth_data}
use Rattle.dap_tree.proofs.Numbers.{is_kept, all_kept, items_kept, members_kept, kept_read}
use Rattle.dap_tree.proofs.WithoutIds.{without_no_id}
use Rattle.dap_tree.proofs.Writing.{no_float}

-- ---- the document of a value without floats

abbrev whole_of : json.Num → Doc
whole_of (json.unsigned n) = whole (pos n)
whole_of (json.negative z) = whole z
whole_of (json.float x) = null

abbrev mutual
  doc_of : json.Data → Doc
  doc_of json.null = null
  doc_of (json.boolean b) = boolean b
  doc_of (json.number n) = whole_of n
  doc_of (json.string s) = text s
  doc_of (json.array ds) = list (items_doc ds)
  doc_of (json.object ms) = object (members_doc ms)

  items_doc : json.Items → Items
  items_doc json.no_items = no_items
  items_doc (json.item d ds) = item (doc_of d) (items_doc ds)

  members_doc : json.Members → Members
  members_doc json.no_members = no_members
  members_doc (json.member k d ms) = member k (doc_of d) (members_doc ms)

whole_back : (z : ℤ) → whole_of (of_integer z) ≡ whole z
whole_back (pos n) = refl
whole_back (negsuc n) = refl

mutual
  back : (d : Doc) → doc_of (data_of d) ≡ without_ids d
  back null = refl
  back (boolean b) = refl
  back (whole z) = whole_back z
  back (text s) = refl
  back (list ds) = ap list (items_back ds)
  back (object ms) = ap object (members_back ms)
  back (id s z) = whole_back z

  items_back : (ds : Items) → items_doc (items_data ds) ≡ items_without_ids ds
  items_back no_items = refl
  items_back (item d ds) = ap₂ item (back d) (items_back ds)

  members_back : (ms : Members) → members_doc (members_data ms) ≡ members_without_ids ms
  members_back no_members = refl
  members_back (member k d ms) = ap₂ (member k) (back d) (members_back ms)

-- documents with the same text are equal, except for their ids
pub without_from_data : (d e : Doc) → data_of d ≡ data_of e → without_ids d ≡ without_ids e
without_from_data d e h = sym (back d) ∙ ap doc_of h ∙ back e

no_id_whole : (n : json.Num) → has_id (whole_of n) ≡ false
no_id_whole (json.unsigned n) = refl
no_id_whole (json.negative z) = refl
no_id_whole (json.float x) = refl

mutual
  no_id_doc : (d : json.Data) → has_id (doc_of d) ≡ false
  no_id_doc json.null = refl
  no_id_doc (json.boolean b) = refl
  no_id_doc (json.number n) = no_id_whole n
  no_id_doc (json.string s) = refl
  no_id_doc (json.array ds) = no_id_items ds
  no_id_doc (json.object ms) = no_id_members ms

  no_id_items : (ds : json.Items) → items_have_id (items_doc ds) ≡ false
  no_id_items json.no_items = refl
  no_id_items (json.item d ds) = or_both _ _ (no_id_doc d) (no_id_items ds)

  no_id_members : (ms : json.Members) → members_have_id (members_doc ms) ≡ false
  no_id_members json.no_members = refl
  no_id_members (json.member k d ms) = or_both _ _ (no_id_doc d) (no_id_members ms)

number_forth : (n : json.Num) → is_float n ≡ false → is_kept n ≡ true
    → data_of (whole_of n) ≡ json.number n
number_forth (json.unsigned n) exact kept = refl
number_forth (json.negative (pos n)) exact kept = absurd cc
number_forth (json.negative (negsuc n)) exact kept = refl
number_forth (json.float x) exact kept = absurd cc

mutual
  forth : (d : json.Data) → has_float d ≡ false → all_kept d ≡ true → data_of (doc_of d) ≡ d
  forth json.null exact kept = refl
  forth (json.boolean b) exact kept = refl
  forth (json.number n) exact kept = number_forth n exact kept
  forth (json.string s) exact kept = refl
  forth (json.array ds) exact kept = ap json.array (items_forth ds exact kept)
  forth (json.object ms) exact kept = ap json.object (members_forth ms exact kept)

  items_forth : (ds : json.Items) → items_have_float ds ≡ false → items_kept ds ≡ true
      → items_data (items_doc ds) ≡ ds
  items_forth json.no_items exact kept = refl
  items_forth (json.item d ds) exact kept =
      ap₂ json.item (forth d (or_left _ _ exact) (and_left _ _ kept))
      (items_forth ds (or_right (has_float d) _ exact) (and_right (all_kept d) _ kept))

  members_forth : (ms : json.Members) → members_have_float ms ≡ false → members_kept ms ≡ true
      → members_data (members_doc ms) ≡ ms
  members_forth json.no_members exact kept = refl
  members_forth (json.member k d ms) exact kept =
      ap₂ (json.member k) (forth d (or_left _ _ exact) (and_left _ _ kept))
      (members_forth ms (or_right (has_float d) _ exact) (and_right (all_kept d) _ kept))

-- ---- one outcome

same_some : {A : Type 0} (a b : A) → Some a ≡ Some b → a ≡ b
same_some a b h = cc

-- a content is the text of at most one value
same_value : (bytes : List ℕ) (d e : json.Data) → Reads bytes d → Reads bytes e → d ≡ e
same_value bytes d e h k = same_some d e (sym h.1 ∙ k.1)

pub read_once : (bytes : List ℕ) (d e : Doc) → IsRead bytes d → IsRead bytes e → d ≡ e
read_once bytes d e h k =
    sym (without_no_id d h.1)
    ∙ without_from_data d e (same_value bytes (data_of d) (data_of e) h.0 k.0) ∙ without_no_id e k.1

not_both : (b : Bool) → b ≡ true → b ≡ false → ⊥
not_both b h k = cc

-- a content that is read as a tree has no fraction
pub whole_or_fraction : (bytes : List ℕ) (d : Doc) → IsRead bytes d → HasFraction bytes → ⊥
whole_or_fraction bytes d h f =
    not_both (has_float f.0) f.2 (ap has_float (same_value bytes f.0 (data_of d) f.1 h.0)
    ∙ no_float d)

pub one_outcome : (bytes : List ℕ) (o p : Outcome) → HasOutcome bytes o → HasOutcome bytes p → o ≡ p
one_outcome bytes (document d) (document e) h k = ap document (read_once bytes d e h k)
one_outcome bytes (document d) no_reading h k = absurd (k (data_of d) h.0)
one_outcome bytes (document d) fraction h k = absurd (whole_or_fraction bytes d h k)
one_outcome bytes no_reading (document e) h k = absurd (h (data_of e) k.0)
one_outcome bytes no_reading no_reading h k = refl
one_outcome bytes no_reading fraction h k = absurd (h k.0 k.1)
one_outcome bytes fraction (document e) h k = absurd (whole_or_fraction bytes e k h)
one_outcome bytes fraction no_reading h k = absurd (k h.0 h.1)
one_outcome bytes fraction fraction h k = refl

-- ---- some outcome

some_of : (bytes : List ℕ) (r : Option json.Data) → read bytes ≡ r → IsUtf8 bytes
    → (o : Outcome) × HasOutcome bytes o
some_of bytes None is utf8 =
    (no_reading, λ d h. let never : None ≡ Some d = sym is ∙ h.1 in absurd cc)
some_of bytes (Some d) is utf8 = elim (cases_Bool (has_float d)) [
  | inl float ↦ (fraction, (d, (utf8, is), float))
  | inr exact ↦ (
    document (doc_of d),
    ((utf8, is ∙ ap Some (sym (forth d exact (kept_read bytes d is)))), no_id_doc d),
  )
]

pub some_outcome : (bytes : List ℕ) → (o : Outcome) × HasOutcome bytes o
some_outcome bytes = elim (cases_Bool (is_utf8 bytes)) [
  | inl utf8 ↦ some_of bytes (read bytes) refl (IsUtf8-from_is_utf8 bytes utf8)
  | inr other ↦ (no_reading, λ d h. not_both (is_utf8 bytes) (is_utf8-from_IsUtf8 bytes h.0) other)
]

-- ---- soundness

kept_whole : (z : ℤ) → is_kept (of_integer z) ≡ in_range z
kept_whole (pos n) = refl
kept_whole (negsuc n) = refl

mutual
  kept_data : (d : Doc) → has_id d ≡ false → all_kept (data_of d) ≡ all_in_range d
  kept_data null h = refl
  kept_data (boolean b) h = refl
  kept_data (whole z) h = kept_whole z
  kept_data (text s) h = refl
  kept_data (list ds) h = items_kept_data ds h
  kept_data (object ms) h = members_kept_data ms h
  kept_data (id s z) h = cc

  items_kept_data : (ds : Items) → items_have_id ds ≡ false
      → items_kept (items_data ds) ≡ items_in_range ds
  items_kept_data no_items h = refl
  items_kept_data (item d ds) h =
      ap₂ (λ a b. a && b) (kept_data d (or_left _ _ h))
      (items_kept_data ds (or_right (has_id d) _ h))

  members_kept_data : (ms : Members) → members_have_id ms ≡ false
      → members_kept (members_data ms) ≡ members_in_range ms
  members_kept_data no_members h = refl
  members_kept_data (member k d ms) h =
      ap₂ (λ a b. a && b) (kept_data d (or_left _ _ h))
      (members_kept_data ms (or_right (has_id d) _ h))

read_is_sound : (bytes : List ℕ) (d : Doc) → IsRead bytes d → is_sound d ≡ true
read_is_sound bytes d h =
    let shallow : depth d ≤ 127 =
    subst (λ n. n ≤ 127) (depth_data d) (depth-read bytes (data_of d) h.0.1) in
    and_both (leb (depth d) 127) (all_in_range d) (le-leb (depth d) 127 shallow)
    (sym (kept_data d h.1) ∙ kept_read bytes (data_of d) h.0.1)

pub read_is_plain : (bytes : List ℕ) (d : Doc) → IsRead bytes d → is_plain d ≡ true
read_is_plain bytes d h =
    and_both (is_sound d) (not (has_id d)) (read_is_sound bytes d h) (ap not h.1)

-- ---- the results of `read_tree`

pub document_answers : (bytes : List ℕ) (t : Tree) (o : Outcome) → IsRead bytes (view t)
    → HasOutcome bytes o → o ≡ document (view t)
document_answers bytes t o h has = one_outcome bytes o (document (view t)) has h

pub fault_answers : (bytes : List ℕ) (f : TreeFault) (o : Outcome) → ExplainsText bytes f
    → HasOutcome bytes o → FaultMatches o f
fault_answers bytes Json o h has = one_outcome bytes o no_reading has h
fault_answers bytes Fraction o h has = one_outcome bytes o fraction has h
fault_answers bytes Memory o h has = tt

-- an error in the value that was read is an error of the content
pub explains_text : (bytes : List ℕ) (v : json.Data) (f : TreeFault) → Reads bytes v
    → ExplainsData v f → ExplainsText bytes f
explains_text bytes v Json reads h = absurd h
explains_text bytes v Fraction reads h = (v, reads, h)
explains_text bytes v Memory reads h = tt

pub explained : (bytes : List ℕ) (v : json.Data) (r : Result Tree TreeFault) → Reads bytes v
    → IfErr r (ExplainsData v) → IfErr r (ExplainsText bytes)
explained bytes v (Ok t) reads err = tt
explained bytes v (Err f) reads err = explains_text bytes v f reads err

pub plain_answers : (bytes : List ℕ) (r : Result Tree TreeFault)
    → IfOk r (λ t. IsRead bytes (view t)) → IfOk r (λ t. is_plain (view t) ≡ true)
plain_answers bytes (Ok t) ok = read_is_plain bytes (view t) ok
plain_answers bytes (Err f) ok = tt

pub answers : (bytes : List ℕ) (r : Result Tree TreeFault) (o : Outcome)
    → IfOk r (λ t. IsRead bytes (view t)) → IfErr r (ExplainsText bytes) → HasOutcome bytes o
    → MatchResult r (λ t. o ≡ document (view t)) (FaultMatches o)
answers bytes (Ok t) o ok err has = document_answers bytes t o ok has
answers bytes (Err f) o ok err has = fault_answers bytes f o err has

-- ---- the empty content

-- no value is read from it
pub some_byte : (bytes : List ℕ) (v : json.Data) → read bytes ≡ Some v → 0 < length bytes
unfolding serde_json_on_literals
some_byte [] v h = let nothing : read [] ≡ None = refl in cc
some_byte (b ∷ bytes) v h = omega arith
