-- A document without rules, and one more element or member of a named document.
use Rattle.std.proofs.Common.{◌≡◌, List, [], ◌∷◌, ◌++◌, refl, ap, ap₂, sym, ◌∙◌, string_cmp}
use Rattle.std.proofs.Common.{string_bytes, nat_cmp, Less, Greater, append_assoc, append-nil}
use Rattle.std.proofs.Common.{String}
use Rattle.std.proofs.Common.{Global}
use Rattle.std.proofs.lemmas.Cmp.{nat_list_cmp_total}
use Rattle.std.specs.Cmp.Lexicographic.{slice_cmp}
use Rattle.std.specs.List.{AllByRecursion}
use Rattle.std.specs.List.Sorted.{IsStrictlySortedBy}
use Rattle.std.specs.Map.{keys_of}
use Rattle.std.specs.Ordering.{ordering_reverse}
use Rattle.dap_tree.specs.Doc.{Doc, null, boolean, whole, text, list, object, id, Items, no_items}
use Rattle.dap_tree.specs.Doc.{item, Members, no_members, member, put}
use Rattle.dap_tree.specs.View.{view, items_view, members_view}
use Rattle.dap_tree.specs.declared.tree.Tree.{Tree}
use Rattle.dap_tokens.specs.Naming.{Numbering}
use Rattle.dap_naming.specs.Documents.{Declared, below, inside, ids_of, items_ids, members_ids}
use Rattle.dap_naming.specs.Documents.{named_doc, named_items, named_members}
use Rattle.dap_naming.proofs.Heres.{no_ids_of_string, unnamed_string}

abbrev pub Entry : Type 0
Entry = String Global × Tree

-- ---- without rules

mutual
  pub no_ids : (d : Doc) → ids_of [] d ≡ []
  no_ids null = refl
  no_ids (boolean b) = refl
  no_ids (whole z) = refl
  no_ids (text s) = no_ids_of_string [] s refl
  no_ids (list ds) = no_items_ids ds
  no_ids (object ms) = no_members_ids ms
  no_ids (id s z) = refl

  pub no_items_ids : (ds : Items) → items_ids [] ds ≡ []
  no_items_ids no_items = refl
  no_items_ids (item d ds) = ap₂ (λ is js. is ++ js) (no_ids d) (no_items_ids ds)

  pub no_members_ids : (ms : Members) → members_ids [] ms ≡ []
  no_members_ids no_members = refl
  no_members_ids (member k d ms) = ap₂ (λ is js. is ++ js) (no_ids d) (no_members_ids ms)

mutual
  pub same_doc : (n : Numbering) (d : Doc) → named_doc [] n d ≡ d
  same_doc n null = refl
  same_doc n (boolean b) = refl
  same_doc n (whole z) = refl
  same_doc n (text s) = ap text (unnamed_string [] n s refl)
  same_doc n (list ds) = ap list (same_items n ds)
  same_doc n (object ms) = ap object (same_members n ms)
  same_doc n (id s z) = refl

  pub same_items : (n : Numbering) (ds : Items) → named_items [] n ds ≡ ds
  same_items n no_items = refl
  same_items n (item d ds) = ap₂ item (same_doc n d) (same_items n ds)

  pub same_members : (n : Numbering) (ms : Members) → named_members [] n ms ≡ ms
  same_members n no_members = refl
  same_members n (member k d ms) = ap₂ (member k) (same_doc n d) (same_members n ms)

-- ---- one more element

item_last : Items → Doc → Items
item_last no_items e = item e no_items
item_last (item d ds) e = item d (item_last ds e)

view_last : (ts : List Tree) (t : Tree)
    → items_view (ts ++ t ∷ []) ≡ item_last (items_view ts) (view t)
unfolding item_last
view_last [] t = refl
view_last (x ∷ ts) t = ap (item (view x)) (view_last ts t)

pub ids-last : (rs : List Declared) (ts : List Tree) (t : Tree)
    → items_ids rs (items_view (ts ++ t ∷ []))
    ≡ items_ids rs (items_view ts) ++ ids_of (inside (view t) rs) (view t)
ids-last rs [] t = append-nil _
ids-last rs (x ∷ ts) t =
    ap (λ is. ids_of (inside (view x) rs) (view x) ++ is) (ids-last rs ts t)
    ∙ sym (append_assoc (ids_of (inside (view x) rs) (view x)) (items_ids rs (items_view ts)) _)

named_last : (rs : List Declared) (n : Numbering) (ds : Items) (d : Doc)
    → named_items rs n (item_last ds d)
    ≡ item_last (named_items rs n ds) (named_doc (inside d rs) n d)
unfolding item_last
named_last rs n no_items d = refl
named_last rs n (item x ds) d =
    ap (item (named_doc (inside x rs) n x)) (named_last rs n ds d)

pub item_named : (rs : List Declared) (n : Numbering) (us ts : List Tree) (u t : Tree)
    → items_view us ≡ named_items rs n (items_view ts)
    → view u ≡ named_doc (inside (view t) rs) n (view t)
    → items_view (us ++ u ∷ []) ≡ named_items rs n (items_view (ts ++ t ∷ []))
item_named rs n us ts u t h k =
    view_last us u ∙ ap₂ item_last h k ∙ sym (named_last rs n (items_view ts) (view t))
    ∙ ap (named_items rs n) (sym (view_last ts t))

-- ---- one more member

pub member_ids-last : (rs : List Declared) (es : List Entry) (e : Entry)
    → members_ids rs (members_view (es ++ e ∷ []))
    ≡ members_ids rs (members_view es) ++ ids_of (below (string_bytes e.0) rs) (view e.1)
member_ids-last rs [] e = append-nil _
member_ids-last rs (x ∷ es) e =
    ap (λ is. ids_of (below (string_bytes x.0) rs) (view x.1) ++ is) (member_ids-last rs es e)
    ∙ sym (append_assoc (ids_of (below (string_bytes x.0) rs) (view x.1))
    (members_ids rs (members_view es)) _)

below_middle : (first : Entry) (es : List Entry) (e : Entry) (more : List Entry)
    → AllByRecursion (λ y. string_cmp first.0 y ≡ Less) (keys_of (es ++ e ∷ more))
    → string_cmp first.0 e.0 ≡ Less
below_middle first [] e more h = h.0
below_middle first (x ∷ es) e more h = below_middle first es e more h.1

-- a member above all earlier ones is put last
pub put_named : (rs : List Declared) (n : Numbering) (done : List Entry) (e : Entry)
    (more : List Entry) → IsStrictlySortedBy string_cmp (keys_of (done ++ e ∷ more))
    → put (string_bytes e.0) (named_doc (below (string_bytes e.0) rs) n (view e.1))
    (named_members rs n (members_view done))
    ≡ named_members rs n (members_view (done ++ e ∷ []))
unfolding IsStrictlySortedBy
put_named rs n [] e more h = refl
put_named rs n (first ∷ done) e more h =
    let above : slice_cmp nat_cmp (string_bytes e.0) (string_bytes first.0) ≡ Greater =
    nat_list_cmp_total.antisymm (string_bytes e.0) (string_bytes first.0)
    ∙ ap ordering_reverse (below_middle first done e more h.0) in
    rw above (ap (member (string_bytes first.0)
    (named_doc (below (string_bytes first.0) rs) n (view first.1)))
    (put_named rs n done e more h.1))
