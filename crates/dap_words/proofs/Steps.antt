-- One more item, and one more member, of a tree with words.
use Rattle.std.proofs.Common.{◌≡◌, ◌∙◌, ℕ, Bool, false, cond, ◌&&◌, List, [], ◌∷◌, ◌++◌}
use Rattle.std.proofs.Common.{refl, sym, ap, ap₂, string_bytes, string_cmp, nat_cmp}
use Rattle.std.proofs.Common.{Ordering, Less, Equal, Greater}
use Rattle.std.specs.BTreeMap.{insert_entry}
use Rattle.std.specs.Cmp.Lexicographic.{slice_cmp}
use Rattle.std.specs.List.Sorted.{IsStrictlySortedBy}
use Rattle.std.specs.Map.{keys_of}
use Rattle.std.specs.Ordering.{match_ordering, is_eq}
use Rattle.std.proofs.lemmas.Map.Text.{is_eq-slice_cmp}
use Rattle.std.proofs.lemmas.Slice.Eq.{bytes_eq-Decides}
use Rattle.dap_tree.specs.Doc.{Doc, Items, no_items, item, Members, no_members, member, put}
use Rattle.dap_tree.specs.View.{view, items_view, members_view}
use Rattle.dap_tree.specs.declared.tree.Tree.{Tree}
use Rattle.dap_tree.proofs.Views.{Entry, members_view-insert_entry, put_last}
use Rattle.dap_words.specs.Words.{Pair}
use Rattle.dap_words.specs.Worded.{worded, items_worded, members_worded, names_its_kind}

abbrev snoc : Items → Doc → Items
snoc no_items d = item d no_items
snoc (item e ds) d = item e (snoc ds d)

items_snoc : (ts : List Tree) (t : Tree)
    → items_view (ts ++ t ∷ []) ≡ snoc (items_view ts) (view t)
items_snoc [] t = refl
items_snoc (x ∷ ts) t = ap (item (view x)) (items_snoc ts t)

module _ (pairs : List Pair) where
  worded_snoc : (ds : Items) (d : Doc)
      → items_worded pairs (snoc ds d) ≡ snoc (items_worded pairs ds) (worded pairs false d)
  worded_snoc no_items d = refl
  worded_snoc (item e ds) d = ap (item (worded pairs false e)) (worded_snoc ds d)

  pub word_push : (vs ts : List Tree) (v t : Tree)
      → items_view ts ≡ items_worded pairs (items_view vs) → view t ≡ worded pairs false (view v)
      → items_view (ts ++ t ∷ []) ≡ items_worded pairs (items_view (vs ++ v ∷ []))
  word_push vs ts v t done one =
      items_snoc ts t ∙ ap₂ snoc done one ∙ sym (worded_snoc (items_view vs) (view v))
      ∙ ap (items_worded pairs) (sym (items_snoc vs v))

  -- a member of this name
  abbrev pub part : Bool → List ℕ → Doc → Doc
  part m k d = cond (m && names_its_kind k) d (worded pairs false d)

  put_at : (o : Ordering) (m : Bool) (k l : List ℕ) (d e : Doc) (ms more : Members)
      → slice_cmp nat_cmp k l ≡ o
      → members_worded pairs m more ≡ put k (part m k d) (members_worded pairs m ms)
      → members_worded pairs m (match_ordering o (member k d (member l e ms)) (member l d ms)
      (member l e more))
      ≡ match_ordering o (member k (part m k d) (member l (part m l e) (members_worded pairs m ms)))
      (member l (part m k d) (members_worded pairs m ms))
      (member l (part m l e) (put k (part m k d) (members_worded pairs m ms)))
  put_at Less m k l d e ms more is later = refl
  put_at Equal m k l d e ms more is later =
      let same : k ≡ l = (bytes_eq-Decides k l).0 (sym (is_eq-slice_cmp k l) ∙ ap is_eq is) in
      ap (λ n. member l (part m n d) (members_worded pairs m ms)) (sym same)
  put_at Greater m k l d e ms more is later = ap (member l (part m l e)) later

  word_put : (m : Bool) (k : List ℕ) (d : Doc) (ms : Members)
      → members_worded pairs m (put k d ms) ≡ put k (part m k d) (members_worded pairs m ms)
  word_put m k d no_members = refl
  word_put m k d (member l e ms) =
      put_at (slice_cmp nat_cmp k l) m k l d e ms (put k d ms) refl (word_put m k d ms)

  pub word_insert : (m : Bool) (done : List Entry) (p : Entry) (left es : List Entry) (t : Tree)
      → IsStrictlySortedBy string_cmp (keys_of (done ++ p ∷ left))
      → members_view es ≡ members_worded pairs m (members_view done)
      → view t ≡ part m (string_bytes p.0) (view p.1)
      → members_view (insert_entry string_cmp es p.0 t)
      ≡ members_worded pairs m (members_view (done ++ p ∷ []))
  word_insert m done p left es t ordered before one =
      members_view-insert_entry es p.0 t ∙ ap₂ (put (string_bytes p.0)) one before
      ∙ sym (word_put m (string_bytes p.0) (view p.1) (members_view done))
      ∙ ap (members_worded pairs m) (put_last done p left ordered)
