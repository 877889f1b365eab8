-- Names by a table of numbers: a document without rules, single values, and one more element or
-- member of a named document.
use Rattle.std.proofs.Common.{◌≡◌, ℕ, ℤ, pos, cond, false, List, [], ◌∷◌, ◌++◌, Some}
use Rattle.std.proofs.Common.{ap, sym, ◌∙◌, subst, string_bytes, string_cmp}
use Rattle.std.specs.List.Sorted.{IsStrictlySortedBy}
use Rattle.std.specs.Map.{keys_of}
use Rattle.std.specs.BTreeMap.{insert_entry}
use Rattle.dap_tokens.specs.{Tokens.Labels, Models.no_labels, Naming.{Numbering, named}}
use Rattle.dap_tokens.specs.Values.{is_nothing}
use Rattle.dap_tree.specs.Doc.{Doc}
use Rattle.dap_tree.specs.View.{view, items_view, members_view}
use Rattle.dap_tree.specs.declared.tree.Tree.{Tree}
use Rattle.dap_tree.proofs.Views.{members_view-insert_entry}
use Rattle.dap_naming.specs.Documents.{Declared, below, inside, integer_text, named_doc}
use Rattle.dap_naming.specs.Documents.{named_items, named_members, named_whole}
use Rattle.dap_naming.specs.Known.{key, number_at, Keeps, ByTable}
use Rattle.dap_naming.specs.declared.value_numbers.ValueNumbers.{ValueNumbers}
use Rattle.dap_naming.proofs.MoreParts.{Entry, same_doc, item_named, put_named}
use Rattle.dap_naming.proofs.Unlabelled.{same_string}

-- ---- tables after other tables

pub table_none : (a : ValueNumbers) (P : Numbering → Type 0) → ((f : Numbering) → P f)
    → ByTable a a P
table_none a P p = (λ k n e. e, λ f h. p f)

pub table_like : (a c : ValueNumbers) (P Q : Numbering → Type 0) → ByTable a c P
    → ((f : Numbering) → P f → Q f) → ByTable a c Q
table_like a c P Q h to = (h.0, λ f k. to f (h.1 f k))

pub table_then : (a b c : ValueNumbers) (P Q R : Numbering → Type 0) → ByTable a b P
    → ByTable b c Q → ((f : Numbering) → P f → Q f → R f) → ByTable a c R
table_then a b c P Q R p q join = (
  λ k n e. q.0 k n (p.0 k n e),
  λ f h. join f (p.1 f (λ label v n e. h label v n (q.0 (key label v) n e))) (q.1 f h),
)

-- ---- without rules

pub table_unruled : (a : ValueNumbers) (rs : List Declared) (d : Doc) → rs ≡ []
    → ByTable a a (λ f. d ≡ named_doc rs f d)
table_unruled a rs d none =
    subst (λ ts. ByTable a a (λ f. d ≡ named_doc ts f d)) (sym none)
    (table_none a (λ f. d ≡ named_doc [] f d) (λ f. sym (same_doc f d)))

pub table_unlabelled : (a : ValueNumbers) (labels : Labels) (s : List ℕ) → labels ≡ no_labels
    → ByTable a a (λ f. s ≡ named labels f s)
table_unlabelled a labels s none =
    table_none a (λ f. s ≡ named labels f s) (λ f. sym (same_string labels none f s))

-- ---- single values

pub whole_by_table : (a c : ValueNumbers) (label v : List ℕ) (z y : ℤ) (n : ℕ)
    → v ≡ integer_text z → is_nothing v ≡ false → y ≡ pos n
    → number_at c (key label v) ≡ Some n → Keeps a c
    → ByTable a c (λ f. y ≡ named_whole (Some label) f z)
whole_by_table a c label v z y n same some is held keeps = (
  keeps,
  λ f h. is ∙ ap pos (sym (h label v n held)) ∙ ap (λ u. pos (f label u)) same
      ∙ ap (λ b. cond b z (pos (f label (integer_text z))))
      (sym (ap is_nothing (sym same) ∙ some)),
)

-- ---- one more element or member

item_step : (rs ts : List Declared) (xs ys zs : List Tree) (x y : Tree) → ts ≡ inside (view x) rs
    → zs ≡ ys ++ y ∷ [] → (f : Numbering) → items_view ys ≡ named_items rs f (items_view xs)
    → view y ≡ named_doc ts f (view x)
    → items_view zs ≡ named_items rs f (items_view (xs ++ x ∷ []))
item_step rs ts xs ys zs x y left pushed f p q =
    ap items_view pushed
    ∙ item_named rs f ys xs y x p (q ∙ ap (λ us. named_doc us f (view x)) left)

pub items_by_table : (a b c : ValueNumbers) (rs ts : List Declared) (xs ys zs : List Tree)
    (x y : Tree) → ByTable a b (λ f. items_view ys ≡ named_items rs f (items_view xs))
    → ts ≡ inside (view x) rs → ByTable b c (λ f. view y ≡ named_doc ts f (view x))
    → zs ≡ ys ++ y ∷ []
    → ByTable a c (λ f. items_view zs ≡ named_items rs f (items_view (xs ++ x ∷ [])))
items_by_table a b c rs ts xs ys zs x y p left q pushed =
    table_then a b c (λ f. items_view ys ≡ named_items rs f (items_view xs))
    (λ f. view y ≡ named_doc ts f (view x))
    (λ f. items_view zs ≡ named_items rs f (items_view (xs ++ x ∷ []))) p q
    (item_step rs ts xs ys zs x y left pushed)

member_step : (rs ts : List Declared) (xs more ys zs : List Entry) (e : Entry) (y : Tree)
    → IsStrictlySortedBy string_cmp (keys_of (xs ++ e ∷ more)) → ts ≡ below (string_bytes e.0) rs
    → zs ≡ insert_entry string_cmp ys e.0 y → (f : Numbering)
    → members_view ys ≡ named_members rs f (members_view xs)
    → view y ≡ named_doc ts f (view e.1)
    → members_view zs ≡ named_members rs f (members_view (xs ++ e ∷ []))
member_step rs ts xs more ys zs e y sorted left put f p q =
    let r : view y ≡ named_doc (below (string_bytes e.0) rs) f (view e.1) =
    q ∙ ap (λ us. named_doc us f (view e.1)) left in
    ap members_view put ∙ members_view-insert_entry ys e.0 y
    ∙ rw (p, r) (put_named rs f xs e more sorted)

pub members_by_table : (a b c : ValueNumbers) (rs ts : List Declared)
    (xs more ys zs : List Entry) (e : Entry) (y : Tree)
    → IsStrictlySortedBy string_cmp (keys_of (xs ++ e ∷ more))
    → ByTable a b (λ f. members_view ys ≡ named_members rs f (members_view xs))
    → ts ≡ below (string_bytes e.0) rs → ByTable b c (λ f. view y ≡ named_doc ts f (view e.1))
    → zs ≡ insert_entry string_cmp ys e.0 y
    → ByTable a c (λ f. members_view zs ≡ named_members rs f (members_view (xs ++ e ∷ [])))
members_by_table a b c rs ts xs more ys zs e y sorted p left q put =
    table_then a b c (λ f. members_view ys ≡ named_members rs f (members_view xs))
    (λ f. view y ≡ named_doc ts f (view e.1))
    (λ f. members_view zs ≡ named_members rs f (members_view (xs ++ e ∷ []))) p q
    (member_step rs ts xs more ys zs e y sorted left put)
