-- A document without rules, and one more element or member of a named document, with its ids.
use Rattle.std.proofs.Common.{◌≡◌, ℕ, ℤ, List, [], ◌∷◌, ◌++◌, ap, sym, ◌∙◌, subst, string_bytes}
use Rattle.std.proofs.Common.{string_cmp, rules, String, Global}
use Rattle.std.specs.List.Sorted.{IsStrictlySortedBy}
use Rattle.std.specs.Map.{keys_of}
use Rattle.std.specs.BTreeMap.{insert_entry}
use Rattle.dap_tokens.specs.{Tokens.Labels, Models.no_labels}
use Rattle.dap_tokens.specs.Naming.{Numbering, ids, named}
use Rattle.dap_tokens.specs.declared.form.Form.TheVariants.{Whole}
use Rattle.dap_tree.specs.Doc.{Doc, text, whole}
use Rattle.dap_tree.specs.View.{view, items_view, members_view}
use Rattle.dap_tree.specs.declared.tree.Tree.{Tree, the_lemmas}
use Rattle.dap_tree.specs.declared.tree.Tree as tree
use Rattle.dap_tree.proofs.Views.{members_view-insert_entry}
use Rattle.dap_naming.specs.Documents.{Declared, below, inside, ids_of, items_ids, members_ids}
use Rattle.dap_naming.specs.Documents.{named_doc, named_items, named_members}
use Rattle.dap_naming.specs.Documents.{here, ids_of_whole, named_whole}
use Rattle.dap_naming.specs.Known.{ByTable, Names, NamesByTable, NamesDoc}
use Rattle.dap_naming.specs.declared.value_numbers.ValueNumbers.{ValueNumbers}
use Rattle.dap_naming.proofs.TableNames.{table_like}
use Rattle.dap_naming.proofs.Unlabelled.{no_string_ids, same_string}
use Rattle.dap_naming.proofs.Writing.{names_like, names_none, names_then}
use Rattle.dap_naming.proofs.MoreParts.{Entry, no_ids, same_doc, ids-last, item_named, put_named}
use Rattle.dap_naming.proofs.MoreParts.{member_ids-last}

-- ---- without rules

pub doc_unruled : (a : ValueNumbers) (rs : List Declared) (d : Doc) → rs ≡ []
    → Names a a (ids_of rs d) (λ n. d ≡ named_doc rs n d)
doc_unruled a rs d none =
    subst (λ ts. Names a a (ids_of ts d) (λ n. d ≡ named_doc ts n d)) (sym none)
    (subst (λ is. Names a a is (λ n. d ≡ named_doc [] n d)) (sym (no_ids d))
    (names_none a (λ n. d ≡ named_doc [] n d) (λ n. sym (same_doc n d))))

pub string_unlabelled : (a : ValueNumbers) (labels : Labels) (s : List ℕ) → labels ≡ no_labels
    → Names a a (ids labels s) (λ n. s ≡ named labels n s)
string_unlabelled a labels s none =
    subst (λ is. Names a a is (λ n. s ≡ named labels n s)) (sym (no_string_ids labels none s))
    (names_none a (λ n. s ≡ named labels n s) (λ n. sym (same_string labels none n s)))

-- ---- single values

pub view_integer : (z : ℤ) → view (tree.Whole z) ≡ whole z
view_integer z = search (rules, the_lemmas)

pub view_string : (s : String Global) → view (tree.Text s) ≡ text (string_bytes s)
view_string s = search (rules, the_lemmas)

module _ (rs : List Declared) (labels : Labels) (is : labels ≡ here rs) (d : Doc) where
  pub ids_of_integer : (z : ℤ) → d ≡ whole z → ids_of rs d ≡ ids_of_whole (labels Whole) z
  ids_of_integer z was =
      ap (ids_of rs) was ∙ sym (ap (λ (l : Labels). ids_of_whole (l Whole) z) is)

  pub ids_of_string : (s : List ℕ) → d ≡ text s → ids_of rs d ≡ ids labels s
  ids_of_string s was = ap (ids_of rs) was ∙ sym (ap (λ (l : Labels). ids l s) is)

  -- the document with the name
  pub named_integer : (e : Doc) (z y : ℤ) (n : Numbering) → d ≡ whole z → e ≡ whole y
      → y ≡ named_whole (labels Whole) n z → e ≡ named_doc rs n d
  named_integer e z y n was now h =
      now ∙ ap whole (h ∙ ap (λ (l : Labels). named_whole (l Whole) n z) is)
      ∙ ap (named_doc rs n) (sym was)

  pub named_string : (e : Doc) (s t : List ℕ) (n : Numbering) → d ≡ text s → e ≡ text t
      → t ≡ named labels n s → e ≡ named_doc rs n d
  named_string e s t n was now h =
      now ∙ ap text (h ∙ ap (λ (l : Labels). named l n s) is) ∙ ap (named_doc rs n) (sym was)

  module _ (a b : ValueNumbers) (e : Doc) where
    pub integer_names : (z y : ℤ) → d ≡ whole z → e ≡ whole y
        → Names a b (ids_of_whole (labels Whole) z) (λ n. y ≡ named_whole (labels Whole) n z)
        → NamesDoc a b rs d e
    integer_names z y was now h =
        subst (λ js. Names a b js (λ n. e ≡ named_doc rs n d)) (sym (ids_of_integer z was))
        (names_like a b (ids_of_whole (labels Whole) z)
        (λ n. y ≡ named_whole (labels Whole) n z) (λ n. e ≡ named_doc rs n d) h
        (λ n. named_integer e z y n was now))

    pub string_names : (s t : List ℕ) → d ≡ text s → e ≡ text t
        → Names a b (ids labels s) (λ n. t ≡ named labels n s) → NamesDoc a b rs d e
    string_names s t was now h =
        subst (λ js. Names a b js (λ n. e ≡ named_doc rs n d)) (sym (ids_of_string s was))
        (names_like a b (ids labels s) (λ n. t ≡ named labels n s)
        (λ n. e ≡ named_doc rs n d) h (λ n. named_string e s t n was now))

    pub integer_by_table : (z y : ℤ) → d ≡ whole z → e ≡ whole y
        → ByTable a b (λ n. y ≡ named_whole (labels Whole) n z) → NamesByTable a b rs d e
    integer_by_table z y was now h =
        table_like a b (λ n. y ≡ named_whole (labels Whole) n z) (λ n. e ≡ named_doc rs n d) h
        (λ n. named_integer e z y n was now)

    pub string_by_table : (s t : List ℕ) → d ≡ text s → e ≡ text t
        → ByTable a b (λ n. t ≡ named labels n s) → NamesByTable a b rs d e
    string_by_table s t was now h =
        table_like a b (λ n. t ≡ named labels n s) (λ n. e ≡ named_doc rs n d) h
        (λ n. named_string e s t n was now)

-- ---- one more element or member

pub items_more : (a b c : ValueNumbers) (rs ts : List Declared) (xs ys zs : List Tree) (x y : Tree)
    → Names a b (items_ids rs (items_view xs))
    (λ n. items_view ys ≡ named_items rs n (items_view xs))
    → ts ≡ inside (view x) rs
    → Names b c (ids_of ts (view x)) (λ n. view y ≡ named_doc ts n (view x)) → zs ≡ ys ++ y ∷ []
    → Names a c (items_ids rs (items_view (xs ++ x ∷ [])))
    (λ n. items_view zs ≡ named_items rs n (items_view (xs ++ x ∷ [])))
items_more a b c rs ts xs ys zs x y f left g pushed =
    subst (λ is. Names a c is (λ n. items_view zs ≡ named_items rs n (items_view (xs ++ x ∷ []))))
    (sym (ids-last rs xs x))
    (names_then a b c (items_ids rs (items_view xs)) (ids_of (inside (view x) rs) (view x))
    (λ n. items_view ys ≡ named_items rs n (items_view xs))
    (λ n. view y ≡ named_doc (inside (view x) rs) n (view x))
    (λ n. items_view zs ≡ named_items rs n (items_view (xs ++ x ∷ []))) f
    (subst (λ us. Names b c (ids_of us (view x)) (λ n. view y ≡ named_doc us n (view x))) left g)
    (λ n p q. ap items_view pushed ∙ item_named rs n ys xs y x p q))

pub members_more : (a b c : ValueNumbers) (rs ts : List Declared) (xs more ys zs : List Entry)
    (e : Entry) (y : Tree) → IsStrictlySortedBy string_cmp (keys_of (xs ++ e ∷ more))
    → Names a b (members_ids rs (members_view xs))
    (λ n. members_view ys ≡ named_members rs n (members_view xs))
    → ts ≡ below (string_bytes e.0) rs
    → Names b c (ids_of ts (view e.1)) (λ n. view y ≡ named_doc ts n (view e.1))
    → zs ≡ insert_entry string_cmp ys e.0 y
    → Names a c (members_ids rs (members_view (xs ++ e ∷ [])))
    (λ n. members_view zs ≡ named_members rs n (members_view (xs ++ e ∷ [])))
members_more a b c rs ts xs more ys zs e y sorted f left g put =
    subst (λ is. Names a c is
    (λ n. members_view zs ≡ named_members rs n (members_view (xs ++ e ∷ []))))
    (sym (member_ids-last rs xs e))
    (names_then a b c (members_ids rs (members_view xs))
    (ids_of (below (string_bytes e.0) rs) (view e.1))
    (λ n. members_view ys ≡ named_members rs n (members_view xs))
    (λ n. view y ≡ named_doc (below (string_bytes e.0) rs) n (view e.1))
    (λ n. members_view zs ≡ named_members rs n (members_view (xs ++ e ∷ []))) f
    (subst (λ us. Names b c (ids_of us (view e.1)) (λ n. view y ≡ named_doc us n (view e.1)))
    left g)
    (λ n p q. ap members_view put ∙ members_view-insert_entry ys e.0 y
    ∙ rw (p, q) (put_named rs n xs e more sorted)))
