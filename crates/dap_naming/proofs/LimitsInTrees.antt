-- The limit of the numbers of values, for one more element or member of a document.
use Rattle.std.proofs.Common.{◌≡◌, ℕ, List, [], ◌∷◌, ◌++◌, ap, sym, ◌∙◌, subst, string_bytes, refl}
use Rattle.std.proofs.Common.{append_assoc}
use Rattle.dap_tree.specs.Doc.{Doc}
use Rattle.dap_tree.specs.View.{view, items_view, members_view}
use Rattle.dap_tree.specs.declared.tree.Tree.{Tree}
use Rattle.dap_tokens.specs.{Tokens.Labels, Models.no_labels, Naming.{Numbering, ids}}
use Rattle.dap_naming.specs.Documents.{Declared, below, inside, ids_of, items_ids, members_ids}
use Rattle.dap_naming.specs.Known.{Names, FitsLimit, ExceedsLimit, limit_of}
use Rattle.dap_naming.specs.declared.value_numbers.ValueNumbers.{ValueNumbers}
use Rattle.dap_naming.proofs.Limits.{fits_none, fits_then, exceeds_then}
use Rattle.dap_naming.proofs.MoreParts.{Entry, no_ids, ids-last, member_ids-last}
use Rattle.dap_naming.proofs.Unlabelled.{no_string_ids}

-- ---- without rules

pub few_unruled : (a : ValueNumbers) (rs : List Declared) (d : Doc) → rs ≡ []
    → FitsLimit a (ids_of rs d)
few_unruled a rs d none =
    subst (FitsLimit a) (sym (ap (λ ts. ids_of ts d) none ∙ no_ids d)) (fits_none a)

pub few_unlabelled : (a : ValueNumbers) (labels : Labels) (s : List ℕ) → labels ≡ no_labels
    → FitsLimit a (ids labels s)
few_unlabelled a labels s none =
    subst (FitsLimit a) (sym (no_string_ids labels none s)) (fits_none a)

-- ---- one more element

ids-middle : (rs : List Declared) (xs : List Tree) (x : Tree) (more : List Tree)
    → items_ids rs (items_view (xs ++ x ∷ more))
    ≡ items_ids rs (items_view xs)
    ++ (ids_of (inside (view x) rs) (view x) ++ items_ids rs (items_view more))
ids-middle rs [] x more = refl
ids-middle rs (y ∷ xs) x more =
    ap (λ is. ids_of (inside (view y) rs) (view y) ++ is) (ids-middle rs xs x more)
    ∙ sym (append_assoc (ids_of (inside (view y) rs) (view y)) (items_ids rs (items_view xs)) _)

module _ (a b : ValueNumbers) (rs ts : List Declared) (xs : List Tree) (x : Tree) (P : Numbering
    → Type 0) (names : Names a b (items_ids rs (items_view xs)) P) (same : limit_of b ≡ limit_of a)
    (left : ts ≡ inside (view x) rs) where
  pub items_few : FitsLimit a (items_ids rs (items_view xs)) → FitsLimit b (ids_of ts (view x))
      → FitsLimit a (items_ids rs (items_view (xs ++ x ∷ [])))
  items_few f g =
      subst (FitsLimit a) (sym (ids-last rs xs x))
      (fits_then a b (items_ids rs (items_view xs)) P names same
      (ids_of (inside (view x) rs) (view x)) f
      (subst (λ us. FitsLimit b (ids_of us (view x))) left g))

  pub items_full : (all more : List Tree) → all ≡ xs ++ x ∷ more
      → ExceedsLimit b (ids_of ts (view x)) → ExceedsLimit a (items_ids rs (items_view all))
  items_full all more whole full =
      subst (ExceedsLimit a)
      (sym (ap (λ ys. items_ids rs (items_view ys)) whole ∙ ids-middle rs xs x more))
      (exceeds_then a b (items_ids rs (items_view xs)) P names same
      (ids_of (inside (view x) rs) (view x)) (items_ids rs (items_view more))
      (subst (λ us. ExceedsLimit b (ids_of us (view x))) left full))

-- ---- one more member

member_ids-middle : (rs : List Declared) (xs : List Entry) (e : Entry) (more : List Entry)
    → members_ids rs (members_view (xs ++ e ∷ more))
    ≡ members_ids rs (members_view xs)
    ++ (ids_of (below (string_bytes e.0) rs) (view e.1) ++ members_ids rs (members_view more))
member_ids-middle rs [] e more = refl
member_ids-middle rs (y ∷ xs) e more =
    ap (λ is. ids_of (below (string_bytes y.0) rs) (view y.1) ++ is)
    (member_ids-middle rs xs e more)
    ∙ sym (append_assoc (ids_of (below (string_bytes y.0) rs) (view y.1))
    (members_ids rs (members_view xs)) _)

module _ (a b : ValueNumbers) (rs ts : List Declared) (xs : List Entry) (e : Entry) (P : Numbering
    → Type 0) (names : Names a b (members_ids rs (members_view xs)) P)
    (same : limit_of b ≡ limit_of a) (left : ts ≡ below (string_bytes e.0) rs) where
  pub members_few : FitsLimit a (members_ids rs (members_view xs))
      → FitsLimit b (ids_of ts (view e.1))
      → FitsLimit a (members_ids rs (members_view (xs ++ e ∷ [])))
  members_few f g =
      subst (FitsLimit a) (sym (member_ids-last rs xs e))
      (fits_then a b (members_ids rs (members_view xs)) P names same
      (ids_of (below (string_bytes e.0) rs) (view e.1)) f
      (subst (λ us. FitsLimit b (ids_of us (view e.1))) left g))

  pub members_full : (all more : List Entry) → all ≡ xs ++ e ∷ more
      → ExceedsLimit b (ids_of ts (view e.1)) → ExceedsLimit a (members_ids rs (members_view all))
  members_full all more whole full =
      subst (ExceedsLimit a)
      (sym (ap (λ ys. members_ids rs (members_view ys)) whole ∙ member_ids-middle rs xs e more))
      (exceeds_then a b (members_ids rs (members_view xs)) P names same
      (ids_of (below (string_bytes e.0) rs) (view e.1)) (members_ids rs (members_view more))
      (subst (λ us. ExceedsLimit b (ids_of us (view e.1))) left full))
