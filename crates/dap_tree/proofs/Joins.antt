-- Trees that are processed, followed by the remaining items of a document.
use Rattle.std.proofs.Common.{◌≡◌, ℕ, zero, suc, ◌<◌, ◌≤◌, ℤ, List, [], ◌∷◌, ◌++◌, take, drop, set}
use Rattle.std.proofs.Common.{get_or, length, Bool, true, cond, String, Global, refl, sym, ap, ◌∙◌}
use Rattle.std.proofs.Common.{arith, subst}
use Rattle.std.proofs.Math.Seq.{take-append_seam}
use Rattle.std.proofs.lemmas.List.{take_all, drop_all, drop-drop}
use Rattle.std.specs.List.{FoldsTo}
use Rattle.dap_tree.specs.Doc.{Doc, Items, no_items, item, depth, items_depth, members_depth}
use Rattle.dap_tree.specs.Doc.{map_items}
use Rattle.dap_tree.specs.Ids.{with_ids, items_with_ids, members_with_ids, id_count}
use Rattle.dap_tree.specs.Ids.{items_id_count}
use Rattle.dap_tree.specs.View.{view, items_view, members_view}
use Rattle.dap_tree.specs.declared.tree.Tree.{Tree}
use Rattle.dap_tree.proofs.Views.{Entry}
use Rattle.std.specs.Map.Calls.{RetainsPairs}

abbrev pub items_join : List Tree → Items → Items
items_join [] ds = ds
items_join (t ∷ ts) ds = item (view t) (items_join ts ds)

pub items_join-all : (ts : List Tree) → items_join ts no_items ≡ items_view ts
items_join-all [] = refl
items_join-all (t ∷ ts) = ap (item (view t)) (items_join-all ts)

-- one more tree is processed
pub put_step : (ts : List Tree) (i : ℕ) (d u : Tree) (ns : List ℤ) → i < length ts
    → view u ≡ with_ids (view (get_or ts i d)) ns
    → items_join (take (suc i) (set ts i u))
    (items_with_ids (items_view (drop (suc i) (set ts i u)))
    (drop (id_count (view (get_or ts i d))) ns))
    ≡ items_join (take i ts) (items_with_ids (items_view (drop i ts)) ns)
put_step [] i d u ns h put = absurd (omega arith)
put_step (x ∷ ts) zero d u ns h put = rw put refl
put_step (x ∷ ts) (suc i) d u ns h put = ap (item (view x)) (put_step ts i d u ns (omega arith) put)

-- the remaining numbers after one more tree
pub left_step : (ts : List Tree) (i : ℕ) (d u : Tree) (ns : List ℤ) → i < length ts
    → drop (items_id_count (items_view (drop (suc i) (set ts i u))))
    (drop (id_count (view (get_or ts i d))) ns)
    ≡ drop (items_id_count (items_view (drop i ts))) ns
left_step [] i d u ns h = absurd (omega arith)
left_step (x ∷ ts) zero d u ns h =
    drop-drop (items_id_count (items_view ts)) (id_count (view x)) ns
left_step (x ∷ ts) (suc i) d u ns h = left_step ts i d u ns (omega arith)

pub shallow_step : (ts : List Tree) (i : ℕ) (u : Tree) (n : ℕ)
    → items_depth (items_view (drop i ts)) ≤ n
    → items_depth (items_view (drop (suc i) (set ts i u))) ≤ n
shallow_step [] i u n h = omega arith
shallow_step (x ∷ ts) zero u n h = omega arith
shallow_step (x ∷ ts) (suc i) u n h = shallow_step ts i u n h

pub member_shallow : (before : List Entry) (e : Entry) (after : List Entry) (n : ℕ)
    → members_depth (members_view (before ++ e ∷ after)) ≤ n → depth (view e.1) ≤ n
member_shallow [] e after n h = omega arith
member_shallow (x ∷ before) e after n h = member_shallow before e after n (omega arith)

pub folds_keep : {P A : Type 0} (R : P → A → P → Type 0) (I : P → Type 0)
    → ((p : P) (a : A) (q : P) → R p a q → I p → I q) → (xs : List A) (p q : P) → FoldsTo R p xs q
    → I p → I q
folds_keep R I step [] p q h i = subst I h i
folds_keep R I step (x ∷ xs) p q h i = folds_keep R I step xs h.0 q h.2 (step p x h.0 h.1 i)

module _ {F : Type 0} (T : F → String Global → Tree → Bool → Tree → F → Type 0) (left : F
    → List ℤ) where
  pub retained_with_ids : ((f : F) (k : String Global) (v : Tree) (b : Bool) (w : Tree) (g : F)
      → T f k v b w g
      → (b ≡ true) × (view w ≡ with_ids (view v) (left f))
      × (left g ≡ drop (id_count (view v)) (left f)))
      → (es kept : List Entry) (f : F) → RetainsPairs T f es kept
      → members_view kept ≡ members_with_ids (members_view es) (left f)
  retained_with_ids step [] kept f h = rw h refl
  retained_with_ids step (e ∷ es) kept f h =
      let s = step f e.0 e.1 h.0 h.1 h.2 h.4 in
      let later = retained_with_ids step es h.3 h.2 h.5 in
      let pairs = h.6 ∙ ap (λ b. cond b ((e.0, h.1) ∷ h.3) h.3) s.0 in
      rw (pairs, s.1, later, s.2) refl

-- all trees are processed
pub put_done : (xs ys : List Tree) (i len : ℕ) (ns : List ℤ) (all : Items) → length xs ≤ i
    → len ≡ length xs → items_join (take i xs) (items_with_ids (items_view (drop i xs)) ns) ≡ all
    → items_view (take len (xs ++ ys)) ≡ all
put_done xs ys i len ns all past same done =
    rw (same, take-append_seam) (sym (items_join-all xs)
    ∙ (rw (take_all i xs past, drop_all i xs past) at done))

-- one more tree is changed
pub change_step : (f : Doc → Doc) (ts : List Tree) (i : ℕ) (d u : Tree) → i < length ts
    → view u ≡ f (view (get_or ts i d))
    → items_join (take (suc i) (set ts i u)) (map_items f (items_view (drop (suc i) (set ts i u))))
    ≡ items_join (take i ts) (map_items f (items_view (drop i ts)))
change_step f [] i d u h put = absurd (omega arith)
change_step f (x ∷ ts) zero d u h put = rw put refl
change_step f (x ∷ ts) (suc i) d u h put =
    ap (item (view x)) (change_step f ts i d u (omega arith) put)

pub change_done : (f : Doc → Doc) (xs ys : List Tree) (i len : ℕ) (all : Items) → length xs ≤ i
    → len ≡ length xs → items_join (take i xs) (map_items f (items_view (drop i xs))) ≡ all
    → items_view (take len (xs ++ ys)) ≡ all
change_done f xs ys i len all past same done =
    rw (same, take-append_seam) (sym (items_join-all xs)
    ∙ (rw (take_all i xs past, drop_all i xs past) at done))
