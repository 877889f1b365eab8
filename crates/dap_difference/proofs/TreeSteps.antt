-- The differences that remain after one step of the traversal of two trees.
use Rattle.std.proofs.Common.{◌≡◌, ℕ, suc, ◌-◌, ◌<◌, ◌≤◌, List, [], ◌∷◌, ◌++◌, map, length}
use Rattle.std.proofs.Common.{get_or, take, drop, String, string_bytes, Option, None}
use Rattle.std.proofs.Common.{sym, ap, ap₂}
use Rattle.std.proofs.Common.{◌∙◌, subst, arith, length-append}
use Rattle.std.proofs.Math.Seq.{drop-cons}
use Rattle.std.proofs.lemmas.Grind.{common_steps}
use Rattle.std.proofs.lemmas.List.{drop_all, map-append}
use Rattle.std.specs.declared.alloc.Global.{Global}
use Rattle.dap_tree.specs.Doc.{Doc, Members, member}
use Rattle.dap_tree.specs.Path.{Step, name, place}
use Rattle.dap_tree.specs.View.{view, items_view, members_view}
use Rattle.dap_tree.specs.declared.tree.Tree.{Tree}
use Rattle.dap_difference.specs.Differences.{Difference}
use Rattle.dap_difference.specs.Telling.{only_a, behind, from_member, below, differences}
use Rattle.dap_difference.specs.Telling.{items_differences, members_differences}
use Rattle.dap_difference.specs.TellingSteps.{Appends, PassesLower, HasNoLower, TakesNamed}
use Rattle.dap_difference.specs.Shown.{step_of, path_of, shown_differences}
use Rattle.dap_difference.specs.declared.difference.Step.{Step as CodeStep}
use Rattle.dap_difference.specs.declared.difference.Difference.{Difference as CodeDifference}
use Rattle.dap_difference.proofs.Steps.{behind_step, one_step, only_a_here, both_here}

abbrev Entry : Type 0
Entry = String Global × Tree

longer_path : (steps root : List CodeStep) (s : CodeStep) → steps ≡ root
    → path_of (steps ++ s ∷ []) ≡ path_of root ++ step_of s ∷ []
longer_path steps root s same =
    map-append step_of steps (s ∷ []) ∙ ap (λ r. path_of r ++ step_of s ∷ []) same

pub appended_behind : (root steps pushed : List CodeStep) (s : CodeStep)
    (old new : List CodeDifference) (xs rest : List Difference) → steps ≡ root
    → pushed ≡ steps ++ s ∷ [] → Appends pushed old new xs
    → shown_differences new ++ map (below (path_of root)) rest
    ≡ shown_differences old ++ map (below (path_of root)) (map (behind (step_of s)) xs ++ rest)
appended_behind root steps pushed s old new xs rest same is h =
    behind_step (path_of root) (step_of s) (shown_differences old) (shown_differences new) xs rest
    (h ∙ ap (λ q. shown_differences old ++ map (below q) xs)
    (ap path_of is ∙ longer_path steps root s same))

abbrev there : List Step → Option Doc → Option Doc → Difference
there p a b = record { path = p; of_a = a; of_b = b }

pub appended_one : (root steps : List CodeStep) (s : CodeStep) (a b : Option Doc)
    (old new : List CodeDifference) (rest : List Difference) → steps ≡ root
    → shown_differences new ≡ shown_differences old ++ there (path_of (steps ++ s ∷ [])) a b ∷ []
    → shown_differences new ++ map (below (path_of root)) rest
    ≡ shown_differences old ++ map (below (path_of root)) (there (step_of s ∷ []) a b ∷ rest)
appended_one root steps s a b old new rest same h =
    let longer = longer_path steps root s same in
    one_step (path_of root) (shown_differences old) (shown_differences new)
    (there (step_of s ∷ []) a b) rest
    (h ∙ ap (λ q. shown_differences old ++ there q a b ∷ []) longer)

-- the step that was pushed is popped
pub popped : (steps pushed left : List CodeStep) (s : CodeStep) → pushed ≡ steps ++ s ∷ []
    → left ≡ take (length pushed - 1) pushed → left ≡ steps
popped steps pushed left s is h =
    let count : length pushed - 1 ≡ length steps =
    omega (arith, ap length is, length-append steps (s ∷ [])) in
    h ∙ ap₂ (λ n xs. take n xs) count is ∙ grind (arith, common_steps)

pub tree_at : (xs : List Tree) (i : ℕ) (t : Tree) → i < length xs → t ≡ get_or xs i t
    → drop i xs ≡ t ∷ drop (suc i) xs
tree_at xs i t lt is = drop-cons xs i t lt ∙ ap (λ u. u ∷ drop (suc i) xs) (sym is)

-- both have an item at the index
pub items_both : (ds es : List Tree) (i j : ℕ) (t u : Tree) → j ≡ suc i
    → drop i ds ≡ t ∷ drop (suc i) ds → drop i es ≡ u ∷ drop (suc i) es
    → items_differences i (items_view (drop i ds)) (items_view (drop i es))
    ≡ map (behind (place i)) (differences (view t) (view u))
    ++ items_differences j (items_view (drop j ds)) (items_view (drop j es))
items_both ds es i j t u is h k =
    ap₂ (λ ts us. items_differences i (items_view ts) (items_view us)) h k
    ∙ ap (λ m. map (behind (place i)) (differences (view t) (view u))
    ++ items_differences m (items_view (drop m ds)) (items_view (drop m es))) (sym is)

-- only A has one
pub items_only_a : (ds es : List Tree) (i j : ℕ) (t : Tree) → j ≡ suc i
    → drop i ds ≡ t ∷ drop (suc i) ds → length es ≤ i
    → items_differences i (items_view (drop i ds)) (items_view (drop i es))
    ≡ only_a (place i) (view t)
    ∷ items_differences j (items_view (drop j ds)) (items_view (drop j es))
items_only_a ds es i j t is h past =
    let none = drop_all i es past in
    let further : length es ≤ suc i = omega (arith, past) in
    let none_further = drop_all (suc i) es further in
    ap₂ (λ ts us. items_differences i (items_view ts) (items_view us)) h none
    ∙ ap (λ bs. only_a (place i) (view t)
    ∷ items_differences (suc i) (items_view (drop (suc i) ds)) (items_view bs)) (sym none_further)
    ∙ ap (λ m. only_a (place i) (view t)
    ∷ items_differences m (items_view (drop m ds)) (items_view (drop m es))) (sym is)

-- ---- members

abbrev from_all : String Global → Tree → List Entry → Members → List Difference
from_all key t more ns =
    from_member (string_bytes key) (view t) (λ e. differences (view t) e)
    (λ es. members_differences (members_view more) es) ns

-- both have a member with the name
pub members_both : (root steps : List CodeStep) (key m : String Global) (t u : Tree)
    (all more left0 left1 left2 : List Entry) (old lower new : List CodeDifference)
    → all ≡ (key, t) ∷ more → steps ≡ root
    → PassesLower (string_bytes key) steps left0 left1 old lower
    → string_bytes m ≡ string_bytes key → left1 ≡ (m, u) ∷ left2
    → shown_differences new ++ map (below (path_of root))
    (members_differences (members_view more) (members_view left2))
    ≡ shown_differences lower ++ map (below (path_of root))
    (map (behind (name (string_bytes key))) (differences (view t) (view u))
    ++ members_differences (members_view more) (members_view left2))
    → shown_differences new ++ map (below (path_of root))
    (members_differences (members_view more) (members_view left2))
    ≡ shown_differences old ++ map (below (path_of root))
    (members_differences (members_view all) (members_view left0))
members_both root steps key m t u all more left0 left1 left2 old lower new is same passes named next
    h =
    let k = string_bytes key in
    let differ : Doc → List Difference = λ e. differences (view t) e in
    let rest : Members → List Difference = λ es. members_differences (members_view more) es in
    let found = both_here k (view t) differ rest (view u) (members_view left2) in
    let first = ap (λ l. member l (view u) (members_view left2)) named in
    h ∙ ap (λ ys. shown_differences lower ++ map (below (path_of root)) ys) (sym found)
    ∙ ap (λ ns. shown_differences lower ++ map (below (path_of root)) (from_all key t more ns))
    (sym first)
    ∙ ap (λ es. shown_differences lower
    ++ map (below (path_of root)) (from_all key t more (members_view es)))
    (sym next)
    ∙ subst (λ r. shown_differences lower
    ++ map (below (path_of r)) (from_all key t more (members_view left1))
    ≡ shown_differences old ++ map (below (path_of r)) (from_all key t more (members_view left0)))
    same
    (passes (view t) differ rest)
    ∙ ap (λ es. shown_differences old ++ map (below (path_of root))
    (members_differences (members_view es) (members_view left0))) (sym is)

-- only A has one
pub members_only_a : (root steps : List CodeStep) (key : String Global) (t : Tree)
    (all more left0 left1 left2 : List Entry) (old lower new : List CodeDifference)
    → all ≡ (key, t) ∷ more → steps ≡ root
    → PassesLower (string_bytes key) steps left0 left1 old lower
    → HasNoLower (string_bytes key) (members_view left1)
    → TakesNamed (string_bytes key) left1 left2 None
    → shown_differences new ++ map (below (path_of root))
    (members_differences (members_view more) (members_view left2))
    ≡ shown_differences lower
    ++ map (below (path_of root)) (only_a (name (string_bytes key)) (view t)
    ∷ members_differences (members_view more) (members_view left2))
    → shown_differences new ++ map (below (path_of root))
    (members_differences (members_view more) (members_view left2))
    ≡ shown_differences old ++ map (below (path_of root))
    (members_differences (members_view all) (members_view left0))
members_only_a root steps key t all more left0 left1 left2 old lower new is same passes low next h =
    let k = string_bytes key in
    let differ : Doc → List Difference = λ e. differences (view t) e in
    let rest : Members → List Difference = λ es. members_differences (members_view more) es in
    let found = only_a_here k (view t) differ rest (members_view left1) low next.1 in
    h ∙ ap (λ es. shown_differences lower ++ map (below (path_of root))
    (only_a (name k) (view t) ∷ rest (members_view es))) next.0
    ∙ ap (λ ys. shown_differences lower ++ map (below (path_of root)) ys) (sym found)
    ∙ subst (λ r. shown_differences lower
    ++ map (below (path_of r)) (from_all key t more (members_view left1))
    ≡ shown_differences old ++ map (below (path_of r)) (from_all key t more (members_view left0)))
    same
    (passes (view t) differ rest)
    ∙ ap (λ es. shown_differences old ++ map (below (path_of root))
    (members_differences (members_view es) (members_view left0))) (sym is)
