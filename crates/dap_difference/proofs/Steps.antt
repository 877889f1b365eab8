-- The differences that one step of the traversal of two trees appends.
use Rattle.std.proofs.Common.{◌≡◌, ℕ, List, [], ◌∷◌, ◌++◌, map, true, false, Ordering, Less}
use Rattle.std.proofs.Common.{Equal, Greater, nat_cmp, is_eq, refl, sym, ap, ap₂, ◌∙◌}
use Rattle.std.proofs.Common.{append_assoc}
use Rattle.std.proofs.lemmas.List.{map-append}
use Rattle.std.proofs.lemmas.Map.Text.{is_eq-slice_cmp}
use Rattle.std.proofs.lemmas.Slice.Eq.{bytes_eq-Decides}
use Rattle.std.specs.Cmp.Lexicographic.{slice_cmp}
use Rattle.std.specs.Ordering.{match_ordering, is_gt}
use Rattle.dap_tree.specs.Doc.{Doc, Members, no_members, member}
use Rattle.dap_tree.specs.Path.{Step, name}
use Rattle.dap_difference.specs.Differences.{Difference}
use Rattle.dap_difference.specs.Telling.{only_a, only_b, behind, from_member, below}
use Rattle.dap_difference.specs.TellingSteps.{Appends, HasNoLower, HasOtherFirst}
use Rattle.dap_difference.specs.Shown.{path_of, shown_differences}
use Rattle.dap_difference.specs.declared.difference.Step.{Step as CodeStep}
use Rattle.dap_difference.specs.declared.difference.Difference.{Difference as CodeDifference}
use Rattle.dap_difference.proofs.Members.{one_name}

below_behind : (p : List Step) (s : Step) (xs : List Difference)
    → map (below (p ++ s ∷ [])) xs ≡ map (below p) (map (behind s) xs)
below_behind p s [] = refl
below_behind p s (x ∷ xs) =
    let same : (p ++ s ∷ []) ++ x.path ≡ p ++ (s ∷ x.path) = append_assoc p (s ∷ []) x.path in
    let first : below (p ++ s ∷ []) x ≡ below p (behind s x) = ap (λ q.
    let y : Difference = record { path = q; of_a = x.of_a; of_b = x.of_b } in y) same in
    rw (first, below_behind p s xs) refl

below_root : (xs : List Difference) → map (below []) xs ≡ xs
below_root [] = refl
below_root (x ∷ xs) = ap (λ ys. x ∷ ys) (below_root xs)

-- the differences found from the root are all differences
pub all_told : (steps : List CodeStep) (old new : List CodeDifference) (xs : List Difference)
    → steps ≡ [] → old ≡ [] → Appends steps old new xs → shown_differences new ≡ xs
all_told steps old new xs at_root none h =
    h ∙ ap₂ (λ s o. shown_differences o ++ map (below (path_of s)) xs) at_root none ∙ below_root xs

-- the differences after a step, followed by the remaining ones
pub behind_step : (p : List Step) (s : Step) (old new xs rest : List Difference)
    → new ≡ old ++ map (below (p ++ s ∷ [])) xs
    → new ++ map (below p) rest ≡ old ++ map (below p) (map (behind s) xs ++ rest)
behind_step p s old new xs rest h =
    ap (λ ys. ys ++ map (below p) rest) (h ∙ ap (λ ys. old ++ ys) (below_behind p s xs))
    ∙ append_assoc old (map (below p) (map (behind s) xs)) (map (below p) rest)
    ∙ ap (λ ys. old ++ ys) (sym (map-append (below p) (map (behind s) xs) rest))

-- one difference, followed by the remaining ones
pub one_step : (p : List Step) (old new : List Difference) (x : Difference)
    (rest : List Difference) → new ≡ old ++ below p x ∷ []
    → new ++ map (below p) rest ≡ old ++ map (below p) (x ∷ rest)
one_step p old new x rest h =
    ap (λ ys. ys ++ map (below p) rest) h ∙ append_assoc old (below p x ∷ []) (map (below p) rest)

equal_at : (o : Ordering) → is_eq o ≡ true → o ≡ Equal
equal_at Less h = absurd cc
equal_at Equal h = refl
equal_at Greater h = absurd cc

itself : (k : List ℕ) → slice_cmp nat_cmp k k ≡ Equal
itself k =
    equal_at (slice_cmp nat_cmp k k) (is_eq-slice_cmp k k ∙ (bytes_eq-Decides k k).1 refl)

less_at : (o : Ordering) → is_gt o ≡ false → (o ≡ Equal → ⊥) → o ≡ Less
less_at Less h k = refl
less_at Equal h k = absurd (k refl)
less_at Greater h k = absurd cc

-- B has no member with the name
pub only_a_here : (k : List ℕ) (d : Doc) (differ : Doc → List Difference)
    (rest : Members → List Difference) (ns : Members) → HasNoLower k ns → HasOtherFirst k ns
    → from_member k d differ rest ns ≡ only_a (name k) d ∷ rest ns
only_a_here k d differ rest no_members low other = refl
only_a_here k d differ rest (member l e ns) low other =
    let first = less_at (slice_cmp nat_cmp k l) low
    (λ equal. other (sym (one_name k l equal))) in
    ap (λ o. match_ordering o (only_a (name k) d ∷ rest (member l e ns))
    (map (behind (name k)) (differ e) ++ rest ns)
    (only_b (name l) e ∷ from_member k d differ rest ns)) first

-- both have a member with the name
pub both_here : (k : List ℕ) (d : Doc) (differ : Doc → List Difference)
    (rest : Members → List Difference) (e : Doc) (ns : Members)
    → from_member k d differ rest (member k e ns) ≡ map (behind (name k)) (differ e) ++ rest ns
both_here k d differ rest e ns =
    ap (λ o. match_ordering o (only_a (name k) d ∷ rest (member k e ns))
    (map (behind (name k)) (differ e) ++ rest ns)
    (only_b (name k) e ∷ from_member k d differ rest ns)) (itself k)

-- B's member is below the name
pub lower_here : (k l : List ℕ) (d : Doc) (differ : Doc → List Difference)
    (rest : Members → List Difference) (e : Doc) (ns : Members) → slice_cmp nat_cmp k l ≡ Greater
    → from_member k d differ rest (member l e ns)
    ≡ only_b (name l) e ∷ from_member k d differ rest ns
lower_here k l d differ rest e ns greater =
    ap (λ o. match_ordering o (only_a (name k) d ∷ rest (member l e ns))
    (map (behind (name k)) (differ e) ++ rest ns)
    (only_b (name l) e ∷ from_member k d differ rest ns)) greater
