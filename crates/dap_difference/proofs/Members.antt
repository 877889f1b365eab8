-- Members by name, if they are in order.
use Rattle.std.proofs.Common.{◌≡◌, ◌⊎◌, inl, inr, ℕ, List, Bool, true, false, Option, Some}
use Rattle.std.proofs.Common.{None, Ordering, Less, Equal, Greater, nat_cmp, bytes_eq, is_eq, refl}
use Rattle.std.proofs.Common.{sym, ap, ◌∙◌}
use Rattle.std.proofs.lemmas.Cmp.{nat_list_cmp_total}
use Rattle.std.proofs.lemmas.Map.Text.{is_eq-slice_cmp}
use Rattle.std.proofs.lemmas.Slice.Eq.{bytes_eq-Decides}
use Rattle.std.specs.Cmp.Lexicographic.{slice_cmp}
use Rattle.std.specs.Ordering.{match_ordering, ordering_reverse, is_lt}
use Rattle.dap_tree.specs.Doc.{Doc, Members, no_members, member, get_member, is_below_all}
use Rattle.dap_tree.proofs.Booleans.{and_left, and_right, and_both}
use Rattle.dap_tree.proofs.Comparisons.{less}

hit : (o : Ordering) (a b : Option Doc) → is_eq o ≡ true → match_ordering o a b a ≡ b
hit Less a b e = cc
hit Equal a b e = refl
hit Greater a b e = cc

pub found_first : (k : List ℕ) (d : Doc) (ms : Members) → get_member k (member k d ms) ≡ Some d
found_first k d ms =
    hit (slice_cmp nat_cmp k k) (get_member k ms) (Some d) (is_eq-slice_cmp k k
    ∙ (bytes_eq-Decides k k).1 refl)

-- a name that is below the names of all members is not one of them
pub missing : (k : List ℕ) (ms : Members) → is_below_all k ms ≡ true → get_member k ms ≡ None
missing k no_members h = refl
missing k (member l e ms) h =
    let first = less (slice_cmp nat_cmp k l)
    (and_left (is_lt (slice_cmp nat_cmp k l)) (is_below_all k ms) h) in
    rw first (missing k ms (and_right (is_lt (slice_cmp nat_cmp k l)) (is_below_all k ms) h))

pub below_lower : (k l : List ℕ) (ms : Members) → slice_cmp nat_cmp k l ≡ Less
    → is_below_all l ms ≡ true → is_below_all k ms ≡ true
below_lower k l no_members low h = refl
below_lower k l (member m d ms) low h =
    let next = less (slice_cmp nat_cmp l m)
    (and_left (is_lt (slice_cmp nat_cmp l m)) (is_below_all l ms) h) in
    and_both _ _ (ap is_lt (nat_list_cmp_total.trans k l m low next))
    (below_lower k l ms low (and_right (is_lt (slice_cmp nat_cmp l m)) (is_below_all l ms) h))

-- a name below that of the first member is below all names
pub below_first : (k l : List ℕ) (e : Doc) (ms : Members) → slice_cmp nat_cmp k l ≡ Less
    → is_below_all l ms ≡ true → is_below_all k (member l e ms) ≡ true
below_first k l e ms low h = and_both _ _ (ap is_lt low) (below_lower k l ms low h)

pub turned : (k l : List ℕ) → slice_cmp nat_cmp k l ≡ Greater → slice_cmp nat_cmp l k ≡ Less
turned k l h = nat_list_cmp_total.antisymm l k ∙ ap ordering_reverse h

pub one_name : (k l : List ℕ) → slice_cmp nat_cmp k l ≡ Equal → k ≡ l
one_name k l h = (bytes_eq-Decides k l).0 (sym (is_eq-slice_cmp k l) ∙ ap is_eq h)

by_test : (q k : List ℕ) (b : Bool) → bytes_eq q k ≡ b → (q ≡ k) ⊎ (q ≡ k → ⊥)
by_test q k true h = inl ((bytes_eq-Decides q k).0 h)
by_test q k false h = inr (λ same. let hits = (bytes_eq-Decides q k).1 same in absurd cc)

pub same_or_apart : (q k : List ℕ) → (q ≡ k) ⊎ (q ≡ k → ⊥)
same_or_apart q k = by_test q k (bytes_eq q k) refl
