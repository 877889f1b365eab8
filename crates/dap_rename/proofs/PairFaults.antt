-- Checking pairs one by one, and pairing by position.
use Rattle.std.proofs.Common.{◌≡◌, ℕ, suc, ◌+◌, ◌<◌, ◌≤◌, ℤ, pos, true, false, ◌&&◌, List, []}
use Rattle.std.proofs.Common.{◌∷◌, ◌++◌}
use Rattle.std.proofs.Common.{length, take, drop, get_or, Option, Some, None, MatchOption}
use Rattle.std.proofs.Common.{is_some}
use Rattle.std.proofs.Common.{refl, sym, ◌∙◌, ap, ap₂, subst, arith, true≢false}
use Rattle.std.proofs.Common.{take-append-drop}
use Rattle.std.proofs.Common.{append_assoc, append-nil}
use Rattle.std.proofs.lemmas.Bool.{and_parts, and_from}
use Rattle.std.proofs.lemmas.Bool.Decides.{Decides-int_eq}
use Rattle.std.proofs.lemmas.List.{map-append, take_more, take_all, length-take-le}
use Rattle.std.specs.List.{AllByRecursion, flat_map}
use Rattle.std.proofs.lemmas.List.Concat.{flat_map-append}
use Rattle.std.specs.Ordering.{int_eq}
use Rattle.dap_tree.specs.declared.sort.Sort.{Sort}
use Rattle.dap_tree.proofs.Booleans.{or_left, or_right}
use Rattle.dap_message.specs.Message.{Sent}
use Rattle.dap_message.specs.Numbers.{is_proper_number}
use Rattle.dap_rename.specs.Numbering.{table}
use Rattle.dap_rename.specs.Messages.{Class, IsProperId, same_class, occurrences, stops_after}
use Rattle.dap_rename.specs.Messages.{numbers_of_class, first_classes, classes_of_sort}
use Rattle.dap_rename.specs.Messages.{all_classes, equal_places}
use Rattle.dap_rename.specs.Renamings.{AreApart, IsRenaming, pairs_of_class, pairs}
use Rattle.dap_rename.specs.Pairs.{class_of, entry, entries, has_class, is_taken, is_given}
use Rattle.dap_rename.specs.Pairs.{AreRenaming, MayFollow, PairFails, FailsFirst}
use Rattle.dap_rename.specs.Pairs.{names_of_classes, equal_names}
use Rattle.dap_rename.specs.declared.pair.Pair.{Pair}
use Rattle.dap_rename.specs.declared.pair.PairFault.{PairFault}
use Rattle.dap_rename.proofs.RenamingBetween.{append_renaming}
use Rattle.dap_rename.proofs.Lists.{each-append}
use Rattle.dap_rename.proofs.Occurrences.{class_decides}

pub entries-append : (a b : List Pair) → entries (a ++ b) ≡ entries a ++ entries b
entries-append a b = map-append entry a b

-- ---- one more pair

pub apart_from : (q p : Pair)
    → (same_class (class_of q) (class_of p) && int_eq q.from p.from) ≡ false
    → (same_class (class_of q) (class_of p) && int_eq q.to p.to) ≡ false
    → AreApart (entry q) (entry p)
apart_from q p f t e =
    let s : same_class (class_of q) (class_of p) ≡ true =
    (class_decides (class_of q) (class_of p)).1 e in (
      (λ n. true≢false
          (sym (and_from (same_class (class_of q) (class_of p)) (int_eq q.from p.from) s
          ((Decides-int_eq q.from p.from).1 n)) ∙ f)),
      (λ n. true≢false
          (sym (and_from (same_class (class_of q) (class_of p)) (int_eq q.to p.to) s
          ((Decides-int_eq q.to p.to).1 n)) ∙ t)),
    )

pub all_apart : (before : List Pair) (p : Pair) → is_taken before p ≡ false
    → is_given before p ≡ false
    → AllByRecursion (λ q. AllByRecursion (AreApart q) (entry p ∷ [])) (entries before)
all_apart [] p f t = tt
all_apart (q ∷ before) p f t =
    let taken = same_class (class_of q) (class_of p) && int_eq q.from p.from in
    let given = same_class (class_of q) (class_of p) && int_eq q.to p.to in (
      (
        apart_from q p (or_left taken (is_taken before p) f) (or_left given (is_given before p) t),
        tt,
      ),
      all_apart before p (or_right taken (is_taken before p) f)
          (or_right given (is_given before p) t),
    )

pub no_pairs : AreRenaming []
no_pairs = record { classes = tt; renaming = tt }

pub renaming_push : (before : List Pair) (p : Pair) → AreRenaming before → MayFollow before p
    → AreRenaming (before ++ p ∷ [])
renaming_push before p h m =
    let proper = and_parts (is_proper_number p.sort p.from) (is_proper_number p.sort p.to) m.1 in
    record {
      classes = each-append (λ q. has_class q ≡ true) before (p ∷ []) h.classes (m.0, tt);
      renaming = subst (IsRenaming IsProperId) (sym (entries-append before (p ∷ [])))
          (append_renaming IsProperId (entries before) (entry p ∷ []) h.renaming
          ((proper.0, proper.1), tt, tt) (all_apart before p m.2 m.3));
    }

pub renaming_step : (ps : List Pair) (k : ℕ) (d : Pair) → k < length ps → AreRenaming (take k ps)
    → MayFollow (take k ps) (get_or ps k d) → AreRenaming (take (k + 1) ps)
renaming_step ps k d h r m = rw (take_more ps k d h) (renaming_push (take k ps) (get_or ps k d) r m)

pub fails_first : (ps : List Pair) (k : ℕ) (d : Pair) (f : PairFault) → k < length ps
    → AreRenaming (take k ps) → PairFails (take k ps) (get_or ps k d) f → FailsFirst ps f
fails_first ps k d f h r e = record {
  before = take k ps;
  pair = get_or ps k d;
  after = drop (k + 1) ps;
  split = sym (take-append-drop (k + 1) ps)
      ∙ (ap (λ t. t ++ drop (k + 1) ps) (take_more ps k d h)
      ∙ append_assoc (take k ps) (get_or ps k d ∷ []) (drop (k + 1) ps));
  renaming = r;
  fails = e;
}

-- the error that was found is that of the first pair that has one
pub first_found : (ps : List Pair) (k : ℕ) (d : Pair) (o : Option PairFault) → k < length ps
    → AreRenaming (take k ps)
    → MatchOption o (MayFollow (take k ps) (get_or ps k d)) (PairFails (take k ps) (get_or ps k d))
    → is_some o ≡ true
    → MatchOption o (AreRenaming ps) (FailsFirst ps)
first_found ps k d None h r m s = absurd (true≢false (sym s))
first_found ps k d (Some f) h r m s = fails_first ps k d f h r m

pub none_found : (ps : List Pair) (k : ℕ) (d : Pair) (o : Option PairFault) → k < length ps
    → AreRenaming (take k ps)
    → MatchOption o (MayFollow (take k ps) (get_or ps k d)) (PairFails (take k ps) (get_or ps k d))
    → is_some o ≡ false
    → AreRenaming (take (k + 1) ps)
none_found ps k d None h r m s = renaming_step ps k d h r m
none_found ps k d (Some f) h r m s = absurd (true≢false s)

-- ---- pairing by position

-- without numbers there are no pairs
pub no_names : (cs : List Class) (f g : Class → List ℤ) → ((c : Class) → f c ≡ [])
    → names_of_classes cs f g ≡ []
no_names [] f g h = refl
no_names (c ∷ cs) f g h =
    ap₂ (λ t u. t ++ u) (ap (λ xs. pairs_of_class c xs (g c)) (h c)) (no_names cs f g h)

pub no_entries : (ps : List Pair) → entries ps ≡ [] → ps ≡ []
no_entries [] h = refl
no_entries (p ∷ ps) h = cc

pub names-append : (cs ds : List Class) (f g : Class → List ℤ)
    → names_of_classes (cs ++ ds) f g ≡ names_of_classes cs f g ++ names_of_classes ds f g
names-append [] ds f g = refl
names-append (c ∷ cs) ds f g =
    ap (λ t. pairs_of_class c (f c) (g c) ++ t) (names-append cs ds f g)
    ∙ sym (append_assoc (pairs_of_class c (f c) (g c)) (names_of_classes cs f g)
    (names_of_classes ds f g))

-- one more class of a kind
pub class_step : (s : Sort) (k : ℕ) (f g : Class → List ℤ)
    (first old new : List (Class × ℤ × ℤ))
    → old ≡ first ++ names_of_classes (first_classes s k) f g
    → new ≡ old ++ pairs_of_class (s, k) (f (s, k)) (g (s, k))
    → new ≡ first ++ names_of_classes (first_classes s (suc k)) f g
class_step s k f g first old new e q =
    let last = pairs_of_class (s, k) (f (s, k)) (g (s, k)) in
    let before = names_of_classes (first_classes s k) f g in
    q ∙ ap (λ t. t ++ last) e ∙ append_assoc first before last
    ∙ ap (λ t. first ++ (before ++ t)) (sym (append-nil last))
    ∙ ap (λ t. first ++ t) (sym (names-append (first_classes s k) ((s, k) ∷ []) f g))

-- one more kind
pub sort_step : (stops : ℕ) (ss : List Sort) (k : ℕ) (d : Sort) (f g : Class → List ℤ)
    (old new : List (Class × ℤ × ℤ)) → k < length ss
    → old ≡ names_of_classes (flat_map (classes_of_sort stops) (take k ss)) f g
    → new ≡ old ++ names_of_classes (classes_of_sort stops (get_or ss k d)) f g
    → new ≡ names_of_classes (flat_map (classes_of_sort stops) (take (k + 1) ss)) f g
sort_step stops ss k d f g old new h e q =
    let s = get_or ss k d in
    let C = classes_of_sort stops in
    q ∙ ap (λ t. t ++ names_of_classes (C s) f g) e
    ∙ sym (names-append (flat_map C (take k ss)) (C s) f g)
    ∙ ap (λ t. names_of_classes (flat_map C (take k ss) ++ t) f g) (sym (append-nil (C s)))
    ∙ ap (λ cs. names_of_classes cs f g) (sym (flat_map-append C (take k ss) (s ∷ [])))
    ∙ ap (λ ts. names_of_classes (flat_map C ts) f g) (sym (take_more ss k d h))

pub sorts_ended : (stops : ℕ) (ss : List Sort) (k : ℕ) (f g : Class → List ℤ)
    (r : List (Class × ℤ × ℤ)) → length ss ≤ k
    → r ≡ names_of_classes (flat_map (classes_of_sort stops) (take k ss)) f g
    → r ≡ names_of_classes (flat_map (classes_of_sort stops) ss) f g
sorts_ended stops ss k f g r h e =
    e ∙ ap (λ t. names_of_classes (flat_map (classes_of_sort stops) t) f g) (take_all k ss h)

pub pairs-push : {K : Type 0} (c : K) (t u : List ℤ) (x y : ℤ) → length t ≡ length u
    → pairs_of_class c (t ++ x ∷ []) (u ++ y ∷ []) ≡ pairs_of_class c t u ++ (c, x, y) ∷ []
pairs-push c [] [] x y h = refl
pairs-push c [] (b ∷ u) x y h = absurd (omega (arith, h))
pairs-push c (a ∷ t) [] x y h = absurd (omega (arith, h))
pairs-push c (a ∷ t) (b ∷ u) x y h =
    ap (λ r. (c, a, b) ∷ r) (pairs-push c t u x y (omega (arith, h)))

pub add_step : (c : Class) (xs ys : List ℤ) (k : ℕ) (first : List (Class × ℤ × ℤ))
    (old new : List Pair) (x y : ℤ) → k < length xs → length xs ≡ length ys
    → x ≡ get_or xs k (pos 0) → y ≡ get_or ys k (pos 0) →
    entries old ≡ first ++ pairs_of_class c (take k xs) (take k ys)
    → new ≡ old ++ (record { sort = c.0; stop = c.1; from = x; to = y }) ∷ []
    → entries new ≡ first ++ pairs_of_class c (take (k + 1) xs) (take (k + 1) ys)
add_step c xs ys k first old new x y h n p q e f =
    let count : length (take k xs) ≡ length (take k ys) =
    length-take-le k xs (omega (arith, h)) ∙ sym (length-take-le k ys (omega (arith, h, n))) in
    ap entries f
    ∙ entries-append old ((record { sort = c.0; stop = c.1; from = x; to = y }) ∷ [])
    ∙ ap (λ t. t ++ (c, x, y) ∷ []) e
    ∙ append_assoc first (pairs_of_class c (take k xs) (take k ys)) ((c, x, y) ∷ [])
    ∙ ap (λ t. first ++ t) (sym (pairs-push c (take k xs) (take k ys) x y count)
    ∙ (ap (λ t. pairs_of_class c t (take k ys ++ y ∷ [])) (ap (λ a. take k xs ++ a ∷ []) p
    ∙ sym (take_more xs k (pos 0) h))
    ∙ ap (λ u. pairs_of_class c (take (k + 1) xs) u) (ap (λ a. take k ys ++ a ∷ []) q
    ∙ sym (take_more ys k (pos 0) (omega (arith, h, n))))))

-- all numbers are paired
pub class_ended : (c : Class) (xs ys : List ℤ) (k : ℕ) (first r : List (Class × ℤ × ℤ))
    → length xs ≤ k → length xs ≡ length ys
    → r ≡ first ++ pairs_of_class c (take k xs) (take k ys)
    → r ≡ first ++ pairs_of_class c xs ys
class_ended c xs ys k first r h n e =
    e ∙ ap (λ t. first ++ pairs_of_class c t (take k ys)) (take_all k xs h)
    ∙ ap (λ t. first ++ pairs_of_class c xs t) (take_all k ys (omega (arith, h, n)))

pub each_place : (cs : List Class) (xs ys : List (Class × ℤ)) (f g : Class → List ℤ)
    → ((c : Class) → f c ≡ table same_class c xs) → ((c : Class) → g c ≡ table same_class c ys)
    → names_of_classes cs f g ≡ pairs same_class cs xs ys
each_place [] xs ys f g h k = refl
each_place (c ∷ cs) xs ys f g h k =
    let later = each_place cs xs ys f g h k in rw (h c, k c, later) refl

pub places_equal : (stop : Sent → ℕ) (stops : ℕ) (ms ns : List Sent) (f g : Class → List ℤ)
    → stops ≡ stops_after stop 0 ms
    → ((c : Class) → f c ≡ numbers_of_class stop c ms)
    → ((c : Class) → g c ≡ numbers_of_class stop c ns)
    → equal_names stops f g ≡ equal_places stop ms ns
places_equal stop stops ms ns f g e h k =
    ap (λ n. equal_names n f g) e
    ∙ each_place (all_classes (stops_after stop 0 ms)) (occurrences stop 0 ms)
    (occurrences stop 0 ns) f g h k
