-- The kind and the name of a message determine the ranges of the table that apply to it.
use Rattle.std.proofs.Common.{◌≡◌, ℕ, Bool, true, false, cond, ◌&&◌, List, [], ◌∷◌, ◌++◌, Option}
use Rattle.std.proofs.Common.{Some, None, refl, sym, ◌∙◌, ap, ap₂, bytes_eq, not, is_some}
use Rattle.std.proofs.Common.{true≢false, subst, take, drop, length, map, ◌<◌, get_or, ◌+◌}
use Rattle.std.proofs.Common.{arith, ◌≤◌}
use Rattle.std.proofs.lemmas.List.{take-append-drop, append-nil, take-map, drop-map, length-map}
use Rattle.std.proofs.lemmas.List.{drop_more}
use Rattle.std.proofs.lemmas.Bool.{leb-true}
use Rattle.std.specs.Bool.{nat_le}
use Rattle.std.proofs.lemmas.List.Elements.{filter-append}
use Rattle.std.proofs.lemmas.Slice.Eq.{bytes_eq-Decides}
use Rattle.std.specs.List.{filter, list_all}
use Rattle.std.specs.Option.{option_map_or}
use Rattle.dap_profile.specs.RowRanges.{same_kind, may_apply, has_name, asks, rows_asked}
use Rattle.dap_profile.specs.RowRanges.{rows_named}
use Rattle.dap_profile.specs.RowRanges.{none_of, one_name, is_run, are_runs}
use Rattle.dap_profile.specs.Profile.{profile}
use Rattle.dap_profile.specs.ProfileRows.{ProfileRow, row_of}
use Rattle.dap_profile.specs.declared.profile.Kind.{Kind}
use Rattle.dap_profile.specs.declared.profile.Row.{Row}

-- ---- tests

by_bool : {P : Type 0} → (b : Bool) → (b ≡ true → P) → (b ≡ false → P) → P
by_bool true f g = f refl
by_bool false f g = g refl

and_left : (a b : Bool) → (a && b) ≡ true → a ≡ true
and_left true b h = refl
and_left false b h = h

and_right : (a b : Bool) → (a && b) ≡ true → b ≡ true
and_right true b h = h
and_right false b h = cc

-- ---- the ranges of a kind

-- the row applies to each document of the kind
abbrev whole_kind : Option Kind → ProfileRow → Bool
whole_kind k r =
    option_map_or (λ j. option_map_or (same_kind j) k false && not (is_some r.name)) r.kind true

-- the row applies to each document of the kind that has its name
abbrev with_name : Option Kind → ProfileRow → Bool
with_name k r =
    option_map_or (λ j. option_map_or (same_kind j) k false && is_some r.name) r.kind false

narrower : (k : Option Kind) (n : Option (List ℕ)) (rs : List ProfileRow)
    → filter (asks k n) rs ≡ filter (asks k n) (filter (may_apply k) rs)
narrower k n [] = refl
narrower k n (r ∷ rs) = by_bool (may_apply k r)
    (λ h. rw h (ap (λ xs. cond (asks k n r) (r ∷ xs) xs) (narrower k n rs)))
    (λ h. rw (h, not_asked r.kind r.name h) (narrower k n rs))
  where
    not_asked : (j : Option Kind) (m : Option (List ℕ))
        → option_map_or (λ j. option_map_or (same_kind j) k false) j true ≡ false
        → option_map_or (λ j. option_map_or (same_kind j) k false
        && option_map_or (λ m. option_map_or (bytes_eq m) n false) m true) j true ≡ false
    not_asked None m h = h
    not_asked (Some j) m h = rw h refl

whole-kept : (k : Option Kind) (n : Option (List ℕ)) (rs : List ProfileRow)
    → list_all (whole_kind k) rs ≡ true → filter (asks k n) rs ≡ rs
whole-kept k n [] h = refl
whole-kept k n (r ∷ rs) h =
    rw (asked r.kind r.name (and_left _ _ h))
    (ap (λ xs. r ∷ xs) (whole-kept k n rs (and_right _ _ h)))
  where
    asked : (j : Option Kind) (m : Option (List ℕ))
        → option_map_or (λ j. option_map_or (same_kind j) k false && not (is_some m)) j true ≡ true
        → option_map_or (λ j. option_map_or (same_kind j) k false
        && option_map_or (λ m. option_map_or (bytes_eq m) n false) m true) j true ≡ true
    asked None m h = refl
    asked (Some j) None h = h
    asked (Some j) (Some m) h =
        absurd (true≢false (sym (and_right (option_map_or (same_kind j) k false) false h)))

named-kept : (k : Option Kind) (n : Option (List ℕ)) (rs : List ProfileRow)
    → list_all (with_name k) rs ≡ true → filter (asks k n) rs ≡ filter (has_name n) rs
named-kept k n [] h = refl
named-kept k n (r ∷ rs) h =
    ap₂ (λ b xs. cond b (r ∷ xs) xs) (asked r.kind r.name (and_left _ _ h))
    (named-kept k n rs (and_right _ _ h))
  where
    asked : (j : Option Kind) (m : Option (List ℕ))
        → option_map_or (λ j. option_map_or (same_kind j) k false && is_some m) j false ≡ true
        → option_map_or (λ j. option_map_or (same_kind j) k false
        && option_map_or (λ m. option_map_or (bytes_eq m) n false) m true) j true
        ≡ option_map_or (λ m. option_map_or (bytes_eq m) n false) m false
    asked None m h = absurd (true≢false (sym h))
    asked (Some j) None h =
        absurd (true≢false (sym (and_right (option_map_or (same_kind j) k false) false h)))
    asked (Some j) (Some m) h = rw (and_left (option_map_or (same_kind j) k false) true h) refl

-- ---- part by part

-- the rows of some parts of a kind that apply to a document with this name
pub record AskedOf (k : Kind) (n : Option (List ℕ)) (rs xs : List ProfileRow) : Type 0 where
  pub kept : filter (asks (Some k) n) rs ≡ xs

pub no-parts : (k : Kind) (n : Option (List ℕ)) → AskedOf k n [] []
no-parts k n = record { kept = refl }

-- a part whose rows apply to each message of the kind, then other parts
pub whole-part : (k : Kind) (n : Option (List ℕ)) (a rest y : List ProfileRow)
    → list_all (whole_kind (Some k)) a ≡ true → AskedOf k n rest y
    → AskedOf k n (a ++ rest) (a ++ y)
whole-part k n a rest y h later = record {
  kept = filter-append (asks (Some k) n) a rest
      ∙ ap₂ (λ x y. x ++ y) (whole-kept (Some k) n a h) later.kept;
}

-- a part whose rows apply by name, then other parts
pub named-part : (k : Kind) (n : Option (List ℕ)) (c x rest y : List ProfileRow)
    → list_all (with_name (Some k)) c ≡ true → x ≡ rows_named n c → AskedOf k n rest y
    → AskedOf k n (c ++ rest) (x ++ y)
unfolding rows_named
named-part k n c x rest y h is later = record {
  kept = filter-append (asks (Some k) n) c rest
      ∙ ap₂ (λ x y. x ++ y) (named-kept (Some k) n c h ∙ sym is) later.kept;
}

-- the rows of a kind, in parts of the table
pub asked-of-kind : (k : Kind) (n : Option (List ℕ)) (parts x : List ProfileRow)
    → filter (may_apply (Some k)) profile ≡ parts → AskedOf k n parts x
    → x ≡ rows_asked (Some k) n
unfolding rows_asked
asked-of-kind k n parts x h asked =
    sym (narrower (Some k) n profile ∙ ap (filter (asks (Some k) n)) h ∙ asked.kept)

-- ---- the rows with a name

none-kept : (p : ProfileRow → Bool) (rs : List ProfileRow) → none_of p rs ≡ true → filter p rs ≡ []
none-kept p [] h = refl
none-kept p (r ∷ rs) h =
    by_bool (p r) (λ e. absurd (true≢false (sym (rw e at h))))
    (λ e. rw e (none-kept p rs (rw e at h)))

name-is : (m n : Option (List ℕ))
    → option_map_or (λ w. option_map_or (bytes_eq w) n false) m false ≡ true → m ≡ n
name-is None n h = absurd (true≢false (sym h))
name-is (Some w) None h = absurd (true≢false (sym h))
name-is (Some w) (Some v) h = ap Some ((bytes_eq-Decides w v).0 h)

-- ---- rows with one name

all-kept : (p : ProfileRow → Bool) (rs : List ProfileRow) → list_all p rs ≡ true → filter p rs ≡ rs
all-kept p [] h = refl
all-kept p (r ∷ rs) h =
    rw (and_left (p r) (list_all p rs) h)
    (ap (λ xs. r ∷ xs) (all-kept p rs (and_right (p r) (list_all p rs) h)))

none-kept-of : (n m : Option (List ℕ)) (rs : List ProfileRow)
    → option_map_or (λ w. option_map_or (bytes_eq w) n false) m false ≡ false
    → list_all (has_name m) rs ≡ true → filter (has_name n) rs ≡ []
none-kept-of n m [] e h = refl
none-kept-of n m (r ∷ rs) e h =
    let same : r.name ≡ m =
    name-is r.name m (and_left (has_name m r) (list_all (has_name m) rs) h) in
    rw (same, e) (none-kept-of n m rs e (and_right (has_name m r) (list_all (has_name m) rs) h))

pub first-named : (n : Option (List ℕ)) (r : ProfileRow) (rs : List ProfileRow)
    → one_name (r ∷ rs) ≡ true → has_name n r ≡ true → r ∷ rs ≡ rows_named n (r ∷ rs)
unfolding rows_named
first-named n r rs h e =
    let same : r.name ≡ n = name-is r.name n e in
    sym (all-kept (has_name n) (r ∷ rs) (subst (λ m. list_all (has_name m) (r ∷ rs) ≡ true) same h))

pub first-other : (n : Option (List ℕ)) (r : ProfileRow) (rs : List ProfileRow)
    → one_name (r ∷ rs) ≡ true → has_name n r ≡ false → [] ≡ rows_named n (r ∷ rs)
unfolding rows_named
first-other n r rs h e = sym (none-kept-of n r.name (r ∷ rs) e h)

-- the first row of rows with one name decides whether they have this name
pub named-by-first : (n : Option (List ℕ)) (rows : List Row) (row : Row) → 0 < length rows
    → one_name (map row_of rows) ≡ true
    → ((has_name n (row_of (get_or rows 0 row)) ≡ true
    → map row_of rows ≡ rows_named n (map row_of rows))
    × (has_name n (row_of (get_or rows 0 row)) ≡ false → [] ≡ rows_named n (map row_of rows)))
named-by-first n [] row lt h = absurd (omega arith)
named-by-first n (r ∷ rs) row lt h =
    (first-named n (row_of r) (map row_of rs) h, first-other n (row_of r) (map row_of rs) h)

-- ---- runs of rows

halves : (p : ProfileRow → Bool) (k : ℕ) (rs : List ProfileRow)
    → filter p rs ≡ filter p (take k rs) ++ filter p (drop k rs)
halves p k rs =
    ap (filter p) (sym (take-append-drop k rs)) ∙ filter-append p (take k rs) (drop k rs)

run-fits : (k : ℕ) (r : ProfileRow) (rs : List ProfileRow) → is_run k (r ∷ rs) ≡ true
    → k ≤ length (r ∷ rs)
run-fits k r rs h =
    leb-true k (length (r ∷ rs))
    (and_left (nat_le k (length (r ∷ rs))) (list_all (has_name r.name) (take k (r ∷ rs)))
    (and_left _ (none_of (has_name r.name) (drop k (r ∷ rs))) h))

run-of : (k : ℕ) (r : ProfileRow) (rs : List ProfileRow) → is_run k (r ∷ rs) ≡ true
    → list_all (has_name r.name) (take k (r ∷ rs)) ≡ true
run-of k r rs h =
    and_right (nat_le k (length (r ∷ rs))) _
    (and_left _ (none_of (has_name r.name) (drop k (r ∷ rs))) h)

run-ends : (k : ℕ) (r : ProfileRow) (rs : List ProfileRow) → is_run k (r ∷ rs) ≡ true
    → none_of (has_name r.name) (drop k (r ∷ rs)) ≡ true
run-ends k r rs h =
    and_right (nat_le k (length (r ∷ rs)) && list_all (has_name r.name) (take k (r ∷ rs))) _ h

-- a run of the name is all the rows of the name
run-kept : (n : Option (List ℕ)) (k : ℕ) (r : ProfileRow) (rs : List ProfileRow)
    → is_run k (r ∷ rs) ≡ true → has_name n r ≡ true
    → take k (r ∷ rs) ≡ filter (has_name n) (r ∷ rs)
run-kept n k r rs h e =
    let same : r.name ≡ n = name-is r.name n e in
    let front : list_all (has_name n) (take k (r ∷ rs)) ≡ true =
    subst (λ m. list_all (has_name m) (take k (r ∷ rs)) ≡ true) same (run-of k r rs h) in
    let back : none_of (has_name n) (drop k (r ∷ rs)) ≡ true =
    subst (λ m. none_of (has_name m) (drop k (r ∷ rs)) ≡ true) same (run-ends k r rs h) in
    sym (halves (has_name n) k (r ∷ rs)
    ∙ ap₂ (λ x y. x ++ y) (all-kept (has_name n) (take k (r ∷ rs)) front)
    (none-kept (has_name n) (drop k (r ∷ rs)) back)
    ∙ append-nil (take k (r ∷ rs)))

-- a run of another name has none of them
run-left : (n : Option (List ℕ)) (k : ℕ) (r : ProfileRow) (rs : List ProfileRow)
    → is_run k (r ∷ rs) ≡ true → has_name n r ≡ false
    → filter (has_name n) (r ∷ rs) ≡ filter (has_name n) (drop k (r ∷ rs))
run-left n k r rs h e =
    halves (has_name n) k (r ∷ rs)
    ∙ ap (λ x. x ++ filter (has_name n) (drop k (r ∷ rs)))
    (none-kept-of n r.name (take k (r ∷ rs)) e (run-of k r rs h))

-- what the next run says of the rows that are left
pub record NextRun (n : Option (List ℕ)) (rows : List Row) (row : Row) (k : ℕ) : Type 0 where
  pub found : has_name n (row_of (get_or rows 0 row)) ≡ true
      → map row_of (take k rows) ≡ filter (has_name n) (map row_of rows)
  pub other : has_name n (row_of (get_or rows 0 row)) ≡ false
      → filter (has_name n) (map row_of rows) ≡ filter (has_name n) (map row_of (drop k rows))

run-next : (n : Option (List ℕ)) (rows : List Row) (row : Row) (k : ℕ)
    → is_run k (map row_of rows) ≡ true → NextRun n rows row k
run-next n [] row k h = absurd (true≢false (sym h))
run-next n (r ∷ rs) row k h = record {
  found = λ e. sym (take-map row_of k (r ∷ rs)) ∙ run-kept n k (row_of r) (map row_of rs) h e;
  other = λ e. run-left n k (row_of r) (map row_of rs) h e
      ∙ ap (filter (has_name n)) (drop-map row_of k (r ∷ rs));
}

first-run : (k : ℕ) (ks : List ℕ) (rs : List ProfileRow) → are_runs (k ∷ ks) rs ≡ true
    → is_run k rs ≡ true
first-run k ks rs h = and_left (is_run k rs) (are_runs ks (drop k rs)) h

pub next-run : (n : Option (List ℕ)) (rows : List Row) (row : Row) (ks : List ℕ) (i d : ℕ)
    → i < length ks → are_runs (drop i ks) (map row_of rows) ≡ true
    → NextRun n rows row (get_or ks i d)
next-run n rows row ks i d lt h =
    run-next n rows row (get_or ks i d)
    (first-run (get_or ks i d) (drop (i + 1) ks) (map row_of rows)
    (subst (λ xs. are_runs xs (map row_of rows) ≡ true) (drop_more ks i d lt) h))

run-length : (k : ℕ) (rows : List Row) → is_run k (map row_of rows) ≡ true → k ≤ length rows
run-length k [] h = absurd (true≢false (sym h))
run-length k (r ∷ rs) h =
    subst (λ (l : ℕ). k ≤ l) (length-map (r ∷ rs) row_of) (run-fits k (row_of r) (map row_of rs) h)

pub next-fits : (rows : List Row) (ks : List ℕ) (i d : ℕ) → i < length ks
    → are_runs (drop i ks) (map row_of rows) ≡ true → get_or ks i d ≤ length rows
next-fits rows ks i d lt h =
    run-length (get_or ks i d) rows
    (first-run (get_or ks i d) (drop (i + 1) ks) (map row_of rows)
    (subst (λ xs. are_runs xs (map row_of rows) ≡ true) (drop_more ks i d lt) h))

pub later-runs : (rows : List Row) (ks : List ℕ) (i d : ℕ) → i < length ks
    → are_runs (drop i ks) (map row_of rows) ≡ true
    → are_runs (drop (i + 1) ks) (map row_of (drop (get_or ks i d) rows)) ≡ true
later-runs rows ks i d lt h =
    subst (λ xs. are_runs (drop (i + 1) ks) xs ≡ true) (drop-map row_of (get_or ks i d) rows)
    (and_right (is_run (get_or ks i d) (map row_of rows)) _
    (subst (λ xs. are_runs xs (map row_of rows) ≡ true) (drop_more ks i d lt) h))
