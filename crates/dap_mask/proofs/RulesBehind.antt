-- Rules followed by one more rule.
use Rattle.std.proofs.Common.{◌≡◌, ℕ, Bool, true, false, cond, not, ◌&&◌, ◌||◌, List, [], ◌∷◌, ◌++◌}
use Rattle.std.proofs.Common.{Option, Some, None, map, option_map, string_bytes, refl, ap, ap₂, sym}
use Rattle.std.proofs.Common.{String, ◌∙◌, ◌≤◌, nat_le, nat_lt, bytes_eq, take, drop, length, arith}
use Rattle.std.proofs.Common.{true≢false, suc, ◌+◌}
use Rattle.std.specs.Prelude.{insert}
use Rattle.std.specs.List.{list_any, position_or_len, position}
use Rattle.std.specs.declared.alloc.Global.{Global}
use Rattle.std.proofs.lemmas.Bool.{not-true, ltb-false}
use Rattle.std.proofs.lemmas.List.{map-append, take-map, drop-map}
use Rattle.std.proofs.lemmas.Slice.Eq.{bytes_eq-Decides}
use Rattle.dap_tree.proofs.Booleans.{and_left, and_right, and_both, or_left, or_right, or_both}
use Rattle.dap_message.proofs.Edits.{by_bool}
use Rattle.dap_profile.specs.declared.profile.Kind.{Kind, TheVariants.{Request, Response, Event}}
use Rattle.dap_mask.specs.Ids.{takes_profile_id, leave_ids}
use Rattle.dap_mask.specs.Categories.{CategoryRule, category_of, categories_of, moves, moves_one_of}
use Rattle.dap_mask.specs.Categories.{is_moved_by, keep_categories, is_category_among}
use Rattle.dap_mask.specs.Categories.{moves_output, is_output_moved_by, moves_joined, keep_output}
use Rattle.dap_mask.specs.Declarations.{Declaration, declaration_of, declarations_of, are_declared}
use Rattle.dap_mask.specs.Declarations.{is_own_label, is_misdeclared, is_declared_among}
use Rattle.dap_mask.specs.Declarations.{disagrees_with}
use Rattle.dap_mask.specs.Declarations.{is_blurred_by, blurs_one_of}
use Rattle.dap_mask.specs.declared.declarations.Declaration.{Declaration as ReadDeclaration}
use Rattle.dap_mask.specs.Fills.{Fill, removes, removes_one_of, is_removed_by, keep_fills}
use Rattle.dap_mask.specs.Fills.{is_fill_misplaced, is_fill_among, clashes_with_fills, fill_of}
use Rattle.dap_mask.specs.Fills.{fills_of}
use Rattle.dap_mask.specs.declared.fills.FillRule.{FillRule}
use Rattle.dap_mask.specs.Mask.{Mask, change, leave_out_category, fill, declare, rule_count}
use Rattle.dap_mask.specs.RuleSteps.{RuleStep, named, elements}
use Rattle.dap_mask.specs.Rules.{Rule, rule_of, rules_of, share_name, share_step, share_place}
use Rattle.dap_mask.specs.Rules.{same_kind, excludes, clash, clashes_with, is_among, are_idempotent}
use Rattle.dap_mask.specs.Rules.{comes_before, is_late, inserted, is_misplaced, are_safe, disturb}
use Rattle.dap_mask.specs.Rules.{disturbs_one_of}
use Rattle.dap_mask.specs.RulesFile.{cause_against, change_cause, declaration_cause}
use Rattle.dap_mask.specs.declared.fault.RulesCause.{RulesCause}
use Rattle.dap_mask.specs.declared.joining.Joining.{Joining}
use Rattle.dap_mask.specs.declared.rules.MaskRule.{MaskRule}
use Rattle.dap_mask.specs.declared.rules.Verb.{Verb, TheVariants.{Blank, Digits, Hex, Long, Uuid}}
use Rattle.dap_mask.specs.declared.categories.CategoryRule.{CategoryRule as ReadCategoryRule}
use Rattle.dap_mask.specs.declared.fault.RulesCause.TheVariants.{TooMany, BadPlace, Repeated, Clash}
use Rattle.dap_mask.specs.declared.fault.RulesCause.TheVariants.{BadLabel}
use Rattle.dap_mask.proofs.ByPath.{first_apart, first_early, first_placed, rest_safe}
use Rattle.dap_mask.proofs.CategoryKept.{disturb_both}
use Rattle.dap_mask.proofs.RuleOrder.{late_earlier, not_after}

-- ---- lists of the program's rules

pub names_push : (xs : List (Option (String Global))) (x : Option (String Global))
    → map (option_map string_bytes) (xs ++ x ∷ []) ≡ map (option_map string_bytes) xs
    ++ option_map string_bytes x ∷ []
names_push [] x = refl
names_push (y ∷ xs) x = ap (λ ns. option_map string_bytes y ∷ ns) (names_push xs x)

pub rules_inserted : (xs : List MaskRule) (i : ℕ) (x : MaskRule)
    → rules_of (insert xs i x) ≡ insert (rules_of xs) i (rule_of x)
rules_inserted xs i x =
    map-append rule_of (take i xs) (x ∷ drop i xs)
    ∙ ap₂ (λ ys zs. ys ++ rule_of x ∷ zs) (sym (take-map rule_of i xs))
    (sym (drop-map rule_of i xs))

insert_behind : (x : Rule) (xs : List Rule) (n : ℕ) (r : Rule)
    → insert (x ∷ xs) (1 + n) r ≡ x ∷ insert xs n r
insert_behind x xs n r = let e : 1 + n ≡ suc n = omega arith in rw e refl

-- the index before the first rule that applies after the rule is its place
pub inserted_at : (xs : List MaskRule) (r : Rule)
    → insert (rules_of xs) (position_or_len (λ x. comes_before r (rule_of x)) xs) r
    ≡ inserted r (rules_of xs)
inserted_at [] r = refl
inserted_at (x ∷ xs) r = by_bool (comes_before r (rule_of x))
    (λ h. rw h refl)
    (λ h. rw h (insert_behind (rule_of x) (rules_of xs)
    (position_or_len (λ y. comes_before r (rule_of y)) xs) r
    ∙ ap (λ rs. rule_of x ∷ rs) (inserted_at xs r)))

found_within : (test : MaskRule → Bool) (xs : List MaskRule) → position_or_len test xs ≤ length xs
found_within test [] = omega arith
found_within test (x ∷ xs) = by_bool (test x)
    (λ h. rw h (omega arith))
    (λ h. rw h (omega (arith, found_within test xs)))

-- the index that `position` returns, or the length if it returns none
pub found_at : (test : MaskRule → Bool) (xs : List MaskRule) (i : ℕ)
    → position test xs ≡ Some i → (i ≤ length xs) × (i ≡ position_or_len test xs)
found_at test xs i h =
    go (nat_lt (position_or_len test xs) (length xs)) (found_within test xs) h
  where
    go : (b : Bool) → position_or_len test xs ≤ length xs
        → cond b (Some (position_or_len test xs)) None ≡ Some i
        → (i ≤ length xs) × (i ≡ position_or_len test xs)
    go false within k = cc
    go true within k =
        let same : i ≡ position_or_len test xs = cc in (omega (arith, within, same), same)

pub found_none : (test : MaskRule → Bool) (xs : List MaskRule) → position test xs ≡ None
    → length xs ≡ position_or_len test xs
found_none test xs h =
    go (nat_lt (position_or_len test xs) (length xs)) refl h
  where
    go : (b : Bool) → nat_lt (position_or_len test xs) (length xs) ≡ b
        → cond b (Some (position_or_len test xs)) None ≡ None
        → length xs ≡ position_or_len test xs
    go true e k = cc
    go false e k =
        let most = found_within test xs in
        let least = ltb-false (position_or_len test xs) (length xs) e in
        omega (arith, most, least)

-- a test of rules holds after an insertion, whether or not its allocation succeeded
pub inserted_keeps : (b : Bool) (xs : List MaskRule) (i : ℕ) (x : MaskRule) (ys : List MaskRule)
    → ys ≡ cond b (insert xs i x) xs
    → insert (rules_of xs) i (rule_of x) ≡ inserted (rule_of x) (rules_of xs)
    → (test : List Rule → Bool) → test (rules_of xs) ≡ true
    → test (inserted (rule_of x) (rules_of xs)) ≡ true → test (rules_of ys) ≡ true
inserted_keeps true xs i x ys e is test h more =
    ap test (ap rules_of e ∙ rules_inserted xs i x ∙ is) ∙ more
inserted_keeps false xs i x ys e is test h more = ap (λ zs. test (rules_of zs)) e ∙ h

pub categories_push : (xs : List ReadCategoryRule) (x : ReadCategoryRule)
    → categories_of (xs ++ x ∷ []) ≡ categories_of xs ++ category_of x ∷ []
categories_push [] x = refl
categories_push (y ∷ xs) x = ap (λ cs. category_of y ∷ cs) (categories_push xs x)

-- the same for rules that drop the events of one category
pub pushed_category_keeps : (b : Bool) (xs : List ReadCategoryRule) (x : ReadCategoryRule)
    (ys : List ReadCategoryRule) → ys ≡ cond b (xs ++ x ∷ []) xs
    → (test : List CategoryRule → Bool) → test (categories_of xs) ≡ true
    → test (categories_of xs ++ category_of x ∷ []) ≡ true → test (categories_of ys) ≡ true
pushed_category_keeps true xs x ys e test h more =
    ap test (ap categories_of e ∙ categories_push xs x) ∙ more
pushed_category_keeps false xs x ys e test h more = ap (λ zs. test (categories_of zs)) e ∙ h

pub fills_push : (xs : List FillRule) (x : FillRule)
    → fills_of (xs ++ x ∷ []) ≡ fills_of xs ++ fill_of x ∷ []
fills_push [] x = refl
fills_push (y ∷ xs) x = ap (λ fs. fill_of y ∷ fs) (fills_push xs x)

-- the same for rules that set members
pub pushed_fill_keeps : (b : Bool) (xs : List FillRule) (x : FillRule) (ys : List FillRule)
    → ys ≡ cond b (xs ++ x ∷ []) xs
    → (test : List Fill → Bool) → test (fills_of xs) ≡ true
    → test (fills_of xs ++ fill_of x ∷ []) ≡ true → test (fills_of ys) ≡ true
pushed_fill_keeps true xs x ys e test h more = ap test (ap fills_of e ∙ fills_push xs x) ∙ more
pushed_fill_keeps false xs x ys e test h more = ap (λ zs. test (fills_of zs)) e ∙ h

declarations_push : (xs : List ReadDeclaration) (x : ReadDeclaration)
    → declarations_of (xs ++ x ∷ []) ≡ declarations_of xs ++ declaration_of x ∷ []
declarations_push xs x = map-append declaration_of xs (x ∷ [])

-- the same for declarations
pub pushed_declaration_keeps : (b : Bool) (xs : List ReadDeclaration) (x : ReadDeclaration)
    (ys : List ReadDeclaration) → ys ≡ cond b (xs ++ x ∷ []) xs
    → (test : List Declaration → Bool) → test (declarations_of xs) ≡ true
    → test (declarations_of xs ++ declaration_of x ∷ []) ≡ true
    → test (declarations_of ys) ≡ true
pushed_declaration_keeps true xs x ys e test h more =
    ap test (ap declarations_of e ∙ declarations_push xs x) ∙ more
pushed_declaration_keeps false xs x ys e test h more =
    ap (λ zs. test (declarations_of zs)) e ∙ h

-- ---- the invariants hold after inserting a rule that is accepted

none_inserted : (test : Rule → Bool) (r : Rule) (rs : List Rule) → test r ≡ false
    → list_any test rs ≡ false → list_any test (inserted r rs) ≡ false
none_inserted test r [] h k = or_both _ _ h refl
none_inserted test r (t ∷ ts) h k =
    go (none_inserted test r ts h (or_right (test t) (list_any test ts) k)) (comes_before r t)
  where
    go : list_any test (inserted r ts) ≡ false
        → (b : Bool) → list_any test (cond b (r ∷ t ∷ ts) (t ∷ inserted r ts)) ≡ false
    go rest true = or_both _ _ h k
    go rest false = or_both _ _ (or_left (test t) (list_any test ts) k) rest

pub safe_inserted : (rs : List Rule) (r : Rule) → are_safe rs ≡ true → is_misplaced r ≡ false
    → disturbs_one_of r rs ≡ false → are_safe (inserted r rs) ≡ true
safe_inserted [] r h m calm = and_both _ _ (ap not m) refl
safe_inserted (t ∷ ts) r h m calm =
    go (safe_inserted ts r (rest_safe t ts h) m
    (or_right (disturb r t) (disturbs_one_of r ts) calm)) (comes_before r t) refl
  where
    early : is_late t ts ≡ false
    early = first_early t ts h

    apart : disturb t r ≡ false
    apart = disturb_both r t (or_left (disturb r t) (disturbs_one_of r ts) calm)

    go : are_safe (inserted r ts) ≡ true → (b : Bool) → comes_before r t ≡ b
        → are_safe (cond b (r ∷ t ∷ ts) (t ∷ inserted r ts)) ≡ true
    go rest true e = and_both _ _ (ap not m)
        (and_both _ _ (ap not (or_both _ _ (not_after r t e) (late_earlier r t ts e early)))
        (and_both _ _ (ap not calm) h))
    go rest false e = and_both _ _ (ap not (first_placed t ts h))
        (and_both _ _ (ap not (none_inserted (λ u. comes_before u t) r ts e early))
        (and_both _ _ (ap not (none_inserted (disturb t) r ts apart (first_apart t ts h))) rest))

pub leave_inserted : (rs : List Rule) (r : Rule) → leave_ids rs ≡ true
    → takes_profile_id r ≡ false → leave_ids (inserted r rs) ≡ true
leave_inserted [] r h t = and_both _ _ (ap not t) refl
leave_inserted (q ∷ rs) r h t =
    go (leave_inserted rs r (and_right (not (takes_profile_id q)) (leave_ids rs) h) t)
    (comes_before r q)
  where
    go : leave_ids (inserted r rs) ≡ true
        → (b : Bool) → leave_ids (cond b (r ∷ q ∷ rs) (q ∷ inserted r rs)) ≡ true
    go rest true = and_both _ _ (ap not t) h
    go rest false =
        and_both _ _ (and_left (not (takes_profile_id q)) (leave_ids rs) h) rest

-- ---- two rules clash in either order

same_bytes : (m n : List ℕ) → bytes_eq m n ≡ bytes_eq n m
same_bytes m n = by_bool (bytes_eq n m)
    (λ h. (bytes_eq-Decides m n).1 (sym ((bytes_eq-Decides n m).0 h)) ∙ sym h)
    (λ h. by_bool (bytes_eq m n)
    (λ k. absurd (true≢false (sym ((bytes_eq-Decides n m).1 (sym ((bytes_eq-Decides m n).0 k)))
    ∙ h)))
    (λ k. k ∙ sym h))

same_names : (n m : Option (List ℕ)) → share_name n m ≡ share_name m n
same_names None None = refl
same_names None (Some m) = refl
same_names (Some n) None = refl
same_names (Some n) (Some m) = same_bytes n m

same_steps : (p q : RuleStep) → share_step p q ≡ share_step q p
same_steps (named k) (named l) = same_bytes k l
same_steps (named k) (elements m) = refl
same_steps (elements n) (named l) = refl
same_steps (elements n) (elements m) = same_names n m

same_places : (ps qs : List RuleStep) → share_place ps qs ≡ share_place qs ps
same_places [] [] = refl
same_places [] (q ∷ qs) = refl
same_places (p ∷ ps) [] = refl
same_places (p ∷ ps) (q ∷ qs) = ap₂ (λ a b. a && b) (same_steps p q) (same_places ps qs)

same_kinds : (k l : Kind) → same_kind k l ≡ same_kind l k
same_kinds Request Request = refl
same_kinds Request Response = refl
same_kinds Request Event = refl
same_kinds Response Request = refl
same_kinds Response Response = refl
same_kinds Response Event = refl
same_kinds Event Request = refl
same_kinds Event Response = refl
same_kinds Event Event = refl

excludes_both : (v w : Verb) → excludes v w ≡ excludes w v
excludes_both Blank Blank = refl
excludes_both Blank Digits = refl
excludes_both Blank Hex = refl
excludes_both Blank Long = refl
excludes_both Blank Uuid = refl
excludes_both Digits Blank = refl
excludes_both Digits Digits = refl
excludes_both Digits Hex = refl
excludes_both Digits Long = refl
excludes_both Digits Uuid = refl
excludes_both Hex Blank = refl
excludes_both Hex Digits = refl
excludes_both Hex Hex = refl
excludes_both Hex Long = refl
excludes_both Hex Uuid = refl
excludes_both Long Blank = refl
excludes_both Long Digits = refl
excludes_both Long Hex = refl
excludes_both Long Long = refl
excludes_both Long Uuid = refl
excludes_both Uuid Blank = refl
excludes_both Uuid Digits = refl
excludes_both Uuid Hex = refl
excludes_both Uuid Long = refl
excludes_both Uuid Uuid = refl

clash_both : (r t : Rule) → clash r t ≡ clash t r
clash_both r t =
    ap₂ (λ a b. a && b) (excludes_both r.verb t.verb)
    (ap₂ (λ a b. a && b) (same_places r.place t.place)
    (ap₂ (λ a b. a && b) (same_kinds r.kind t.kind)
    (ap₂ (λ a b. a && b) (same_names r.name t.name) (same_names r.category t.category))))

pub settled_inserted : (rs : List Rule) (r : Rule) → are_idempotent rs ≡ true
    → clashes_with r rs ≡ false → are_idempotent (inserted r rs) ≡ true
settled_inserted [] r h g = refl
settled_inserted (t ∷ ts) r h g =
    go (settled_inserted ts r (and_right (not (clashes_with t ts)) (are_idempotent ts) h)
    (or_right (clash r t) (clashes_with r ts) g)) (comes_before r t)
  where
    apart : clash r t ≡ false
    apart = or_left (clash r t) (clashes_with r ts) g

    go : are_idempotent (inserted r ts) ≡ true
        → (b : Bool) → are_idempotent (cond b (r ∷ t ∷ ts) (t ∷ inserted r ts)) ≡ true
    go rest true = and_both _ _ (ap not g) h
    go rest false = and_both _ _
        (ap not (none_inserted (clash t) r ts (clash_both t r ∙ apart)
        (not-true (clashes_with t ts)
        (and_left (not (clashes_with t ts)) (are_idempotent ts) h)))) rest

-- ---- categories

pub kept_inserted : (rs : List Rule) (r : Rule) (cs : List CategoryRule)
    → keep_categories rs cs ≡ true → moves_one_of r cs ≡ false
    → keep_categories (inserted r rs) cs ≡ true
kept_inserted rs r [] h g = refl
kept_inserted rs r (c ∷ cs) h g =
    let free = not-true (is_moved_by rs c)
    (and_left (not (is_moved_by rs c)) (keep_categories rs cs) h) in
    and_both _ _
    (ap not (none_inserted (λ q. moves q c) r rs (or_left (moves r c) (moves_one_of r cs) g) free))
    (kept_inserted rs r cs (and_right (not (is_moved_by rs c)) (keep_categories rs cs) h)
    (or_right (moves r c) (moves_one_of r cs) g))

pub category_kept : (rs : List Rule) (cs : List CategoryRule) (c : CategoryRule)
    → keep_categories rs cs ≡ true → is_moved_by rs c ≡ false
    → keep_categories rs (cs ++ c ∷ []) ≡ true
category_kept rs [] c h g = and_both _ _ (ap not g) refl
category_kept rs (e ∷ es) c h g =
    and_both _ _ (and_left (not (is_moved_by rs e)) (keep_categories rs es) h)
    (category_kept rs es c (and_right (not (is_moved_by rs e)) (keep_categories rs es) h) g)

-- ---- joined output

pub output_inserted : (rs : List Rule) (r : Rule) (j : Option Joining) → keep_output rs j ≡ true
    → moves_joined r j ≡ false → keep_output (inserted r rs) j ≡ true
output_inserted rs r None h g = refl
output_inserted rs r (Some j) h g =
    ap not (none_inserted moves_output r rs g (not-true (is_output_moved_by rs) h))

-- ---- members that are set

pub fills_inserted : (rs : List Rule) (r : Rule) (fs : List Fill) → keep_fills rs fs ≡ true
    → removes_one_of r fs ≡ false → keep_fills (inserted r rs) fs ≡ true
fills_inserted rs r [] h g = refl
fills_inserted rs r (f ∷ fs) h g =
    let kept = not (is_removed_by rs f) && keep_fills rs fs in
    let placed = and_left (not (is_fill_misplaced f)) kept h in
    let rest = and_right (not (is_fill_misplaced f)) kept h in
    let free = not-true (is_removed_by rs f)
    (and_left (not (is_removed_by rs f)) (keep_fills rs fs) rest) in
    and_both _ _ placed (and_both _ _
    (ap not (none_inserted (λ q. removes q f) r rs (or_left (removes r f) (removes_one_of r fs) g)
    free))
    (fills_inserted rs r fs (and_right (not (is_removed_by rs f)) (keep_fills rs fs) rest)
    (or_right (removes r f) (removes_one_of r fs) g)))

pub fill_kept : (rs : List Rule) (fs : List Fill) (f : Fill) → keep_fills rs fs ≡ true
    → is_fill_misplaced f ≡ false → is_removed_by rs f ≡ false
    → keep_fills rs (fs ++ f ∷ []) ≡ true
fill_kept rs [] f h p g = and_both _ _ (ap not p) (and_both _ _ (ap not g) refl)
fill_kept rs (e ∷ es) f h p g =
    let kept = not (is_removed_by rs e) && keep_fills rs es in
    let rest = and_right (not (is_fill_misplaced e)) kept h in
    and_both _ _ (and_left (not (is_fill_misplaced e)) kept h)
    (and_both _ _ (and_left (not (is_removed_by rs e)) (keep_fills rs es) rest)
    (fill_kept rs es f (and_right (not (is_removed_by rs e)) (keep_fills rs es) rest) p g))

pub fill_may_stand : (m : Mask) (f : Fill) → cause_against m (fill f) ≡ None
    → (is_fill_misplaced f ≡ false) × (is_removed_by m.changes f ≡ false)
fill_may_stand m f h =
    go (nat_le 1000 (rule_count m)) (is_fill_misplaced f) (is_fill_among f m.fills)
    (clashes_with_fills f m.fills) (is_removed_by m.changes f) h
  where
    go : (a b c d e : Bool) → cond a (Some TooMany) (cond b (Some BadPlace)
        (cond c (Some Repeated) (cond (d || e) (Some Clash) None))) ≡ None
        → (b ≡ false) × (e ≡ false)
    go true b c d e k = cc
    go false true c d e k = cc
    go false false true d e k = cc
    go false false false true e k = cc
    go false false false false true k = cc
    go false false false false false k = (refl, refl)

-- ---- declarations

pub declaration_kept : (xs : List Declaration) (x : Declaration) → are_declared xs ≡ true
    → is_own_label x.label ≡ true → is_misdeclared x.rule ≡ false
    → are_declared (xs ++ x ∷ []) ≡ true
declaration_kept [] x h l p = and_both _ _ l (and_both _ _ (ap not p) refl)
declaration_kept (y ∷ ys) x h l p =
    let rest = not (is_misdeclared y.rule) && are_declared ys in
    let more = and_right (is_own_label y.label) rest h in
    and_both _ _ (and_left (is_own_label y.label) rest h)
    (and_both _ _ (and_left (not (is_misdeclared y.rule)) (are_declared ys) more)
    (declaration_kept ys x (and_right (not (is_misdeclared y.rule)) (are_declared ys) more) l p))

pub declaration_may_stand : (m : Mask) (x : Declaration) → cause_against m (declare x) ≡ None
    → (is_own_label x.label ≡ true) × (is_misdeclared x.rule ≡ false)
declaration_may_stand m x h =
    go (nat_le 1000 (rule_count m)) (is_own_label x.label) (is_misdeclared x.rule)
    (is_declared_among x m.declared) (disagrees_with x m.declared || is_blurred_by m.changes x) h
  where
    go : (a b c d e : Bool) → cond a (Some TooMany) (cond (not b) (Some BadLabel)
        (cond c (Some BadPlace) (cond d (Some Repeated) (cond e (Some Clash) None)))) ≡ None
        → (b ≡ true) × (c ≡ false)
    go true b c d e k = cc
    go false false c d e k = cc
    go false true true d e k = cc
    go false true false d e k = (refl, refl)

-- why a declaration with a label, a place and text of its own may not follow the rules of a mask
pub exclusion_cause : (m : Mask) (x : Declaration) (excluded : Bool) (cause : Option RulesCause)
    → is_own_label x.label ≡ true → is_misdeclared x.rule ≡ false
    → is_declared_among x m.declared ≡ false
    → excluded ≡ (disagrees_with x m.declared || is_blurred_by m.changes x)
    → cause ≡ cond excluded (Some Clash) None → cause ≡ declaration_cause m x
exclusion_cause m x excluded cause labelled placed new is e =
    e ∙ ap (λ b. cond b (Some Clash) None) is
    ∙ sym (ap (λ b. cond b (Some Repeated) clash) new)
    ∙ sym (ap (λ b. cond b (Some BadPlace) repeated) placed)
    ∙ sym (ap (λ b. cond (not b) (Some BadLabel) (cond (is_misdeclared x.rule) (Some BadPlace)
    repeated)) labelled)
  where
    clash : Option RulesCause
    clash = cond (disagrees_with x m.declared || is_blurred_by m.changes x) (Some Clash) None

    repeated : Option RulesCause
    repeated = cond (is_declared_among x m.declared) (Some Repeated) clash

-- ---- a rule that has no error

pub record MayStand (m : Mask) (r : Rule) : Type 0 where
  pub safe : is_misplaced r ≡ false
  pub leaves : takes_profile_id r ≡ false
  pub settled : clashes_with r m.changes ≡ false
  pub calm : disturbs_one_of r m.changes ≡ false
  pub moves : moves_one_of r m.categories ≡ false
  pub joins : moves_joined r m.joining ≡ false
  pub fills : removes_one_of r m.fills ≡ false

pub change_may_stand : (m : Mask) (r : Rule) → cause_against m (change r) ≡ None → MayStand m r
change_may_stand m r h =
    go (nat_le 1000 (rule_count m)) (is_misplaced r) (takes_profile_id r) (is_among r m.changes)
    (clashes_with r m.changes) (disturbs_one_of r m.changes) (moves_one_of r m.categories)
    (moves_joined r m.joining) (removes_one_of r m.fills) (blurs_one_of r m.declared) refl refl refl
    refl refl refl refl h
  where
    go : (many a b among c d e f g n : Bool) → is_misplaced r ≡ a → takes_profile_id r ≡ b
        → clashes_with r m.changes ≡ c → disturbs_one_of r m.changes ≡ d
        → moves_one_of r m.categories ≡ e → moves_joined r m.joining ≡ f
        → removes_one_of r m.fills ≡ g
        → cond many (Some TooMany) (cond (a || b) (Some BadPlace)
        (cond among (Some Repeated) (cond (c || (d || (e || (f || g)))) (Some Clash)
        (cond n (Some Clash) None)))) ≡ None
        → MayStand m r
    go true a b among c d e f g n p q s t u v w k = cc
    go false true b among c d e f g n p q s t u v w k = cc
    go false false true among c d e f g n p q s t u v w k = cc
    go false false false true c d e f g n p q s t u v w k = cc
    go false false false false true d e f g n p q s t u v w k = cc
    go false false false false false true e f g n p q s t u v w k = cc
    go false false false false false false true f g n p q s t u v w k = cc
    go false false false false false false false true g n p q s t u v w k = cc
    go false false false false false false false false true n p q s t u v w k = cc
    go false false false false false false false false false true p q s t u v w k = cc
    go false false false false false false false false false false p q s t u v w k =
        record { safe = p; leaves = q; settled = s; calm = t; moves = u; joins = v; fills = w }

-- why a change with a place of its own that is not repeated may not follow the rules of a mask
pub clash_cause : (m : Mask) (r : Rule) (clashes : Bool) (cause : Option RulesCause)
    → (is_misplaced r || takes_profile_id r) ≡ false → is_among r m.changes ≡ false
    → clashes ≡ (clashes_with r m.changes || (disturbs_one_of r m.changes
    || (moves_one_of r m.categories || (moves_joined r m.joining || removes_one_of r m.fills))))
    → cause ≡ cond clashes (Some Clash) (cond (blurs_one_of r m.declared) (Some Clash) None)
    → cause ≡ change_cause m r
clash_cause m r clashes cause placed new is e =
    e ∙ ap last_cause is
    ∙ sym (ap (λ b. cond b (Some Repeated) (last_cause all)) new)
    ∙ sym (ap (λ b. cond b (Some BadPlace) (cond (is_among r m.changes) (Some Repeated)
    (last_cause all))) placed)
  where
    last_cause : Bool → Option RulesCause
    last_cause b = cond b (Some Clash) (cond (blurs_one_of r m.declared) (Some Clash) None)

    all : Bool
    all = clashes_with r m.changes || (disturbs_one_of r m.changes
        || (moves_one_of r m.categories || (moves_joined r m.joining || removes_one_of r m.fills)))

pub category_not_moved : (m : Mask) (c : CategoryRule)
    → cause_against m (leave_out_category c) ≡ None → is_moved_by m.changes c ≡ false
category_not_moved m c h =
    go (nat_le 1000 (rule_count m)) (is_category_among c m.categories) (is_moved_by m.changes c) h
  where
    go : (a b d : Bool)
        → cond a (Some TooMany) (cond b (Some Repeated) (cond d (Some Clash) None)) ≡ None
        → d ≡ false
    go true b d k = cc
    go false true d k = cc
    go false false true k = cc
    go false false false k = refl
