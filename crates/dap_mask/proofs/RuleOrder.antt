-- The order in which rules apply: what later rules leave of the names and texts of earlier ones.
use Rattle.std.proofs.Common.{◌≡◌, ◌⊎◌, inl, inr, ℕ, ◌<◌, ◌≤◌, Bool, true, false, cond, ◌&&◌}
use Rattle.std.proofs.Common.{◌||◌, ◌==◌, List, [], ◌∷◌, Option, Some, None, length, codes}
use Rattle.std.proofs.Common.{bytes_eq, nat_lt, refl, sym, ap, ap₂, ◌∙◌, true≢false, arith, filter}
use Rattle.std.proofs.Common.{suc}
use Rattle.std.proofs.lemmas.Bool.{or_cases, or_left as true_left, or_right as true_right}
use Rattle.std.proofs.lemmas.Bool.{ltb-true, ltb-false, lt-ltb, eqb-true, eq-eqb}
use Rattle.std.proofs.lemmas.Slice.Eq.{bytes_eq-Decides}
use Rattle.dap_message.proofs.Edits.{by_bool}
use Rattle.dap_tree.proofs.Booleans.{and_left, and_right, and_both, or_left, or_right, or_both}
use Rattle.dap_mask.specs.RuleSteps.{RuleStep, named, elements}
use Rattle.dap_mask.specs.Rules.{Rule, same_kind, share_name, share_step, share_place, excludes}
use Rattle.dap_mask.specs.Rules.{clash, leads_to_name, is_for_names, has_text, is_name_in, renames}
use Rattle.dap_mask.specs.Rules.{lower, group, depth, rank, comes_before, is_late, share_category}
use Rattle.dap_mask.specs.declared.rules.Verb.{Verb, TheVariants.{Blank, Digits, Hex, Long, Uuid}}
use Rattle.dap_profile.specs.declared.profile.Kind.{Kind, TheVariants.{Request, Response, Event}}
use Rattle.dap_mask.proofs.ElementNames.{ends_in_member, and_first, and_other}

-- ---- comparisons by two numbers

lower_cases : (a b : ℕ) (x : Bool) → lower a b x ≡ true → (a < b) ⊎ ((a ≡ b) × (x ≡ true))
lower_cases a b x h =
    elim (or_cases (nat_lt a b) (a == b && x) h) [
      | inl l ↦ inl (ltb-true a b l)
      | inr e ↦ inr (eqb-true a b (and_left (a == b) x e), and_right (a == b) x e)
    ]

by_first : (a b : ℕ) (x : Bool) → a < b → lower a b x ≡ true
by_first a b x l = true_left (nat_lt a b) (a == b && x) (lt-ltb a b l)

by_rest : (a b : ℕ) (x : Bool) → a ≡ b → x ≡ true → lower a b x ≡ true
by_rest a b x e h =
    true_right (nat_lt a b) (a == b && x) (and_both (a == b) x (eq-eqb a b e) h)

lower_trans : (a b c : ℕ) (x y z : Bool) → (x ≡ true → y ≡ true → z ≡ true)
    → lower a b x ≡ true → lower b c y ≡ true → lower a c z ≡ true
lower_trans a b c x y z rest h k =
    elim (lower_cases a b x h) [
      | inl l ↦ elim (lower_cases b c y k) [
        | inl m ↦ by_first a c z (omega (arith, l, m))
        | inr f ↦ by_first a c z (omega (arith, l, f.0))
      ]
      | inr e ↦ elim (lower_cases b c y k) [
        | inl m ↦ by_first a c z (omega (arith, e.0, m))
        | inr f ↦ by_rest a c z (e.0 ∙ f.0) (rest e.1 f.1)
      ]
    ]

not_both : (a b : ℕ) (x y : Bool) → (x ≡ true → y ≡ true → ⊥) → lower a b x ≡ true
    → lower b a y ≡ true → ⊥
not_both a b x y rest h k =
    elim (lower_cases a b x h) [
      | inl l ↦ elim (lower_cases b a y k) [
        | inl m ↦ omega (arith, l, m)
        | inr f ↦ omega (arith, l, f.0)
      ]
      | inr e ↦ elim (lower_cases b a y k) [
        | inl m ↦ omega (arith, e.0, m)
        | inr f ↦ rest e.1 f.1
      ]
    ]

not_lower : (a b : ℕ) (x : Bool) → lower a b x ≡ false → b ≤ a
not_lower a b x h = ltb-false a b (or_left (nat_lt a b) (a == b && x) h)

rest_decides : (a b : ℕ) (x : Bool) → a ≡ b → lower a b x ≡ false → x ≡ false
rest_decides a b x e h =
    and_other (a == b) x (eq-eqb a b e) (or_right (nat_lt a b) (a == b && x) h)

-- ---- the order of rules

before_trans : (r t u : Rule) → comes_before r t ≡ true → comes_before t u ≡ true
    → comes_before r u ≡ true
before_trans r t u =
    lower_trans (group r) (group t) (group u) _ _ _
    (lower_trans (depth r) (depth t) (depth u) _ _ _
    (lower_trans (rank r.verb) (rank t.verb) (rank u.verb) false false false (λ h k. h)))

pub not_after : (r t : Rule) → comes_before r t ≡ true → comes_before t r ≡ false
not_after r t h = by_bool (comes_before t r)
    (λ k. absurd (not_both (group r) (group t) _ _
    (not_both (depth r) (depth t) _ _
    (not_both (rank r.verb) (rank t.verb) false false (λ a b. true≢false (sym a)))) h k))
    (λ k. k)

pub not_before_itself : (r : Rule) → comes_before r r ≡ false
not_before_itself r = by_bool (comes_before r r) (λ h. not_after r r h) (λ h. h)

-- a rule that does not come before a later one does not come before an earlier one
not_before : (r t u : Rule) → comes_before r t ≡ true → comes_before u t ≡ false
    → comes_before u r ≡ false
not_before r t u h k = by_bool (comes_before u r)
    (λ g. absurd (true≢false (sym (before_trans u r t g h) ∙ k))) (λ g. g)

pub late_earlier : (r t : Rule) (rs : List Rule) → comes_before r t ≡ true → is_late t rs ≡ false
    → is_late r rs ≡ false
late_earlier r t [] h k = refl
late_earlier r t (u ∷ us) h k =
    or_both _ _ (not_before r t u h (or_left (comes_before u t) (is_late t us) k))
    (late_earlier r t us h (or_right (comes_before u t) (is_late t us) k))

pub same_rank : (v w : Verb) → rank v ≡ rank w → v ≡ w
same_rank Blank Blank h = refl
same_rank Blank Digits h = cc
same_rank Blank Hex h = cc
same_rank Blank Long h = cc
same_rank Blank Uuid h = cc
same_rank Digits Blank h = cc
same_rank Digits Digits h = refl
same_rank Digits Hex h = cc
same_rank Digits Long h = cc
same_rank Digits Uuid h = cc
same_rank Hex Blank h = cc
same_rank Hex Digits h = cc
same_rank Hex Hex h = refl
same_rank Hex Long h = cc
same_rank Hex Uuid h = cc
same_rank Long Blank h = cc
same_rank Long Digits h = cc
same_rank Long Hex h = cc
same_rank Long Long h = refl
same_rank Long Uuid h = cc
same_rank Uuid Blank h = cc
same_rank Uuid Digits h = cc
same_rank Uuid Hex h = cc
same_rank Uuid Long h = cc
same_rank Uuid Uuid h = refl

-- the rank of a rule that does not come before one of its group and depth
no_lower_rank : (r t : Rule) → group t ≡ group r → depth t ≡ depth r → comes_before t r ≡ false
    → rank r.verb ≤ rank t.verb
no_lower_rank r t g d h =
    not_lower (rank t.verb) (rank r.verb) false
    (rest_decides (depth t) (depth r) _ d (rest_decides (group t) (group r) _ g h))

-- two rules of which none comes before the other have the same action
pub same_action : (r t : Rule) → comes_before r t ≡ false → comes_before t r ≡ false
    → r.verb ≡ t.verb
same_action r t h k =
    let g : group r ≡ group t =
    omega (arith, not_lower (group r) (group t) _ h, not_lower (group t) (group r) _ k) in
    let inner = rest_decides (group r) (group t) _ g h in
    let outer = rest_decides (group t) (group r) _ (sym g) k in
    let d : depth r ≡ depth t =
    omega (arith, not_lower (depth r) (depth t) _ inner, not_lower (depth t) (depth r) _ outer) in
    let one = no_lower_rank r t (sym g) (sym d) k in
    let two = no_lower_rank t r g d h in
    same_rank r.verb t.verb (omega (arith, one, two))

-- ---- a rule renames no element that an earlier rule of the order selects

steps_to_name : (q : RuleStep) (qs : List RuleStep) → leads_to_name q qs ≡ true
    → (length qs ≡ 1) × (ends_in_member (q ∷ qs) ≡ true)
steps_to_name (named k) qs h = cc
steps_to_name (elements n) [] h = cc
steps_to_name (elements n) (elements m ∷ qs) h = cc
steps_to_name (elements n) (named k ∷ []) h = (refl, refl)
steps_to_name (elements n) (named k ∷ q ∷ qs) h = cc

pub names_end_in_member : (qs : List RuleStep) → is_for_names qs ≡ true
    → ends_in_member qs ≡ true
names_end_in_member [] h = cc
names_end_in_member (q ∷ qs) h =
    elim (or_cases (leads_to_name q qs) (is_for_names qs) h) [
      | inl e ↦ (steps_to_name q qs e).1
      | inr e ↦ more q qs e (names_end_in_member qs e)
    ]
  where
    more : (q : RuleStep) (qs : List RuleStep) → is_for_names qs ≡ true
        → ends_in_member qs ≡ true → ends_in_member (q ∷ qs) ≡ true
    more q [] e k = cc
    more (named k) (s ∷ ss) e h = h
    more (elements n) (s ∷ ss) e h = h

names_are_deep : (qs : List RuleStep) → is_for_names qs ≡ true → 2 ≤ length qs
names_are_deep [] h = cc
names_are_deep (q ∷ qs) h =
    elim (or_cases (leads_to_name q qs) (is_for_names qs) h) [
      | inl e ↦ omega (arith, (steps_to_name q qs e).0)
      | inr e ↦ omega (arith, names_are_deep qs e)
    ]

neither : (b : Bool) → (b && false) ≡ false
neither true = refl
neither false = refl

-- the rest of a place of names, after its elements, selects no elements
ends_at_name : (q : RuleStep) (ps qs : List RuleStep) → leads_to_name q qs ≡ true
    → is_name_in ps qs ≡ false
ends_at_name (named k) ps qs h = cc
ends_at_name (elements n) ps [] h = cc
ends_at_name (elements n) ps (elements m ∷ qs) h = cc
ends_at_name (elements n) ps (named k ∷ q ∷ qs) h = cc
ends_at_name (elements n) [] (named k ∷ []) h = refl
ends_at_name (elements n) (named j ∷ []) (named k ∷ []) h = neither (bytes_eq j k)
ends_at_name (elements n) (named j ∷ p ∷ ps) (named k ∷ []) h = neither (bytes_eq j k)
ends_at_name (elements n) (elements m ∷ ps) (named k ∷ []) h = refl

share_itself : (q : RuleStep) → share_step q q ≡ true
share_itself (named k) = (bytes_eq-Decides k k).1 refl
share_itself (elements None) = refl
share_itself (elements (Some n)) = (bytes_eq-Decides n n).1 refl

pub same_kind_itself : (k : Kind) → same_kind k k ≡ true
same_kind_itself Request = refl
same_kind_itself Response = refl
same_kind_itself Event = refl

share_name_itself : (n : Option (List ℕ)) → share_name n n ≡ true
share_name_itself None = refl
share_name_itself (Some n) = (bytes_eq-Decides n n).1 refl

-- only a place of names is a name by which a place selects
name_in : (ps qs : List RuleStep) → is_name_in ps qs ≡ true → is_for_names ps ≡ true
name_in [] [] h = cc
name_in (p ∷ ps) [] h = cc
name_in [] (q ∷ qs) h = cc
name_in (p ∷ ps) (q ∷ qs) h =
    elim (or_cases (has_text q && leads_to_name p ps) (share_step p q && is_name_in ps qs) h) [
      | inl e ↦ true_left (leads_to_name p ps) (is_for_names ps)
          (and_right (has_text q) (leads_to_name p ps) e)
      | inr e ↦ true_right (leads_to_name p ps) (is_for_names ps)
          (name_in ps qs (and_right (share_step p q) (is_name_in ps qs) e))
    ]

-- a place of names by which another such place selects is shorter, if that place does not select by
-- the names that it leads to
shorter : (ps qs : List RuleStep) → is_name_in ps qs ≡ true → is_for_names qs ≡ true
    → (is_name_in qs qs ≡ true) ⊎ (length ps < length qs)
shorter [] [] h k = cc
shorter (p ∷ ps) [] h k = cc
shorter [] (q ∷ qs) h k = cc
shorter (p ∷ ps) (q ∷ qs) h k =
    elim (or_cases (has_text q && leads_to_name p ps) (share_step p q && is_name_in ps qs) h) [
      | inl e ↦ elim (or_cases (leads_to_name q qs) (is_for_names qs) k) [
        | inl g ↦ inl (true_left (has_text q && leads_to_name q qs)
            (share_step q q && is_name_in qs qs)
            (and_both _ _ (and_left (has_text q) (leads_to_name p ps) e) g))
        | inr g ↦ inr (omega (
          arith,
          (steps_to_name p ps (and_right (has_text q) (leads_to_name p ps) e)).0,
          names_are_deep qs g,
        ))
      ]
      | inr e ↦ elim (or_cases (leads_to_name q qs) (is_for_names qs) k) [
        | inl g ↦ absurd (true≢false (sym (and_right (share_step p q) (is_name_in ps qs) e)
            ∙ ends_at_name q ps qs g))
        | inr g ↦ elim (shorter ps qs (and_right (share_step p q) (is_name_in ps qs) e) g) [
          | inl own ↦ inl (true_right (has_text q && leads_to_name q qs)
              (share_step q q && is_name_in qs qs) (and_both _ _ (share_itself q) own))
          | inr less ↦ inr (omega (arith, less))
        ]
      ]
    ]

renames_itself : (r : Rule) → is_name_in r.place r.place ≡ true → renames r r ≡ true
renames_itself r h = and_both _ _ h
    (and_both _ _ (same_kind_itself r.kind) (share_name_itself r.name))

names_group : (r : Rule) → is_for_names r.place ≡ true → group r ≡ 0
names_group r h = ap (λ (b : Bool). cond b 0 1) h

other_group : (r : Rule) → is_for_names r.place ≡ false → group r ≡ 1
other_group r h = ap (λ (b : Bool). cond b 0 1) h

names_depth : (r : Rule) → is_for_names r.place ≡ true → depth r ≡ length r.place
names_depth r h = ap (λ (b : Bool). cond b (length r.place) 0) h

-- a rule for names comes before a rule that is not for names
names_first : (t r : Rule) → is_for_names t.place ≡ true → is_for_names r.place ≡ false
    → comes_before t r ≡ true
names_first t r e f =
    by_first (group t) (group r) _ (omega (arith, names_group t e, other_group r f))

-- a rule that may change a name by which another one selects comes before it
renaming_first : (t r : Rule) → renames t r ≡ true → renames r r ≡ false
    → comes_before t r ≡ true
renaming_first t r h own =
    let here = and_left (is_name_in t.place r.place)
    (same_kind t.kind r.kind && share_name t.name r.name) h in
    let first = name_in t.place r.place here in
    by_bool (is_for_names r.place)
    (λ e. elim (shorter t.place r.place here e) [
      | inl itself ↦ absurd (true≢false (sym (renames_itself r itself) ∙ own))
      | inr less ↦ by_rest (group t) (group r) _ (names_group t first ∙ sym (names_group r e))
          (by_first (depth t) (depth r) _
          (omega (arith, names_depth t first, names_depth r e, less)))
    ])
    (λ e. names_first t r first e)

pub renames_no_earlier : (t r : Rule) → renames r r ≡ false → comes_before t r ≡ false
    → renames t r ≡ false
renames_no_earlier t r own late = by_bool (renames t r)
    (λ h. absurd (true≢false (sym (renaming_first t r h own) ∙ late))) (λ h. h)

-- a rule that is not for names renames no element
pub renames_none : (r q : Rule) → is_for_names r.place ≡ false → renames r q ≡ false
renames_none r q other = by_bool (renames r q)
    (λ h. absurd (true≢false (sym (name_in r.place q.place
    (and_left (is_name_in r.place q.place) (same_kind r.kind q.kind && share_name r.name q.name)
    h)) ∙ other)))
    (λ h. h)

-- a later rule for names has no shorter place
pub no_shorter : (r t : Rule) → is_for_names r.place ≡ true → is_for_names t.place ≡ true
    → comes_before t r ≡ false → length r.place ≤ length t.place
no_shorter r t e f h =
    let less = not_lower (depth t) (depth r) _
    (rest_decides (group t) (group r) _ (names_group t f ∙ sym (names_group r e)) h) in
    omega (arith, names_depth r e, names_depth t f, less)

-- after a rule that is not for names, no rule is for names
no_names_after : (r t : Rule) → is_for_names r.place ≡ false → comes_before t r ≡ false
    → is_for_names t.place ≡ false
no_names_after r t e h = by_bool (is_for_names t.place)
    (λ f. absurd (true≢false (sym (names_first t r f e) ∙ h))) (λ f. f)

pub none_for_names : (r : Rule) (ts : List Rule) → is_for_names r.place ≡ false
    → is_late r ts ≡ false → filter (λ t. is_for_names t.place) ts ≡ []
none_for_names r [] e h = refl
none_for_names r (t ∷ ts) e h =
    ap (λ b. cond b (t ∷ filter (λ u. is_for_names u.place) ts)
    (filter (λ u. is_for_names u.place) ts))
    (no_names_after r t e (or_left (comes_before t r) (is_late r ts) h))
    ∙ none_for_names r ts e (or_right (comes_before t r) (is_late r ts) h)

-- ---- actions at one place

-- the second action may follow the first one at one place
abbrev pub MayFollow : Verb → Verb → Type 0
MayFollow v w = (rank v ≤ rank w) × (excludes v w ≡ false)

-- two places that share a value have one form
shared_name : (p q : RuleStep) (ps qs : List RuleStep) → share_step p q ≡ true
    → share_place ps qs ≡ true → leads_to_name p ps ≡ leads_to_name q qs
shared_name (named j) (named k) ps qs e h = refl
shared_name (named j) (elements m) ps qs e h = cc
shared_name (elements n) (named k) ps qs e h = cc
shared_name (elements n) (elements m) [] [] e h = refl
shared_name (elements n) (elements m) [] (q ∷ qs) e h = cc
shared_name (elements n) (elements m) (p ∷ ps) [] e h = cc
shared_name (elements n) (elements m) (named j ∷ []) (named k ∷ []) e h =
    ap (bytes_eq (codes "name")) ((bytes_eq-Decides j k).0 (and_left (bytes_eq j k) true h))
shared_name (elements n) (elements m) (named j ∷ []) (named k ∷ q ∷ qs) e h =
    absurd (true≢false (sym (and_right (bytes_eq j k) false h)))
shared_name (elements n) (elements m) (named j ∷ p ∷ ps) (named k ∷ []) e h =
    absurd (true≢false (sym (and_right (bytes_eq j k) false h)))
shared_name (elements n) (elements m) (named j ∷ p ∷ ps) (named k ∷ q ∷ qs) e h = refl
shared_name (elements n) (elements m) (named j ∷ ps) (elements l ∷ qs) e h = cc
shared_name (elements n) (elements m) (elements i ∷ ps) (named k ∷ qs) e h = cc
shared_name (elements n) (elements m) (elements i ∷ ps) (elements l ∷ qs) e h = refl

shared_form : (ps qs : List RuleStep) → share_place ps qs ≡ true
    → (is_for_names ps ≡ is_for_names qs) × (length ps ≡ length qs)
shared_form [] [] h = (refl, refl)
shared_form [] (q ∷ qs) h = cc
shared_form (p ∷ ps) [] h = cc
shared_form (p ∷ ps) (q ∷ qs) h =
    let step = and_left (share_step p q) (share_place ps qs) h in
    let rest = and_right (share_step p q) (share_place ps qs) h in
    let form = shared_form ps qs rest in
    (ap₂ (λ a b. a || b) (shared_name p q ps qs step rest) form.0, ap suc form.1)

-- the later of two rules at one place may follow the earlier one, if they do not clash
pub later_follows : (r t : Rule) → comes_before t r ≡ false → clash r t ≡ false
    → share_place r.place t.place ≡ true
    → (same_kind r.kind t.kind && (share_name r.name t.name
    && share_category r.category t.category)) ≡ true → MayFollow r.verb t.verb
later_follows r t late apart place message =
    let form = shared_form r.place t.place place in (
      no_lower_rank r t (ap (λ b. cond b 0 1) (sym form.0))
          (ap₂ (λ b n. cond b n 0) (sym form.0) (sym form.1)) late,
      and_first (excludes r.verb t.verb) (share_place r.place t.place && (same_kind r.kind t.kind
          && (share_name r.name t.name && share_category r.category t.category)))
          (and_both _ _ place message) apart,
    )
