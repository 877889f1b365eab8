-- Changes leave the category of an event, by which rules drop it.
use Rattle.std.proofs.Common.{◌≡◌, ℕ, Bool, true, false, cond, not, ◌&&◌, ◌||◌, List, [], ◌∷◌}
use Rattle.std.proofs.Common.{Option, Some, None, option_map, option_and_then, codes, refl, sym}
use Rattle.std.proofs.Common.{◌∙◌, ap, subst, true≢false}
use Rattle.std.proofs.lemmas.Bool.{not-true, and_right as and_none}
use Rattle.dap_mask.proofs.ElementNames.{and_other}
use Rattle.dap_tree.specs.Doc.{Doc, get}
use Rattle.dap_tree.specs.Path.{name, at}
use Rattle.dap_tree.proofs.Booleans.{and_left, and_right, and_both, or_left, or_right, or_both}
use Rattle.dap_profile.specs.declared.profile.Kind.TheVariants.{Event}
use Rattle.dap_message.specs.Places.{fits_place}
use Rattle.dap_message.specs.Rows.{is_text, is_of_kind}
use Rattle.dap_message.proofs.Edits.{by_bool}
use Rattle.dap_message.proofs.RowMarks.{text-top, one_step}
use Rattle.dap_mask.specs.Categories.{CategoryRule, drops, is_dropped_by, moves, is_moved_by}
use Rattle.dap_mask.specs.Categories.{keep_categories}
use Rattle.dap_mask.specs.Mask.{Mask, leaves_out}
use Rattle.dap_mask.specs.Masked.{is_below, left_by, mask_by, masked}
use Rattle.dap_mask.specs.Rules.{Rule, of_verb, takes_parts, has_name, rule_applies, is_event_of}
use Rattle.dap_mask.specs.RuleSteps.{has_names}
use Rattle.dap_mask.specs.Rules.{is_telling_place, are_safe, share_name, applies_at}
use Rattle.dap_mask.specs.Rules.{plain_place_of, has_head, category_path}
use Rattle.dap_mask.specs.declared.rules.Verb.TheVariants.{Blank}
use Rattle.dap_mask.proofs.ByPath.{at-mask_by, first_safe, rest_safe, head-mask_by, head-masked}
use Rattle.dap_mask.proofs.ByPath.{dropped-masked}
use Rattle.dap_mask.proofs.CategoryKept.{fits_category}
use Rattle.dap_mask.proofs.Matches.{head_of, kind_alike, name_alike}

-- ---- the category in the body

pub category_in : (w : List ℕ) (d e : Doc) → get (codes "body") d ≡ Some e
    → is_text w (at category_path d) ≡ is_text w (get (codes "category") e)
category_in w d e h =
    ap (λ o. is_text w (option_and_then (at (name (codes "category") ∷ [])) o)) h
    ∙ ap (is_text w) (one_step (codes "category") e)

pub no_body : (w : List ℕ) (d : Doc) → get (codes "body") d ≡ None
    → is_text w (at category_path d) ≡ false
no_body w d h = ap (λ o. is_text w (option_and_then (at (name (codes "category") ∷ [])) o)) h

-- ---- one change

-- a change that may not move the category by which a rule drops an event has another place
fits_not : (r : Rule) (c : CategoryRule) (d : Doc) → moves r c ≡ false
    → is_of_kind Event d ≡ true → has_name Event c.name d ≡ true
    → applies_at r d category_path ≡ true → fits_place (plain_place_of r) category_path ≡ true → ⊥
fits_not r c d h event called applies fits =
    let speaks = head_of r d
    (and_left (rule_applies r d) (has_names r.place (Some d) category_path) applies) in
    let kinds = kind_alike r.kind Event d (and_left (is_of_kind r.kind d)
    (has_name r.kind r.name d) speaks) event in
    let own : has_name Event r.name d ≡ true =
    subst (λ k. has_name k r.name d ≡ true) kinds.1
    (and_right (is_of_kind r.kind d) (has_name r.kind r.name d) speaks) in
    let names : share_name r.name c.name ≡ true = name_alike Event r.name c.name d own called in
    true≢false (sym (and_both _ _ (sym (fits_category (plain_place_of r)) ∙ fits)
    (and_both _ _ kinds.0 names)) ∙ h)

-- so it makes no other value the text of the category
text_left : (r : Rule) (c : CategoryRule) (d : Doc) (o : Option Doc) → moves r c ≡ false
    → is_of_kind Event d ≡ true → has_name Event c.name d ≡ true
    → is_text c.category (left_by r d category_path o) ≡ true → is_text c.category o ≡ true
text_left r c d o h event called =
    go (applies_at r d category_path) (fits_place (plain_place_of r) category_path)
    (is_below (plain_place_of r) category_path && takes_parts r.verb)
    (fits_not r c d h event called) refl refl
  where
    go : (a b e : Bool)
        → (applies_at r d category_path ≡ true
        → fits_place (plain_place_of r) category_path ≡ true → ⊥)
        → applies_at r d category_path ≡ a → fits_place (plain_place_of r) category_path ≡ b
        → is_text c.category (cond a (cond b (option_map (of_verb r.verb) o) (cond e None o)) o)
        ≡ true
        → is_text c.category o ≡ true
    go false b e not_both s f k = k
    go true true e not_both s f k = absurd (not_both s f)
    go true false true not_both s f k = cc
    go true false false not_both s f k = k

-- a rule for the events of this name
abbrev of_events : Option (List ℕ) → Rule
of_events n = record { verb = Blank; kind = Event; name = n; category = None; place = [] }

-- an event that is dropped after a change was dropped before
one_back : (r : Rule) (c : CategoryRule) (d : Doc) → is_telling_place r.place ≡ false
    → moves r c ≡ false → is_of_kind Event (mask_by r d) ≡ true → drops c (mask_by r d) ≡ true
    → (is_of_kind Event d ≡ true) × (drops c d ≡ true)
one_back r c d safe h event dropped =
    let e = mask_by r d in
    let called = and_left (has_name Event c.name e) (is_text c.category (at category_path e))
    dropped in
    let before : has_head (of_events c.name) d ≡ true =
    sym (head-mask_by r (of_events c.name) d safe)
    ∙ and_both (is_of_kind Event e) (has_name Event c.name e) event called in
    let was = and_left (is_of_kind Event d) (has_name Event c.name d) before in
    let named_so = and_right (is_of_kind Event d) (has_name Event c.name d) before in
    let now = and_right (has_name Event c.name e) (is_text c.category (at category_path e))
    dropped in
    let left : is_text c.category (left_by r d category_path (at category_path d)) ≡ true =
    sym (text-top c.category (left_by r d category_path (at category_path d)))
    ∙ ap (is_text c.category) (sym (at-mask_by r d category_path))
    ∙ text-top c.category (at category_path e) ∙ now in
    (was, and_both _ _ named_so (text_left r c d (at category_path d) h was named_so left))

-- ---- all changes

all_back : (rs : List Rule) (c : CategoryRule) (d : Doc) → are_safe rs ≡ true
    → is_moved_by rs c ≡ false → is_of_kind Event (masked rs d) ≡ true
    → drops c (masked rs d) ≡ true → (is_of_kind Event d ≡ true) × (drops c d ≡ true)
all_back [] c d safe h event dropped = (event, dropped)
all_back (r ∷ rs) c d safe h event dropped =
    let later = all_back rs c (mask_by r d) (rest_safe r rs safe)
    (or_right (moves r c) (is_moved_by rs c) h) event dropped in
    one_back r c d (first_safe r rs safe) (or_left (moves r c) (is_moved_by rs c) h) later.0
    later.1

none_dropped : (rs : List Rule) (cs : List CategoryRule) (d : Doc) → are_safe rs ≡ true
    → keep_categories rs cs ≡ true → is_of_kind Event (masked rs d) ≡ true
    → is_dropped_by cs d ≡ false → is_dropped_by cs (masked rs d) ≡ false
none_dropped rs [] d safe keep event none = refl
none_dropped rs (c ∷ cs) d safe keep event none =
    let free = not-true (is_moved_by rs c)
    (and_left (not (is_moved_by rs c)) (keep_categories rs cs) keep) in
    or_both _ _
    (by_bool (drops c (masked rs d))
    (λ yes. let back = all_back rs c d safe free event yes in
    absurd (true≢false (sym back.1 ∙ or_left (drops c d) (is_dropped_by cs d) none)))
    (λ no. no))
    (none_dropped rs cs d safe
    (and_right (not (is_moved_by rs c)) (keep_categories rs cs) keep) event
    (or_right (drops c d) (is_dropped_by cs d) none))

pub stays_in : (mask : Mask) (d : Doc) → are_safe mask.changes ≡ true
    → keep_categories mask.changes mask.categories ≡ true → leaves_out mask d ≡ false
    → leaves_out mask (masked mask.changes d) ≡ false
stays_in mask d safe keep stays =
    let e = masked mask.changes d in
    by_bool (is_of_kind Event e)
    (λ event.
    let before : has_head (of_events None) d ≡ true =
    sym (head-masked mask.changes (of_events None) d safe)
    ∙ and_both (is_of_kind Event e) true event refl in
    let was : is_of_kind Event d ≡ true = and_left (is_of_kind Event d) true before in
    let none = and_other (is_of_kind Event d)
    (is_event_of mask.dropped d || is_dropped_by mask.categories d) was stays in
    let names : is_event_of mask.dropped e ≡ false =
    and_other (is_of_kind Event e) (is_event_of mask.dropped e) event
    (dropped-masked mask.changes mask.dropped d safe
    ∙ and_none (is_of_kind Event d) (is_event_of mask.dropped d)
    (or_left (is_event_of mask.dropped d) (is_dropped_by mask.categories d) none)) in
    and_none (is_of_kind Event e) (is_event_of mask.dropped e || is_dropped_by mask.categories e)
    (or_both _ _ names
    (none_dropped mask.changes mask.categories d safe keep event
    (or_right (is_event_of mask.dropped d) (is_dropped_by mask.categories d) none))))
    (λ other. ap (λ b. b && (is_event_of mask.dropped e || is_dropped_by mask.categories e)) other)
