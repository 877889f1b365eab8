-- Rules that set members: setting them again in a masked document does not change it.
use Rattle.std.proofs.Common.{◌≡◌, ℕ, Bool, true, false, cond, not, ◌&&◌, List, [], ◌∷◌}
use Rattle.std.proofs.Common.{Option, Some, None, option_map, codes, bytes_eq, refl, sym, ap, ap₂}
use Rattle.std.proofs.Common.{◌∙◌, true≢false}
use Rattle.std.proofs.lemmas.Bool.{not-true}
use Rattle.std.proofs.lemmas.Slice.Eq.{bytes_eq-Decides}
use Rattle.dap_tree.specs.Doc.{Doc, null, boolean, whole, text, list, object, id, get, change_child}
use Rattle.dap_tree.specs.Doc.{change_items}
use Rattle.dap_tree.proofs.Booleans.{and_left, and_right, or_left, or_right}
use Rattle.dap_tree.proofs.Paths.{get-change, get-change_other, get-change_items}
use Rattle.dap_profile.specs.declared.profile.Kind.{Kind, TheVariants.{Request, Response, Event}}
use Rattle.dap_message.specs.Capabilities.{is_given, default_to}
use Rattle.dap_message.specs.Rows.{is_text, name_key, type_name}
use Rattle.dap_message.proofs.Edits.{by_bool}
use Rattle.dap_message.proofs.Envelopes.{apart, given_other}
use Rattle.dap_mask.specs.Fills.{Fill, scalar_doc, set_last, set_value, fill_applies, fill_by}
use Rattle.dap_mask.specs.Fills.{is_bad_end, is_fill_misplaced, is_start, removes, is_removed_by}
use Rattle.dap_mask.specs.Fills.{filled, keep_fills}
use Rattle.dap_mask.specs.Mask.{Mask}
use Rattle.dap_mask.specs.Masked.{mask_by, masked}
use Rattle.dap_mask.specs.RuleSteps.{RuleStep, named, elements, plain_place, is_unnamed}
use Rattle.dap_mask.specs.RuleSteps.{change_called, change_at_place}
use Rattle.dap_mask.specs.Rules.{Rule, of_verb, takes_parts, has_name, rule_applies}
use Rattle.dap_mask.specs.Rules.{is_telling, same_kind, share_name, are_safe, plain_place_of}
use Rattle.dap_mask.specs.declared.rules.Verb.TheVariants.{Blank}
use Rattle.dap_mask.proofs.ByPath.{first_safe, rest_safe, head-mask_by}
use Rattle.dap_mask.proofs.FillSteps.{IsFull, full_same, full_after, full_kept, keeps_rest}
use Rattle.dap_mask.proofs.FillSteps.{last_kept, solid_last, solid_verb, verb_keeps}
use Rattle.dap_mask.proofs.Matches.{head_of, heads_meet}

-- ---- setting a member leaves the head of a message

default_text : (k w : List ℕ) (v d : Doc) → is_text w (Some (default_to k v d)) ≡ is_text w (Some d)
default_text k w v null = refl
default_text k w v (boolean b) = refl
default_text k w v (whole z) = refl
default_text k w v (text s) = refl
default_text k w v (list ds) = refl
default_text k w v (object ms) = refl
default_text k w v (id s z) = refl

pub child_text : (k w : List ℕ) (f : Doc → Doc) (d : Doc)
    → is_text w (Some (change_child k f d)) ≡ is_text w (Some d)
child_text k w f null = refl
child_text k w f (boolean b) = refl
child_text k w f (whole z) = refl
child_text k w f (text s) = refl
child_text k w f (list ds) = refl
child_text k w f (object ms) = refl
child_text k w f (id s z) = refl

pub items_text : (w : List ℕ) (f : Doc → Doc) (d : Doc)
    → is_text w (Some (change_items f d)) ≡ is_text w (Some d)
items_text w f null = refl
items_text w f (boolean b) = refl
items_text w f (whole z) = refl
items_text w f (text s) = refl
items_text w f (list ds) = refl
items_text w f (object ms) = refl
items_text w f (id s z) = refl

at_text : (ps : List RuleStep) (l : RuleStep) (w : List ℕ) (v d : Doc)
    → is_text w (Some (change_at_place ps (set_last l v) d)) ≡ is_text w (Some d)
at_text [] (named k) w v d = default_text k w v d
at_text [] (elements n) w v d = refl
at_text (named k ∷ ps) l w v d = child_text k w (change_at_place ps (set_last l v)) d
at_text (elements n ∷ ps) l w v d =
    items_text w (change_called n (change_at_place ps (set_last l v))) d

mapped_text : (f : Doc → Doc) (w : List ℕ) (o : Option Doc)
    → ((d : Doc) → is_text w (Some (f d)) ≡ is_text w (Some d))
    → is_text w (option_map f o) ≡ is_text w o
mapped_text f w None h = refl
mapped_text f w (Some d) h = h d

default_other : (k j : List ℕ) (v d : Doc) → bytes_eq k j ≡ false
    → get k (default_to j v d) ≡ get k d
default_other k j v null h = refl
default_other k j v (boolean b) h = refl
default_other k j v (whole z) h = refl
default_other k j v (text s) h = refl
default_other k j v (list ds) h = refl
default_other k j v (object ms) h =
    given_other (is_given (get j (object ms))) k j v ms (apart k j h)
default_other k j v (id s z) h = refl

-- a member by which messages are recognised differs from every other member
telling_other : (k j : List ℕ) → is_telling k ≡ true → is_telling j ≡ false → bytes_eq k j ≡ false
telling_other k j t h = by_bool (bytes_eq k j)
    (λ e. absurd (true≢false (sym t ∙ ap is_telling ((bytes_eq-Decides k j).0 e) ∙ h))) (λ e. e)

child_at : (k w : List ℕ) (ps : List RuleStep) (l : RuleStep) (v d : Doc) → is_telling k ≡ true
    → is_bad_end ps l ≡ false
    → is_text w (get k (change_at_place ps (set_last l v) d)) ≡ is_text w (get k d)
child_at k w [] (named j) v d t h = ap (is_text w) (default_other k j v d (telling_other k j t h))
child_at k w [] (elements n) v d t h = refl
child_at k w (named j ∷ ps) l v d t h =
    let f = change_at_place ps (set_last l v) in
    by_bool (bytes_eq k j)
    (λ e. let same : k ≡ j = (bytes_eq-Decides k j).0 e in
    ap (is_text w) (ap (λ x. get k (change_child x f d)) (sym same) ∙ get-change k f d)
    ∙ mapped_text f w (get k d) (λ x. at_text ps l w v x))
    (λ e. ap (is_text w) (get-change_other j f d k (apart k j e)))
child_at k w (elements n ∷ ps) l v d t h =
    ap (is_text w) (get-change_items (change_called n (change_at_place ps (set_last l v))) d k)

telling_name : (k : Kind) → is_telling (name_key k) ≡ true
telling_name Request = refl
telling_name Response = refl
telling_name Event = refl

name_at : (k : Kind) (n : Option (List ℕ)) (ps : List RuleStep) (l : RuleStep) (v d : Doc)
    → is_bad_end ps l ≡ false
    → has_name k n (change_at_place ps (set_last l v) d) ≡ has_name k n d
name_at k None ps l v d h = refl
name_at k (Some n) ps l v d h = child_at (name_key k) n ps l v d (telling_name k) h

well_placed : (f : Fill) → is_fill_misplaced f ≡ false
    → (is_unnamed f.parent ≡ true) × (is_bad_end f.parent f.last ≡ false)
well_placed f h = go (is_unnamed f.parent) refl h
  where
    go : (b : Bool) → is_unnamed f.parent ≡ b → cond b (is_bad_end f.parent f.last) true ≡ false
        → (is_unnamed f.parent ≡ true) × (is_bad_end f.parent f.last ≡ false)
    go true u k = (u, k)
    go false u k = absurd (true≢false k)

-- whether a rule applies
applies_after : (g f : Fill) (d : Doc) → is_fill_misplaced g ≡ false
    → fill_applies f (fill_by g d) ≡ fill_applies f d
applies_after g f d h = go (fill_applies g d)
  where
    go : (b : Bool) → fill_applies f (cond b (change_at_place g.parent (set_value g) d) d)
        ≡ fill_applies f d
    go true =
        let placed = (well_placed g h).1 in
        ap₂ (λ a b. a && b)
        (child_at (codes "type") (type_name f.kind) g.parent g.last (scalar_doc g.value) d refl
        placed)
        (name_at f.kind f.name g.parent g.last (scalar_doc g.value) d placed)
    go false = refl

-- ---- a rule that is satisfied

-- the member is set in each object at the place, if the rule applies
abbrev pub IsMet : Fill → Doc → Type 0
IsMet f d = fill_applies f d ≡ true → IsFull f.parent f.last d

met_same : (f : Fill) (d : Doc) → IsMet f d → fill_by f d ≡ d
met_same f d h = go (fill_applies f d) h
  where
    go : (b : Bool) → (b ≡ true → IsFull f.parent f.last d)
        → cond b (change_at_place f.parent (set_value f) d) d ≡ d
    go true k = full_same f.parent f.last (scalar_doc f.value) d (k refl)
    go false k = refl

met_after : (f : Fill) (d : Doc) → is_fill_misplaced f ≡ false → IsMet f (fill_by f d)
met_after f d h applies = go (fill_applies f d) (sym (applies_after f f d h) ∙ applies)
  where
    go : (b : Bool) → b ≡ true
        → IsFull f.parent f.last (cond b (change_at_place f.parent (set_value f) d) d)
    go true k = full_after f.parent f.last f.value d (well_placed f h).0
    go false k = absurd (true≢false (sym k))

met_by : (g f : Fill) (d : Doc) → is_fill_misplaced g ≡ false → IsMet f d → IsMet f (fill_by g d)
met_by g f d h met applies =
    go (fill_applies g d) (met (sym (applies_after g f d h) ∙ applies))
  where
    go : (b : Bool) → IsFull f.parent f.last d
        → IsFull f.parent f.last (cond b (change_at_place g.parent (set_value g) d) d)
    go true full = full_kept g.parent (set_value g) f.parent f.last
        (solid_last g.last (scalar_doc g.value))
        (keeps_rest g.parent f.parent f.last (set_value g)
        (λ rest e. last_kept g.last g.value rest f.last e)) d full
    go false full = full

-- the rule for messages of the same kind and name
abbrev rule_for : Fill → Rule
rule_for f = record { verb = Blank; kind = f.kind; name = f.name; category = None; place = [] }

no_start : (a b c : Bool) → (a && (b && c)) ≡ false → c ≡ true → (a && b) ≡ false
no_start true true true h k = h
no_start true true false h k = absurd (true≢false (sym k))
no_start true false c h k = refl
no_start false b c h k = refl

met_mask_by : (r : Rule) (f : Fill) (d : Doc) → removes r f ≡ false → rule_applies r d ≡ true
    → fill_applies f d ≡ true → IsFull f.parent f.last d
    → IsFull f.parent f.last (change_at_place r.place (of_verb r.verb) d)
met_mask_by r f d h applies too full =
    full_kept r.place (of_verb r.verb) f.parent f.last (solid_verb r.verb)
    (verb_keeps r.verb r.place f.parent f.last
    (no_start (takes_parts r.verb) (is_start (plain_place_of r) (plain_place f.parent))
    (same_kind r.kind f.kind && share_name r.name f.name) h
    (heads_meet r (rule_for f) d (head_of r d applies) too))) d full

met_changed : (r : Rule) (f : Fill) (d : Doc) → removes r f ≡ false → fill_applies f d ≡ true
    → IsFull f.parent f.last d → IsFull f.parent f.last (mask_by r d)
met_changed r f d h too full = go (rule_applies r d) refl
  where
    go : (b : Bool) → rule_applies r d ≡ b
        → IsFull f.parent f.last (cond b (change_at_place r.place (of_verb r.verb) d) d)
    go true e = met_mask_by r f d h e too full
    go false e = full

met_masked : (rs : List Rule) (f : Fill) (d : Doc) → are_safe rs ≡ true → is_removed_by rs f ≡ false
    → IsMet f d → IsMet f (masked rs d)
met_masked [] f d safe h met = met
met_masked (r ∷ rs) f d safe h met =
    met_masked rs f (mask_by r d) (rest_safe r rs safe)
    (or_right (removes r f) (is_removed_by rs f) h)
    (λ applies.
    let too = sym (head-mask_by r (rule_for f) d (first_safe r rs safe)) ∙ applies in
    met_changed r f d (or_left (removes r f) (is_removed_by rs f) h) too (met too))

-- ---- all rules

pub are_placed : (rs : List Rule) (f : Fill) (fs : List Fill) → keep_fills rs (f ∷ fs) ≡ true
    → (is_fill_misplaced f ≡ false) × (is_removed_by rs f ≡ false) × (keep_fills rs fs ≡ true)
are_placed rs f fs h =
    let kept = not (is_removed_by rs f) && keep_fills rs fs in
    let rest = and_right (not (is_fill_misplaced f)) kept h in (
      not-true (is_fill_misplaced f)
          (and_left (not (is_fill_misplaced f)) kept h),
      not-true (is_removed_by rs f) (and_left (not (is_removed_by rs f)) (keep_fills rs fs) rest),
      and_right (not (is_removed_by rs f)) (keep_fills rs fs) rest,
    )

met_filled : (rs : List Rule) (fs : List Fill) (f : Fill) (d : Doc) → keep_fills rs fs ≡ true
    → IsMet f d → IsMet f (filled fs d)
met_filled rs [] f d h met = met
met_filled rs (g ∷ gs) f d h met =
    let p = are_placed rs g gs h in
    met_filled rs gs f (fill_by g d) p.2 (met_by g f d p.0 met)

-- each rule is satisfied
abbrev pub AreMet : List Fill → Doc → Type 0
AreMet [] d = Unit {0}
AreMet (f ∷ fs) d = IsMet f d × AreMet fs d

pub met_left : (fs : List Fill) (d : Doc) → AreMet fs d → filled fs d ≡ d
met_left [] d h = refl
met_left (f ∷ fs) d h = ap (filled fs) (met_same f d h.0) ∙ met_left fs d h.1

pub all_met : (rs : List Rule) (fs : List Fill) (d : Doc) → are_safe rs ≡ true
    → keep_fills rs fs ≡ true → AreMet fs (masked rs (filled fs d))
all_met rs [] d safe h = tt
all_met rs (f ∷ fs) d safe h =
    let p = are_placed rs f fs h in (
      met_masked rs f (filled fs (fill_by f d)) safe p.1
          (met_filled rs fs f (fill_by f d) p.2 (met_after f d p.0)),
      all_met rs fs (fill_by f d) safe p.2,
    )

pub filled_once : (mask : Mask) (d : Doc) → are_safe mask.changes ≡ true
    → keep_fills mask.changes mask.fills ≡ true
    → filled mask.fills (masked mask.changes (filled mask.fills d))
    ≡ masked mask.changes (filled mask.fills d)
filled_once mask d safe h =
    met_left mask.fills (masked mask.changes (filled mask.fills d))
    (all_met mask.changes mask.fills d safe h)
