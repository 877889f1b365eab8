-- The changes of all rules, path by path, determine the masked document.
use Rattle.std.proofs.Common.{◌≡◌, ℕ, Bool, true, false, cond, not, ◌&&◌, ◌||◌, List, [], ◌∷◌}
use Rattle.std.proofs.Common.{Option, Some, None, option_map, codes, refl, sym}
use Rattle.std.proofs.Common.{◌∙◌, ap, ap₂, bytes_eq, true≢false, ◌⊎◌, inl, inr}
use Rattle.std.proofs.Common.{Ordering, Less, Equal, Greater, nat_cmp}
use Rattle.std.proofs.lemmas.Slice.Eq.{bytes_eq-Decides}
use Rattle.std.specs.Cmp.Lexicographic.{slice_cmp}
use Rattle.std.specs.Ordering.{match_ordering, is_lt}
use Rattle.std.specs.List.{list_any, filter}
use Rattle.std.proofs.lemmas.Bool.{not-true}
use Rattle.dap_tree.specs.Doc.{Doc, null, boolean, whole, text, list, object, id, Items, no_items}
use Rattle.dap_tree.specs.Doc.{item, Members, no_members, member, get, change_member, change_child}
use Rattle.dap_tree.specs.Doc.{map_items, change_items, is_below_all, is_ordered, items_ordered}
use Rattle.dap_tree.specs.Doc.{members_ordered}
use Rattle.dap_tree.specs.Path.{Step, name, at}
use Rattle.dap_tree.proofs.Booleans.{and_left, and_right, and_both, or_left, or_right, or_both}
use Rattle.dap_profile.specs.PlaceSteps.{PlaceStep}
use Rattle.dap_message.specs.Places.{fits_place}
use Rattle.dap_message.specs.Marks.{top}
use Rattle.dap_message.specs.Rows.{is_text, is_of_kind, name_key, type_name}
use Rattle.dap_profile.specs.declared.profile.Kind.{Kind, TheVariants.{Request, Response, Event}}
use Rattle.dap_message.proofs.Edits.{Alike, by_bool}
use Rattle.dap_message.proofs.RowMarks.{text-top, one_step}
use Rattle.dap_message.proofs.OneMarking.{reported}
use Rattle.dap_mask.specs.RuleSteps.{RuleStep, named, elements, plain_place, has_names}
use Rattle.dap_mask.specs.RuleSteps.{is_called, change_called, change_at_place}
use Rattle.dap_mask.specs.Rules.{Rule, change_text, of_verb, takes_parts, has_name, rule_applies}
use Rattle.dap_mask.specs.Rules.{is_event_of, applies_at, plain_place_of, blank, renames}
use Rattle.dap_mask.specs.Rules.{is_name_in, is_for_names, comes_before, same_kind, share_name}
use Rattle.dap_mask.specs.Rules.{is_dropped, is_telling, is_telling_place, is_misplaced, is_late}
use Rattle.dap_mask.specs.Rules.{are_safe, has_head, has_category, recategorises, disturbs_one_of}
use Rattle.dap_mask.specs.Masked.{is_below, left_at, left_by, left, IsMasked, AgreeBut, is_apart}
use Rattle.dap_mask.specs.Masked.{mask_by, masked, named_by}
use Rattle.dap_mask.specs.Texts.{digits, hex}
use Rattle.dap_words.specs.Long.{long}
use Rattle.dap_words.specs.Uuids.{uuid}
use Rattle.dap_mask.specs.declared.rules.Verb.{Verb, TheVariants.{Blank, Digits, Hex, Long, Uuid}}
use Rattle.dap_mask.proofs.Edited.{top-verb, at-edit, left-none}
use Rattle.dap_mask.proofs.ElementNames.{same_names, deep_names, and_first}
use Rattle.dap_mask.proofs.RuleOrder.{names_end_in_member, no_shorter, renames_no_earlier}
use Rattle.dap_mask.proofs.RuleOrder.{renames_none, none_for_names, not_before_itself}
use Rattle.dap_mask.proofs.CategoryKept.{category_kept, leaves_all, names_disturb_none}
use Rattle.dap_mask.proofs.Matches.{both_apply, head_of}

-- ---- a rule applies to a masked document if and only if it applies to the original document

-- a place that rules may have neither matches the path of `type`, `command`, `event` or `success`
-- nor a prefix of it
apart_from : (k : List ℕ) → is_telling k ≡ true → (ss : List RuleStep) → is_telling_place ss
    ≡ false → (fits_place (plain_place ss) (name k ∷ []) ≡ false)
    × (is_below (plain_place ss) (name k ∷ []) ≡ false)
apart_from k t [] h = cc
apart_from k t (named j ∷ []) h = by_bool (bytes_eq j k)
    (λ e. absurd (true≢false (sym t ∙ ap is_telling (sym ((bytes_eq-Decides j k).0 e)) ∙ h)))
    (λ e. (rw e refl, rw e refl))
apart_from k t (named j ∷ named q ∷ ss) h = by_bool (bytes_eq j k) (λ e. (rw e refl, rw e refl))
    (λ e. (rw e refl, rw e refl))
apart_from k t (named j ∷ elements n ∷ ss) h = by_bool (bytes_eq j k)
    (λ e. (rw e refl, rw e refl)) (λ e. (rw e refl, rw e refl))
apart_from k t (elements n ∷ ss) h = (refl, refl)

-- a change at this place does not change the top of the member
child-edit : (v : Verb) (ss : List RuleStep) (k : List ℕ) (d : Doc) → is_telling k ≡ true
    → is_telling_place ss ≡ false → Alike (get k (change_at_place ss (of_verb v) d)) (get k d)
child-edit v ss k d t h =
    let far = apart_from k t ss h in
    let o = at (name k ∷ []) d in
    ap (option_map top) (sym (one_step k (change_at_place ss (of_verb v) d)))
    ∙ at-edit v ss d (name k ∷ [])
    ∙ ap₂ (λ a b. option_map top (cond (has_names ss (Some d) (name k ∷ []))
    (cond a (option_map (of_verb v) o) (cond (b && takes_parts v) None o)) o)) far.0 far.1
    ∙ ap (option_map top) (either (has_names ss (Some d) (name k ∷ [])) o)
    ∙ ap (option_map top) (one_step k d)
  where
    either : (b : Bool) (o : Option Doc) → cond b o o ≡ o
    either true o = refl
    either false o = refl

text-edit : (v : Verb) (ss : List RuleStep) (w k : List ℕ) (d : Doc) → is_telling k ≡ true
    → is_telling_place ss ≡ false
    → is_text w (get k (change_at_place ss (of_verb v) d)) ≡ is_text w (get k d)
text-edit v ss w k d t h = sym (text-top w (get k (change_at_place ss (of_verb v) d)))
    ∙ ap (is_text w) (child-edit v ss k d t h) ∙ text-top w (get k d)

telling_name : (k : Kind) → is_telling (name_key k) ≡ true
telling_name Request = refl
telling_name Response = refl
telling_name Event = refl

kind-edit : (v : Verb) (ss : List RuleStep) (k : Kind) (d : Doc) → is_telling_place ss ≡ false
    → is_of_kind k (change_at_place ss (of_verb v) d) ≡ is_of_kind k d
kind-edit v ss k d h = text-edit v ss (type_name k) (codes "type") d refl h

name-edit : (v : Verb) (ss : List RuleStep) (k : Kind) (n : Option (List ℕ)) (d : Doc)
    → is_telling_place ss ≡ false → has_name k n (change_at_place ss (of_verb v) d) ≡ has_name k n d
name-edit v ss k None d h = refl
name-edit v ss k (Some n) d h = text-edit v ss n (name_key k) d (telling_name k) h

event-edit : (v : Verb) (ss : List RuleStep) (ns : List (Option (List ℕ))) (d : Doc)
    → is_telling_place ss
    ≡ false → is_event_of ns (change_at_place ss (of_verb v) d) ≡ is_event_of ns d
event-edit v ss [] d h = refl
event-edit v ss (n ∷ ns) d h =
    ap₂ (λ a b. a || b) (name-edit v ss Event n d h) (event-edit v ss ns d h)

head-edit : (v : Verb) (ss : List RuleStep) (q : Rule) (d : Doc) → is_telling_place ss ≡ false
    → has_head q (change_at_place ss (of_verb v) d) ≡ has_head q d
head-edit v ss q d h = ap₂ (λ a b. a && b) (kind-edit v ss q.kind d h)
    (name-edit v ss q.kind q.name d h)

pub head-mask_by : (r q : Rule) (d : Doc) → is_telling_place r.place ≡ false
    → has_head q (mask_by r d) ≡ has_head q d
head-mask_by r q d h = go (rule_applies r d)
  where
    go : (b : Bool)
        → has_head q (cond b (change_at_place r.place (of_verb r.verb) d) d) ≡ has_head q d
    go true = head-edit r.verb r.place q d h
    go false = refl

-- a rule that applies leaves whether another rule applies, if it may not change its category
spoken-edit : (r q : Rule) (d : Doc) → is_telling_place r.place ≡ false
    → recategorises r q ≡ false → rule_applies r d ≡ true
    → rule_applies q (change_at_place r.place (of_verb r.verb) d) ≡ rule_applies q d
spoken-edit r q d safe apart applies =
    let e = change_at_place r.place (of_verb r.verb) d in
    let head = head-edit r.verb r.place q d safe in
    by_bool (has_head q d)
    (λ t. ap₂ (λ a b. a && b) head (category_kept r q d safe apart (head_of r d applies) t))
    (λ f. ap (λ a. a && has_category q.category e) (head ∙ f)
    ∙ sym (ap (λ a. a && has_category q.category d) f))

pub spoken-mask_by : (r q : Rule) (d : Doc) → is_telling_place r.place ≡ false
    → recategorises r q ≡ false → rule_applies q (mask_by r d) ≡ rule_applies q d
spoken-mask_by r q d h apart = go (rule_applies r d) refl
  where
    go : (b : Bool) → rule_applies r d ≡ b
        → rule_applies q (cond b (change_at_place r.place (of_verb r.verb) d) d) ≡ rule_applies q d
    go true a = spoken-edit r q d h apart a
    go false a = refl

dropped-mask_by : (r : Rule) (ns : List (Option (List ℕ))) (d : Doc) → is_telling_place r.place
    ≡ false
    → is_dropped ns (mask_by r d) ≡ is_dropped ns d
dropped-mask_by r ns d h = go (rule_applies r d)
  where
    go : (b : Bool) → is_dropped ns (cond b (change_at_place r.place (of_verb r.verb) d) d)
        ≡ is_dropped ns d
    go true = ap₂ (λ a b. a && b) (kind-edit r.verb r.place Event d h) (event-edit r.verb r.place ns
        d h)
    go false = refl

-- what `are_safe` says of the first rule
pub record IsFirst (r : Rule) (rs : List Rule) : Type 0 where
  pub placed : is_misplaced r ≡ false
  pub early : is_late r rs ≡ false
  pub apart : disturbs_one_of r rs ≡ false
  pub rest : are_safe rs ≡ true

is_first : (r : Rule) (rs : List Rule) → are_safe (r ∷ rs) ≡ true → IsFirst r rs
is_first r rs h =
    let calm = not (disturbs_one_of r rs) && are_safe rs in
    let later = and_right (not (is_misplaced r)) (not (is_late r rs) && calm) h in
    let others = and_right (not (is_late r rs)) calm later in
    record {
      placed = not-true (is_misplaced r) (and_left (not (is_misplaced r))
          (not (is_late r rs) && calm) h);
      early = not-true (is_late r rs) (and_left (not (is_late r rs)) calm later);
      apart = not-true (disturbs_one_of r rs) (and_left (not (disturbs_one_of r rs)) (are_safe rs)
          others);
      rest = and_right (not (disturbs_one_of r rs)) (are_safe rs) others;
    }

pub first_placed : (r : Rule) (rs : List Rule) → are_safe (r ∷ rs) ≡ true → is_misplaced r ≡ false
first_placed r rs h = let first = is_first r rs h in first.placed

pub first_safe : (r : Rule) (rs : List Rule) → are_safe (r ∷ rs) ≡ true → is_telling_place r.place
    ≡ false
first_safe r rs h =
    or_left (is_telling_place r.place) (renames r r || recategorises r r) (first_placed r rs h)

-- the first rule changes no text by which it selects
first_own : (r : Rule) (rs : List Rule) → are_safe (r ∷ rs) ≡ true
    → (renames r r || recategorises r r) ≡ false
first_own r rs h =
    or_right (is_telling_place r.place) (renames r r || recategorises r r) (first_placed r rs h)

pub first_renames : (r : Rule) (rs : List Rule) → are_safe (r ∷ rs) ≡ true → renames r r ≡ false
first_renames r rs h = or_left (renames r r) (recategorises r r) (first_own r rs h)

pub first_leaves_own : (r : Rule) (rs : List Rule) → are_safe (r ∷ rs) ≡ true
    → recategorises r r ≡ false
first_leaves_own r rs h = or_right (renames r r) (recategorises r r) (first_own r rs h)

pub first_early : (r : Rule) (rs : List Rule) → are_safe (r ∷ rs) ≡ true → is_late r rs ≡ false
first_early r rs h = let first = is_first r rs h in first.early

pub first_apart : (r : Rule) (rs : List Rule) → are_safe (r ∷ rs) ≡ true
    → disturbs_one_of r rs ≡ false
first_apart r rs h = let first = is_first r rs h in first.apart

pub rest_safe : (r : Rule) (rs : List Rule) → are_safe (r ∷ rs) ≡ true → are_safe rs ≡ true
rest_safe r rs h = let first = is_first r rs h in first.rest

pub head-masked : (rs : List Rule) (q : Rule) (d : Doc) → are_safe rs ≡ true
    → has_head q (masked rs d) ≡ has_head q d
head-masked [] q d h = refl
head-masked (r ∷ rs) q d h = head-masked rs q (mask_by r d) (rest_safe r rs h)
    ∙ head-mask_by r q d (first_safe r rs h)

pub dropped-masked : (rs : List Rule) (ns : List (Option (List ℕ))) (d : Doc) → are_safe rs ≡ true
    → is_dropped ns (masked rs d) ≡ is_dropped ns d
dropped-masked [] ns d h = refl
dropped-masked (r ∷ rs) ns d h = dropped-masked rs ns (mask_by r d) (rest_safe r rs h)
    ∙ dropped-mask_by r ns d (first_safe r rs h)

-- ---- the values after rules

map-top : (v : Verb) (o : Option Doc) → option_map top (option_map (of_verb v) o)
    ≡ option_map (of_verb v) (option_map top o)
map-top v None = refl
map-top v (Some x) = ap Some (top-verb v x)

top-left_at : (v : Verb) (ps : List PlaceStep) (p : List Step) (o : Option Doc)
    → option_map top (left_at v ps p o) ≡ left_at v ps p (option_map top o)
top-left_at v ps p o = go (fits_place ps p) (is_below ps p && takes_parts v)
  where
    go : (a b : Bool) → option_map top (cond a (option_map (of_verb v) o) (cond b None o))
        ≡ cond a (option_map (of_verb v) (option_map top o)) (cond b None (option_map top o))
    go true b = map-top v o
    go false true = refl
    go false false = refl

pub top-left_by : (r : Rule) (d : Doc) (p : List Step) (o : Option Doc)
    → option_map top (left_by r d p o) ≡ left_by r d p (option_map top o)
top-left_by r d p o = go (applies_at r d p)
  where
    go : (b : Bool) → option_map top (cond b (left_at r.verb (plain_place_of r) p o) o)
        ≡ cond b (left_at r.verb (plain_place_of r) p (option_map top o)) (option_map top o)
    go true = top-left_at r.verb (plain_place_of r) p o
    go false = refl

pub top-left : (rs : List Rule) (d : Doc) (p : List Step) (o : Option Doc)
    → option_map top (left rs d p o) ≡ left rs d p (option_map top o)
top-left [] d p o = refl
top-left (r ∷ rs) d p o = top-left rs d p (left_by r d p o) ∙ ap (left rs d p) (top-left_by r d p o)

-- rules preserve that two values have the same top
pub left-alike : (rs : List Rule) (d : Doc) (p : List Step) (a b : Option Doc) → Alike a b
    → Alike (left rs d p a) (left rs d p b)
left-alike rs d p a b h = top-left rs d p a ∙ ap (left rs d p) h ∙ sym (top-left rs d p b)

pub at-mask_by : (r : Rule) (d : Doc) (p : List Step)
    → Alike (at p (mask_by r d)) (left_by r d p (at p d))
at-mask_by r d p = go (rule_applies r d)
  where
    go : (b : Bool) → Alike (at p (cond b (change_at_place r.place (of_verb r.verb) d) d))
        (cond (b && has_names r.place (Some d) p)
        (left_at r.verb (plain_place_of r) p (at p d)) (at p d))
    go true = at-edit r.verb r.place d p
    go false = refl

pub left_by-none : (r : Rule) (d : Doc) (p : List Step) → left_by r d p None ≡ None
left_by-none r d p =
    go None (applies_at r d p) (left-none r.verb (plain_place_of r) p) refl
  where
    go : (o : Option Doc) (a : Bool) → left_at r.verb (plain_place_of r) p None ≡ None → o ≡ None
        → cond a (left_at r.verb (plain_place_of r) p None) o ≡ None
    go o true h n = h
    go o false h n = n

pub left_nothing : (rs : List Rule) (d : Doc) (p : List Step) → left rs d p None ≡ None
left_nothing [] d p = refl
left_nothing (r ∷ rs) d p = ap (left rs d p) (left_by-none r d p) ∙ left_nothing rs d p

-- ---- documents in which rules select the same elements

-- the value at the path of e is blank, and the place of the rule does not lead above it
pub record IsBlankTop (q : Rule) (e : Doc) (p : List Step) : Type 0 where
  pub value : Doc
  pub is : option_map top (at p e) ≡ Some (blank value)
  pub ends : is_below (plain_place_of q) p ≡ false

-- the rule applies at the path of both documents, or of none; or the value there is blank
abbrev pub Same : Rule → Doc → Doc → List Step → Type 0
Same q e d p = (applies_at q e p ≡ applies_at q d p) ⊎ IsBlankTop q e p

abbrev pub AreSame : List Rule → Doc → Doc → List Step → Type 0
AreSame [] e d p = Unit {0}
AreSame (q ∷ qs) e d p = Same q e d p × AreSame qs e d p

-- no verb changes the value
abbrev Fixed : Option Doc → Type 0
Fixed o = (v : Verb) → option_map (of_verb v) o ≡ o

text_blank : (f : List ℕ → List ℕ) → f [] ≡ [] → (x : Doc)
    → Some (change_text f (blank x)) ≡ Some (blank x)
text_blank f h null = refl
text_blank f h (boolean b) = refl
text_blank f h (whole z) = refl
text_blank f h (text s) = ap (λ t. Some (text t)) h
text_blank f h (list ds) = refl
text_blank f h (object ms) = refl
text_blank f h (id s z) = refl

pub blank_twice : (d : Doc) → blank (blank d) ≡ blank d
blank_twice null = refl
blank_twice (boolean b) = refl
blank_twice (whole z) = refl
blank_twice (text s) = refl
blank_twice (list ds) = refl
blank_twice (object ms) = refl
blank_twice (id s z) = refl

pub blank_fixed : (x : Doc) → Fixed (Some (blank x))
blank_fixed x Blank = ap Some (blank_twice x)
blank_fixed x Digits = text_blank digits refl x
blank_fixed x Hex = text_blank hex refl x
blank_fixed x Long = text_blank long refl x
blank_fixed x Uuid = text_blank uuid refl x

-- by cases of the conditions of `left_by`
fixed_by : (v : Verb) (a b c : Bool) (o : Option Doc) → Fixed o
    → Fixed (cond a (cond b (option_map (of_verb v) o) (cond c None o)) o)
fixed_by v false b c o h w = h w
fixed_by v true true c o h w = ap (option_map (of_verb w)) (h v) ∙ h w ∙ sym (h v)
fixed_by v true false true o h w = refl
fixed_by v true false false o h w = h w

fixed_left : (q : Rule) (d : Doc) (p : List Step) (o : Option Doc) → Fixed o
    → Fixed (left_by q d p o)
fixed_left q d p o h = fixed_by q.verb (applies_at q d p) (fits_place (plain_place_of q) p)
    (is_below (plain_place_of q) p && takes_parts q.verb) o h

-- a rule whose place does not lead above a value leaves it, if no verb changes it
stays_fixed : (q : Rule) (d : Doc) (p : List Step) (o : Option Doc) → Fixed o
    → is_below (plain_place_of q) p ≡ false → left_by q d p o ≡ o
stays_fixed q d p o h ends =
    ap (λ c. cond (applies_at q d p) (cond (fits_place (plain_place_of q) p)
    (option_map (of_verb q.verb) o) (cond (c && takes_parts q.verb) None o)) o) ends
    ∙ go (applies_at q d p) (fits_place (plain_place_of q) p)
  where
    go : (a b : Bool) → cond a (cond b (option_map (of_verb q.verb) o) o) o ≡ o
    go false b = refl
    go true true = h q.verb
    go true false = refl

-- the start of the rules is a value at the path of e; while it is blank, no verb changes it
abbrev FixedIf : Doc → List Step → Option Doc → Type 0
FixedIf e p o = (x : Doc) → option_map top (at p e) ≡ Some (blank x) → Fixed o

one_same : (q : Rule) (e d : Doc) (p : List Step) (o : Option Doc) → FixedIf e p o
    → Same q e d p → left_by q e p o ≡ left_by q d p o
one_same q e d p o h (inl s) =
    ap (λ b. cond b (left_at q.verb (plain_place_of q) p o) o) s
one_same q e d p o h (inr b) =
    let fixed = h b.value b.is in
    stays_fixed q e p o fixed b.ends ∙ sym (stays_fixed q d p o fixed b.ends)

rules_same : (rs : List Rule) (e d : Doc) (p : List Step) (o : Option Doc) → FixedIf e p o
    → AreSame rs e d p → left rs e p o ≡ left rs d p o
rules_same [] e d p o h s = refl
rules_same (q ∷ rs) e d p o h s =
    ap (left rs e p) (one_same q e d p o h s.0)
    ∙ rules_same rs e d p (left_by q d p o) (λ x is. fixed_left q d p o (h x is)) s.1

-- the rules leave the same of the value at the path of e, with the names in e and in d
pub left-same : (rs : List Rule) (e d : Doc) (p : List Step)
    → (at p e ≡ None) ⊎ AreSame rs e d p
    → left rs e p (option_map top (at p e)) ≡ left rs d p (option_map top (at p e))
left-same rs e d p (inl n) =
    ap (λ o. left rs e p (option_map top o)) n ∙ left_nothing rs e p ∙ sym (left_nothing rs d p)
    ∙ sym (ap (λ o. left rs d p (option_map top o)) n)
left-same rs e d p (inr s) =
    rules_same rs e d p (option_map top (at p e))
    (λ x is v. ap (option_map (of_verb v)) is ∙ blank_fixed x v ∙ sym is) s

top_blank : (x : Doc) → top (blank x) ≡ blank x
top_blank null = refl
top_blank (boolean b) = refl
top_blank (whole z) = refl
top_blank (text s) = refl
top_blank (list ds) = refl
top_blank (object ms) = refl
top_blank (id s z) = refl

same_edit : (r q : Rule) (d : Doc) (p : List Step) (y : Doc) → is_telling_place r.place ≡ false
    → renames r q ≡ false → recategorises r q ≡ false → rule_applies r d ≡ true
    → at p (change_at_place r.place (of_verb r.verb) d) ≡ Some y
    → Same q (change_at_place r.place (of_verb r.verb) d) d p
same_edit r q d p y safe h apart applies there =
    let e = change_at_place r.place (of_verb r.verb) d in
    let spoken = spoken-edit r q d safe apart applies in
    by_bool (rule_applies q d)
    (λ t. elim (same_names r.verb r.place q.place (Some d) p y
    (and_first (is_name_in r.place q.place)
    (same_kind r.kind q.kind && share_name r.name q.name) (both_apply r q d applies t) h) there) [
      | inl s ↦ inl (ap₂ (λ a b. a && b) spoken s)
      | inr b ↦ inr (record {
        value = b.value;
        is = ap (option_map top) b.is ∙ ap Some (top_blank b.value);
        ends = b.ends;
      })
    ])
    (λ f. inl (ap (λ b. b && has_names q.place (Some e) p) (spoken ∙ f)
    ∙ sym (ap (λ b. b && has_names q.place (Some d) p) f)))

pub same_by : (r q : Rule) (d : Doc) (p : List Step) (y : Doc) → is_telling_place r.place ≡ false
    → renames r q ≡ false → recategorises r q ≡ false → at p (mask_by r d) ≡ Some y
    → Same q (mask_by r d) d p
same_by r q d p y safe h apart there = go (rule_applies r d) refl there
  where
    go : (b : Bool) → rule_applies r d ≡ b
        → at p (cond b (change_at_place r.place (of_verb r.verb) d) d) ≡ Some y
        → Same q (cond b (change_at_place r.place (of_verb r.verb) d) d) d p
    go true a k = same_edit r q d p y safe h apart a k
    go false a k = inl refl

all_same_by : (r : Rule) (qs : List Rule) (d : Doc) (p : List Step) (y : Doc)
    → is_telling_place r.place ≡ false → list_any (renames r) qs ≡ false
    → list_any (recategorises r) qs ≡ false
    → at p (mask_by r d) ≡ Some y → AreSame qs (mask_by r d) d p
all_same_by r [] d p y safe h apart there = tt
all_same_by r (q ∷ qs) d p y safe h apart there = (
  same_by r q d p y safe (or_left (renames r q) (list_any (renames r) qs) h)
      (or_left (recategorises r q) (list_any (recategorises r) qs) apart) there,
  all_same_by r qs d p y safe (or_right (renames r q) (list_any (renames r) qs) h)
      (or_right (recategorises r q) (list_any (recategorises r) qs) apart) there,
)

same_or_none : (r : Rule) (qs : List Rule) (d : Doc) (p : List Step)
    → is_telling_place r.place ≡ false → list_any (renames r) qs ≡ false
    → list_any (recategorises r) qs ≡ false → (o : Option Doc)
    → at p (mask_by r d) ≡ o → (at p (mask_by r d) ≡ None) ⊎ AreSame qs (mask_by r d) d p
same_or_none r qs d p safe h apart None is = inl is
same_or_none r qs d p safe h apart (Some y) is = inr (all_same_by r qs d p y safe h apart is)

-- a rule that renames no element that the other rules select, and changes no category by which they
-- apply, leaves their effect
pub same_after : (r : Rule) (qs : List Rule) (d : Doc) (p : List Step)
    → is_telling_place r.place ≡ false → list_any (renames r) qs ≡ false
    → list_any (recategorises r) qs ≡ false
    → left qs (mask_by r d) p (option_map top (at p (mask_by r d)))
    ≡ left qs d p (option_map top (at p (mask_by r d)))
same_after r qs d p safe h apart =
    left-same qs (mask_by r d) d p (same_or_none r qs d p safe h apart (at p (mask_by r d)) refl)

-- ---- the names of elements after the rules for names

-- a later rule for names leaves the names by which a rule for names selects
names_stay : (t q : Rule) (d : Doc) (p : List Step) → is_telling_place t.place ≡ false
    → is_for_names t.place ≡ true → is_for_names q.place ≡ true → renames q q ≡ false
    → comes_before t q ≡ false → applies_at q (mask_by t d) p ≡ applies_at q d p
names_stay t q d p safe e f own late = go (rule_applies t d) refl
  where
    changed : Doc
    changed = change_at_place t.place (of_verb t.verb) d

    both : rule_applies t d ≡ true → rule_applies q d ≡ true
        → has_names q.place (Some changed) p ≡ has_names q.place (Some d) p
    both a b = deep_names t.verb t.place q.place (Some d) p (no_shorter q t f e late)
        (names_end_in_member q.place f)
        (and_first (is_name_in t.place q.place)
        (same_kind t.kind q.kind && share_name t.name q.name) (both_apply t q d a b)
        (renames_no_earlier t q own late))

    go : (a : Bool) → rule_applies t d ≡ a
        → (rule_applies q (cond a changed d) && has_names q.place (Some (cond a changed d)) p)
        ≡ (rule_applies q d && has_names q.place (Some d) p)
    go false a = refl
    go true a =
        let spoken = spoken-edit t q d safe (names_disturb_none t q e) a in
        by_bool (rule_applies q d)
        (λ b. ap₂ (λ x y. x && y) spoken (both a b))
        (λ b. ap (λ x. x && has_names q.place (Some changed) p) (spoken ∙ b)
        ∙ sym (ap (λ x. x && has_names q.place (Some d) p) b))

all_names_stay : (q : Rule) (ts : List Rule) (d : Doc) (p : List Step) → are_safe ts ≡ true
    → is_for_names q.place ≡ true → renames q q ≡ false → is_late q ts ≡ false
    → applies_at q (named_by ts d) p ≡ applies_at q d p
all_names_stay q [] d p safe f own late = refl
all_names_stay q (t ∷ ts) d p safe f own late =
    go (λ e. all_names_stay q ts e p (rest_safe t ts safe) f own
    (or_right (comes_before t q) (is_late q ts) late)) (is_for_names t.place) refl
  where
    others : List Rule
    others = filter (λ u. is_for_names u.place) ts

    go : ((e : Doc) → applies_at q (named_by ts e) p ≡ applies_at q e p)
        → (a : Bool) → is_for_names t.place ≡ a
        → applies_at q (masked (cond a (t ∷ others) others) d) p ≡ applies_at q d p
    go rest true e = rest (mask_by t d) ∙ names_stay t q d p (first_safe t ts safe) e f own
        (or_left (comes_before t q) (is_late q ts) late)
    go rest false e = rest d

-- without rules for names, the document has the names
pub unnamed_by : (r : Rule) (ts : List Rule) (d : Doc) → is_for_names r.place ≡ false
    → is_late r ts ≡ false → named_by ts d ≡ d
unnamed_by r ts d e h = ap (λ us. masked us d) (none_for_names r ts e h)

renames_none_of : (r : Rule) (qs : List Rule) → is_for_names r.place ≡ false
    → list_any (renames r) qs ≡ false
renames_none_of r [] e = refl
renames_none_of r (q ∷ qs) e = or_both _ _ (renames_none r q e) (renames_none_of r qs e)

pub at-masked : (rs : List Rule) (d : Doc) → are_safe rs ≡ true → (p : List Step)
    → Alike (at p (masked rs d)) (left rs (named_by rs d) p (at p d))
at-masked [] d h p = refl
at-masked (r ∷ rs) d h p =
    go (at-masked rs (mask_by r d) (rest_safe r rs h) p) (is_for_names r.place) refl
  where
    e : Doc
    e = mask_by r d

    others : List Rule
    others = filter (λ u. is_for_names u.place) rs

    early : is_late r rs ≡ false
    early = first_early r rs h

    go : Alike (at p (masked rs e)) (left rs (named_by rs e) p (at p e))
        → (b : Bool) → is_for_names r.place ≡ b
        → Alike (at p (masked rs e)) (left (r ∷ rs) (masked (cond b (r ∷ others) others) d) p
        (at p d))
    go later true f =
        let now = named_by rs e in
        let own = first_renames r rs h in
        let stays : applies_at r now p ≡ applies_at r d p =
        all_names_stay r rs e p (rest_safe r rs h) f own early
        ∙ names_stay r r d p (first_safe r rs h) f f own (not_before_itself r) in
        later
        ∙ left-alike rs now p (at p e) (left_by r now p (at p d))
        (at-mask_by r d p ∙ sym (ap (λ b. option_map top (cond b
        (left_at r.verb (plain_place_of r) p (at p d)) (at p d))) stays))
    go later false f =
        later
        ∙ ap (λ x. option_map top (left rs x p (at p e))) (unnamed_by r rs e f early)
        ∙ top-left rs e p (at p e)
        ∙ same_after r rs d p (first_safe r rs h) (renames_none_of r rs f)
        (leaves_all r rs (first_apart r rs h))
        ∙ sym (top-left rs d p (at p e))
        ∙ left-alike rs d p (at p e) (left_by r d p (at p d)) (at-mask_by r d p)
        ∙ sym (ap (λ x. option_map top (left (r ∷ rs) x p (at p d))) (unnamed_by r rs d f early))

pub masked_by_path : (rs : List Rule) (d : Doc) → are_safe rs ≡ true → IsMasked rs d (masked rs d)
unfolding IsMasked
masked_by_path rs d h p = at-masked rs d h p

-- ---- at paths that the rules do not affect

left_apart : (rs : List Rule) (d : Doc) (p : List Step) (o : Option Doc) → is_apart rs d p ≡ true
    → left rs d p o ≡ o
left_apart [] d p o h = refl
left_apart (r ∷ rs) d p o h =
    go (left_apart rs d p o) (applies_at r d p) (fits_place (plain_place_of r) p)
    (is_below (plain_place_of r) p && takes_parts r.verb) h
  where
    go : (is_apart rs d p ≡ true → left rs d p o ≡ o) → (a b c : Bool)
        → cond a (cond b false (cond c false (is_apart rs d p))) (is_apart rs d p) ≡ true
        → left rs d p (cond a (cond b (option_map (of_verb r.verb) o) (cond c None o)) o) ≡ o
    go later false b c h = later h
    go later true true c h = cc
    go later true false true h = cc
    go later true false false h = later h

pub keeps_others : (rs : List Rule) (d : Doc) (p : List Step) → are_safe rs ≡ true
    → is_apart rs (named_by rs d) p ≡ true
    → option_map top (at p (masked rs d)) ≡ option_map top (at p d)
keeps_others rs d p h a =
    at-masked rs d h p ∙ ap (option_map top) (left_apart rs (named_by rs d) p (at p d) a)

pub none_from : (o : Option Doc) → option_map top o ≡ None → o ≡ None
none_from None h = refl
none_from (Some x) h = cc

pub none_new : (rs : List Rule) (d : Doc) (p : List Step) → are_safe rs ≡ true → at p d ≡ None
    → at p (masked rs d) ≡ None
none_new rs d p h n =
    let now = named_by rs d in
    none_from _ (at-masked rs d h p ∙ ap (λ o. option_map top (left rs now p o)) n
    ∙ ap (option_map top) (left_nothing rs now p))

-- ---- members stay in order

below_at : (o : Ordering) (q k l : List ℕ) (f : Doc → Doc) (e : Doc) (ms changed : Members)
    → is_below_all q changed ≡ is_below_all q ms
    → is_below_all q (match_ordering o (member l e changed) (member l (f e) ms)
    (member l e changed)) ≡ is_below_all q (member l e ms)
below_at Less q k l f e ms changed h = ap (λ b. is_lt (slice_cmp nat_cmp q l) && b) h
below_at Equal q k l f e ms changed h = refl
below_at Greater q k l f e ms changed h = ap (λ b. is_lt (slice_cmp nat_cmp q l) && b) h

below_change : (q k : List ℕ) (f : Doc → Doc) (ms : Members) → is_below_all q (change_member k f ms)
    ≡ is_below_all q ms
below_change q k f no_members = refl
below_change q k f (member l e ms) =
    below_at (slice_cmp nat_cmp k l) q k l f e ms (change_member k f ms) (below_change q k f ms)

abbrev pub KeepsOrdered : (Doc → Doc) → Type 0
KeepsOrdered f = (d : Doc) → is_ordered d ≡ true → is_ordered (f d) ≡ true

ordered_at : (o : Ordering) (l : List ℕ) (f : Doc → Doc) (e : Doc) (ms changed : Members)
    → KeepsOrdered f → is_below_all l changed ≡ is_below_all l ms → members_ordered changed ≡ true
    → members_ordered (member l e ms) ≡ true
    → members_ordered (match_ordering o (member l e changed) (member l (f e) ms)
    (member l e changed)) ≡ true
ordered_at o l f e ms changed keeps same later h = go o
  where
    parts : (is_ordered e && members_ordered ms) ≡ true
    parts = and_right (is_below_all l ms) (is_ordered e && members_ordered ms) h

    low : is_below_all l ms ≡ true
    low = and_left (is_below_all l ms) (is_ordered e && members_ordered ms) h

    go : (o : Ordering) → members_ordered (match_ordering o (member l e changed) (member l (f e) ms)
        (member l e changed)) ≡ true
    go Less = and_both _ _ (same ∙ low) (and_both _ _ (and_left (is_ordered e) (members_ordered ms)
        parts) later)
    go Equal = and_both _ _ low
        (and_both _ _ (keeps e (and_left (is_ordered e) (members_ordered ms) parts))
        (and_right (is_ordered e) (members_ordered ms) parts))
    go Greater = and_both _ _ (same ∙ low)
        (and_both _ _ (and_left (is_ordered e) (members_ordered ms) parts) later)

members_kept : (k : List ℕ) (f : Doc → Doc) (ms : Members) → KeepsOrdered f → members_ordered ms
    ≡ true → members_ordered (change_member k f ms) ≡ true
members_kept k f no_members keeps h = refl
members_kept k f (member l e ms) keeps h =
    ordered_at (slice_cmp nat_cmp k l) l f e ms (change_member k f ms) keeps (below_change l k f ms)
    (members_kept k f ms keeps (and_right (is_ordered e) (members_ordered ms)
    (and_right (is_below_all l ms) (is_ordered e && members_ordered ms) h))) h

items_kept : (f : Doc → Doc) (ds : Items) → KeepsOrdered f → items_ordered ds ≡ true
    → items_ordered (map_items f ds) ≡ true
items_kept f no_items keeps h = refl
items_kept f (item d ds) keeps h =
    and_both _ _ (keeps d (and_left (is_ordered d) (items_ordered ds) h))
    (items_kept f ds keeps (and_right (is_ordered d) (items_ordered ds) h))

ordered-text : (f : List ℕ → List ℕ) → KeepsOrdered (change_text f)
ordered-text f null h = refl
ordered-text f (boolean b) h = refl
ordered-text f (whole z) h = refl
ordered-text f (text s) h = refl
ordered-text f (list ds) h = h
ordered-text f (object ms) h = h
ordered-text f (id s z) h = refl

ordered-verb : (v : Verb) → KeepsOrdered (of_verb v)
ordered-verb Blank null h = refl
ordered-verb Blank (boolean b) h = refl
ordered-verb Blank (whole z) h = refl
ordered-verb Blank (text s) h = refl
ordered-verb Blank (list ds) h = refl
ordered-verb Blank (object ms) h = refl
ordered-verb Blank (id s z) h = refl
ordered-verb Digits d h = ordered-text _ d h
ordered-verb Hex d h = ordered-text _ d h
ordered-verb Long d h = ordered-text _ d h
ordered-verb Uuid d h = ordered-text _ d h

ordered-child : (k : List ℕ) (f : Doc → Doc) → KeepsOrdered f → KeepsOrdered (change_child k f)
ordered-child k f keeps null h = refl
ordered-child k f keeps (boolean b) h = refl
ordered-child k f keeps (whole z) h = refl
ordered-child k f keeps (text s) h = refl
ordered-child k f keeps (list ds) h = h
ordered-child k f keeps (object ms) h = members_kept k f ms keeps h
ordered-child k f keeps (id s z) h = refl

ordered-items : (f : Doc → Doc) → KeepsOrdered f → KeepsOrdered (change_items f)
ordered-items f keeps null h = refl
ordered-items f keeps (boolean b) h = refl
ordered-items f keeps (whole z) h = refl
ordered-items f keeps (text s) h = refl
ordered-items f keeps (list ds) h = items_kept f ds keeps h
ordered-items f keeps (object ms) h = h
ordered-items f keeps (id s z) h = refl

ordered-called : (n : Option (List ℕ)) (f : Doc → Doc) → KeepsOrdered f
    → KeepsOrdered (change_called n f)
ordered-called n f keeps d h = go (is_called n (Some d))
  where
    go : (b : Bool) → is_ordered (cond b (f d) d) ≡ true
    go true = keeps d h
    go false = h

pub ordered-edit : (f : Doc → Doc) → KeepsOrdered f → (ss : List RuleStep)
    → KeepsOrdered (change_at_place ss f)
ordered-edit f h [] = h
ordered-edit f h (named k ∷ ss) = ordered-child k (change_at_place ss f) (ordered-edit f h ss)
ordered-edit f h (elements n ∷ ss) =
    ordered-items (change_called n (change_at_place ss f))
    (ordered-called n (change_at_place ss f) (ordered-edit f h ss))

pub ordered-mask_by : (r : Rule) (d : Doc) → is_ordered d ≡ true → is_ordered (mask_by r d) ≡ true
ordered-mask_by r d h = go (rule_applies r d)
  where
    go : (b : Bool) → is_ordered (cond b (change_at_place r.place (of_verb r.verb) d) d) ≡ true
    go true = ordered-edit (of_verb r.verb) (ordered-verb r.verb) r.place d h
    go false = h

pub ordered-masked : (rs : List Rule) (d : Doc) → is_ordered d ≡ true → is_ordered (masked rs d)
    ≡ true
ordered-masked [] d h = h
ordered-masked (r ∷ rs) d h = ordered-masked rs (mask_by r d) (ordered-mask_by r d h)

-- ---- the values at all paths determine the document

some_top : (d e : Doc) → Some (top d) ≡ Some (top e) → top d ≡ top e
some_top d e h = cc

pub same_paths : (d e : Doc) → is_ordered d ≡ true → ((p : List Step) → Alike (at p e) (at p d)) → e
    ≡ d
same_paths d e o h = reported d e o h (some_top e d (h []))

pub one_masked : (rs : List Rule) (d e : Doc) → are_safe rs ≡ true → is_ordered d ≡ true
    → IsMasked rs d e → e ≡ masked rs d
unfolding IsMasked
one_masked rs d e safe o h = same_paths (masked rs d) e (ordered-masked rs d o) (λ p. h p
    ∙ sym (at-masked rs d safe p))

pub agree_from_equal : (rs : List Rule) (d e : Doc) → are_safe rs ≡ true → masked rs d ≡ masked rs e
    → AgreeBut rs d e
unfolding AgreeBut
agree_from_equal rs d e safe h p = sym (at-masked rs d safe p) ∙ ap (λ x. option_map top (at p x)) h
    ∙ at-masked rs e safe p

pub equal_from_agree : (rs : List Rule) (d e : Doc) → are_safe rs ≡ true → is_ordered e ≡ true
    → AgreeBut rs d e → masked rs d ≡ masked rs e
unfolding AgreeBut
equal_from_agree rs d e safe o h =
    same_paths (masked rs e) (masked rs d) (ordered-masked rs e o) (λ p. at-masked rs d safe p ∙ h p
    ∙ sym (at-masked rs e safe p))
