-- A change at a place other than the body and the category leaves the category of an event.
use Rattle.std.proofs.Common.{◌≡◌, ℕ, Bool, true, false, cond, ◌&&◌, List, [], ◌∷◌, Option}
use Rattle.std.proofs.Common.{Some, None, option_map, codes, refl, sym, ◌∙◌, ap, ap₂, bytes_eq}
use Rattle.std.specs.Prelude.{is_some}
use Rattle.std.specs.List.{list_any}
use Rattle.dap_tree.specs.Doc.{Doc}
use Rattle.dap_tree.specs.Path.{at}
use Rattle.dap_tree.proofs.Booleans.{or_left, or_right, or_both}
use Rattle.dap_profile.specs.PlaceSteps.{PlaceStep, named as member, each}
use Rattle.dap_message.specs.Marks.{top}
use Rattle.dap_message.specs.Places.{fits_place}
use Rattle.dap_message.specs.Rows.{is_text}
use Rattle.dap_message.proofs.Edits.{Alike}
use Rattle.dap_message.proofs.RowMarks.{text-top}
use Rattle.dap_mask.specs.Masked.{is_below, mask_by}
use Rattle.dap_mask.specs.RuleSteps.{RuleStep, named, elements, plain_place, has_names}
use Rattle.dap_mask.specs.RuleSteps.{change_at_place}
use Rattle.dap_mask.specs.Rules.{Rule, of_verb, takes_parts, plain_place_of, same_place}
use Rattle.dap_mask.specs.Rules.{body_place, category_place, category_path, holds_category}
use Rattle.dap_mask.specs.Rules.{has_category, has_head, is_for_names, is_telling_place, same_kind}
use Rattle.dap_mask.specs.Rules.{share_name, recategorises, disturb, disturbs_one_of, rule_applies}
use Rattle.dap_mask.specs.declared.rules.Verb.{Verb}
use Rattle.dap_mask.proofs.Edited.{at-edit}
use Rattle.dap_mask.proofs.ElementNames.{and_first}
use Rattle.dap_mask.proofs.Matches.{head_of, heads_meet}

-- ---- the path of the category

-- a place matches the path of the category if and only if it is the place of the category
pub fits_category : (ps : List PlaceStep)
    → fits_place ps category_path ≡ same_place ps category_place
fits_category [] = refl
fits_category (each ∷ ps) = refl
fits_category (member j ∷ []) = refl
fits_category (member j ∷ each ∷ ps) = refl
fits_category (member j ∷ member k ∷ []) = refl
fits_category (member j ∷ member k ∷ member l ∷ ps) = refl
fits_category (member j ∷ member k ∷ each ∷ ps) = refl

off : (b : Bool) → (b && false) ≡ false
off true = refl
off false = refl

all_off : (a b : Bool) → (a && (b && false)) ≡ false
all_off true b = off b
all_off false b = refl

-- the path of the category continues below no place but that of the body and the message itself
not_above : (ss : List RuleStep) → is_telling_place ss ≡ false
    → holds_category (plain_place ss) ≡ false → is_below (plain_place ss) category_path ≡ false
not_above [] h k = cc
not_above (named j ∷ []) h k =
    or_left (bytes_eq j (codes "body") && true)
    (same_place (member j ∷ []) category_place) k
not_above (named j ∷ named l ∷ []) h k = all_off (bytes_eq j (codes "body")) _
not_above (named j ∷ named l ∷ named m ∷ ss) h k = all_off (bytes_eq j (codes "body")) _
not_above (named j ∷ named l ∷ elements m ∷ ss) h k = all_off (bytes_eq j (codes "body")) _
not_above (named j ∷ elements n ∷ ss) h k = off (bytes_eq j (codes "body"))
not_above (elements n ∷ ss) h k = refl

-- the place of the name of elements is another one
names_elsewhere : (ss : List RuleStep) → is_for_names ss ≡ true
    → holds_category (plain_place ss) ≡ false
names_elsewhere [] h = cc
names_elsewhere (named j ∷ []) h = cc
names_elsewhere (named j ∷ named k ∷ []) h = cc
names_elsewhere (named j ∷ named k ∷ s ∷ ss) h =
    or_both _ _ (off (bytes_eq j (codes "body"))) (all_off (bytes_eq j (codes "body")) _)
names_elsewhere (named j ∷ elements n ∷ ss) h =
    or_both _ _ (off (bytes_eq j (codes "body"))) (off (bytes_eq j (codes "body")))
names_elsewhere (elements n ∷ ss) h = refl

-- ---- one change

either : (b : Bool) (o : Option Doc) → cond b o o ≡ o
either true o = refl
either false o = refl

path_kept : (v : Verb) (ss : List RuleStep) (d : Doc) → is_telling_place ss ≡ false
    → holds_category (plain_place ss) ≡ false
    → Alike (at category_path (change_at_place ss (of_verb v) d)) (at category_path d)
path_kept v ss d h k =
    let o = at category_path d in
    let names = has_names ss (Some d) category_path in
    let fits = fits_category (plain_place ss)
    ∙ or_right (same_place (plain_place ss) body_place) (same_place (plain_place ss) category_place)
    k in
    at-edit v ss d category_path
    ∙ ap₂ (λ a b. option_map top (cond names (cond a (option_map (of_verb v) o)
    (cond (b && takes_parts v) None o)) o)) fits (not_above ss h k)
    ∙ ap (option_map top) (either names o)

category_edit : (v : Verb) (ss : List RuleStep) (c : Option (List ℕ)) (d : Doc)
    → is_telling_place ss ≡ false → holds_category (plain_place ss) ≡ false
    → has_category c (change_at_place ss (of_verb v) d) ≡ has_category c d
category_edit v ss None d h k = refl
category_edit v ss (Some w) d h k =
    sym (text-top w (at category_path (change_at_place ss (of_verb v) d)))
    ∙ ap (is_text w) (path_kept v ss d h k) ∙ text-top w (at category_path d)

-- a rule leaves the category of another rule for the same messages, if it may not change it
pub category_kept : (r q : Rule) (d : Doc) → is_telling_place r.place ≡ false
    → recategorises r q ≡ false → has_head r d ≡ true → has_head q d ≡ true
    → has_category q.category (change_at_place r.place (of_verb r.verb) d)
    ≡ has_category q.category d
category_kept r q d safe apart one other =
    go q.category apart (heads_meet r q d one other)
  where
    message : Bool
    message = same_kind r.kind q.kind && share_name r.name q.name

    go : (c : Option (List ℕ))
        → (is_some c && (holds_category (plain_place_of r) && message)) ≡ false
        → message ≡ true
        → has_category c (change_at_place r.place (of_verb r.verb) d) ≡ has_category c d
    go None h m = refl
    go (Some w) h m = category_edit r.verb r.place (Some w) d safe
        (and_first (holds_category (plain_place_of r)) message m h)

pub category_after : (r q : Rule) (d : Doc) → is_telling_place r.place ≡ false
    → recategorises r q ≡ false → has_head q d ≡ true
    → has_category q.category (mask_by r d) ≡ has_category q.category d
category_after r q d safe apart other = go (rule_applies r d) refl
  where
    go : (b : Bool) → rule_applies r d ≡ b
        → has_category q.category (cond b (change_at_place r.place (of_verb r.verb) d) d)
        ≡ has_category q.category d
    go true a = category_kept r q d safe apart (head_of r d a) other
    go false a = refl

-- ---- rules that leave the categories of others

-- a rule for the names of elements changes no category
pub names_disturb_none : (r q : Rule) → is_for_names r.place ≡ true → recategorises r q ≡ false
names_disturb_none r q e = go q.category (names_elsewhere r.place e)
  where
    message : Bool
    message = same_kind r.kind q.kind && share_name r.name q.name

    go : (c : Option (List ℕ)) → holds_category (plain_place_of r) ≡ false
        → (is_some c && (holds_category (plain_place_of r) && message)) ≡ false
    go None h = refl
    go (Some w) h = ap (λ b. b && message) h

-- of two rules that do not disturb each other, none changes the category of the other one
pub first_leaves : (r t : Rule) → disturb r t ≡ false → recategorises r t ≡ false
first_leaves r t h = or_left (recategorises r t) (recategorises t r) h

pub second_leaves : (r t : Rule) → disturb r t ≡ false → recategorises t r ≡ false
second_leaves r t h = or_right (recategorises r t) (recategorises t r) h

pub disturb_both : (r t : Rule) → disturb r t ≡ false → disturb t r ≡ false
disturb_both r t h = or_both _ _ (second_leaves r t h) (first_leaves r t h)

pub leaves_all : (r : Rule) (ts : List Rule) → disturbs_one_of r ts ≡ false
    → list_any (recategorises r) ts ≡ false
leaves_all r [] h = refl
leaves_all r (t ∷ ts) h =
    or_both _ _ (first_leaves r t (or_left (disturb r t) (disturbs_one_of r ts) h))
    (leaves_all r ts (or_right (disturb r t) (disturbs_one_of r ts) h))
