-- Omitting elements changes no string and no member name, and so not which rules apply.
use Rattle.std.proofs.Common.{◌≡◌, ℕ, Bool, true, false, cond, ◌&&◌, List, [], ◌∷◌, Option, Some}
use Rattle.std.proofs.Common.{None, option_map, option_and_then, codes, bytes_eq, refl, sym, ap}
use Rattle.std.proofs.Common.{ap₂, ◌∙◌}
use Rattle.std.proofs.lemmas.Slice.Eq.{bytes_eq-Decides}
use Rattle.dap_tree.specs.Doc.{Doc, list, get, change_child, change_items}
use Rattle.dap_tree.specs.Path.{name, at}
use Rattle.dap_tree.proofs.Paths.{get-change, get-change_other, get-change_items}
use Rattle.dap_profile.specs.declared.profile.Kind.{Kind}
use Rattle.dap_message.specs.Rows.{is_text, is_of_kind, name_key, type_name}
use Rattle.dap_message.proofs.Edits.{by_bool, top-change, top-items}
use Rattle.dap_message.proofs.Envelopes.{apart}
use Rattle.dap_message.proofs.RowMarks.{text-top, one_step}
use Rattle.dap_mask.specs.Omissions.{Omission, without, omission_applies, omit_by}
use Rattle.dap_mask.specs.RuleSteps.{RuleStep, named, elements, is_called, change_called}
use Rattle.dap_mask.specs.RuleSteps.{change_at_place}
use Rattle.dap_mask.specs.Rules.{Rule, has_name, has_category, rule_applies}

-- ---- one array

without_text : (l : RuleStep) (w : List ℕ) (d : Doc)
    → is_text w (Some (without l d)) ≡ is_text w (Some d)
without_text (elements (Some n)) w (list ds) = refl
without_text l w d = refl

without_get : (l : RuleStep) (k : List ℕ) (d : Doc) → get k (without l d) ≡ get k d
without_get (elements (Some n)) k (list ds) = refl
without_get l k d = refl

-- ---- the arrays at a place

-- the document without the elements at a place
abbrev pub omit_at : List RuleStep → RuleStep → Doc → Doc
omit_at ps l d = change_at_place ps (without l) d

child_text : (k w : List ℕ) (f : Doc → Doc) (d : Doc)
    → is_text w (Some (change_child k f d)) ≡ is_text w (Some d)
child_text k w f d =
    sym (text-top w (Some (change_child k f d))) ∙ ap (λ x. is_text w (Some x)) (top-change k f d)
    ∙ text-top w (Some d)

items_text : (w : List ℕ) (f : Doc → Doc) (d : Doc)
    → is_text w (Some (change_items f d)) ≡ is_text w (Some d)
items_text w f d =
    sym (text-top w (Some (change_items f d))) ∙ ap (λ x. is_text w (Some x)) (top-items f d)
    ∙ text-top w (Some d)

-- the value itself
whole_text : (ps : List RuleStep) (l : RuleStep) (w : List ℕ) (d : Doc)
    → is_text w (Some (omit_at ps l d)) ≡ is_text w (Some d)
whole_text [] l w d = without_text l w d
whole_text (named k ∷ ps) l w d = child_text k w (omit_at ps l) d
whole_text (elements n ∷ ps) l w d = items_text w (change_called n (omit_at ps l)) d

mapped_text : (f : Doc → Doc) (w : List ℕ) (o : Option Doc)
    → ((d : Doc) → is_text w (Some (f d)) ≡ is_text w (Some d))
    → is_text w (option_map f o) ≡ is_text w o
mapped_text f w None h = refl
mapped_text f w (Some d) h = h d

moved_child : (k j : List ℕ) (f : Doc → Doc) (d : Doc) → bytes_eq k j ≡ true
    → get k (change_child j f d) ≡ option_map f (get k d)
moved_child k j f d e =
    let same : k ≡ j = (bytes_eq-Decides k j).0 e in
    ap (λ x. get k (change_child x f d)) (sym same) ∙ get-change k f d

-- a member of the value
pub member_text : (k w : List ℕ) (ps : List RuleStep) (l : RuleStep) (d : Doc)
    → is_text w (get k (omit_at ps l d)) ≡ is_text w (get k d)
member_text k w [] l d = ap (is_text w) (without_get l k d)
member_text k w (named j ∷ ps) l d =
    let f = omit_at ps l in
    by_bool (bytes_eq k j)
    (λ e. ap (is_text w) (moved_child k j f d e)
    ∙ mapped_text f w (get k d) (λ x. whole_text ps l w x))
    (λ e. ap (is_text w) (get-change_other j f d k (apart k j e)))
member_text k w (elements n ∷ ps) l d =
    ap (is_text w) (get-change_items (change_called n (omit_at ps l)) d k)

below_text : (j w : List ℕ) (ps : List RuleStep) (l : RuleStep) (o : Option Doc)
    → is_text w (option_and_then (at (name j ∷ [])) (option_map (omit_at ps l) o))
    ≡ is_text w (option_and_then (at (name j ∷ [])) o)
below_text j w ps l None = refl
below_text j w ps l (Some x) =
    ap (is_text w) (one_step j (omit_at ps l x)) ∙ member_text j w ps l x
    ∙ sym (ap (is_text w) (one_step j x))

-- a member of a member of the value
deep_text : (k j w : List ℕ) (ps : List RuleStep) (l : RuleStep) (d : Doc)
    → is_text w (at (name k ∷ name j ∷ []) (omit_at ps l d))
    ≡ is_text w (at (name k ∷ name j ∷ []) d)
deep_text k j w [] l d =
    ap (λ o. is_text w (option_and_then (at (name j ∷ [])) o)) (without_get l k d)
deep_text k j w (named i ∷ ps) l d =
    let f = omit_at ps l in
    let inner = λ (o : Option Doc). is_text w (option_and_then (at (name j ∷ [])) o) in
    by_bool (bytes_eq k i)
    (λ e. ap inner (moved_child k i f d e) ∙ below_text j w ps l (get k d))
    (λ e. ap inner (get-change_other i f d k (apart k i e)))
deep_text k j w (elements n ∷ ps) l d =
    ap (λ o. is_text w (option_and_then (at (name j ∷ [])) o))
    (get-change_items (change_called n (omit_at ps l)) d k)

-- ---- what is selected

-- the name of an element
pub called_after : (n : Option (List ℕ)) (ps : List RuleStep) (l : RuleStep) (d : Doc)
    → is_called n (Some (omit_at ps l d)) ≡ is_called n (Some d)
called_after None ps l d = refl
called_after (Some n) ps l d = member_text (codes "name") n ps l d

kind_after : (k : Kind) (ps : List RuleStep) (l : RuleStep) (d : Doc)
    → is_of_kind k (omit_at ps l d) ≡ is_of_kind k d
kind_after k ps l d = member_text (codes "type") (type_name k) ps l d

name_after : (k : Kind) (n : Option (List ℕ)) (ps : List RuleStep) (l : RuleStep) (d : Doc)
    → has_name k n (omit_at ps l d) ≡ has_name k n d
name_after k None ps l d = refl
name_after k (Some n) ps l d = member_text (name_key k) n ps l d

category_after : (c : Option (List ℕ)) (ps : List RuleStep) (l : RuleStep) (d : Doc)
    → has_category c (omit_at ps l d) ≡ has_category c d
category_after None ps l d = refl
category_after (Some c) ps l d = deep_text (codes "body") (codes "category") c ps l d

-- whether a rule that omits elements applies
pub applies_after : (p o : Omission) (d : Doc)
    → omission_applies p (omit_by o d) ≡ omission_applies p d
applies_after p o d = go (omission_applies o d)
  where
    go : (b : Bool)
        → omission_applies p (cond b (omit_at o.parent o.last d) d) ≡ omission_applies p d
    go true = ap₂ (λ a b. a && b) (kind_after p.kind o.parent o.last d)
        (name_after p.kind p.name o.parent o.last d)
    go false = refl

-- whether a change applies
pub rule_after : (r : Rule) (o : Omission) (d : Doc)
    → rule_applies r (omit_by o d) ≡ rule_applies r d
rule_after r o d = go (omission_applies o d)
  where
    go : (b : Bool) → rule_applies r (cond b (omit_at o.parent o.last d) d) ≡ rule_applies r d
    go true = ap₂ (λ a b. a && b)
        (ap₂ (λ a b. a && b) (kind_after r.kind o.parent o.last d)
        (name_after r.kind r.name o.parent o.last d))
        (category_after r.category o.parent o.last d)
    go false = refl
