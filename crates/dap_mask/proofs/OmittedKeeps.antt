-- Properties that a document keeps when elements are omitted.
use Rattle.std.proofs.Common.{◌≡◌, ◌↔◌, ℕ, ◌≤◌, Bool, true, false, cond, not, ◌&&◌, ◌||◌, List, []}
use Rattle.std.proofs.Common.{◌∷◌, map, leb, Option, Some, None, option_map, option_and_then, codes}
use Rattle.std.proofs.Common.{bytes_eq, refl, sym, ap, ap₂, ◌∙◌, arith, suc, zero}
use Rattle.std.proofs.lemmas.Bool.{leb-true, le-leb, not-true}
use Rattle.std.proofs.lemmas.Slice.Eq.{bytes_eq-Decides}
use Rattle.dap_tree.specs.Doc.{Doc, null, boolean, whole, text, list, object, id, Items, no_items}
use Rattle.dap_tree.specs.Doc.{item, depth, items_depth, all_in_range, is_sound, is_ordered}
use Rattle.dap_tree.specs.Doc.{items_ordered, all_utf8, has_id, get, change_child}
use Rattle.dap_tree.specs.Path.{name, at, get_item}
use Rattle.dap_tree.proofs.Booleans.{and_left, and_right, and_both}
use Rattle.dap_tree.proofs.Paths.{get-change, get-change_other, get-change_items}
use Rattle.dap_profile.specs.declared.profile.Kind.{Kind, TheVariants.{Event}}
use Rattle.dap_message.specs.Capabilities.{is_given}
use Rattle.dap_message.specs.Rows.{is_text, is_of_kind, name_key, type_name}
use Rattle.dap_message.proofs.Edits.{by_bool}
use Rattle.dap_message.proofs.Envelopes.{apart}
use Rattle.dap_message.proofs.RowMarks.{one_step}
use Rattle.dap_mask.specs.Categories.{CategoryRule, drops, is_dropped_by, keep_categories}
use Rattle.dap_mask.specs.Fills.{Fill, filled, keep_fills}
use Rattle.dap_mask.specs.Mask.{Mask, leaves_out}
use Rattle.dap_mask.specs.Masked.{masked}
use Rattle.dap_mask.specs.Omissions.{Omission, items_without, without, omission_applies, omit_by}
use Rattle.dap_mask.specs.Omissions.{omitted}
use Rattle.dap_mask.specs.Redacted.{redacted, AgreeOutside}
use Rattle.dap_mask.specs.RuleSteps.{RuleStep, named, elements, is_called, change_called}
use Rattle.dap_mask.specs.RuleSteps.{change_at_place}
use Rattle.dap_mask.specs.Rules.{are_safe, has_name, is_event_of}
use Rattle.dap_mask.proofs.ByPath.{KeepsOrdered, ordered-edit, masked_by_path, one_masked}
use Rattle.dap_mask.proofs.Dropping.{stays_in}
use Rattle.dap_mask.proofs.FillSteps.{IsFull, Solid, full_kept, keeps_rest}
use Rattle.dap_mask.proofs.FilledOnce.{child_text, items_text, IsMet, AreMet, met_left, all_met}
use Rattle.dap_mask.proofs.Keeping.{Shallow, at_shallow, Keeps, Test, edit_keeps, range_test}
use Rattle.dap_mask.proofs.Keeping.{utf8_test, no_id_test}

-- ---- one array, and all rules

-- a relation of each value to itself, and of each array to the array without the elements of a
-- name, is a relation of each value to the value without these elements
pub by_without : (P : Doc → Doc → Type 0) → ((d : Doc) → P d d)
    → ((n : List ℕ) (ds : Items) → P (list ds) (list (items_without n ds)))
    → (s : RuleStep) (d : Doc) → P d (without s d)
by_without P same fewer (named k) d = same d
by_without P same fewer (elements None) d = same d
by_without P same fewer (elements (Some n)) null = same null
by_without P same fewer (elements (Some n)) (boolean b) = same (boolean b)
by_without P same fewer (elements (Some n)) (whole z) = same (whole z)
by_without P same fewer (elements (Some n)) (text t) = same (text t)
by_without P same fewer (elements (Some n)) (list ds) = fewer n ds
by_without P same fewer (elements (Some n)) (object ms) = same (object ms)
by_without P same fewer (elements (Some n)) (id t z) = same (id t z)

-- the rules keep a property that each removal of elements at a place keeps
pub by_omitted : (P : Doc → Type 0)
    → ((ps : List RuleStep) (s : RuleStep) (d : Doc) → P d → P (change_at_place ps (without s) d))
    → (os : List Omission) (d : Doc) → P d → P (omitted os d)
by_omitted P h [] d g = g
by_omitted P h (o ∷ os) d g = by_omitted P h os (omit_by o d) (go (omission_applies o d))
  where
    go : (b : Bool) → P (cond b (change_at_place o.parent (without o.last) d) d)
    go true = h o.parent o.last d g
    go false = g

-- ---- members in order

ordered_fewer : (n : List ℕ) (ds : Items) → items_ordered ds ≡ true
    → items_ordered (items_without n ds) ≡ true
ordered_fewer n no_items h = refl
ordered_fewer n (item d ds) h =
    go (is_called (Some n) (Some d))
    (ordered_fewer n ds (and_right (is_ordered d) (items_ordered ds) h))
  where
    go : (b : Bool) → items_ordered (items_without n ds) ≡ true
        → items_ordered (cond b (items_without n ds) (item d (items_without n ds))) ≡ true
    go true rest = rest
    go false rest = and_both _ _ (and_left (is_ordered d) (items_ordered ds) h) rest

ordered_without : (s : RuleStep) → KeepsOrdered (without s)
ordered_without s d =
    by_without (λ x y. is_ordered x ≡ true → is_ordered y ≡ true) (λ x h. h)
    (λ n ds h. ordered_fewer n ds h) s d

pub ordered_omitted : (os : List Omission) (d : Doc) → is_ordered d ≡ true
    → is_ordered (omitted os d) ≡ true
ordered_omitted os d h =
    by_omitted (λ e. is_ordered e ≡ true)
    (λ ps s e g. ordered-edit (without s) (ordered_without s) ps e g) os d h

-- ---- depth

shallow_fewer : (n : List ℕ) (ds : Items) → items_depth (items_without n ds) ≤ items_depth ds
shallow_fewer n no_items = omega arith
shallow_fewer n (item d ds) = go (is_called (Some n) (Some d)) (shallow_fewer n ds)
  where
    go : (b : Bool) → items_depth (items_without n ds) ≤ items_depth ds
        → items_depth (cond b (items_without n ds) (item d (items_without n ds)))
        ≤ items_depth (item d ds)
    go true a = omega (arith, a)
    go false a = omega (arith, a)

shallow_without : (s : RuleStep) → Shallow (without s)
shallow_without s d =
    by_without (λ x y. depth y ≤ depth x) (λ x. omega arith)
    (λ n ds. let a = shallow_fewer n ds in omega (arith, a)) s d

shallow_omitted : (os : List Omission) (d : Doc) → depth (omitted os d) ≤ depth d
shallow_omitted os d =
    by_omitted (λ e. depth e ≤ depth d)
    (λ ps s e g. let a = at_shallow (without s) (shallow_without s) ps e in omega (arith, a, g))
    os d (omega arith)

-- ---- a test of all parts

fewer_keep : (T : Test) (n : List ℕ) (ds : Items) → T.many ds ≡ true
    → T.many (items_without n ds) ≡ true
fewer_keep T n no_items h = h
fewer_keep T n (item d ds) h =
    let both = sym (T.each_item d ds) ∙ h in
    go (is_called (Some n) (Some d)) (and_left (T.doc d) (T.many ds) both)
    (fewer_keep T n ds (and_right (T.doc d) (T.many ds) both))
  where
    go : (b : Bool) → T.doc d ≡ true → T.many (items_without n ds) ≡ true
        → T.many (cond b (items_without n ds) (item d (items_without n ds))) ≡ true
    go true first rest = rest
    go false first rest = T.each_item d (items_without n ds) ∙ and_both _ _ first rest

without_keeps : (T : Test) (s : RuleStep) → Keeps T.doc (without s)
without_keeps T s d =
    by_without (λ x y. T.doc x ≡ true → T.doc y ≡ true) (λ x h. h)
    (λ n ds h. T.of_list (items_without n ds) ∙ fewer_keep T n ds (sym (T.of_list ds) ∙ h)) s d

omitted_keeps : (T : Test) (os : List Omission) → Keeps T.doc (omitted os)
omitted_keeps T os d h =
    by_omitted (λ e. T.doc e ≡ true)
    (λ ps s e g. edit_keeps T (without s) (without_keeps T s) ps e g) os d h

pub sound_omitted : (os : List Omission) (d : Doc) → is_sound d ≡ true
    → is_sound (omitted os d) ≡ true
sound_omitted os d h =
    let low = leb-true (depth d) 127 (and_left (leb (depth d) 127) (all_in_range d) h) in
    let less = shallow_omitted os d in
    and_both _ _ (le-leb (depth (omitted os d)) 127 (omega (arith, low, less)))
    (omitted_keeps range_test os d (and_right (leb (depth d) 127) (all_in_range d) h))

pub utf8_omitted : (os : List Omission) (d : Doc) → all_utf8 d ≡ true
    → all_utf8 (omitted os d) ≡ true
utf8_omitted os d h = omitted_keeps utf8_test os d h

pub no_id_omitted : (os : List Omission) (d : Doc) → has_id d ≡ false
    → has_id (omitted os d) ≡ false
no_id_omitted os d h =
    not-true (has_id (omitted os d)) (omitted_keeps no_id_test os d (ap not h))

-- ---- texts that are reached by names stay

-- the value at the path of these names is this text
abbrev has_text : List ℕ → List (List ℕ) → Doc → Bool
has_text w ks d = is_text w (at (map name ks) d)

text_mapped : (w : List ℕ) (ks : List (List ℕ)) (f : Doc → Doc) (o : Option Doc)
    → ((d : Doc) → has_text w ks (f d) ≡ has_text w ks d)
    → is_text w (option_and_then (at (map name ks)) (option_map f o))
    ≡ is_text w (option_and_then (at (map name ks)) o)
text_mapped w ks f None h = refl
text_mapped w ks f (Some d) h = h d

text_fewer : (w : List ℕ) (ks : List (List ℕ)) (n : List ℕ) (ds : Items)
    → has_text w ks (list (items_without n ds)) ≡ has_text w ks (list ds)
text_fewer w [] n ds = refl
text_fewer w (k ∷ ks) n ds = refl

text_at : (w : List ℕ) (ps : List RuleStep) (s : RuleStep) (ks : List (List ℕ)) (d : Doc)
    → has_text w ks (change_at_place ps (without s) d) ≡ has_text w ks d
text_at w [] s ks d =
    by_without (λ x y. has_text w ks y ≡ has_text w ks x) (λ x. refl)
    (λ n ds. text_fewer w ks n ds) s d
text_at w (named j ∷ ps) s [] d = child_text j w (change_at_place ps (without s)) d
text_at w (elements n ∷ ps) s [] d =
    items_text w (change_called n (change_at_place ps (without s))) d
text_at w (named j ∷ ps) s (k ∷ ks) d =
    let f = change_at_place ps (without s) in
    let rest = λ (o : Option Doc). is_text w (option_and_then (at (map name ks)) o) in
    by_bool (bytes_eq k j)
    (λ e. let same : k ≡ j = (bytes_eq-Decides k j).0 e in
    ap rest (ap (λ x. get k (change_child x f d)) (sym same) ∙ get-change k f d)
    ∙ text_mapped w ks f (get k d) (λ x. text_at w ps s ks x))
    (λ e. ap rest (get-change_other j f d k (apart k j e)))
text_at w (elements n ∷ ps) s (k ∷ ks) d =
    ap (λ o. is_text w (option_and_then (at (map name ks)) o))
    (get-change_items (change_called n (change_at_place ps (without s))) d k)

text_omitted : (w : List ℕ) (ks : List (List ℕ)) (os : List Omission) (d : Doc)
    → has_text w ks (omitted os d) ≡ has_text w ks d
text_omitted w ks os d =
    by_omitted (λ e. has_text w ks e ≡ has_text w ks d)
    (λ ps s e g. text_at w ps s ks e ∙ g) os d refl

member_omitted : (w k : List ℕ) (os : List Omission) (d : Doc)
    → is_text w (get k (omitted os d)) ≡ is_text w (get k d)
member_omitted w k os d =
    ap (is_text w) (sym (one_step k (omitted os d))) ∙ text_omitted w (k ∷ []) os d
    ∙ ap (is_text w) (one_step k d)

-- ---- a message stays of its kind and name, and is dropped by the same rules

pub kind_omitted : (k : Kind) (os : List Omission) (d : Doc)
    → is_of_kind k (omitted os d) ≡ is_of_kind k d
kind_omitted k os d = member_omitted (type_name k) (codes "type") os d

pub name_omitted : (k : Kind) (n : Option (List ℕ)) (os : List Omission) (d : Doc)
    → has_name k n (omitted os d) ≡ has_name k n d
name_omitted k None os d = refl
name_omitted k (Some n) os d = member_omitted n (name_key k) os d

events_omitted : (ns : List (Option (List ℕ))) (os : List Omission) (d : Doc)
    → is_event_of ns (omitted os d) ≡ is_event_of ns d
events_omitted [] os d = refl
events_omitted (n ∷ ns) os d =
    ap₂ (λ a b. a || b) (name_omitted Event n os d) (events_omitted ns os d)

drops_omitted : (c : CategoryRule) (os : List Omission) (d : Doc)
    → drops c (omitted os d) ≡ drops c d
drops_omitted c os d =
    ap₂ (λ a b. a && b) (name_omitted Event c.name os d)
    (text_omitted c.category (codes "body" ∷ codes "category" ∷ []) os d)

dropped_omitted : (cs : List CategoryRule) (os : List Omission) (d : Doc)
    → is_dropped_by cs (omitted os d) ≡ is_dropped_by cs d
dropped_omitted [] os d = refl
dropped_omitted (c ∷ cs) os d =
    ap₂ (λ a b. a || b) (drops_omitted c os d) (dropped_omitted cs os d)

pub leaves_out-omitted : (mask : Mask) (os : List Omission) (d : Doc)
    → leaves_out mask (omitted os d) ≡ leaves_out mask d
leaves_out-omitted mask os d =
    ap₂ (λ a b. a && b) (kind_omitted Event os d)
    (ap₂ (λ a b. a || b) (events_omitted mask.dropped os d)
    (dropped_omitted mask.categories os d))

pub redacted_stays_in : (mask : Mask) (d : Doc) → are_safe mask.changes ≡ true
    → keep_categories mask.changes mask.categories ≡ true → leaves_out mask d ≡ false
    → leaves_out mask (redacted mask d) ≡ false
redacted_stays_in mask d safe keep stays =
    leaves_out-omitted mask mask.omissions (masked mask.changes d)
    ∙ stays_in mask d safe keep stays

-- ---- a member that is set stays set

-- each element that is left was an element
was_item : (n : List ℕ) (ds : Items) (i : ℕ) (e : Doc)
    → get_item i (items_without n ds) ≡ Some e → (j : ℕ) × (get_item j ds ≡ Some e)
was_item n no_items i e h = (i, h)
was_item n (item d ds) i e h =
    go (λ j g. let was = was_item n ds j e g in (suc was.0, was.1))
    (is_called (Some n) (Some d)) i h
  where
    go : ((j : ℕ) → get_item j (items_without n ds) ≡ Some e
        → (l : ℕ) × (get_item l (item d ds) ≡ Some e))
        → (b : Bool) (j : ℕ)
        → get_item j (cond b (items_without n ds) (item d (items_without n ds))) ≡ Some e
        → (l : ℕ) × (get_item l (item d ds) ≡ Some e)
    go later true j g = later j g
    go later false zero g = (0, g)
    go later false (suc j) g = later j g

full_fewer : (ps : List RuleStep) (l : RuleStep) (n : List ℕ) (ds : Items)
    → IsFull ps l (list ds) → IsFull ps l (list (items_without n ds))
full_fewer [] (named k) n ds h = h
full_fewer [] (elements m) n ds h = h
full_fewer (named k ∷ ps) l n ds h = h
full_fewer (elements m ∷ ps) l n ds h = λ i e g.
    let was = was_item n ds i e g in h was.0 e was.1

full_without : (s : RuleStep) (ps : List RuleStep) (l : RuleStep) (d : Doc) → IsFull ps l d
    → IsFull ps l (without s d)
full_without s ps l d =
    by_without (λ x y. IsFull ps l x → IsFull ps l y) (λ x h. h)
    (λ n ds h. full_fewer ps l n ds h) s d

solid_without : (s : RuleStep) → Solid (without s)
solid_without s d =
    by_without (λ x y. is_given (Some x) ≡ true → is_given (Some y) ≡ true) (λ x h. h)
    (λ n ds h. refl) s d

full_omitted : (ps : List RuleStep) (l : RuleStep) (os : List Omission) (d : Doc) → IsFull ps l d
    → IsFull ps l (omitted os d)
full_omitted ps l os d h =
    by_omitted (IsFull ps l)
    (λ qs s e g. full_kept qs (without s) ps l (solid_without s)
    (keeps_rest qs ps l (without s) (λ rest x. full_without s rest l x)) e g) os d h

met_omitted : (f : Fill) (os : List Omission) (d : Doc) → IsMet f d → IsMet f (omitted os d)
met_omitted f os d met applies =
    full_omitted f.parent f.last os d
    (met (sym (ap₂ (λ a b. a && b) (kind_omitted f.kind os d)
    (name_omitted f.kind f.name os d)) ∙ applies))

are_met_omitted : (fs : List Fill) (os : List Omission) (d : Doc) → AreMet fs d
    → AreMet fs (omitted os d)
are_met_omitted [] os d h = tt
are_met_omitted (f ∷ fs) os d h = (met_omitted f os d h.0, are_met_omitted fs os d h.1)

pub filled_redacted : (mask : Mask) (d : Doc) → are_safe mask.changes ≡ true
    → keep_fills mask.changes mask.fills ≡ true
    → filled mask.fills (redacted mask (filled mask.fills d))
    ≡ redacted mask (filled mask.fills d)
filled_redacted mask d safe h =
    met_left mask.fills (redacted mask (filled mask.fills d))
    (are_met_omitted mask.fills mask.omissions (masked mask.changes (filled mask.fills d))
    (all_met mask.changes mask.fills d safe h))

-- ---- equal if and only if equal elsewhere

pub agree_from_redacted : (mask : Mask) (d e : Doc) → are_safe mask.changes ≡ true
    → is_ordered d ≡ true → is_ordered e ≡ true → redacted mask d ≡ redacted mask e
    → AgreeOutside mask d e
unfolding AgreeOutside
agree_from_redacted mask d e safe o p h m n is also =
    ap (omitted mask.omissions) (one_masked mask.changes d m safe o is) ∙ h
    ∙ sym (ap (omitted mask.omissions) (one_masked mask.changes e n safe p also))

pub redacted_from_agree : (mask : Mask) (d e : Doc) → are_safe mask.changes ≡ true
    → is_ordered d ≡ true → is_ordered e ≡ true → AgreeOutside mask d e
    → redacted mask d ≡ redacted mask e
unfolding AgreeOutside
redacted_from_agree mask d e safe o p h =
    h (masked mask.changes d) (masked mask.changes e) (masked_by_path mask.changes d safe)
    (masked_by_path mask.changes e safe)

pub equal_outside : (mask : Mask) (d e : Doc) → are_safe mask.changes ≡ true
    → is_ordered d ≡ true → is_ordered e ≡ true
    → (redacted mask d ≡ redacted mask e) ↔ AgreeOutside mask d e
equal_outside mask d e safe o p = (
  λ h. agree_from_redacted mask d e safe o p h,
  λ h. redacted_from_agree mask d e safe o p h,
)
