-- A document with members that rules set: its members are in order, and it is UTF-8 and without
-- ids.
use Rattle.std.proofs.Common.{◌≡◌, ℕ, Bool, true, false, cond, not, ◌&&◌, List, [], ◌∷◌, Ordering}
use Rattle.std.proofs.Common.{Less, Equal, Greater, nat_cmp, refl, ap, ◌∙◌}
use Rattle.std.proofs.lemmas.Bool.{not-true}
use Rattle.std.proofs.lemmas.Cmp.{nat_list_cmp_total}
use Rattle.std.proofs.lemmas.Str.{IsUtf8-string_bytes, is_utf8-from_IsUtf8}
use Rattle.std.specs.Cmp.Lexicographic.{slice_cmp}
use Rattle.std.specs.Ordering.{is_lt, match_ordering, ordering_reverse}
use Rattle.std.specs.Str.{is_utf8}
use Rattle.dap_tree.specs.Doc.{Doc, null, boolean, whole, text, list, object, id, Members}
use Rattle.dap_tree.specs.Doc.{no_members, member, get_member, put, is_below_all, is_ordered}
use Rattle.dap_tree.specs.Doc.{members_ordered, all_utf8, members_utf8, has_id, members_have_id}
use Rattle.dap_tree.proofs.Booleans.{and_left, and_right, and_both}
use Rattle.dap_tree.proofs.ReadTrees.{no_id_put}
use Rattle.dap_message.specs.Capabilities.{is_given, default_to}
use Rattle.dap_mask.specs.Fills.{Scalar, flag, number, string, scalar_doc, scalar_of, Fill}
use Rattle.dap_mask.specs.Fills.{fills_of, set_last, set_value, fill_applies, fill_by, filled}
use Rattle.dap_mask.specs.Fills.{is_step_utf8, AreFillsUtf8}
use Rattle.dap_mask.specs.RuleSteps.{RuleStep, named, elements, change_at_place}
use Rattle.dap_mask.specs.Rules.{step_of}
use Rattle.dap_mask.specs.declared.fills.FillRule.{FillRule}
use Rattle.dap_mask.specs.declared.fills.Scalar.{Scalar as ReadScalar}
use Rattle.dap_mask.specs.declared.fills.Scalar.TheVariants.{Flag, Number, Text}
use Rattle.dap_mask.specs.declared.rules.Step.{Step as ReadStep}
use Rattle.dap_mask.specs.declared.rules.Step.TheVariants.{Member, Each, Element}
use Rattle.dap_mask.proofs.ByPath.{KeepsOrdered, ordered-edit}
use Rattle.dap_mask.proofs.Keeping.{Keeps, edit_keeps, utf8_test, no_id_test}

-- ---- order

less : (o : Ordering) → is_lt o ≡ true → o ≡ Less
less Less h = refl
less Equal h = cc
less Greater h = cc

below_lower : (k l : List ℕ) (ms : Members) → slice_cmp nat_cmp k l ≡ Less
    → is_below_all l ms ≡ true → is_below_all k ms ≡ true
below_lower k l no_members low h = refl
below_lower k l (member m d ms) low h =
    let next = less (slice_cmp nat_cmp l m)
    (and_left (is_lt (slice_cmp nat_cmp l m)) (is_below_all l ms) h) in
    and_both _ _ (ap is_lt (nat_list_cmp_total.trans k l m low next))
    (below_lower k l ms low (and_right (is_lt (slice_cmp nat_cmp l m)) (is_below_all l ms) h))

-- a test of the result of `put`, if each possible result passes it
passes_at : (T : Members → Bool) (o : Ordering) (a b c : Members) → (o ≡ Less → T a ≡ true)
    → T b ≡ true → (o ≡ Greater → T c ≡ true) → T (match_ordering o a b c) ≡ true
passes_at T Less a b c p q r = p refl
passes_at T Equal a b c p q r = q
passes_at T Greater a b c p q r = r refl

below_put : (j k : List ℕ) (d : Doc) (ms : Members) → is_lt (slice_cmp nat_cmp j k) ≡ true
    → is_below_all j ms ≡ true → is_below_all j (put k d ms) ≡ true
below_put j k d no_members low h = and_both _ _ low refl
below_put j k d (member l e ms) low h =
    let first = and_left (is_lt (slice_cmp nat_cmp j l)) (is_below_all j ms) h in
    let rest = and_right (is_lt (slice_cmp nat_cmp j l)) (is_below_all j ms) h in
    passes_at (is_below_all j) (slice_cmp nat_cmp k l) _ _ _ (λ o. and_both _ _ low h) h
    (λ o. and_both _ _ first (below_put j k d ms low rest))

ordered_put : (k : List ℕ) (d : Doc) (ms : Members) → is_ordered d ≡ true
    → members_ordered ms ≡ true → members_ordered (put k d ms) ≡ true
ordered_put k d no_members h g = and_both _ _ refl (and_both _ _ h refl)
ordered_put k d (member l e ms) h g =
    let below = and_left (is_below_all l ms) (is_ordered e && members_ordered ms) g in
    let parts = and_right (is_below_all l ms) (is_ordered e && members_ordered ms) g in
    let rest = and_right (is_ordered e) (members_ordered ms) parts in
    passes_at members_ordered (slice_cmp nat_cmp k l) _ _ _
    (λ o. and_both _ _ (and_both _ _ (ap is_lt o) (below_lower k l ms o below))
    (and_both _ _ h g))
    (and_both _ _ below (and_both _ _ h rest))
    (λ o. and_both _ _ (below_put l k d ms
    (ap is_lt (nat_list_cmp_total.antisymm l k ∙ ap ordering_reverse o)) below)
    (and_both _ _ (and_left (is_ordered e) (members_ordered ms) parts) (ordered_put k d ms h rest)))

-- ---- UTF-8

utf8_put : (k : List ℕ) (d : Doc) (ms : Members) → is_utf8 k ≡ true → all_utf8 d ≡ true
    → members_utf8 ms ≡ true → members_utf8 (put k d ms) ≡ true
utf8_put k d no_members n h g = and_both _ _ n (and_both _ _ h refl)
utf8_put k d (member l e ms) n h g =
    let first = and_left (is_utf8 l) (all_utf8 e && members_utf8 ms) g in
    let parts = and_right (is_utf8 l) (all_utf8 e && members_utf8 ms) g in
    let rest = and_right (all_utf8 e) (members_utf8 ms) parts in
    passes_at members_utf8 (slice_cmp nat_cmp k l) _ _ _
    (λ o. and_both _ _ n (and_both _ _ h g))
    (and_both _ _ first (and_both _ _ h rest))
    (λ o. and_both _ _ first
    (and_both _ _ (and_left (all_utf8 e) (members_utf8 ms) parts) (utf8_put k d ms n h rest)))

-- ---- one object

set_keeps : (T : Doc → Bool) (k : List ℕ) (v d : Doc)
    → ((ms : Members) → T (object ms) ≡ true → T (object (put k v ms)) ≡ true) → T d ≡ true
    → T (default_to k v d) ≡ true
set_keeps T k v null h g = g
set_keeps T k v (boolean b) h g = g
set_keeps T k v (whole z) h g = g
set_keeps T k v (text s) h g = g
set_keeps T k v (list ds) h g = g
set_keeps T k v (object ms) h g = go (is_given (get_member k ms))
  where
    go : (b : Bool) → T (object (cond b ms (put k v ms))) ≡ true
    go true = g
    go false = h ms g
set_keeps T k v (id s z) h g = g

scalar_ordered : (v : Scalar) → is_ordered (scalar_doc v) ≡ true
scalar_ordered (flag b) = refl
scalar_ordered (number z) = refl
scalar_ordered (string s) = refl

scalar_no_id : (v : Scalar) → has_id (scalar_doc v) ≡ false
scalar_no_id (flag b) = refl
scalar_no_id (number z) = refl
scalar_no_id (string s) = refl

ordered_last : (l : RuleStep) (v : Scalar) → KeepsOrdered (set_last l (scalar_doc v))
ordered_last (named k) v d h =
    set_keeps is_ordered k (scalar_doc v) d
    (λ ms g. ordered_put k (scalar_doc v) ms (scalar_ordered v) g) h
ordered_last (elements n) v d h = h

utf8_last : (l : RuleStep) (v : Scalar) → is_step_utf8 l ≡ true
    → all_utf8 (scalar_doc v) ≡ true → Keeps all_utf8 (set_last l (scalar_doc v))
utf8_last (named k) v n u d h =
    set_keeps all_utf8 k (scalar_doc v) d (λ ms g. utf8_put k (scalar_doc v) ms n u g) h
utf8_last (elements m) v n u d h = h

no_id_last : (l : RuleStep) (v : Scalar)
    → Keeps (λ d. not (has_id d)) (set_last l (scalar_doc v))
no_id_last (named k) v d h =
    set_keeps (λ e. not (has_id e)) k (scalar_doc v) d
    (λ ms g. ap not (no_id_put k (scalar_doc v) ms (scalar_no_id v)
    (not-true (members_have_id ms) g))) h
no_id_last (elements n) v d h = h

-- ---- all rules

by_keeps : (T : Doc → Bool) (f : Fill) (d : Doc)
    → Keeps T (change_at_place f.parent (set_value f)) → T d ≡ true → T (fill_by f d) ≡ true
by_keeps T f d h g = go (fill_applies f d)
  where
    go : (b : Bool) → T (cond b (change_at_place f.parent (set_value f) d) d) ≡ true
    go true = h d g
    go false = g

pub ordered_filled : (fs : List Fill) (d : Doc) → is_ordered d ≡ true
    → is_ordered (filled fs d) ≡ true
ordered_filled [] d h = h
ordered_filled (f ∷ fs) d h =
    ordered_filled fs (fill_by f d) (by_keeps is_ordered f d
    (ordered-edit (set_value f) (ordered_last f.last f.value) f.parent) h)

pub utf8_filled : (fs : List Fill) (d : Doc) → AreFillsUtf8 fs → all_utf8 d ≡ true
    → all_utf8 (filled fs d) ≡ true
utf8_filled [] d u h = h
utf8_filled (f ∷ fs) d u h =
    utf8_filled fs (fill_by f d) u.2 (by_keeps all_utf8 f d
    (edit_keeps utf8_test (set_value f) (utf8_last f.last f.value u.0 u.1) f.parent) h)

no_id_left : (fs : List Fill) (d : Doc) → not (has_id d) ≡ true → not (has_id (filled fs d)) ≡ true
no_id_left [] d h = h
no_id_left (f ∷ fs) d h =
    no_id_left fs (fill_by f d) (by_keeps (λ e. not (has_id e)) f d
    (edit_keeps no_id_test (set_value f) (no_id_last f.last f.value) f.parent) h)

pub no_id_filled : (fs : List Fill) (d : Doc) → has_id d ≡ false → has_id (filled fs d) ≡ false
no_id_filled fs d h = not-true (has_id (filled fs d)) (no_id_left fs d (ap not h))

-- ---- rules of a program

step_utf8 : (s : ReadStep) → is_step_utf8 (step_of s) ≡ true
step_utf8 (Member s) = is_utf8-from_IsUtf8 _ (IsUtf8-string_bytes s)
step_utf8 Each = refl
step_utf8 (Element s) = refl

value_utf8 : (v : ReadScalar) → all_utf8 (scalar_doc (scalar_of v)) ≡ true
value_utf8 (Flag b) = refl
value_utf8 (Number z) = refl
value_utf8 (Text s) = is_utf8-from_IsUtf8 _ (IsUtf8-string_bytes s)

pub fills_utf8 : (fs : List FillRule) → AreFillsUtf8 (fills_of fs)
fills_utf8 [] = tt
fills_utf8 (f ∷ fs) = (step_utf8 f.last, value_utf8 f.value, fills_utf8 fs)
