-- If a document is serialisable, so is the masked document.
use Rattle.std.proofs.Common.{◌≡◌, ℕ, ◌≤◌, max, Bool, true, false, cond, not, ◌&&◌, ◌||◌, List, []}
use Rattle.std.proofs.Common.{◌∷◌, leb, Ordering, Less, Equal, Greater, nat_cmp}
use Rattle.std.proofs.Common.{Option, Some, IsUtf8, refl, sym, ap, ◌∙◌, arith}
use Rattle.std.proofs.lemmas.Bool.{leb-true, le-leb, not-true}
use Rattle.std.proofs.lemmas.Str.{IsUtf8-from_is_utf8, is_utf8-from_IsUtf8, IsUtf8-nil}
use Rattle.std.specs.Cmp.Lexicographic.{slice_cmp}
use Rattle.std.specs.Ordering.{match_ordering}
use Rattle.std.specs.Str.{is_utf8}
use Rattle.dap_tree.specs.Doc.{Doc, null, boolean, whole, text, list, object, id, Items, no_items}
use Rattle.dap_tree.specs.Doc.{item, Members, no_members, member, depth, items_depth, members_depth}
use Rattle.dap_tree.specs.Doc.{all_in_range, items_in_range, members_in_range, is_sound, all_utf8}
use Rattle.dap_tree.specs.Doc.{items_utf8, members_utf8, change_member, change_child, map_items}
use Rattle.dap_tree.specs.Doc.{change_items, has_id, items_have_id, members_have_id}
use Rattle.dap_tree.proofs.Booleans.{and_left, and_right, and_both}
use Rattle.dap_mask.specs.RuleSteps.{RuleStep, named, elements, is_called, change_called}
use Rattle.dap_mask.specs.RuleSteps.{change_at_place}
use Rattle.dap_mask.specs.Rules.{Rule, change_text, of_verb, rule_applies}
use Rattle.dap_mask.specs.Masked.{mask_by, masked}
use Rattle.dap_mask.specs.Texts.{digits, hex}
use Rattle.dap_words.specs.Long.{long}
use Rattle.dap_words.specs.Uuids.{uuid}
use Rattle.dap_words.proofs.Utf8.{long_utf8, uuid_utf8}
use Rattle.dap_mask.specs.declared.rules.Verb.{Verb, TheVariants.{Blank, Digits, Hex, Long, Uuid}}
use Rattle.dap_mask.proofs.Utf8.{digits_utf8, hex_utf8}

-- ---- depth

abbrev pub Shallow : (Doc → Doc) → Type 0
Shallow f = (d : Doc) → depth (f d) ≤ depth d

members_shallow : (k : List ℕ) (f : Doc → Doc) → Shallow f → (ms : Members)
    → members_depth (change_member k f ms) ≤ members_depth ms
members_shallow k f h no_members = omega arith
members_shallow k f h (member l e ms) = go (slice_cmp nat_cmp k l) (members_shallow k f h ms) (h e)
  where
    go : (o : Ordering) → members_depth (change_member k f ms) ≤ members_depth ms → depth (f e)
        ≤ depth e
        → members_depth (match_ordering o (member l e (change_member k f ms)) (member l (f e) ms)
        (member l e (change_member k f ms))) ≤ max (depth e) (members_depth ms)
    go Less a b = omega (arith, a)
    go Equal a b = omega (arith, b)
    go Greater a b = omega (arith, a)

items_shallow : (f : Doc → Doc) → Shallow f → (ds : Items) → items_depth (map_items f ds)
    ≤ items_depth ds
items_shallow f h no_items = omega arith
items_shallow f h (item d ds) = let a = h d in let b = items_shallow f h ds in omega (arith, a, b)

text_shallow : (f : List ℕ → List ℕ) → Shallow (change_text f)
text_shallow f (text s) = omega arith
text_shallow f null = omega arith
text_shallow f (boolean b) = omega arith
text_shallow f (whole z) = omega arith
text_shallow f (list ds) = omega arith
text_shallow f (object ms) = omega arith
text_shallow f (id s z) = omega arith

verb_shallow : (v : Verb) → Shallow (of_verb v)
verb_shallow Blank null = omega arith
verb_shallow Blank (boolean b) = omega arith
verb_shallow Blank (whole z) = omega arith
verb_shallow Blank (text s) = omega arith
verb_shallow Blank (list ds) = omega arith
verb_shallow Blank (object ms) = omega arith
verb_shallow Blank (id s z) = omega arith
verb_shallow Digits d = text_shallow _ d
verb_shallow Hex d = text_shallow _ d
verb_shallow Long d = text_shallow _ d
verb_shallow Uuid d = text_shallow _ d

child_shallow : (k : List ℕ) (f : Doc → Doc) → Shallow f → Shallow (change_child k f)
child_shallow k f h null = omega arith
child_shallow k f h (boolean b) = omega arith
child_shallow k f h (whole z) = omega arith
child_shallow k f h (text s) = omega arith
child_shallow k f h (list ds) = omega arith
child_shallow k f h (object ms) = let a = members_shallow k f h ms in omega (arith, a)
child_shallow k f h (id s z) = omega arith

list_shallow : (f : Doc → Doc) → Shallow f → Shallow (change_items f)
list_shallow f h null = omega arith
list_shallow f h (boolean b) = omega arith
list_shallow f h (whole z) = omega arith
list_shallow f h (text s) = omega arith
list_shallow f h (list ds) = let a = items_shallow f h ds in omega (arith, a)
list_shallow f h (object ms) = omega arith
list_shallow f h (id s z) = omega arith

called_shallow : (n : Option (List ℕ)) (f : Doc → Doc) → Shallow f → Shallow (change_called n f)
called_shallow n f h d = go (is_called n (Some d)) (h d)
  where
    go : (b : Bool) → depth (f d) ≤ depth d → depth (cond b (f d) d) ≤ depth d
    go true k = k
    go false k = omega arith

pub at_shallow : (f : Doc → Doc) → Shallow f → (ss : List RuleStep)
    → Shallow (change_at_place ss f)
at_shallow f h [] = h
at_shallow f h (named k ∷ ss) = child_shallow k (change_at_place ss f) (at_shallow f h ss)
at_shallow f h (elements n ∷ ss) =
    list_shallow (change_called n (change_at_place ss f))
    (called_shallow n (change_at_place ss f) (at_shallow f h ss))

edit_shallow : (v : Verb) (ss : List RuleStep) → Shallow (change_at_place ss (of_verb v))
edit_shallow v ss = at_shallow (of_verb v) (verb_shallow v) ss

-- ---- a test of all parts

abbrev pub Keeps : (Doc → Bool) → (Doc → Doc) → Type 0
Keeps T f = (d : Doc) → T d ≡ true → T (f d) ≡ true

-- a test that checks each name and each part
pub record Test : Type 0 where
  pub doc : Doc → Bool
  pub many : Items → Bool
  pub named_ones : Members → Bool
  pub key : List ℕ → Bool
  pub each_item : (d : Doc) (ds : Items) → many (item d ds) ≡ (doc d && many ds)
  pub each_member : (k : List ℕ) (d : Doc) (ms : Members) → named_ones (member k d ms)
      ≡ (key k && (doc d && named_ones ms))
  pub of_list : (ds : Items) → doc (list ds) ≡ many ds
  pub of_object : (ms : Members) → doc (object ms) ≡ named_ones ms

members_keep : (T : Test) (k : List ℕ) (f : Doc → Doc) → Keeps T.doc f → (ms : Members)
    → T.named_ones ms ≡ true → T.named_ones (change_member k f ms) ≡ true
members_keep T k f h no_members g = g
members_keep T k f h (member l e ms) g = go (slice_cmp nat_cmp k l) (members_keep T k f h ms)
  where
    all : (T.key l && (T.doc e && T.named_ones ms)) ≡ true
    all = sym (T.each_member l e ms) ∙ g

    name_ok : T.key l ≡ true
    name_ok = and_left (T.key l) (T.doc e && T.named_ones ms) all

    rest : (T.doc e && T.named_ones ms) ≡ true
    rest = and_right (T.key l) (T.doc e && T.named_ones ms) all

    first : T.doc e ≡ true
    first = and_left (T.doc e) (T.named_ones ms) rest

    others : T.named_ones ms ≡ true
    others = and_right (T.doc e) (T.named_ones ms) rest

    go : (o : Ordering) → (T.named_ones ms ≡ true → T.named_ones (change_member k f ms) ≡ true)
        → T.named_ones (match_ordering o (member l e (change_member k f ms)) (member l (f e) ms)
        (member l e (change_member k f ms))) ≡ true
    go Less later = T.each_member l e (change_member k f ms)
        ∙ and_both _ _ name_ok (and_both _ _ first (later others))
    go Equal later = T.each_member l (f e) ms
        ∙ and_both _ _ name_ok (and_both _ _ (h e first) others)
    go Greater later = T.each_member l e (change_member k f ms)
        ∙ and_both _ _ name_ok (and_both _ _ first (later others))

items_keep : (T : Test) (f : Doc → Doc) → Keeps T.doc f → (ds : Items) → T.many ds ≡ true
    → T.many (map_items f ds) ≡ true
items_keep T f h no_items g = g
items_keep T f h (item d ds) g =
    let all = sym (T.each_item d ds) ∙ g in
    T.each_item (f d) (map_items f ds) ∙ and_both _ _ (h d (and_left (T.doc d) (T.many ds) all))
    (items_keep T f h ds (and_right (T.doc d) (T.many ds) all))

child_keeps : (T : Test) (k : List ℕ) (f : Doc → Doc) → Keeps T.doc f
    → Keeps T.doc (change_child k f)
child_keeps T k f h null g = g
child_keeps T k f h (boolean b) g = g
child_keeps T k f h (whole z) g = g
child_keeps T k f h (text s) g = g
child_keeps T k f h (list ds) g = g
child_keeps T k f h (object ms) g = T.of_object (change_member k f ms)
    ∙ members_keep T k f h ms (sym (T.of_object ms) ∙ g)
child_keeps T k f h (id s z) g = g

list_keeps : (T : Test) (f : Doc → Doc) → Keeps T.doc f → Keeps T.doc (change_items f)
list_keeps T f h null g = g
list_keeps T f h (boolean b) g = g
list_keeps T f h (whole z) g = g
list_keeps T f h (text s) g = g
list_keeps T f h (list ds) g = T.of_list (map_items f ds) ∙ items_keep T f h ds (sym (T.of_list ds)
    ∙ g)
list_keeps T f h (object ms) g = g
list_keeps T f h (id s z) g = g

called_keeps : (T : Test) (n : Option (List ℕ)) (f : Doc → Doc) → Keeps T.doc f
    → Keeps T.doc (change_called n f)
called_keeps T n f h d g = go (is_called n (Some d))
  where
    go : (b : Bool) → T.doc (cond b (f d) d) ≡ true
    go true = h d g
    go false = g

pub edit_keeps : (T : Test) (f : Doc → Doc) → Keeps T.doc f → (ss : List RuleStep)
    → Keeps T.doc (change_at_place ss f)
edit_keeps T f h [] = h
edit_keeps T f h (named k ∷ ss) = child_keeps T k (change_at_place ss f) (edit_keeps T f h ss)
edit_keeps T f h (elements n ∷ ss) =
    list_keeps T (change_called n (change_at_place ss f))
    (called_keeps T n (change_at_place ss f) (edit_keeps T f h ss))

masked_keeps : (T : Test) → ((v : Verb) → Keeps T.doc (of_verb v)) → (rs : List Rule)
    → Keeps T.doc (masked rs)
masked_keeps T h [] d g = g
masked_keeps T h (r ∷ rs) d g = masked_keeps T h rs (mask_by r d) (go (rule_applies r d))
  where
    go : (b : Bool) → T.doc (cond b (change_at_place r.place (of_verb r.verb) d) d) ≡ true
    go true = edit_keeps T (of_verb r.verb) (h r.verb) r.place d g
    go false = g

abbrev pub range_test : Test
range_test = record {
  doc = all_in_range;
  many = items_in_range;
  named_ones =
      members_in_range;
  key = λ k. true;
  each_item = λ d ds. refl;
  each_member =
      λ k d ms. refl;
  of_list = λ ds. refl;
  of_object = λ ms. refl;
}

abbrev pub utf8_test : Test
utf8_test = record {
  doc = all_utf8;
  many = items_utf8;
  named_ones = members_utf8;
  key =
      is_utf8;
  each_item = λ d ds. refl;
  each_member = λ k d ms. refl;
  of_list =
      λ ds. refl;
  of_object = λ ms. refl;
}

text_keeps : (T : Doc → Bool) (f : List ℕ → List ℕ)
    → ((s : List ℕ) → T (text s) ≡ true → T (text (f s)) ≡ true) → Keeps T (change_text f)
text_keeps T f k (text s) g = k s g
text_keeps T f k null g = g
text_keeps T f k (boolean b) g = g
text_keeps T f k (whole z) g = g
text_keeps T f k (list ds) g = g
text_keeps T f k (object ms) g = g
text_keeps T f k (id s z) g = g

range_verb : (v : Verb) → Keeps all_in_range (of_verb v)
range_verb Blank null g = g
range_verb Blank (boolean b) g = g
range_verb Blank (whole z) g = refl
range_verb Blank (text s) g = g
range_verb Blank (list ds) g = refl
range_verb Blank (object ms) g = refl
range_verb Blank (id s z) g = g
range_verb Digits d g = text_keeps all_in_range digits (λ s h. h) d g
range_verb Hex d g = text_keeps all_in_range hex (λ s h. h) d g
range_verb Long d g = text_keeps all_in_range long (λ s h. h) d g
range_verb Uuid d g = text_keeps all_in_range uuid (λ s h. h) d g

utf8_kept : (f : List ℕ → List ℕ) → ((s : List ℕ) → IsUtf8 s → IsUtf8 (f s)) → (s : List ℕ)
    → is_utf8 s ≡ true → is_utf8 (f s) ≡ true
utf8_kept f k s g = is_utf8-from_IsUtf8 (f s) (k s (IsUtf8-from_is_utf8 s g))

utf8_verb : (v : Verb) → Keeps all_utf8 (of_verb v)
utf8_verb Blank null g = g
utf8_verb Blank (boolean b) g = g
utf8_verb Blank (whole z) g = g
utf8_verb Blank (text s) g = is_utf8-from_IsUtf8 [] IsUtf8-nil
utf8_verb Blank (list ds) g = refl
utf8_verb Blank (object ms) g = refl
utf8_verb Blank (id s z) g = g
utf8_verb Digits d g = text_keeps all_utf8 digits (utf8_kept digits digits_utf8) d g
utf8_verb Hex d g = text_keeps all_utf8 hex (utf8_kept hex hex_utf8) d g
utf8_verb Long d g = text_keeps all_utf8 long (utf8_kept long long_utf8) d g
utf8_verb Uuid d g = text_keeps all_utf8 uuid (utf8_kept uuid uuid_utf8) d g

masked_shallow : (rs : List Rule) → Shallow (masked rs)
masked_shallow [] d = omega arith
masked_shallow (r ∷ rs) d = let a = masked_shallow rs (mask_by r d) in let b = go
    (rule_applies r d) in
    omega (arith, a, b)
  where
    go : (b : Bool) → depth (cond b (change_at_place r.place (of_verb r.verb) d) d) ≤ depth d
    go true = edit_shallow r.verb r.place d
    go false = omega arith

pub sound_masked : (rs : List Rule) (d : Doc) → is_sound d ≡ true → is_sound (masked rs d) ≡ true
sound_masked rs d h =
    let low = leb-true (depth d) 127 (and_left (leb (depth d) 127) (all_in_range d) h) in
    let less = masked_shallow rs d in
    and_both _ _ (le-leb (depth (masked rs d)) 127 (omega (arith, low, less)))
    (masked_keeps range_test range_verb rs d (and_right (leb (depth d) 127) (all_in_range d) h))

pub utf8_masked : (rs : List Rule) (d : Doc) → all_utf8 d ≡ true → all_utf8 (masked rs d) ≡ true
utf8_masked rs d h = masked_keeps utf8_test utf8_verb rs d h

-- ---- masking adds no id

pub not_either : (a b : Bool) → not (a || b) ≡ (not a && not b)
not_either true b = refl
not_either false b = refl

abbrev pub no_id_test : Test
no_id_test = record {
  doc = λ d. not (has_id d);
  many = λ ds. not (items_have_id ds);
  named_ones = λ ms. not (members_have_id ms);
  key = λ k. true;
  each_item = λ d ds. not_either (has_id d) (items_have_id ds);
  each_member = λ k d ms. not_either (has_id d) (members_have_id ms);
  of_list = λ ds. refl;
  of_object = λ ms. refl;
}

no_id_verb : (v : Verb) → Keeps (λ d. not (has_id d)) (of_verb v)
no_id_verb Blank null g = g
no_id_verb Blank (boolean b) g = g
no_id_verb Blank (whole z) g = g
no_id_verb Blank (text s) g = g
no_id_verb Blank (list ds) g = refl
no_id_verb Blank (object ms) g = refl
no_id_verb Blank (id s z) g = g
no_id_verb Digits d g = text_keeps no_id_test.doc digits (λ s h. h) d g
no_id_verb Hex d g = text_keeps no_id_test.doc hex (λ s h. h) d g
no_id_verb Long d g = text_keeps no_id_test.doc long (λ s h. h) d g
no_id_verb Uuid d g = text_keeps no_id_test.doc uuid (λ s h. h) d g

pub no_id_masked : (rs : List Rule) (d : Doc) → has_id d ≡ false → has_id (masked rs d) ≡ false
no_id_masked rs d h = not-true (has_id (masked rs d))
    (masked_keeps no_id_test no_id_verb rs d (ap not h))
