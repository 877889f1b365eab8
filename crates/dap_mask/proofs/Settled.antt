-- Masking a masked document again does not change it.
use Rattle.std.proofs.Common.{◌≡◌, ℕ, Bool, true, false, cond, not, ◌&&◌, List, [], ◌∷◌, Option}
use Rattle.std.proofs.Common.{Some, None, option_map, refl, sym, ◌∙◌, ap, arith, true≢false}
use Rattle.std.proofs.lemmas.Bool.{not-true}
use Rattle.dap_tree.specs.Doc.{Doc, null, boolean, whole, text, list, object, id, is_ordered}
use Rattle.dap_tree.specs.Path.{Step, at}
use Rattle.dap_tree.proofs.Booleans.{and_left, and_right, or_left, or_right, or_both}
use Rattle.dap_message.specs.Places.{fits_place}
use Rattle.dap_message.specs.Marks.{top}
use Rattle.dap_mask.specs.RuleSteps.{has_names}
use Rattle.dap_mask.specs.Rules.{Rule, blank, change_text, of_verb, takes_parts, plain_place_of}
use Rattle.dap_mask.specs.Rules.{rule_applies, applies_at, renames, comes_before, is_late, clash}
use Rattle.dap_mask.specs.Rules.{clashes_with, is_telling_place, are_safe, are_idempotent, disturb}
use Rattle.dap_mask.specs.Rules.{disturbs_one_of, recategorises}
use Rattle.dap_mask.specs.Masked.{is_below, left_by, mask_by, masked}
use Rattle.dap_mask.specs.Texts.{digits, hex}
use Rattle.dap_words.specs.Long.{long}
use Rattle.dap_words.specs.Uuids.{uuid}
use Rattle.dap_words.proofs.ClearedUuids.{uuid_twice}
use Rattle.dap_words.proofs.HexPairs.{long_after_hex, uuid_after_hex}
use Rattle.dap_words.proofs.LongPairs.{uuid_after_long}
use Rattle.dap_words.proofs.LongRuns.{long_twice}
use Rattle.dap_words.proofs.Settled.{digits_after_long, long_after_digits}
use Rattle.dap_mask.specs.declared.rules.Verb.{Verb, TheVariants.{Blank, Digits, Hex, Long, Uuid}}
use Rattle.dap_mask.proofs.Squeezed.{digits_twice, hex_twice, digits_behind_hex}
use Rattle.dap_mask.proofs.ByPath.{top-left_by, at-mask_by, ordered-mask_by, same_after, same_paths}
use Rattle.dap_mask.proofs.ByPath.{first_safe, first_renames, first_early, rest_safe, blank_twice}
use Rattle.dap_mask.proofs.ByPath.{first_apart, first_leaves_own}
use Rattle.dap_mask.proofs.CategoryKept.{second_leaves}
use Rattle.dap_mask.proofs.Matches.{fits_share, both_select}
use Rattle.dap_mask.proofs.RuleOrder.{MayFollow, later_follows, renames_no_earlier}

-- ---- one value

text_twice : (f : List ℕ → List ℕ) → ((s : List ℕ) → f (f s) ≡ f s) → (d : Doc)
    → change_text f (change_text f d) ≡ change_text f d
text_twice f h null = refl
text_twice f h (boolean b) = refl
text_twice f h (whole z) = refl
text_twice f h (text s) = ap text (h s)
text_twice f h (list ds) = refl
text_twice f h (object ms) = refl
text_twice f h (id s z) = refl

verb_twice : (v : Verb) (d : Doc) → of_verb v (of_verb v d) ≡ of_verb v d
verb_twice Blank d = blank_twice d
verb_twice Digits d = text_twice digits digits_twice d
verb_twice Hex d = text_twice hex hex_twice d
verb_twice Long d = text_twice long long_twice d
verb_twice Uuid d = text_twice uuid uuid_twice d

text_same : (s t : List ℕ) → text s ≡ text t → s ≡ t
text_same s t h = cc

blank_behind : (f : List ℕ → List ℕ) → f [] ≡ [] → (d : Doc) → blank d ≡ d → blank (change_text f d)
    ≡ change_text f d
blank_behind f e null h = h
blank_behind f e (boolean b) h = h
blank_behind f e (whole z) h = h
blank_behind f e (text s) h = ap text (sym e ∙ ap f (text_same [] s h))
blank_behind f e (list ds) h = h
blank_behind f e (object ms) h = h
blank_behind f e (id s z) h = h

text_behind : (f : List ℕ → List ℕ) → f [] ≡ [] → (d : Doc) → change_text f (blank d) ≡ blank d
text_behind f e null = refl
text_behind f e (boolean b) = refl
text_behind f e (whole z) = refl
text_behind f e (text s) = ap text e
text_behind f e (list ds) = refl
text_behind f e (object ms) = refl
text_behind f e (id s z) = refl

abbrev StaysText : (List ℕ → List ℕ) → (List ℕ → List ℕ) → Type 0
StaysText f g = (s : List ℕ) → f s ≡ s → f (g s) ≡ g s

text_stays : (f g : List ℕ → List ℕ) → StaysText f g → (d : Doc) → change_text f d ≡ d
    → change_text f (change_text g d) ≡ change_text g d
text_stays f g k null h = refl
text_stays f g k (boolean b) h = refl
text_stays f g k (whole z) h = refl
text_stays f g k (text s) h = ap text (k s (text_same (f s) s h))
text_stays f g k (list ds) h = refl
text_stays f g k (object ms) h = refl
text_stays f g k (id s z) h = refl

-- if a verb does not change a value, it does not change the result of a verb that may follow it
verb_stays : (v w : Verb) (d : Doc) → MayFollow v w → of_verb v d ≡ d
    → of_verb v (of_verb w d) ≡ of_verb w d
verb_stays Blank Blank d h k = blank_twice d
verb_stays Blank Digits d h k = blank_behind digits refl d k
verb_stays Blank Hex d h k = blank_behind hex refl d k
verb_stays Blank Long d h k = blank_behind long refl d k
verb_stays Blank Uuid d h k = blank_behind uuid refl d k
verb_stays Digits Blank d h k = text_behind digits refl d
verb_stays Digits Digits d h k = verb_twice Digits d
verb_stays Digits Hex d h k = text_stays digits hex digits_behind_hex d k
verb_stays Digits Long d h k = text_stays digits long digits_after_long d k
verb_stays Digits Uuid d h k = absurd (true≢false h.1)
verb_stays Hex Blank d h k = text_behind hex refl d
verb_stays Hex Digits d h k = absurd (omega (arith, h.0))
verb_stays Hex Hex d h k = verb_twice Hex d
verb_stays Hex Long d h k = absurd (omega (arith, h.0))
verb_stays Hex Uuid d h k = absurd (omega (arith, h.0))
verb_stays Long Blank d h k = text_behind long refl d
verb_stays Long Digits d h k = text_stays long digits long_after_digits d k
verb_stays Long Hex d h k = text_stays long hex long_after_hex d k
verb_stays Long Long d h k = verb_twice Long d
verb_stays Long Uuid d h k = absurd (omega (arith, h.0))
verb_stays Uuid Blank d h k = text_behind uuid refl d
verb_stays Uuid Digits d h k = absurd (true≢false h.1)
verb_stays Uuid Hex d h k = text_stays uuid hex uuid_after_hex d k
verb_stays Uuid Long d h k = text_stays uuid long uuid_after_long d k
verb_stays Uuid Uuid d h k = verb_twice Uuid d

map_stays : (v w : Verb) (o : Option Doc) → MayFollow v w → option_map (of_verb v) o ≡ o
    → option_map (of_verb v) (option_map (of_verb w) o) ≡ option_map (of_verb w) o
map_stays v w None h k = refl
map_stays v w (Some d) h k = let same : of_verb v d ≡ d = cc in ap Some (verb_stays v w d h same)

map_twice : (v : Verb) (o : Option Doc) → option_map (of_verb v) (option_map (of_verb v) o)
    ≡ option_map (of_verb v) o
map_twice v None = refl
map_twice v (Some d) = ap Some (verb_twice v d)

-- ---- the later of two rules for the same place of a document may follow the earlier one

follows : (r t : Rule) (d : Doc) (p : List Step) → comes_before t r ≡ false
    → clash r t ≡ false → applies_at r d p ≡ true → applies_at t d p ≡ true
    → fits_place (plain_place_of r) p ≡ true → fits_place (plain_place_of t) p ≡ true
    → MayFollow r.verb t.verb
follows r t d p late h rs ts rp tp =
    later_follows r t late h
    (fits_share r.place t.place (Some d) p rp tp
    (and_right (rule_applies r d) (has_names r.place (Some d) p) rs)
    (and_right (rule_applies t d) (has_names t.place (Some d) p) ts))
    (both_select r t d (and_left (rule_applies r d) (has_names r.place (Some d) p) rs)
    (and_left (rule_applies t d) (has_names t.place (Some d) p) ts))

-- ---- the values after rules

-- `left_by` as a function of its conditions: the rule applies along the path, its place is at the
-- path, and it removes the value because the path is below the place
abbrev pub by : Verb → Bool → Bool → Bool → Option Doc → Option Doc
by v a b c o = cond a (cond b (option_map (of_verb v) o) (cond c None o)) o

twice_by : (v : Verb) (a b c : Bool) (o : Option Doc) → by v a b c (by v a b c o) ≡ by v a b c o
twice_by v false b c o = refl
twice_by v true true c o = map_twice v o
twice_by v true false true o = refl
twice_by v true false false o = refl

by_none : (v : Verb) (a b c : Bool) → by v a b c None ≡ None
by_none v false b c = refl
by_none v true true c = refl
by_none v true false true = refl
by_none v true false false = refl

stays_by : (v w : Verb) (a b c d e f : Bool) (o : Option Doc) → (a ≡ true → d ≡ true → b ≡ true → e
    ≡ true → MayFollow v w) → by v a b c o ≡ o → by v a b c (by w d e f o) ≡ by w d e f o
stays_by v w a b c false e f o h k = k
stays_by v w a b c true false true o h k = by_none v a b c
stays_by v w a b c true false false o h k = k
stays_by v w false b c true true f o h k = refl
stays_by v w true true c true true f o h k = map_stays v w o (h refl refl refl refl) k
stays_by v w true false true true true f o h k = ap (option_map (of_verb w)) k
stays_by v w true false false true true f o h k = refl

by_twice : (r : Rule) (d : Doc) (p : List Step) (o : Option Doc) → left_by r d p (left_by r d p o)
    ≡ left_by r d p o
by_twice r d p o = twice_by r.verb (applies_at r d p) (fits_place (plain_place_of r) p)
    (is_below (plain_place_of r) p && takes_parts r.verb) o

by_stays : (r t : Rule) (d : Doc) (p : List Step) (o : Option Doc) → comes_before t r ≡ false
    → clash r t ≡ false → left_by r d p o ≡ o → left_by r d p (left_by t d p o) ≡ left_by t d p o
by_stays r t d p o late h k =
    stays_by r.verb t.verb (applies_at r d p) (fits_place (plain_place_of r) p)
    (is_below (plain_place_of r) p && takes_parts r.verb) (applies_at t d p)
    (fits_place (plain_place_of t) p) (is_below (plain_place_of t) p && takes_parts t.verb) o
    (follows r t d p late h) k

-- ---- a rule that does not change a document

-- the rule does not change the document after another rule that changes no text by which it
-- selects, if it does not change the values after that rule
stable_after : (r t : Rule) (d : Doc) → is_ordered d ≡ true → is_telling_place t.place ≡ false
    → renames t r ≡ false → recategorises t r ≡ false
    → ((p : List Step) → left_by r d p (left_by t d p (option_map top (at p d)))
    ≡ left_by t d p (option_map top (at p d)))
    → mask_by r (mask_by t d) ≡ mask_by t d
stable_after r t d o safe h apart same =
    let e = mask_by t d in
    same_paths e (mask_by r e) (ordered-mask_by t d o) (λ p.
    let now : option_map top (at p e) ≡ left_by t d p (option_map top (at p d)) =
    at-mask_by t d p ∙ top-left_by t d p (at p d) in
    at-mask_by r e p ∙ top-left_by r e p (at p e)
    ∙ same_after t (r ∷ []) d p safe (or_both _ _ h refl) (or_both _ _ apart refl)
    ∙ ap (left_by r d p) now ∙ same p ∙ sym now)

stable_itself : (r : Rule) (d : Doc) → is_ordered d ≡ true → is_telling_place r.place ≡ false
    → renames r r ≡ false → recategorises r r ≡ false → mask_by r (mask_by r d) ≡ mask_by r d
stable_itself r d o safe own leaves =
    stable_after r r d o safe own leaves (λ p. by_twice r d p (option_map top (at p d)))

stays_stable : (r t : Rule) (d : Doc) → is_ordered d ≡ true → is_telling_place t.place ≡ false
    → renames r r ≡ false → recategorises t r ≡ false → comes_before t r ≡ false
    → clash r t ≡ false → mask_by r d ≡ d → mask_by r (mask_by t d) ≡ mask_by t d
stays_stable r t d o safe own leaves late apart stable =
    stable_after r t d o safe (renames_no_earlier t r own late) leaves (λ p.
    by_stays r t d p (option_map top (at p d)) late apart
    (sym (top-left_by r d p (at p d)) ∙ sym (at-mask_by r d p)
    ∙ ap (λ x. option_map top (at p x)) stable))

stable_to_end : (r : Rule) (ts : List Rule) (d : Doc) → is_ordered d ≡ true → are_safe ts ≡ true
    → renames r r ≡ false → disturbs_one_of r ts ≡ false → is_late r ts ≡ false
    → clashes_with r ts ≡ false → mask_by r d ≡ d → mask_by r (masked ts d) ≡ masked ts d
stable_to_end r [] d o safe own calm late apart stable = stable
stable_to_end r (t ∷ ts) d o safe own calm late apart stable =
    stable_to_end r ts (mask_by t d) (ordered-mask_by t d o) (rest_safe t ts safe) own
    (or_right (disturb r t) (disturbs_one_of r ts) calm)
    (or_right (comes_before t r) (is_late r ts) late)
    (or_right (clash r t) (clashes_with r ts) apart)
    (stays_stable r t d o (first_safe t ts safe) own
    (second_leaves r t (or_left (disturb r t) (disturbs_one_of r ts) calm))
    (or_left (comes_before t r) (is_late r ts) late)
    (or_left (clash r t) (clashes_with r ts) apart) stable)

-- each rule leaves the document unchanged
abbrev pub AllStable : List Rule → Doc → Type 0
AllStable [] d = Unit {0}
AllStable (r ∷ rs) d = (mask_by r d ≡ d) × AllStable rs d

pub stable_masked : (rs : List Rule) (d : Doc) → AllStable rs d → masked rs d ≡ d
stable_masked [] d h = refl
stable_masked (r ∷ rs) d h = ap (masked rs) h.0 ∙ stable_masked rs d h.1

-- each rule leaves the masked document unchanged
pub all_stable : (rs : List Rule) (d : Doc) → are_safe rs ≡ true → are_idempotent rs ≡ true
    → is_ordered d ≡ true → AllStable rs (masked rs d)
all_stable [] d safe settled o = tt
all_stable (r ∷ rs) d safe settled o =
    let e = mask_by r d in
    let ordered = ordered-mask_by r d o in
    let own = first_renames r rs safe in
    let apart = not-true (clashes_with r rs)
    (and_left (not (clashes_with r rs)) (are_idempotent rs) settled) in (
      stable_to_end r rs e ordered (rest_safe r rs safe) own (first_apart r rs safe)
          (first_early r rs safe) apart
          (stable_itself r d o (first_safe r rs safe) own (first_leaves_own r rs safe)),
      all_stable rs e (rest_safe r rs safe)
          (and_right (not (clashes_with r rs)) (are_idempotent rs) settled) ordered,
    )

pub masked_once : (rs : List Rule) (d : Doc) → are_safe rs ≡ true → are_idempotent rs ≡ true
    → is_ordered d ≡ true → masked rs (masked rs d) ≡ masked rs d
masked_once rs d safe settled o =
    stable_masked rs (masked rs d) (all_stable rs d safe settled o)
