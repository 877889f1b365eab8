-- Masking by the rules that an index finds for a message is masking by all rules.
use Rattle.std.proofs.Common.{◌≡◌, ℕ, zero, suc, Bool, true, false, cond, ◌&&◌, List, [], ◌∷◌, ◌++◌}
use Rattle.std.proofs.Common.{length, drop, Option, Some, None, unwrap_or, bytes_eq, refl, sym}
use Rattle.std.proofs.Common.{◌∙◌, ap, ap₂, subst, true≢false, append_assoc, option_map}
use Rattle.std.proofs.Common.{string_bytes, String, Vec, Global, ◌<◌, ◌≤◌, arith}
use Rattle.std.proofs.lemmas.Slice.Eq.{bytes_eq-Decides}
use Rattle.std.specs.BTreeMap.{IsEmpty, get_by_text, is_at}
use Rattle.std.specs.Cmp.Lexicographic.{slice_cmp}
use Rattle.std.specs.List.{AllByRecursion, filter, list_any, slice_get, slice_index_or}
use Rattle.std.specs.Map.{lookup}
use Rattle.std.specs.Option.{option_to_list}
use Rattle.std.specs.Ordering.{nat_cmp}
use Rattle.std.proofs.lemmas.Bool.{and_left as not_both}
use Rattle.dap_tree.specs.Doc.{Doc, null, boolean, whole, text, list, object, id, get}
use Rattle.dap_tree.specs.Path.{at}
use Rattle.dap_tree.proofs.Booleans.{or_left, or_right}
use Rattle.std.specs.Prelude.{is_some}
use Rattle.dap_message.specs.Rows.{is_of_kind, name_key, is_text}
use Rattle.dap_profile.specs.declared.profile.Kind.{Kind, TheVariants.{Request, Response, Event}}
use Rattle.dap_message.proofs.Edits.{by_bool}
use Rattle.dap_mask.specs.Index.{asks_for, may_speak, told_kind, text_told, told_name}
use Rattle.dap_mask.specs.Index.{positions_from, positions, rules_at, masked_by, masked_at}
use Rattle.dap_mask.specs.Index.{NamePlaces, kept_for, AreRight, AsksNot, HasAsked, AddsName}
use Rattle.dap_mask.specs.Index.{IsIndex}
use Rattle.dap_mask.specs.Masked.{mask_by, masked}
use Rattle.dap_mask.specs.FlatMasking.{told_category, is_limited, are_limited, asked_category}
use Rattle.dap_mask.specs.FlatMasking.{changed_at, changed_by}
use Rattle.dap_mask.specs.RuleSteps.{change_at_place}
use Rattle.dap_mask.specs.Rules.{Rule, rule_of, rules_of, has_name, rule_applies, same_kind}
use Rattle.dap_mask.specs.Rules.{are_safe, is_telling_place, has_head, has_category, recategorises}
use Rattle.dap_mask.specs.Rules.{category_path, of_verb}
use Rattle.dap_mask.specs.declared.index.KindRules.{KindRules}
use Rattle.dap_mask.specs.declared.rules.MaskRule.{MaskRule}
use Rattle.dap_mask.proofs.ByPath.{first_apart, first_safe, rest_safe, head-mask_by}
use Rattle.dap_mask.proofs.CategoryKept.{category_after, leaves_all}
use Rattle.dap_mask.proofs.Matches.{kind_alike}

-- ---- names that no rule contains

same_positions : (k : Kind) (n : List ℕ) (i : ℕ) (rs : List Rule)
    → AllByRecursion (AsksNot k n) rs → positions_from k (Some n) i rs ≡ positions_from k None i rs
same_positions k n i [] h = refl
same_positions k n i (r ∷ rs) h =
    ap₂ (λ b ps. cond b (i ∷ ps) ps) h.0 (same_positions k n (suc i) rs h.1)

-- ---- an index has the positions of the rules that may apply

pub index_made : (k : Kind) (rs : List Rule) (x : KindRules) → AreRight k rs x.named
    → HasAsked k rs x.named → x.any.items ≡ positions k None rs → IsIndex k rs x
index_made k rs x right asked any None = any
index_made k rs x right asked any (Some n) = found (kept_for x.named n) refl
  where
    found : (o : Option (List ℕ)) → kept_for x.named n ≡ o
        → unwrap_or o x.any.items ≡ positions k (Some n) rs
    found (Some places) is = right n places is
    found None is = any ∙ sym (same_positions k n 0 rs (asked n is))

-- ---- adding the name of a rule

pub nothing_kept : (names : NamePlaces) → IsEmpty names → (n : List ℕ) → kept_for names n ≡ None
nothing_kept names empty n =
    ap (λ es. option_map (λ (v : Vec ℕ Global). v.items)
    (lookup (is_at (λ k. slice_cmp nat_cmp n (string_bytes k))) es)) empty

asks_for_other : (k : Kind) (r : Rule) (m n : List ℕ) → r.name ≡ Some m → bytes_eq m n ≡ false
    → AsksNot k n r
asks_for_other k r m n name other = rw (name, other) refl

-- the name is inserted
module _ (k : Kind) (rs : List Rule) (m : List ℕ) (old new : NamePlaces)
    (places : Vec ℕ Global) (put : (n : List ℕ)
    → get_by_text new n ≡ cond (bytes_eq m n) (Some places) (get_by_text old n)) where
  kept_then : (n : List ℕ)
      → kept_for new n ≡ cond (bytes_eq m n) (Some places.items) (kept_for old n)
  kept_then n = ap (option_map (λ v. v.items)) (put n) ∙ by_test (bytes_eq m n)
    where
      by_test : (b : Bool)
          → option_map (λ (v : Vec ℕ Global). v.items) (cond b (Some places) (get_by_text old n))
          ≡ cond b (Some places.items) (kept_for old n)
      by_test true = refl
      by_test false = refl

  pub right_then : places.items ≡ positions k (Some m) rs → AreRight k rs old → AreRight k rs new
  right_then is right n others found =
      by_test (bytes_eq m n) refl (sym (kept_then n) ∙ found)
    where
      by_test : (b : Bool) → bytes_eq m n ≡ b
          → cond b (Some places.items) (kept_for old n) ≡ Some others
          → others ≡ positions k (Some n) rs
      by_test true same h =
          let these : places.items ≡ others = cc in
          sym these ∙ is ∙ ap (λ q. positions k (Some q) rs) ((bytes_eq-Decides m n).0 same)
      by_test false other h = right n others h

  pub added_then : (r : Rule) → r.name ≡ Some m → AddsName k r old new
  added_then r name n none = by_test (bytes_eq m n) refl (sym (kept_then n) ∙ none)
    where
      by_test : (b : Bool) → bytes_eq m n ≡ b
          → cond b (Some places.items) (kept_for old n) ≡ None
          → (kept_for old n ≡ None) × AsksNot k n r
      by_test true same h = cc
      by_test false other h = (h, asks_for_other k r m n name other)

-- ---- the rules at these positions

get_at : (front : List Rule) (r : Rule) (rs : List Rule)
    → slice_get (front ++ r ∷ rs) (length front) ≡ Some r
get_at [] r rs = refl
get_at (q ∷ front) r rs = get_at front r rs

length_push : (front : List Rule) (r : Rule) → length (front ++ r ∷ []) ≡ suc (length front)
length_push [] r = refl
length_push (q ∷ front) r = ap suc (length_push front r)

at_step : (k : Kind) (n : Option (List ℕ)) (front : List Rule) (r : Rule) (rs : List Rule)
    (b : Bool)
    → rules_at (front ++ r ∷ rs) (positions_from k n (suc (length front)) rs)
    ≡ filter (may_speak k n) rs
    → rules_at (front ++ r ∷ rs) (cond b (length front ∷ positions_from k n (suc (length front)) rs)
    (positions_from k n (suc (length front)) rs))
    ≡ cond b (r ∷ filter (may_speak k n) rs) (filter (may_speak k n) rs)
at_step k n front r rs true later = ap₂ (λ o qs. option_to_list o ++ qs) (get_at front r rs) later
at_step k n front r rs false later = later

at_positions : (k : Kind) (n : Option (List ℕ)) (front rs : List Rule)
    → rules_at (front ++ rs) (positions_from k n (length front) rs) ≡ filter (may_speak k n) rs
at_positions k n front [] = refl
at_positions k n front (r ∷ rs) =
    at_step k n front r rs (may_speak k n r)
    (ap₂ (λ all i. rules_at all (positions_from k n i rs)) (sym (append_assoc front (r ∷ []) rs))
    (sym (length_push front r))
    ∙ at_positions k n (front ++ r ∷ []) rs)

-- ---- messages

same_is : (j k : Kind) → same_kind j k ≡ true → j ≡ k
same_is Request Request h = refl
same_is Response Response h = refl
same_is Event Event h = refl
same_is Request Response h = cc
same_is Request Event h = cc
same_is Response Request h = cc
same_is Response Event h = cc
same_is Event Request h = cc
same_is Event Response h = cc

kind_from : (j k : Kind) → Some j ≡ Some k → j ≡ k
kind_from j k h = cc

told_true : (k : Kind) (d : Doc) → told_kind d ≡ Some k → is_of_kind k d ≡ true
told_true k d h = go (is_of_kind Request d) (is_of_kind Response d) (is_of_kind Event d) refl refl
    refl h
  where
    go : (a b c : Bool) → is_of_kind Request d ≡ a → is_of_kind Response d ≡ b
        → is_of_kind Event d ≡ c
        → cond a (Some Request) (cond b (Some Response) (cond c (Some Event) None)) ≡ Some k
        → is_of_kind k d ≡ true
    go true b c p q t e = subst (λ j. is_of_kind j d ≡ true) (kind_from Request k e) p
    go false true c p q t e = subst (λ j. is_of_kind j d ≡ true) (kind_from Response k e) q
    go false false true p q t e = subst (λ j. is_of_kind j d ≡ true) (kind_from Event k e) t
    go false false false p q t e = cc

pub told_none : (d : Doc) → told_kind d ≡ None → (k : Kind) → is_of_kind k d ≡ false
told_none d h k = go (is_of_kind Request d) (is_of_kind Response d) (is_of_kind Event d) refl refl
    refl h k
  where
    go : (a b c : Bool) → is_of_kind Request d ≡ a → is_of_kind Response d ≡ b
        → is_of_kind Event d ≡ c
        → cond a (Some Request) (cond b (Some Response) (cond c (Some Event) None)) ≡ None
        → (j : Kind) → is_of_kind j d ≡ false
    go true b c p q t e j = cc
    go false true c p q t e j = cc
    go false false true p q t e j = cc
    go false false false p q t e Request = p
    go false false false p q t e Response = q
    go false false false p q t e Event = t

pub text_asked : (m : List ℕ) (o : Option Doc) → is_text m o ≡ asks_for (Some m) (text_told o)
text_asked m None = refl
text_asked m (Some null) = refl
text_asked m (Some (boolean b)) = refl
text_asked m (Some (whole z)) = refl
text_asked m (Some (text s)) = refl
text_asked m (Some (list ds)) = refl
text_asked m (Some (object ms)) = refl
text_asked m (Some (id s z)) = refl

pub name_asked : (k : Kind) (m : Option (List ℕ)) (d : Doc)
    → has_name k m d ≡ asks_for m (told_name k d)
name_asked k None d = refl
name_asked k (Some m) d = text_asked m (get (name_key k) d)

pub head-may : (d : Doc) (k : Kind) (r : Rule) → told_kind d ≡ Some k
    → has_head r d ≡ may_speak k (told_name k d) r
head-may d k r h = by_bool (is_of_kind r.kind d) is_kind is_other
  where
    is_kind : is_of_kind r.kind d ≡ true → has_head r d ≡ may_speak k (told_name k d) r
    is_kind p =
        let kinds = kind_alike r.kind k d p (told_true k d h) in
        ap₂ (λ a b. a && b) (p ∙ sym kinds.0)
        (ap (λ j. has_name j r.name d) kinds.1 ∙ name_asked k r.name d)

    differs : is_of_kind r.kind d ≡ false → same_kind r.kind k ≡ true → same_kind r.kind k ≡ false
    differs p s =
        absurd (true≢false (sym (told_true k d h)
        ∙ ap (λ j. is_of_kind j d) (sym (same_is r.kind k s)) ∙ p))

    is_other : is_of_kind r.kind d ≡ false → has_head r d ≡ may_speak k (told_name k d) r
    is_other p =
        not_both (is_of_kind r.kind d) (has_name r.kind r.name d) p
        ∙ sym (not_both (same_kind r.kind k) (asks_for r.name (told_name k d))
        (by_bool (same_kind r.kind k) (differs p) (λ s. s)))

-- ---- masking by the rules that may apply

unspoken : (r : Rule) (d : Doc) → rule_applies r d ≡ false → mask_by r d ≡ d
unspoken r d h = rw h refl

unheaded : (r : Rule) (d : Doc) → has_head r d ≡ false → mask_by r d ≡ d
unheaded r d h = unspoken r d (not_both (has_head r d) (has_category r.category d) h)

unmasked : (rs : List Rule) (d : Doc) → ((r : Rule) → has_head r d ≡ false) → masked rs d ≡ d
unmasked [] d h = refl
unmasked (r ∷ rs) d h = ap (masked rs) (unheaded r d (h r)) ∙ unmasked rs d h

abbrev FiltersTo : (Rule → Bool) → List Rule → Type 0
FiltersTo p rs = (d : Doc) → ((r : Rule) → has_head r d ≡ p r) → masked (filter p rs) d
    ≡ masked rs d

filter_step : (p : Rule → Bool) (r : Rule) (rs : List Rule) (d : Doc) (b : Bool)
    → is_telling_place r.place ≡ false → ((q : Rule) → has_head q d ≡ p q) → p r ≡ b
    → FiltersTo p rs → masked (cond b (r ∷ filter p rs) (filter p rs)) d ≡ masked rs (mask_by r d)
filter_step p r rs d true t h e later =
    later (mask_by r d) (λ q. head-mask_by r q d t ∙ h q)
filter_step p r rs d false t h e later =
    later d h ∙ ap (masked rs) (sym (unheaded r d (h r ∙ e)))

masked-filter : (p : Rule → Bool) (rs : List Rule) → are_safe rs ≡ true → FiltersTo p rs
masked-filter p [] s d h = refl
masked-filter p (r ∷ rs) s d h =
    filter_step p r rs d (p r) (first_safe r rs s) h refl (masked-filter p rs (rest_safe r rs s))

masked_at-rules : (rs : List Rule) (is : List ℕ) (d : Doc)
    → masked_at rs is d ≡ masked (rules_at rs is) d
masked_at-rules rs [] d = refl
masked_at-rules rs (i ∷ is) d = go (slice_get rs i) (masked_at-rules rs is)
  where
    go : (o : Option Rule) → ((e : Doc) → masked_at rs is e ≡ masked (rules_at rs is) e)
        → masked_at rs is (masked_by o d) ≡ masked (option_to_list o ++ rules_at rs is) d
    go None later = later d
    go (Some r) later = later (mask_by r d)

pub masked_by_index : (rs : List Rule) (d : Doc) (k : Kind) → are_safe rs ≡ true
    → told_kind d ≡ Some k → masked_at rs (positions k (told_name k d) rs) d ≡ masked rs d
masked_by_index rs d k safe h =
    masked_at-rules rs (positions k (told_name k d) rs) d
    ∙ ap (λ qs. masked qs d) (at_positions k (told_name k d) [] rs)
    ∙ masked-filter (may_speak k (told_name k d)) rs safe d (λ r. head-may d k r h)

-- ---- changes by the rules that apply, which leave the category of the message

-- the rule is for the category or for any
pub category_asked : (c : Option (List ℕ)) (d : Doc)
    → has_category c d ≡ asks_for c (told_category d)
category_asked None d = refl
category_asked (Some c) d = text_asked c (at category_path d)

-- a rule applies to messages of a kind, a name and a category
module _ (r : Rule) (k : Kind) (n c : Option (List ℕ)) (d : Doc) (kind : told_kind d ≡ Some k)
    (name : told_name k d ≡ n) (category : told_category d ≡ c) where
  applies_asked : (may_speak k n r && asks_for r.category c) ≡ rule_applies r d
  applies_asked =
      ap₂ (λ a b. a && b)
      (ap (λ m. may_speak k m r) (sym name) ∙ sym (head-may d k r kind))
      (ap (asks_for r.category) (sym category) ∙ sym (category_asked r.category d))

  pub applies_if_asked : (a b : Bool) → a ≡ may_speak k n r → a ≡ true
      → b ≡ asks_for r.category c → b ≡ rule_applies r d
  applies_if_asked a b is asked same =
      same ∙ ap (λ s. s && asks_for r.category c) (sym asked ∙ is) ∙ applies_asked

  pub applies_not : (a : Bool) → a ≡ may_speak k n r → a ≡ false → a ≡ rule_applies r d
  applies_not a is other =
      other ∙ ap (λ s. s && asks_for r.category c) (sym other ∙ is) ∙ applies_asked

-- a rule that passes the test is for the category t if and only if it is for that of the document
abbrev IsAsked : (Rule → Bool) → Option (List ℕ) → Doc → Rule → Type 0
IsAsked p t d r = p r ≡ true → asks_for r.category t ≡ has_category r.category d

all_asked : (p : Rule → Bool) (d : Doc) (rs : List Rule)
    → AllByRecursion (IsAsked p (told_category d) d) rs
all_asked p d [] = tt
all_asked p d (r ∷ rs) = (λ _. sym (category_asked r.category d), all_asked p d rs)

-- a rule that changes no category by which the others apply leaves whether they apply
asked_after : (p : Rule → Bool) (t : Option (List ℕ)) (r : Rule) (qs : List Rule) (d : Doc)
    → is_telling_place r.place ≡ false → list_any (recategorises r) qs ≡ false
    → ((q : Rule) → has_head q d ≡ p q) → AllByRecursion (IsAsked p t d) qs
    → AllByRecursion (IsAsked p t (mask_by r d)) qs
asked_after p t r [] d safe apart h asked = tt
asked_after p t r (q ∷ qs) d safe apart h asked = (
  λ e. asked.0 e ∙ sym (category_after r q d safe
      (or_left (recategorises r q) (list_any (recategorises r) qs) apart) (h q ∙ e)),
  asked_after p t r qs d safe (or_right (recategorises r q) (list_any (recategorises r) qs) apart)
      h asked.1,
)

abbrev changed_all : Option (List ℕ) → List Rule → Doc → Doc
changed_all t [] d = d
changed_all t (r ∷ rs) d = changed_all t rs (changed_by t (Some r) d)

spoken : (t : Option (List ℕ)) (r : Rule) (d : Doc) → has_head r d ≡ true
    → asks_for r.category t ≡ has_category r.category d → changed_by t (Some r) d ≡ mask_by r d
spoken t r d h asked =
    ap (λ b. cond b e d) asked ∙ sym (ap (λ b. cond (b && has_category r.category d) e d) h)
  where
    e : Doc
    e = change_at_place r.place (of_verb r.verb) d

abbrev ChangesTo : Option (List ℕ) → (Rule → Bool) → List Rule → Type 0
ChangesTo t p rs = (d : Doc) → ((r : Rule) → has_head r d ≡ p r)
    → AllByRecursion (IsAsked p t d) rs → changed_all t (filter p rs) d ≡ masked rs d

change_step : (t : Option (List ℕ)) (p : Rule → Bool) (r : Rule) (rs : List Rule) (d : Doc)
    (b : Bool) → is_telling_place r.place ≡ false → list_any (recategorises r) rs ≡ false
    → ((q : Rule) → has_head q d ≡ p q) → AllByRecursion (IsAsked p t d) (r ∷ rs) → p r ≡ b
    → ChangesTo t p rs
    → changed_all t (cond b (r ∷ filter p rs) (filter p rs)) d ≡ masked rs (mask_by r d)
change_step t p r rs d true safe apart h asked e later =
    ap (changed_all t (filter p rs)) (spoken t r d (h r ∙ e) (asked.0 e))
    ∙ later (mask_by r d) (λ q. head-mask_by r q d safe ∙ h q)
    (asked_after p t r rs d safe apart h asked.1)
change_step t p r rs d false safe apart h asked e later =
    later d h asked.1 ∙ ap (masked rs) (sym (unheaded r d (h r ∙ e)))

changed-filter : (t : Option (List ℕ)) (p : Rule → Bool) (rs : List Rule) → are_safe rs ≡ true
    → ChangesTo t p rs
changed-filter t p [] s d h asked = refl
changed-filter t p (r ∷ rs) s d h asked =
    change_step t p r rs d (p r) (first_safe r rs s) (leaves_all r rs (first_apart r rs s)) h asked
    refl (changed-filter t p rs (rest_safe r rs s))

changed_at-rules : (t : Option (List ℕ)) (rs : List Rule) (is : List ℕ) (d : Doc)
    → changed_at t rs is d ≡ changed_all t (rules_at rs is) d
changed_at-rules t rs [] d = refl
changed_at-rules t rs (i ∷ is) d = go (slice_get rs i) (changed_at-rules t rs is)
  where
    go : (o : Option Rule)
        → ((e : Doc) → changed_at t rs is e ≡ changed_all t (rules_at rs is) e)
        → changed_at t rs is (changed_by t o d)
        ≡ changed_all t (option_to_list o ++ rules_at rs is) d
    go None later = later d
    go (Some r) later = later (changed_by t (Some r) d)

-- rules without a category change messages of all categories alike
one_unlimited : (t u : Option (List ℕ)) (o : Option Rule) (d : Doc) → is_limited o ≡ false
    → changed_by t o d ≡ changed_by u o d
one_unlimited t u None d h = refl
one_unlimited t u (Some r) d h = go r.category h
  where
    e : Doc
    e = change_at_place r.place (of_verb r.verb) d

    go : (c : Option (List ℕ)) → is_some c ≡ false
        → cond (asks_for c t) e d ≡ cond (asks_for c u) e d
    go None k = refl
    go (Some c) k = cc

unlimited : (t u : Option (List ℕ)) (rs : List Rule) (is : List ℕ) (d : Doc)
    → are_limited rs is ≡ false → changed_at t rs is d ≡ changed_at u rs is d
unlimited t u rs [] d h = refl
unlimited t u rs (i ∷ is) d h =
    ap (changed_at t rs is) (one_unlimited t u (slice_get rs i) d
    (or_left (is_limited (slice_get rs i)) (are_limited rs is) h))
    ∙ unlimited t u rs is (changed_by u (slice_get rs i) d)
    (or_right (is_limited (slice_get rs i)) (are_limited rs is) h)

category_enough : (rs : List Rule) (is : List ℕ) (d e : Doc)
    → changed_at (asked_category rs is d) rs is e ≡ changed_at (told_category d) rs is e
category_enough rs is d e = go (are_limited rs is) refl
  where
    go : (b : Bool) → are_limited rs is ≡ b
        → changed_at (cond b (told_category d) None) rs is e
        ≡ changed_at (told_category d) rs is e
    go true h = refl
    go false h = unlimited None (told_category d) rs is e h

pub changed_by_index : (rs : List Rule) (d : Doc) (k : Kind) → are_safe rs ≡ true
    → told_kind d ≡ Some k
    → changed_at (asked_category rs (positions k (told_name k d) rs) d) rs
    (positions k (told_name k d) rs) d ≡ masked rs d
changed_by_index rs d k safe h =
    let t = told_category d in
    let may = may_speak k (told_name k d) in
    category_enough rs (positions k (told_name k d) rs) d d
    ∙ changed_at-rules t rs (positions k (told_name k d) rs) d
    ∙ ap (λ qs. changed_all t qs d) (at_positions k (told_name k d) [] rs)
    ∙ changed-filter t may rs safe d (λ r. head-may d k r h) (all_asked may d rs)

pub masked_untold : (rs : List Rule) (d : Doc) → told_kind d ≡ None → masked rs d ≡ d
masked_untold rs d h =
    unmasked rs d (λ r. not_both (is_of_kind r.kind d) (has_name r.kind r.name d)
    (told_none d h r.kind))

-- ---- the program's rules

some_read : (o : Option (String Global)) → is_some o ≡ is_some (option_map string_bytes o)
some_read None = refl
some_read (Some s) = refl

pub limit_known : (r : MaskRule) → is_some r.category ≡ is_limited (Some (rule_of r))
limit_known r = some_read r.category

pub rule_found : (xs : List MaskRule) (i : ℕ) (r : MaskRule) → i < length xs
    → r ≡ slice_index_or xs i r → slice_get (rules_of xs) i ≡ Some (rule_of r)
rule_found [] i r h e = absurd (omega arith)
rule_found (x ∷ xs) zero r h e = ap (λ q. Some (rule_of q)) (sym e)
rule_found (x ∷ xs) (suc i) r h e = rule_found xs i r (omega arith) e

pub no_rule_found : (xs : List MaskRule) (i : ℕ) → length xs ≤ i
    → slice_get (rules_of xs) i ≡ None
no_rule_found [] i h = refl
no_rule_found (x ∷ xs) zero h = absurd (omega arith)
no_rule_found (x ∷ xs) (suc i) h = no_rule_found xs i (omega arith)

-- the rules after a rule
pub left_rules : (xs : List MaskRule) (i : ℕ) (r : MaskRule) → i < length xs
    → r ≡ slice_index_or xs i r → rules_of (drop i xs) ≡ rule_of r ∷ rules_of (drop (suc i) xs)
left_rules [] i r h e = absurd (omega arith)
left_rules (x ∷ xs) zero r h e = ap (λ q. rule_of q ∷ rules_of xs) (sym e)
left_rules (x ∷ xs) (suc i) r h e = left_rules xs i r (omega arith) e
