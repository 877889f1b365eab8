-- The places of the declarations that apply to a message, and the members of a named document. No
-- declaration changes a member by which rules and rows apply to a message.
use Rattle.std.proofs.Common.{◌≡◌, ℕ, Bool, true, false, cond, not, ◌&&◌, List, [], ◌∷◌, Option}
use Rattle.std.proofs.Common.{Some, None, option_map, option_and_then, Ordering, Less, Equal}
use Rattle.std.proofs.Common.{Greater, nat_cmp, codes, bytes_eq, refl, ap, ap₂, sym, ◌∙◌}
use Rattle.std.proofs.Common.{true≢false}
use Rattle.std.specs.Cmp.Lexicographic.{slice_cmp}
use Rattle.std.specs.Ordering.{match_ordering}
use Rattle.std.proofs.lemmas.Map.Lookups.{exact_bytes}
use Rattle.std.proofs.lemmas.Slice.Eq.{bytes_eq-Decides}
use Rattle.dap_tree.specs.Doc.{Doc, null, boolean, whole, text, list, object, id}
use Rattle.dap_tree.specs.Doc.{Members, no_members, member, get_member, get}
use Rattle.dap_tree.specs.Path.{name as child, at}
use Rattle.dap_tree.proofs.Booleans.{and_left, or_left, or_right}
use Rattle.dap_profile.specs.PlaceSteps.{PlaceStep, named, each}
use Rattle.dap_profile.specs.declared.profile.Kind.{Kind}
use Rattle.dap_profile.specs.declared.profile.Kind.TheVariants.{Request, Response, Event}
use Rattle.dap_message.specs.Rows.{is_text, is_true, row_applies, may_have_body, type_name}
use Rattle.dap_message.specs.Rows.{name_key}
use Rattle.dap_message.proofs.RowMarks.{one_step}
use Rattle.dap_tokens.specs.Naming.{Numbering}
use Rattle.dap_mask.specs.RuleSteps.{RuleStep, named as to_member, elements, plain_place}
use Rattle.dap_mask.specs.Rules.{Rule, rule_applies, has_name, has_category, category_path}
use Rattle.dap_mask.specs.Rules.{is_telling, is_telling_place, same_place, body_place}
use Rattle.dap_mask.specs.Rules.{category_place, is_for_names, plain_place_of}
use Rattle.dap_mask.specs.Declarations.{Declaration, is_own_label, is_sort_word, is_misdeclared}
use Rattle.dap_mask.specs.Declarations.{is_of_category, are_declared}
use Rattle.dap_mask.specs.Ids.{takes_profile_id}
use Rattle.dap_tokens.specs.{Tokens.is_label, Models.no_labels}
use Rattle.dap_naming.specs.Documents.{Declared, after_first, is_here, here}
use Rattle.dap_naming.specs.Documents.{is_to_member, below, is_to_element, inside, named_doc}
use Rattle.dap_naming.specs.Documents.{named_members, are_sound}
use Rattle.dap_naming.specs.Sessions.{declared_by, rules_for}
use Rattle.dap_naming.specs.SessionLaws.{NamesKeepRules}
use Rattle.dap_naming.proofs.Lists.{by_bool}
use Rattle.dap_naming.proofs.Heres.{not_first}
use Rattle.dap_naming.proofs.SoundRules.{text-kept}

-- ---- the members of a named document

found : (o : Ordering) (rs : List Declared) (number : Numbering) (k l : List ℕ) (e : Doc)
    (a b : Option Doc) → slice_cmp nat_cmp k l ≡ o
    → a ≡ option_map (named_doc (below k rs) number) b
    → match_ordering o a (Some (named_doc (below l rs) number e)) a
    ≡ option_map (named_doc (below k rs) number) (match_ordering o b (Some e) b)
found Less rs number k l e a b is h = h
found Equal rs number k l e a b is h =
    ap (λ j. Some (named_doc (below j rs) number e)) (sym (exact_bytes k l is))
found Greater rs number k l e a b is h = h

pub get_member-named : (rs : List Declared) (number : Numbering) (k : List ℕ) (ms : Members)
    → get_member k (named_members rs number ms)
    ≡ option_map (named_doc (below k rs) number) (get_member k ms)
get_member-named rs number k no_members = refl
get_member-named rs number k (member l e ms) =
    found (slice_cmp nat_cmp k l) rs number k l e _ _ refl (get_member-named rs number k ms)

pub get-named : (rs : List Declared) (number : Numbering) (k : List ℕ) (d : Doc)
    → get k (named_doc rs number d) ≡ option_map (named_doc (below k rs) number) (get k d)
get-named rs number k null = refl
get-named rs number k (boolean b) = refl
get-named rs number k (whole z) = refl
get-named rs number k (text s) = refl
get-named rs number k (list ds) = refl
get-named rs number k (object ms) = get_member-named rs number k ms
get-named rs number k (id s z) = refl

pub text-option : (rs : List Declared) (number : Numbering) (w : List ℕ) (o : Option Doc)
    → here rs ≡ no_labels → is_text w (option_map (named_doc rs number) o) ≡ is_text w o
text-option rs number w None h = refl
text-option rs number w (Some d) h = text-kept rs number w d h

true-option : (rs : List Declared) (number : Numbering) (o : Option Doc)
    → is_true (option_map (named_doc rs number) o) ≡ is_true o
true-option rs number None = refl
true-option rs number (Some null) = refl
true-option rs number (Some (boolean b)) = refl
true-option rs number (Some (whole z)) = refl
true-option rs number (Some (text s)) = refl
true-option rs number (Some (list ds)) = refl
true-option rs number (Some (object ms)) = refl
true-option rs number (Some (id s z)) = refl

category-option : (rs : List Declared) (number : Numbering) (w : List ℕ) (o : Option Doc)
    → here (below (codes "category") rs) ≡ no_labels
    → is_text w
    (option_and_then (at (child (codes "category") ∷ [])) (option_map (named_doc rs number) o))
    ≡ is_text w (option_and_then (at (child (codes "category") ∷ [])) o)
category-option rs number w None h = refl
category-option rs number w (Some e) h =
    ap (is_text w) (one_step (codes "category") (named_doc rs number e))
    ∙ (ap (is_text w) (get-named rs number (codes "category") e)
    ∙ (text-option (below (codes "category") rs) number w (get (codes "category") e) h
    ∙ ap (is_text w) (sym (one_step (codes "category") e))))

-- ---- rules that avoid a place

-- no rule has this place
abbrev pub Avoid : List PlaceStep → List Declared → Type 0
Avoid ps [] = Unit {0}
Avoid ps (r ∷ rs) = (same_place (plain_place r.place) ps ≡ false) × Avoid ps rs

not_here : (place : List RuleStep) → same_place (plain_place place) [] ≡ false
    → is_here place ≡ false
not_here [] h = cc
not_here (step ∷ steps) h = refl

pub nothing_here : (rs : List Declared) → Avoid [] rs → here rs ≡ no_labels
nothing_here [] a = refl
nothing_here (r ∷ rs) a = not_first r rs (not_here r.place a.0) ∙ nothing_here rs a.1

same_bytes : (k l : List ℕ) → bytes_eq k l ≡ true → bytes_eq l k ≡ true
same_bytes k l e = (bytes_eq-Decides l k).1 (sym ((bytes_eq-Decides k l).0 e))

last_of : (a b : Bool) → a ≡ true → (a && b) ≡ false → b ≡ false
last_of true b e h = h
last_of false b e h = cc

after_member : (k : List ℕ) (ps : List PlaceStep) (place : List RuleStep)
    → is_to_member k place ≡ true → same_place (plain_place place) (named k ∷ ps) ≡ false
    → same_place (plain_place (after_first place)) ps ≡ false
after_member k ps [] e h = cc
after_member k ps (to_member l ∷ steps) e h =
    last_of (bytes_eq l k) (same_place (plain_place steps) ps) (same_bytes k l e) h
after_member k ps (elements n ∷ steps) e h = cc

pub avoid-below : (k : List ℕ) (ps : List PlaceStep) (rs : List Declared) → Avoid (named k ∷ ps) rs
    → Avoid ps (below k rs)
avoid-below k ps [] a = tt
avoid-below k ps (r ∷ rs) a =
    let more = avoid-below k ps rs a.1 in
    by_bool (is_to_member k r.place)
    (λ b. rw b (after_member k ps r.place b a.0, more))
    (λ b. rw b more)

after_element : (d : Doc) (ps : List PlaceStep) (place : List RuleStep)
    → is_to_element d place ≡ true → same_place (plain_place place) (each ∷ ps) ≡ false
    → same_place (plain_place (after_first place)) ps ≡ false
after_element d ps [] e h = cc
after_element d ps (to_member l ∷ steps) e h = cc
after_element d ps (elements n ∷ steps) e h = h

pub avoid-inside : (d : Doc) (ps : List PlaceStep) (rs : List Declared) → Avoid (each ∷ ps) rs
    → Avoid ps (inside d rs)
avoid-inside d ps [] a = tt
avoid-inside d ps (r ∷ rs) a =
    let more = avoid-inside d ps rs a.1 in
    by_bool (is_to_element d r.place)
    (λ b. rw b (after_element d ps r.place b a.0, more))
    (λ b. rw b more)

-- ---- the places of declarations

parts_are : (a b c : Bool) → (a && (not b && c)) ≡ true → (a ≡ true) × (b ≡ false) × (c ≡ true)
parts_are true false true e = (refl, refl, refl)
parts_are true false false e = cc
parts_are true true c e = cc
parts_are false b c e = cc

declared_parts : (x : Declaration) (xs : List Declaration) → are_declared (x ∷ xs) ≡ true
    → (is_own_label x.label ≡ true) × (is_misdeclared x.rule ≡ false) × (are_declared xs ≡ true)
declared_parts x xs h = parts_are (is_own_label x.label) (is_misdeclared x.rule) (are_declared xs) h

-- a declaration has none of the places that a mask excludes
abbrev pub Placed : Rule → Type 0
Placed r =
    (is_telling_place r.place ≡ false) × (is_for_names r.place ≡ false)
    × (is_of_category r ≡ false) × (takes_profile_id r ≡ false)

pub placed : (r : Rule) → is_misdeclared r ≡ false → Placed r
placed r h =
    let more = or_right (is_telling_place r.place) _ h in
    let last = or_right (is_for_names r.place) _ more in (
      or_left (is_telling_place r.place) _ h,
      or_left (is_for_names r.place) _ more,
      or_left (is_of_category r) _ last,
      or_right (is_of_category r) _ last,
    )

-- the rules for a message avoid a place if each declaration that applies to it does
pub avoid_for : (ps : List PlaceStep) (d : Doc)
    → ((r : Rule) → Placed r → rule_applies r d ≡ true
    → same_place (plain_place r.place) ps ≡ false)
    → (xs : List Declaration) → are_declared xs ≡ true → Avoid ps (rules_for xs d)
avoid_for ps d free [] h = tt
avoid_for ps d free (x ∷ xs) h =
    let p = declared_parts x xs h in
    let more = avoid_for ps d free xs p.2 in
    by_bool (rule_applies x.rule d)
    (λ b. rw b (free x.rule (placed x.rule p.1) b, more))
    (λ b. rw b more)

off : (b : Bool) → (b && false) ≡ false
off true = refl
off false = refl

apart_telling : (place : List RuleStep) (k : List ℕ) → is_telling_place place ≡ false
    → is_telling k ≡ true → same_place (plain_place place) (named k ∷ []) ≡ false
apart_telling [] k h t = refl
apart_telling (to_member j ∷ []) k h t =
    by_bool (bytes_eq j k)
    (λ e. absurd (true≢false (sym t
    ∙ (ap is_telling (sym ((bytes_eq-Decides j k).0 e)) ∙ h))))
    (λ e. rw e refl)
apart_telling (to_member j ∷ step ∷ steps) k h t = off (bytes_eq j k)
apart_telling (elements n ∷ steps) k h t = refl

-- ---- the rules for a message are sound

sound_first : (a b c : Bool) → a ≡ false → b ≡ true → c ≡ true → (not a && (b && c)) ≡ true
sound_first a b c p q r = rw (p, q, r) refl

pub sound_for : (xs : List Declaration) (d : Doc) → are_declared xs ≡ true
    → are_sound (rules_for xs d) ≡ true
sound_for [] d h = refl
sound_for (x ∷ xs) d h =
    let p = declared_parts x xs h in
    let more = sound_for xs d p.2 in
    by_bool (rule_applies x.rule d)
    (λ b. rw b (sound_first (is_for_names x.rule.place) (is_label x.label)
    (are_sound (rules_for xs d)) (placed x.rule p.1).1
    (and_left (is_label x.label) (not (is_sort_word x.label)) p.0) more))
    (λ b. rw b more)

-- ---- the members by which rules and rows apply

-- both documents have the same strings by which rules and rows apply to a message
pub record Reads (e d : Doc) : Type 0 where
  pub text : (w k : List ℕ) → is_telling k ≡ true → is_text w (get k e) ≡ is_text w (get k d)
  pub category : (w : List ℕ) → is_text w (at category_path e) ≡ is_text w (at category_path d)

telling_key : (k : Kind) → is_telling (name_key k) ≡ true
telling_key Request = refl
telling_key Response = refl
telling_key Event = refl

module _ (e d : Doc) (same : Reads e d) where
  name_alike : (k : Kind) (n : Option (List ℕ)) → has_name k n e ≡ has_name k n d
  name_alike k None = refl
  name_alike k (Some n) = same.text n (name_key k) (telling_key k)

  category_alike : (c : Option (List ℕ)) → has_category c e ≡ has_category c d
  category_alike None = refl
  category_alike (Some c) = same.category c

  pub kind_alike : (k : Kind)
      → is_text (type_name k) (get (codes "type") e) ≡ is_text (type_name k) (get (codes "type") d)
  kind_alike k = same.text (type_name k) (codes "type") refl

  pub rule_alike : (r : Rule) → rule_applies r e ≡ rule_applies r d
  rule_alike r =
      ap₂ (λ a b. a && b)
      (ap₂ (λ a b. a && b) (kind_alike r.kind) (name_alike r.kind r.name))
      (category_alike r.category)

  body_alike : is_true (get (codes "success") e) ≡ is_true (get (codes "success") d) → (k : Kind)
      → may_have_body k e ≡ may_have_body k d
  body_alike good Request = refl
  body_alike good Response = good
  body_alike good Event = refl

  pub row_alike : is_true (get (codes "success") e) ≡ is_true (get (codes "success") d)
      → (k : Option Kind) (n : Option (List ℕ)) → row_applies k n e ≡ row_applies k n d
  row_alike good None n = refl
  row_alike good (Some k) None = kind_alike k
  row_alike good (Some k) (Some n) =
      ap₂ (λ a b. a && b)
      (ap₂ (λ a b. a && b) (kind_alike k) (same.text n (name_key k) (telling_key k)))
      (body_alike good k)

  pub rules_alike : (xs : List Declaration) → rules_for xs e ≡ rules_for xs d
  rules_alike [] = refl
  rules_alike (x ∷ xs) =
      ap₂ (λ b rs. cond b (declared_by x ∷ rs) rs) (rule_alike x.rule) (rules_alike xs)

-- ---- names keep these members

pub named_reads : (xs : List Declaration) (number : Numbering) (d : Doc) → are_declared xs ≡ true
    → Reads (named_doc (rules_for xs d) number d) d
named_reads xs number d h =
    let rs = rules_for xs d in
    record {
      text = λ w k t. ap (is_text w) (get-named rs number k d)
          ∙ text-option (below k rs) number w (get k d)
          (nothing_here (below k rs) (avoid-below k [] rs
          (avoid_for (named k ∷ []) d (λ r p a. apart_telling r.place k p.0 t) xs h)));
      category = λ w.
          ap (λ o. is_text w (option_and_then (at (child (codes "category") ∷ [])) o))
          (get-named rs number (codes "body") d)
          ∙ category-option (below (codes "body") rs) number w (get (codes "body") d)
          (nothing_here _ (avoid-below (codes "category") [] _
          (avoid-below (codes "body") (named (codes "category") ∷ []) rs
          (avoid_for category_place d
          (λ r p a. or_right (same_place (plain_place_of r) body_place) _ p.2) xs h))));
    }

named_yes : (xs : List Declaration) (number : Numbering) (d : Doc)
    → is_true (get (codes "success") (named_doc (rules_for xs d) number d))
    ≡ is_true (get (codes "success") d)
named_yes xs number d =
    ap is_true (get-named (rules_for xs d) number (codes "success") d)
    ∙ true-option (below (codes "success") (rules_for xs d)) number (get (codes "success") d)

-- the same rows apply to a named message
pub row_of_named : (xs : List Declaration) (number : Numbering) (d : Doc) → are_declared xs ≡ true
    → (k : Option Kind) (n : Option (List ℕ))
    → row_applies k n (named_doc (rules_for xs d) number d) ≡ row_applies k n d
row_of_named xs number d h =
    row_alike _ d (named_reads xs number d h) (named_yes xs number d)

pub names_keep_rules : NamesKeepRules
names_keep_rules xs number d h = rules_alike _ d (named_reads xs number d h) xs
