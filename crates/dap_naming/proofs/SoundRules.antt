-- Lemmas about rules: the same rules apply inside a document and its named document.
use Rattle.std.proofs.Common.{◌≡◌, ℕ, Bool, true, false, not, ◌&&◌, ◌||◌, List, [], ◌∷◌, Option}
use Rattle.std.proofs.Common.{Some}
use Rattle.std.proofs.Common.{None, Ordering, Less, Equal, Greater, nat_cmp, codes}
use Rattle.std.proofs.Common.{bytes_eq, refl, ap}
use Rattle.std.proofs.Common.{sym, ◌∙◌, true≢false}
use Rattle.std.specs.Cmp.Lexicographic.{slice_cmp}
use Rattle.std.specs.Ordering.{match_ordering}
use Rattle.std.proofs.lemmas.Map.Lookups.{exact_bytes}
use Rattle.dap_tree.specs.Doc.{Doc, null, boolean, whole, text, list, object, id}
use Rattle.dap_tree.specs.Doc.{Members, no_members, member, get_member}
use Rattle.dap_tokens.specs.Naming.{Numbering}
use Rattle.dap_mask.specs.RuleSteps.{RuleStep, named as to_member, elements, is_called}
use Rattle.dap_mask.specs.Rules.{is_for_names, leads_to_name}
use Rattle.dap_message.specs.Rows.{is_text}
use Rattle.dap_tokens.specs.{Tokens.is_label, Laws.AreLabels, Models.no_labels}
use Rattle.dap_naming.specs.Documents.{Declared, after_first, after_step}
use Rattle.dap_naming.specs.Documents.{is_here, here, is_to_member}
use Rattle.dap_naming.specs.Documents.{below, is_to_element, inside, named_doc, named_members}
use Rattle.dap_naming.specs.Documents.{are_sound}
use Rattle.dap_naming.specs.DeclaredRules.{have_labels}
use Rattle.dap_naming.proofs.Heres.{labels_here, not_first, unnamed_string}
use Rattle.dap_naming.proofs.Lists.{by_bool}

-- ---- the rules after a step are sound

first_of_none : (a b : Bool) → (a || b) ≡ false → a ≡ false
first_of_none true b e = e
first_of_none false b e = refl

second_of_none : (a b : Bool) → (a || b) ≡ false → b ≡ false
second_of_none true b e = cc
second_of_none false b e = e

pub ends-after : (place : List RuleStep) → is_for_names place ≡ false
    → is_for_names (after_first place) ≡ false
ends-after [] e = refl
ends-after (step ∷ steps) e = second_of_none (leads_to_name step steps) (is_for_names steps) e

each_is : (a b c : Bool) → (not a && (b && c)) ≡ true → (a ≡ false) × (b ≡ true) × (c ≡ true)
each_is true b c e = cc
each_is false true true e = (refl, refl, refl)
each_is false true false e = cc
each_is false false c e = cc

all_are : (a b c : Bool) → a ≡ false → b ≡ true → c ≡ true → (not a && (b && c)) ≡ true
all_are a b c p q r = rw (p, q, r) refl

-- what holds of the first rule, and of the others
pub sound_parts : (r : Declared) (rs : List Declared) → are_sound (r ∷ rs) ≡ true
    → (is_for_names r.place ≡ false) × (is_label r.label ≡ true) × (are_sound rs ≡ true)
sound_parts r rs s = each_is (is_for_names r.place) (is_label r.label) (are_sound rs) s

pub sound-after : (r : Declared) (rs : List Declared) → is_for_names r.place ≡ false
    → is_label r.label ≡ true → are_sound rs ≡ true → are_sound (after_step r ∷ rs) ≡ true
sound-after r rs e l s =
    all_are (is_for_names (after_first r.place)) (is_label r.label) (are_sound rs)
    (ends-after r.place e) l s

pub sound-below : (k : List ℕ) (rs : List Declared) → are_sound rs ≡ true
    → are_sound (below k rs) ≡ true
sound-below k [] s = refl
sound-below k (r ∷ rs) s =
    let p = sound_parts r rs s in
    let more = sound-below k rs p.2 in
    by_bool (is_to_member k r.place)
    (λ b. rw b (sound-after r (below k rs) p.0 p.1 more))
    (λ b. rw b more)

pub sound-inside : (d : Doc) (rs : List Declared) → are_sound rs ≡ true
    → are_sound (inside d rs) ≡ true
sound-inside d [] s = refl
sound-inside d (r ∷ rs) s =
    let p = sound_parts r rs s in
    let more = sound-inside d rs p.2 in
    by_bool (is_to_element d r.place)
    (λ b. rw b (sound-after r (inside d rs) p.0 p.1 more))
    (λ b. rw b more)

pub sound_labels : (rs : List Declared) → are_sound rs ≡ true → have_labels rs ≡ true
sound_labels [] s = refl
sound_labels (r ∷ rs) s = let p = sound_parts r rs s in rw (p.1, sound_labels rs p.2) refl

-- the labels of a value are valid
pub label-here : (rs : List Declared) → are_sound rs ≡ true → AreLabels (here rs)
label-here rs s = labels_here rs (sound_labels rs s)

-- ---- no rule is for the `name` of an element

not_here : (d : Doc) (place : List RuleStep) → is_to_element d place ≡ true
    → is_to_member (codes "name") (after_first place) ≡ true → is_for_names place ≡ false
    → is_here (after_first (after_first place)) ≡ false
not_here d [] p q e = cc
not_here d (to_member k ∷ steps) p q e = cc
not_here d (elements n ∷ []) p q e = cc
not_here d (elements n ∷ elements m ∷ steps) p q e = cc
not_here d (elements n ∷ to_member k ∷ []) p q e =
    absurd (true≢false (sym q ∙ first_of_none (bytes_eq (codes "name") k) false e))
not_here d (elements n ∷ to_member k ∷ step ∷ steps) p q e = refl

pub no_name : (d : Doc) (rs : List Declared) → are_sound rs ≡ true
    → here (below (codes "name") (inside d rs)) ≡ no_labels
no_name d [] s = refl
no_name d (r ∷ rs) s =
    let p = sound_parts r rs s in
    let more = no_name d rs p.2 in
    by_bool (is_to_element d r.place)
    (λ b. rw b (by_bool (is_to_member (codes "name") (after_first r.place))
    (λ c. rw c (not_first (after_step (after_step r)) (below (codes "name") (inside d rs))
    (not_here d r.place b c p.0) ∙ more))
    (λ c. rw c more)))
    (λ b. rw b more)

-- ---- an element keeps its `name`

pub text-kept : (rs : List Declared) (number : Numbering) (n : List ℕ) (d : Doc)
    → here rs ≡ no_labels
    → is_text n (Some (named_doc rs number d)) ≡ is_text n (Some d)
text-kept rs number n null h = refl
text-kept rs number n (boolean b) h = refl
text-kept rs number n (whole z) h = refl
text-kept rs number n (text s) h = ap (bytes_eq n) (unnamed_string rs number s h)
text-kept rs number n (list ds) h = refl
text-kept rs number n (object ms) h = refl
text-kept rs number n (id sort z) h = refl

member-kept : (o : Ordering) (n : List ℕ) (a b c d : Option Doc) → is_text n a ≡ is_text n c
    → (o ≡ Equal → is_text n b ≡ is_text n d)
    → is_text n (match_ordering o a b a) ≡ is_text n (match_ordering o c d c)
member-kept Less n a b c d p q = p
member-kept Equal n a b c d p q = q refl
member-kept Greater n a b c d p q = p

members-kept : (rs : List Declared) (number : Numbering) (n : List ℕ) (ms : Members)
    → here (below (codes "name") rs) ≡ no_labels
    → is_text n (get_member (codes "name") (named_members rs number ms))
    ≡ is_text n (get_member (codes "name") ms)
members-kept rs number n no_members h = refl
members-kept rs number n (member l e ms) h =
    member-kept (slice_cmp nat_cmp (codes "name") l) n _ _ _ _ (members-kept rs number n ms h)
    (λ same. text-kept (below l rs) number n e
    (ap (λ k. here (below k rs)) (sym (exact_bytes (codes "name") l same)) ∙ h))

pub called-kept : (rs : List Declared) (number : Numbering) (d : Doc) (n : Option (List ℕ))
    → here (below (codes "name") rs) ≡ no_labels
    → is_called n (Some (named_doc rs number d)) ≡ is_called n (Some d)
called-kept rs number d None h = refl
called-kept rs number null (Some n) h = refl
called-kept rs number (boolean b) (Some n) h = refl
called-kept rs number (whole z) (Some n) h = refl
called-kept rs number (text s) (Some n) h = refl
called-kept rs number (list ds) (Some n) h = refl
called-kept rs number (object ms) (Some n) h = members-kept rs number n ms h
called-kept rs number (id sort z) (Some n) h = refl

-- ---- so the same rules apply to it

element-same : (d e : Doc) (place : List RuleStep)
    → ((n : Option (List ℕ)) → is_called n (Some d) ≡ is_called n (Some e))
    → is_to_element d place ≡ is_to_element e place
element-same d e [] h = refl
element-same d e (to_member k ∷ steps) h = refl
element-same d e (elements n ∷ steps) h = h n

pub inside-same : (d e : Doc) (rs : List Declared)
    → ((n : Option (List ℕ)) → is_called n (Some d) ≡ is_called n (Some e))
    → inside d rs ≡ inside e rs
inside-same d e [] h = refl
inside-same d e (r ∷ rs) h = rw (element-same d e r.place h, inside-same d e rs h) refl

pub inside-named : (rs : List Declared) (number : Numbering) (d : Doc) → are_sound rs ≡ true
    → inside (named_doc (inside d rs) number d) rs ≡ inside d rs
inside-named rs number d s =
    inside-same _ d rs (λ n. called-kept (inside d rs) number d n (no_name d rs s))
