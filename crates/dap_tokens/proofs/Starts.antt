-- What starts at a place of a string: a name, a token of a form, or nothing.
use Rattle.std.proofs.Common.{◌≡◌, ◌⊎◌, inl, inr, ℕ, ◌≤◌, ◌==◌, Bool, true, false, cond, not, ◌&&◌}
use Rattle.std.proofs.Common.{List, [], ◌∷◌, length, Option, Some, None, is_some, refl, sym, ap}
use Rattle.std.proofs.Common.{◌∙◌, subst, arith}
use Rattle.std.specs.Char.{is_ascii_digit, is_ascii_hexdigit}
use Rattle.dap_words.specs.Digits.{goes_on_as_hex}
use Rattle.dap_words.specs.Long.{is_long}
use Rattle.dap_words.specs.Uuids.{nil_uuid, fits_at, begins_in_form, begins_uuid}
use Rattle.dap_tokens.specs.Tokens.{Labels, Token, token_at, tried, first_token, name_length}
use Rattle.dap_tokens.specs.Tokens.{token_length, starts_hex}
use Rattle.dap_tokens.specs.declared.form.Form.{Form}
use Rattle.dap_tokens.specs.declared.form.Form.TheVariants.{Whole, Digits, Hex, Long, Uuid}
use Rattle.dap_tokens.proofs.Booleans.{by_bool, and_left, and_right, no_test}
use Rattle.dap_tokens.proofs.FirstTokens.{AllSkipped, Found, Each, none, more, first_skipped}
use Rattle.dap_tokens.proofs.FirstTokens.{first_found, skipped_of, found_of, found_label}
use Rattle.dap_tokens.proofs.FirstTokens.{found_count, found_some, found_in}
use Rattle.dap_tokens.proofs.Lists.{no}
use Rattle.dap_tokens.proofs.Names.{name_unopened}
use Rattle.dap_tokens.proofs.Lengths.{name_within, token_within}
use Rattle.dap_tokens.proofs.Classes.{not_opening, not_60}

-- the length of the name with a label, for each form
abbrev pub name_counts : List ℕ → Form → List ℕ → ℕ
name_counts s form label = name_length label s

-- the length of the token of each form
abbrev pub token_counts : Bool → List ℕ → Form → List ℕ → ℕ
token_counts d s form label = token_length form d s

abbrev pub all_forms : List Form
all_forms = Digits ∷ Hex ∷ Long ∷ Uuid ∷ []

-- no name starts here
abbrev pub NoNames : Labels → List ℕ → Type 0
NoNames labels s = AllSkipped labels (name_counts s) all_forms

-- no token of a form starts here
abbrev pub NoForms : Labels → Bool → List ℕ → Type 0
NoForms labels d s = AllSkipped labels (token_counts d s) (tried labels)

-- this name starts here
abbrev pub IsName : Labels → List ℕ → Token → Type 0
IsName labels s t = Found labels (name_counts s) t all_forms

-- this token of a form starts here
abbrev pub IsForm : Labels → Bool → List ℕ → Token → Type 0
IsForm labels d s t = Found labels (token_counts d s) t (tried labels)

-- ---- in terms of `token_at`

module _ (labels : Labels) (d : Bool) (s : List ℕ) where
  abbrev form_here : Option Token
  form_here = first_token labels (token_counts d s) (tried labels) None

  pub nothing_at : NoNames labels s → NoForms labels d s → token_at labels d s ≡ None
  nothing_at h k = first_skipped labels (name_counts s) all_forms form_here h
      ∙ first_skipped labels (token_counts d s) (tried labels) None k

  pub name_here : (t : Token) → IsName labels s t → token_at labels d s ≡ Some t
  name_here t h = first_found labels (name_counts s) t all_forms form_here h

  pub form_found : (t : Token) → NoNames labels s → IsForm labels d s t
      → token_at labels d s ≡ Some t
  form_found t h k = first_skipped labels (name_counts s) all_forms form_here h
      ∙ first_found labels (token_counts d s) t (tried labels) None k

  pub nothing_of : token_at labels d s ≡ None → NoNames labels s × NoForms labels d s
  nothing_of e =
      let names = skipped_of labels (name_counts s) all_forms form_here e in
      (names.0, (skipped_of labels (token_counts d s) (tried labels) None names.1).0)

  pub token_of : (t : Token) → token_at labels d s ≡ Some t
      → IsName labels s t ⊎ (NoNames labels s × IsForm labels d s t)
  token_of t e = elim (found_of labels (name_counts s) t all_forms form_here e) [
    | inl h ↦ inl h
    | inr (h, r) ↦ elim (found_of labels (token_counts d s) t (tried labels) None r) [
      | inl k ↦ inr (h, k)
      | inr (k, z) ↦ absurd cc
    ]
  ]

-- ---- the forms that are tried

-- strings of the form are read byte by byte
abbrev pub Scans : Form → Type 0
Scans Whole = ⊥
Scans Digits = Unit {0}
Scans Hex = Unit {0}
Scans Long = Unit {0}
Scans Uuid = Unit {0}

pub scans_in : (uuids : Bool)
    → Each Scans (cond uuids (Uuid ∷ Hex ∷ Long ∷ []) (Hex ∷ Long ∷ Digits ∷ []))
scans_in true = (tt, (tt, (tt, tt)))
scans_in false = (tt, (tt, (tt, tt)))

pub scans : (labels : Labels) (d : Bool) (s : List ℕ) (t : Token) → IsForm labels d s t
    → Scans t.form
scans labels d s t h = found_in Scans labels (token_counts d s) t (tried labels)
    (scans_in (is_some (labels Uuid))) h

-- the form has tokens beside UUIDs
abbrev pub BesideUuids : Form → Type 0
BesideUuids Whole = ⊥
BesideUuids Digits = ⊥
BesideUuids Hex = Unit {0}
BesideUuids Long = Unit {0}
BesideUuids Uuid = Unit {0}

pub beside_uuids : (labels : Labels) (d : Bool) (s : List ℕ) (t : Token)
    → is_some (labels Uuid) ≡ true → IsForm labels d s t → BesideUuids t.form
beside_uuids labels d s t u h = found_in BesideUuids labels (token_counts d s) t (tried labels)
    (subst (λ b. Each BesideUuids (cond b (Uuid ∷ Hex ∷ Long ∷ []) (Hex ∷ Long ∷ Digits ∷ [])))
    (sym u) (tt, (tt, (tt, tt)))) h

-- ---- the length

pub count_some : (labels : Labels) (d : Bool) (s : List ℕ) (t : Token)
    → token_at labels d s ≡ Some t → t.count ≡ 0 → ⊥
count_some labels d s t e = elim (token_of labels d s t e) [
  | inl h ↦ found_some labels (name_counts s) t all_forms h
  | inr (h, k) ↦ found_some labels (token_counts d s) t (tried labels) k
]

pub count_within : (labels : Labels) (d : Bool) (s : List ℕ) (t : Token)
    → token_at labels d s ≡ Some t → t.count ≤ length s
count_within labels d s t e = elim (token_of labels d s t e) [
  | inl h ↦ (let same = found_count labels (name_counts s) t all_forms h in
      let bound = name_within t.label s in omega arith)
  | inr (h, k) ↦ (let same = found_count labels (token_counts d s) t (tried labels) k in
      let bound = token_within t.form d s in omega arith)
]

pub label_of : (labels : Labels) (d : Bool) (s : List ℕ) (t : Token)
    → token_at labels d s ≡ Some t → labels t.form ≡ Some t.label
label_of labels d s t e = elim (token_of labels d s t e) [
  | inl h ↦ found_label labels (name_counts s) t all_forms h
  | inr (h, k) ↦ found_label labels (token_counts d s) t (tried labels) k
]

names_scan : Each Scans all_forms
names_scan = (tt, (tt, (tt, (tt, tt))))

pub form_scans : (labels : Labels) (d : Bool) (s : List ℕ) (t : Token)
    → token_at labels d s ≡ Some t → Scans t.form
form_scans labels d s t e = elim (token_of labels d s t e) [
  | inl h ↦ found_in Scans labels (name_counts s) t all_forms names_scan h
  | inr (h, k) ↦ scans labels d s t k
]

-- ---- the first byte

pub unopened : (label : List ℕ) (b : ℕ) (u : List ℕ) → not_opening b ≡ true
    → name_length label (b ∷ u) ≡ 0
unopened label b u h = name_unopened label (b ∷ u)
    (λ rest e. let same : b ≡ 60 = cc in
    no_test (not_opening b) h (ap not_opening same))

pub no_names : (labels : Labels) (b : ℕ) (u : List ℕ) → not_opening b ≡ true
    → NoNames labels (b ∷ u)
no_names labels b u h = more (λ label e. unopened label b u h)
    (more (λ label e. unopened label b u h) (more (λ label e. unopened label b u h)
    (more (λ label e. unopened label b u h) none)))

none_long : (d : Bool) (n : ℕ) → cond (not d && false) n n ≡ n
none_long true n = refl
none_long false n = refl

pub first_byte : (form : Form) (d : Bool) (b : ℕ) (u : List ℕ) → Scans form
    → (token_length form d (b ∷ u) ≡ 0 → ⊥) → not_opening b ≡ true
first_byte Whole d b u i h = absurd i
first_byte Digits d b u i h = by_bool (is_ascii_digit b)
    (λ k. not_60 is_ascii_digit b refl k)
    (λ k. absurd (h (ap length (no is_ascii_digit b u k))))
first_byte Hex d b u i h = by_bool (not d && starts_hex (b ∷ u))
    (λ k. not_60 (λ c. c == 48) b refl (and_left (b == 48) (goes_on_as_hex u)
    (and_right (not d) (starts_hex (b ∷ u)) k)))
    (λ k. absurd (h (rw k refl)))
first_byte Long d b u i h = by_bool (is_ascii_hexdigit b)
    (λ k. not_60 is_ascii_hexdigit b refl k)
    (λ k. absurd (h (ap (λ r. cond (not d && is_long r) (length r) 0) (no is_ascii_hexdigit b u k)
    ∙ none_long d 0)))
first_byte Uuid d b u i h = by_bool (begins_uuid d (b ∷ u))
    (λ k. not_60 is_ascii_hexdigit b refl (and_left (fits_at 48 b) _
    (and_right (not d) (begins_in_form nil_uuid (b ∷ u)) k)))
    (λ k. absurd (h (rw k refl)))
