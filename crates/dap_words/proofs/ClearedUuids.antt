-- `uuid`: the relation and the function agree, and a second pass changes nothing.
use Rattle.std.proofs.Common.{◌≡◌, ℕ, ◌==◌, Bool, true, false, cond, not, ◌&&◌, ◌||◌, List, []}
use Rattle.std.proofs.Common.{◌∷◌, ◌++◌, drop, refl, sym, ap, ap₂, ◌∙◌, subst}
use Rattle.std.proofs.lemmas.Bool.{eqb-true}
use Rattle.std.specs.Char.{is_ascii_hexdigit}
use Rattle.dap_words.specs.Runs.{begins_with}
use Rattle.dap_words.specs.Uuids.{nil_uuid, fits_at, is_of_form, IsUuid, begins_in_form}
use Rattle.dap_words.specs.Uuids.{begins_uuid}
use Rattle.dap_words.specs.Uuids.{AreUuidsOf, at_end, other, cleared, uuid_from, uuid}
use Rattle.dap_words.proofs.Booleans.{by_bool, and_left, and_right, and_both, not_true, not_false}
use Rattle.dap_words.proofs.Booleans.{no_test}

-- ---- forms

-- a form is made of dashes and zeros
abbrev pub is_form : List ℕ → Bool
is_form [] = true
is_form (f ∷ form) = ((f == 45) || (f == 48)) && is_form form

-- the rest of a form comes next
abbrev pub begun : List ℕ → List ℕ → Bool
begun [] s = true
begun (f ∷ form) s = begins_in_form (f ∷ form) s

pub begun_rest : (f : ℕ) (form : List ℕ) (b : ℕ) (s : List ℕ)
    → begins_in_form (f ∷ form) (b ∷ s) ≡ true → begun form s ≡ true
begun_rest f [] b s h = refl
begun_rest f (g ∷ form) b s h = and_right (fits_at f b) (begins_in_form (g ∷ form) s) h

-- the texts have hexadecimal digits at the same places, and dashes
pub data Alike : List ℕ → List ℕ → Type 0 where
  none : Alike [] []
  more : {b c : ℕ} {s t : List ℕ} → is_ascii_hexdigit c ≡ is_ascii_hexdigit b
      → (c == 45) ≡ (b == 45) → Alike s t → Alike (b ∷ s) (c ∷ t)

digit_alike : {s t : List ℕ} → Alike s t
    → begins_with is_ascii_hexdigit t ≡ begins_with is_ascii_hexdigit s
digit_alike none = refl
digit_alike (more h k r) = h

form_alike : (form : List ℕ) {s t : List ℕ} → Alike s t
    → begins_in_form form t ≡ begins_in_form form s
form_alike [] r = ap not (digit_alike r)
form_alike (f ∷ form) none = refl
form_alike (f ∷ form) (more h k r) =
    ap₂ ◌&&◌ (ap₂ (λ x y. cond (f == 45) x y) k h) (form_alike form r)

begins_alike : (d : Bool) {s t : List ℕ} → Alike s t → begins_uuid d t ≡ begins_uuid d s
begins_alike d r = ap (λ x. not d && x) (form_alike nil_uuid r)

not_a_dash : (b : ℕ) → is_ascii_hexdigit b ≡ true → (b == 45) ≡ false
not_a_dash b h = by_bool (b == 45)
    (λ k. no_test (is_ascii_hexdigit b) h (ap is_ascii_hexdigit (eqb-true b 45 k))) (λ k. k)

fit_alike : (f b : ℕ) {s t : List ℕ} → ((f == 45) || (f == 48)) ≡ true → fits_at f b ≡ true
    → Alike s t → Alike (b ∷ s) (f ∷ t)
fit_alike f b i h r = by_bool (f == 45)
    (λ k. let one = eqb-true f 45 k in
    let two = eqb-true b 45 (rw k at h) in
    let same : f ≡ b = one ∙ sym two in
    more (ap is_ascii_hexdigit same) (ap (λ x. x == 45) same) r)
    (λ k. let one = eqb-true f 48 (rw k at i) in
    let digit : is_ascii_hexdigit b ≡ true = rw k at h in
    more (ap is_ascii_hexdigit one ∙ sym digit) (k ∙ sym (not_a_dash b digit)) r)

alike : (s form : List ℕ) (d : Bool) → is_form form ≡ true → begun form s ≡ true
    → Alike s (uuid_from s form d)
alike [] form d i h = none
alike (b ∷ s) (f ∷ form) d i h =
    fit_alike f b (and_left ((f == 45) || (f == 48)) (is_form form) i)
    (and_left (fits_at f b) (begins_in_form form s) h)
    (alike s form true (and_right ((f == 45) || (f == 48)) (is_form form) i)
    (begun_rest f form b s h))
alike (b ∷ s) [] d i h = by_bool (begins_uuid d (b ∷ s))
    (λ k. let form = drop 1 nil_uuid in
    let fits = and_right (not d) (begins_in_form nil_uuid (b ∷ s)) k in
    rw k (fit_alike 48 b refl (and_left (fits_at 48 b) (begins_in_form form s) fits)
    (alike s form true refl (begun_rest 48 form b s fits))))
    (λ k. rw k (more refl refl (alike s [] (is_ascii_hexdigit b) refl refl)))

-- ---- twice

uuid_again : (s form : List ℕ) (d : Bool) → is_form form ≡ true → begun form s ≡ true
    → uuid_from (uuid_from s form d) form d ≡ uuid_from s form d
uuid_again [] form d i h = refl
uuid_again (b ∷ s) (f ∷ form) d i h =
    ap (λ t. f ∷ t) (uuid_again s form true (and_right ((f == 45) || (f == 48)) (is_form form) i)
    (begun_rest f form b s h))
uuid_again (b ∷ s) [] d i h = by_bool (begins_uuid d (b ∷ s))
    (λ k. let form = drop 1 nil_uuid in
    let fits = and_right (not d) (begins_in_form nil_uuid (b ∷ s)) k in
    let rest = begun_rest 48 form b s fits in
    let now = begins_alike d (fit_alike 48 b refl
    (and_left (fits_at 48 b) (begins_in_form form s) fits)
    (alike s form true refl rest)) ∙ k in
    rw k (rw now (ap (λ t. 48 ∷ t) (uuid_again s form true refl rest))))
    (λ k. let now = begins_alike d (more {b = b} {c = b} refl refl
    (alike s [] (is_ascii_hexdigit b) refl refl)) ∙ k in
    rw k (rw now (ap (λ t. b ∷ t) (uuid_again s [] (is_ascii_hexdigit b) refl refl))))

pub uuid_twice : (s : List ℕ) → uuid (uuid s) ≡ uuid s
uuid_twice s = uuid_again s [] false refl refl

-- ---- the relation

form_found : (form id s : List ℕ) → is_of_form form id ≡ true
    → begins_with is_ascii_hexdigit s ≡ false → begins_in_form form (id ++ s) ≡ true
form_found [] [] s h e = not_false (begins_with is_ascii_hexdigit s) e
form_found [] (b ∷ id) s h e = cc
form_found (f ∷ form) [] s h e = cc
form_found (f ∷ form) (b ∷ id) s h e =
    and_both _ _ (and_left (fits_at f b) (is_of_form form id) h)
    (form_found form id s (and_right (fits_at f b) (is_of_form form id) h) e)

form_written : (form id s : List ℕ) → is_of_form form id ≡ true
    → uuid_from (id ++ s) form true ≡ form ++ uuid_from s [] true
form_written [] [] s h = refl
form_written [] (b ∷ id) s h = cc
form_written (f ∷ form) [] s h = cc
form_written (f ∷ form) (b ∷ id) s h =
    ap (λ t. f ∷ t) (form_written form id s (and_right (fits_at f b) (is_of_form form id) h))

uuid_cleared : (id s : List ℕ) → IsUuid id s
    → uuid_from (id ++ s) [] false ≡ nil_uuid ++ uuid_from s [] true
uuid_cleared [] s h = let no = h.form in cc
uuid_cleared (b ∷ id) s h =
    rw (form_found nil_uuid (b ∷ id) s h.form h.ends)
    (ap (λ t. 48 ∷ t) (form_written (drop 1 nil_uuid) id s
    (and_right (fits_at 48 b) (is_of_form (drop 1 nil_uuid) id) h.form)))

uuid_from_said : {d : Bool} {s t : List ℕ} → AreUuidsOf d s t → t ≡ uuid_from s [] d
uuid_from_said at_end = refl
uuid_from_said (other {after_digit} {b} {s} {t} h r) = rw h (ap (λ u. b ∷ u) (uuid_from_said r))
uuid_from_said (cleared {u} {s} {t} id e h r) = ap (λ x. nil_uuid ++ x) (uuid_from_said r)
    ∙ sym (uuid_cleared id s h) ∙ ap (λ x. uuid_from x [] false) (sym e)

-- the end of the form, and the relation for the rest
pub record FormEnd (form s : List ℕ) : Type 0 where
  pub id : List ℕ
  pub rest : List ℕ
  pub whole : s ≡ id ++ rest
  pub fits : is_of_form form id ≡ true
  pub ends : begins_with is_ascii_hexdigit rest ≡ false
  pub said : AreUuidsOf true rest (uuid_from rest [] true)

mutual
  uuid_said : (s : List ℕ) (d : Bool) → AreUuidsOf d s (uuid_from s [] d)
  uuid_said [] d = at_end
  uuid_said (b ∷ s) true = other refl (uuid_said s (is_ascii_hexdigit b))
  uuid_said (b ∷ s) false = by_bool (begins_in_form nil_uuid (b ∷ s))
      (λ k. let form = drop 1 nil_uuid in
      let e = form_end s form (and_right (fits_at 48 b) (begins_in_form form s) k) in
      let all : is_of_form nil_uuid (b ∷ e.id) ≡ true = and_both _ _
      (and_left (fits_at 48 b) (begins_in_form form s) k) e.fits in
      rw k (subst (λ t. AreUuidsOf false (b ∷ s) (48 ∷ t))
      (sym (ap (λ x. uuid_from x form true) e.whole ∙ form_written form e.id e.rest e.fits))
      (cleared (b ∷ e.id) (ap (λ x. b ∷ x) e.whole) (record {
        form = all;
        ends = e.ends;
      }) e.said)))
      (λ k. rw k (other k (uuid_said s (is_ascii_hexdigit b))))

  form_end : (s form : List ℕ) → begins_in_form form s ≡ true → FormEnd form s
  form_end [] [] h = record {
    id = [];
    rest = [];
    whole = refl;
    fits = refl;
    ends = refl;
    said = at_end;
  }
  form_end [] (f ∷ form) h = cc
  form_end (b ∷ s) [] h = record {
    id = [];
    rest = b ∷ s;
    whole = refl;
    fits = refl;
    ends = not_true (is_ascii_hexdigit b) h;
    said = other refl (uuid_said s (is_ascii_hexdigit b));
  }
  form_end (b ∷ s) (f ∷ form) h =
      let e = form_end s form (and_right (fits_at f b) (begins_in_form form s) h) in
      record {
        id = b ∷ e.id;
        rest = e.rest;
        whole = ap (λ x. b ∷ x) e.whole;
        fits = and_both _ _ (and_left (fits_at f b) (begins_in_form form s) h) e.fits;
        ends = e.ends;
        said = e.said;
      }

pub uuids_are : (s t : List ℕ) → (AreUuidsOf false s t → t ≡ uuid s)
    × (t ≡ uuid s → AreUuidsOf false s t)
uuids_are s t = (uuid_from_said, λ e. subst (AreUuidsOf false s) (sym e) (uuid_said s false))
