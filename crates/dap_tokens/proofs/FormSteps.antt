-- The steps of the loop that compares a text with the form of a UUID.
use Rattle.std.proofs.Common.{◌≡◌, ℕ, ◌+◌, ◌<◌, ◌≤◌, true, false, not, List, ◌∷◌, length, drop}
use Rattle.std.proofs.Common.{get_or, refl, ap, ap₂, ◌∙◌, arith}
use Rattle.std.proofs.lemmas.List.{drop_more, drop_all}
use Rattle.std.specs.Char.{is_ascii_hexdigit}
use Rattle.dap_words.specs.Runs.{begins_with}
use Rattle.dap_words.specs.Uuids.{fits_at, begins_in_form}

pub form_short : (form s : List ℕ) (i : ℕ) → i < length form → length s ≤ i
    → begins_in_form (drop i form) (drop i s) ≡ false
form_short form s i l h = ap₂ begins_in_form (drop_more form i 0 l) (drop_all i s h)

fit : (f b : ℕ) (form s : List ℕ) → fits_at f b ≡ true
    → begins_in_form (f ∷ form) (b ∷ s) ≡ begins_in_form form s
fit f b form s h = rw h refl

unfit : (f b : ℕ) (form s : List ℕ) → fits_at f b ≡ false
    → begins_in_form (f ∷ form) (b ∷ s) ≡ false
unfit f b form s h = rw h refl

pub form_unfit : (form s : List ℕ) (i : ℕ) → i < length form → i < length s
    → fits_at (get_or form i 0) (get_or s i 0) ≡ false
    → begins_in_form (drop i form) (drop i s) ≡ false
form_unfit form s i l m h =
    ap₂ begins_in_form (drop_more form i 0 l) (drop_more s i 0 m)
    ∙ unfit (get_or form i 0) (get_or s i 0) (drop (i + 1) form) (drop (i + 1) s) h

pub form_fit : (form s : List ℕ) (i : ℕ) → i < length form → i < length s
    → fits_at (get_or form i 0) (get_or s i 0) ≡ true
    → begins_in_form (drop i form) (drop i s) ≡ begins_in_form (drop (i + 1) form) (drop (i + 1) s)
form_fit form s i l m h =
    ap₂ begins_in_form (drop_more form i 0 l) (drop_more s i 0 m)
    ∙ fit (get_or form i 0) (get_or s i 0) (drop (i + 1) form) (drop (i + 1) s) h

pub form_ended : (form s : List ℕ) (i : ℕ) → length form ≡ i
    → begins_in_form (drop i form) (drop i s) ≡ not (begins_with is_ascii_hexdigit (drop i s))
form_ended form s i h =
    ap (λ f. begins_in_form f (drop i s)) (drop_all i form (omega (arith, h)))
