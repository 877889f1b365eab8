-- `long`: the relation and the function agree, and a second pass changes nothing.
use Rattle.std.proofs.Common.{◌≡◌, ℕ, Bool, true, false, List, [], ◌∷◌, ◌++◌}
use Rattle.std.proofs.Common.{refl, sym, ap, ◌∙◌, subst, append_assoc, append-nil}
use Rattle.std.specs.Char.{is_ascii_hexdigit}
use Rattle.dap_words.specs.Runs.{all_of, begins_with}
use Rattle.dap_words.specs.Long.{is_long, shortened, AreLongOf, at_end, other, hex_run, long_from}
use Rattle.dap_words.specs.Long.{long}
use Rattle.dap_words.proofs.Booleans.{by_bool, and_left, and_right, and_both}

-- ---- runs

pub all_append : (class : ℕ → Bool) (s t : List ℕ) → all_of class s ≡ true → all_of class t ≡ true
    → all_of class (s ++ t) ≡ true
all_append class [] t h k = k
all_append class (b ∷ s) t h k = and_both _ _ (and_left (class b) (all_of class s) h)
    (all_append class s t (and_right (class b) (all_of class s) h) k)

pub all_more : (ds : List ℕ) (b : ℕ) → all_of is_ascii_hexdigit ds ≡ true → is_ascii_hexdigit b
    ≡ true → all_of is_ascii_hexdigit (ds ++ b ∷ []) ≡ true
all_more ds b h k = all_append is_ascii_hexdigit ds (b ∷ []) h (and_both _ _ k refl)

-- hexadecimal digits extend the run
pub run_goes_on : (ds more s : List ℕ) → all_of is_ascii_hexdigit more ≡ true
    → long_from ds (more ++ s) ≡ long_from (ds ++ more) s
run_goes_on ds [] s h = ap (λ r. long_from r s) (sym (append-nil ds))
run_goes_on ds (b ∷ more) s h =
    rw (and_left (is_ascii_hexdigit b) (all_of is_ascii_hexdigit more) h)
    (run_goes_on (ds ++ b ∷ []) more s
    (and_right (is_ascii_hexdigit b) (all_of is_ascii_hexdigit more) h)
    ∙ ap (λ r. long_from r s) (append_assoc ds (b ∷ []) more))

-- any other byte ends it
pub run_ends : (ds : List ℕ) (b : ℕ) (s : List ℕ) → is_ascii_hexdigit b ≡ false
    → long_from ds (b ∷ s) ≡ shortened ds ++ b ∷ long s
run_ends ds b s h = rw h refl

pub all_shortened : (ds : List ℕ) → all_of is_ascii_hexdigit ds ≡ true
    → all_of is_ascii_hexdigit (shortened ds) ≡ true
all_shortened ds h = by_bool (is_long ds) (λ k. rw k refl) (λ k. rw k h)

pub shortened_twice : (ds : List ℕ) → shortened (shortened ds) ≡ shortened ds
shortened_twice ds = by_bool (is_long ds) (λ k. rw k refl) (λ k. rw (k, k) refl)

-- ---- twice

shortened_run : (ds s : List ℕ) → all_of is_ascii_hexdigit ds ≡ true
    → long_from [] (shortened ds ++ s) ≡ long_from (shortened ds) s
shortened_run ds s h = run_goes_on [] (shortened ds) s (all_shortened ds h)

long_again : (ds s : List ℕ) → all_of is_ascii_hexdigit ds ≡ true
    → long_from [] (long_from ds s) ≡ long_from ds s
long_again ds [] h = ap (λ r. long_from [] r) (sym (append-nil (shortened ds)))
    ∙ shortened_run ds [] h ∙ shortened_twice ds
long_again ds (b ∷ s) h = by_bool (is_ascii_hexdigit b)
    (λ k. rw k (long_again (ds ++ b ∷ []) s (all_more ds b h k)))
    (λ k. let rest = long_from [] s in
    rw k (shortened_run ds (b ∷ rest) h ∙ run_ends (shortened ds) b rest k
    ∙ ap (λ r. r ++ b ∷ long_from [] rest) (shortened_twice ds)
    ∙ ap (λ t. shortened ds ++ b ∷ t) (long_again [] s refl)))

pub long_twice : (s : List ℕ) → long (long s) ≡ long s
long_twice s = long_again [] s refl

-- ---- the relation

rest_shortened : (ds s : List ℕ) → begins_with is_ascii_hexdigit s ≡ false
    → long_from ds s ≡ shortened ds ++ long s
rest_shortened ds [] h = sym (append-nil (shortened ds))
rest_shortened ds (b ∷ s) h = run_ends ds b s h
    ∙ ap (λ t. shortened ds ++ t) (sym (run_ends [] b s h))

long_from_said : {s t : List ℕ} → AreLongOf s t → t ≡ long s
long_from_said at_end = refl
long_from_said (other {b} {s} {t} h r) = ap (λ u. b ∷ u) (long_from_said r)
    ∙ sym (run_ends [] b s h)
long_from_said (hex_run {u} {s} {t} ds e h r) = ap (λ x. shortened ds ++ x) (long_from_said r)
    ∙ sym (run_goes_on [] ds s h.all ∙ rest_shortened ds s h.ends) ∙ ap long (sym e)

run_said : (ds s t : List ℕ) → all_of is_ascii_hexdigit ds ≡ true
    → begins_with is_ascii_hexdigit s ≡ false → AreLongOf s t
    → AreLongOf (ds ++ s) (shortened ds ++ t)
run_said [] s t h e r = r
run_said (b ∷ ds) s t h e r = hex_run (b ∷ ds) refl (record {
  some = and_left (is_ascii_hexdigit b) (all_of is_ascii_hexdigit ds) h;
  all = h;
  ends = e;
}) r

said_from : (ds s : List ℕ) → all_of is_ascii_hexdigit ds ≡ true
    → AreLongOf (ds ++ s) (long_from ds s)
said_from ds [] h = subst (AreLongOf (ds ++ [])) (append-nil (shortened ds))
    (run_said ds [] [] h refl at_end)
said_from ds (b ∷ s) h = by_bool (is_ascii_hexdigit b)
    (λ k. rw k (subst (λ u. AreLongOf u (long_from (ds ++ b ∷ []) s)) (append_assoc ds (b ∷ []) s)
    (said_from (ds ++ b ∷ []) s (all_more ds b h k))))
    (λ k. rw k (run_said ds (b ∷ s) (b ∷ long s) h k (other k (said_from [] s refl))))

pub long_are : (s t : List ℕ) → (AreLongOf s t → t ≡ long s) × (t ≡ long s → AreLongOf s t)
long_are s t = (long_from_said, λ e. subst (AreLongOf s) (sym e) (said_from [] s refl))
