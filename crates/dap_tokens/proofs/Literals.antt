-- A literal byte is literal in the written string too.
use Rattle.std.proofs.Common.{◌≡◌, ℕ, ◌+◌, ◌==◌, Bool, true, false, cond, not, ◌&&◌, List, [], ◌∷◌}
use Rattle.std.proofs.Common.{◌++◌, length, drop, refl, sym, ap, ap₂, ◌∙◌, arith, nat_le, Some}
use Rattle.std.proofs.Common.{None, is_some}
use Rattle.std.specs.Char.{is_ascii_digit, is_ascii_hexdigit}
use Rattle.std.specs.List.{take_while}
use Rattle.std.proofs.lemmas.Bool.{eqb-true, leb-true, le-leb}
use Rattle.std.proofs.lemmas.List.{length-append}
use Rattle.dap_words.specs.Runs.{all_of, some_of}
use Rattle.dap_words.specs.Digits.{is_x, goes_on_as_hex}
use Rattle.dap_words.specs.Long.{is_long}
use Rattle.dap_words.specs.Uuids.{begins_uuid}
use Rattle.dap_tokens.specs.Tokens.{is_label, name, name_length, token_length, Labels, token_at}
use Rattle.dap_tokens.specs.Tokens.{tried, hex_run, starts_hex}
use Rattle.dap_tokens.specs.Laws.{AreLabels}
use Rattle.dap_tokens.specs.declared.form.Form.{Form}
use Rattle.dap_tokens.specs.declared.form.Form.TheVariants.{Whole, Digits, Hex, Long, Uuid}
use Rattle.dap_tokens.proofs.Booleans.{by_bool, and_left, and_right, and_both, no_test}
use Rattle.dap_tokens.proofs.Lists.{yes, no, all_taken, split}
use Rattle.dap_tokens.proofs.Names.{NameAt, name_at, name_read}
use Rattle.dap_tokens.proofs.FirstTokens.{skipped_again}
use Rattle.dap_tokens.proofs.Starts.{name_counts, token_counts, all_forms, nothing_at, nothing_of}
use Rattle.dap_tokens.proofs.Agrees.{Agree, Follows, follows_byte, same_front, uuid_in_both}
use Rattle.dap_tokens.proofs.Classes.{not_opening, name_rest, rest_not_60, not_60, all_not_60}

-- ---- names

name_in_both : {labels : Labels} {n : ℕ} {d : Bool} {s w : List ℕ} (label : List ℕ) (b : ℕ)
    → is_label label ≡ true → Agree labels n d s w → NameAt label (b ∷ w)
    → name_length label (b ∷ s) ≡ 0 → ⊥
name_in_both {s = s} {w = w} label b l a at h =
    let e = at.whole in
    let first : b ≡ 60 = cc in
    let later : w ≡ name_rest label at.number ++ at.rest = cc in
    let front = same_front (name_rest label at.number) at.rest a
    (rest_not_60 label at.number l at.numeral) later in
    let here : b ∷ s ≡ name label at.number ++ front.rest =
    ap₂ (λ x y. x ∷ y) first front.whole in
    let long = ap (name_length label) here ∙ name_read label at.number front.rest at.numeral in
    absurd (omega arith)

pub no_name : {labels : Labels} {n : ℕ} {d : Bool} {s w : List ℕ} (label : List ℕ) (b : ℕ)
    → is_label label ≡ true → Agree labels n d s w → name_length label (b ∷ s) ≡ 0
    → name_length label (b ∷ w) ≡ 0
no_name {s = s} {w = w} label b l a h = by_bool (name_length label (b ∷ w) == 0)
    (λ k. eqb-true (name_length label (b ∷ w)) 0 k)
    (λ k. absurd (name_in_both label b l a (name_at label (b ∷ w)
    (λ e. no_test (name_length label (b ∷ w) == 0) (ap (λ x. x == 0) e) k)) h))

-- ---- runs

some_append : (class : ℕ → Bool) (s t : List ℕ) → some_of class s ≡ true
    → some_of class (s ++ t) ≡ true
some_append class [] t h = absurd cc
some_append class (b ∷ s) t h = by_bool (class b)
    (λ k. rw k refl) (λ k. rw k (some_append class s t (rw k at h)))

long_append : (s t : List ℕ) → is_long s ≡ true → is_long (s ++ t) ≡ true
long_append s t h =
    let six = leb-true 6 (length s) (and_left (nat_le 6 (length s)) (some_of is_ascii_digit s) h) in
    let all = length-append s t in
    and_both (nat_le 6 (length (s ++ t))) (some_of is_ascii_digit (s ++ t))
    (le-leb 6 (length (s ++ t)) (omega arith))
    (some_append is_ascii_digit s t
    (and_right (nat_le 6 (length s)) (some_of is_ascii_digit s) h))

taken_more : (p : ℕ → Bool) (run rest : List ℕ) → all_of p run ≡ true
    → take_while p (run ++ rest) ≡ run ++ take_while p rest
taken_more p [] rest h = refl
taken_more p (b ∷ run) rest h = yes p b (run ++ rest) (and_left (p b) (all_of p run) h)
    ∙ ap (λ x. b ∷ x) (taken_more p run rest (and_right (p b) (all_of p run) h))

long_in_both : {labels : Labels} {n : ℕ} {d : Bool} {s w : List ℕ} (b : ℕ) → Agree labels n d s w
    → is_long (hex_run (b ∷ w)) ≡ true → is_long (hex_run (b ∷ s)) ≡ true
long_in_both {s = s} {w = w} b a h = by_bool (is_ascii_hexdigit b)
    (λ k. let cut = split is_ascii_hexdigit w in
    let run = hex_run w in
    let all = all_taken is_ascii_hexdigit w in
    let front = same_front run cut.rest a (all_not_60 is_ascii_hexdigit run refl all) cut.whole in
    let same : hex_run (b ∷ s) ≡ b ∷ run ++ hex_run front.rest =
    yes is_ascii_hexdigit b s k
    ∙ ap (λ x. b ∷ x) (ap hex_run front.whole
    ∙ taken_more is_ascii_hexdigit run front.rest all) in
    ap is_long same
    ∙ long_append (b ∷ run) (hex_run front.rest)
    (ap is_long (sym (yes is_ascii_hexdigit b w k)) ∙ h))
    (λ k. no_test (is_long (hex_run (b ∷ w))) h (ap is_long (no is_ascii_hexdigit b w k)))

-- ---- hexadecimal numbers

x_not_60 : (x : ℕ) → is_x x ≡ true → not_opening x ≡ true
x_not_60 x h = not_60 is_x x refl h

goes_on_in_both : {labels : Labels} {n : ℕ} {d : Bool} {s : List ℕ} (w : List ℕ)
    → Agree labels n d s w
    → goes_on_as_hex w ≡ true → goes_on_as_hex s ≡ true
goes_on_in_both [] a h = absurd cc
goes_on_in_both (x ∷ []) a h = absurd cc
goes_on_in_both {s = s} (x ∷ y ∷ w) a h =
    let one = and_left (is_x x) (is_ascii_hexdigit y) h in
    let two = and_right (is_x x) (is_ascii_hexdigit y) h in
    let clear = and_both (not_opening x) (not_opening y && true) (x_not_60 x one)
    (and_both (not_opening y) true (not_60 is_ascii_hexdigit y refl two) refl) in
    let front = same_front (x ∷ y ∷ []) w a clear refl in
    ap goes_on_as_hex front.whole ∙ h

hex_in_both : {labels : Labels} {n : ℕ} {d : Bool} {s w : List ℕ} (b : ℕ) → Agree labels n d s w
    → starts_hex (b ∷ w) ≡ true → starts_hex (b ∷ s) ≡ true
hex_in_both {s = s} {w = w} b a h = and_both (b == 48) (goes_on_as_hex s)
    (and_left (b == 48) (goes_on_as_hex w) h)
    (goes_on_in_both w a (and_right (b == 48) (goes_on_as_hex w) h))

-- ---- each form

-- what starts in the written string starts in the string
by_test : (t u : Bool) (m n : ℕ) → (t ≡ true → u ≡ true) → (u ≡ true → m ≡ 0 → ⊥)
    → cond u m 0 ≡ 0 → cond t n 0 ≡ 0
by_test false u m n f g h = refl
by_test true u m n f g h = absurd (g (f refl) (rw (f refl) at h))

pub no_token : (labels : Labels) (form : Form) (label : List ℕ) {s w : List ℕ} (d : Bool) (b : ℕ)
    → labels form ≡ Some label → Follows labels s w → token_length form d (b ∷ s) ≡ 0
    → token_length form d (b ∷ w) ≡ 0
no_token labels Whole label d b i f h = absurd (omega arith)
no_token labels Digits label {s} {w} d b i f h = by_bool (is_ascii_digit b)
    (λ k. let some = ap length (yes is_ascii_digit b s k) in absurd (omega arith))
    (λ k. ap length (no is_ascii_digit b w k))
no_token labels Hex label {s} {w} d b i f h =
    by_test (not d && starts_hex (b ∷ w)) (not d && starts_hex (b ∷ s))
    (2 + length (hex_run (drop 2 (b ∷ s)))) (2 + length (hex_run (drop 2 (b ∷ w))))
    (λ t. and_both (not d) (starts_hex (b ∷ s)) (and_left (not d) (starts_hex (b ∷ w)) t)
    (hex_in_both b f.agree (and_right (not d) (starts_hex (b ∷ w)) t)))
    (λ t z. absurd (omega arith)) h
no_token labels Long label {s} {w} d b i f h =
    by_test (not d && is_long (hex_run (b ∷ w))) (not d && is_long (hex_run (b ∷ s)))
    (length (hex_run (b ∷ s))) (length (hex_run (b ∷ w)))
    (λ t. and_both (not d) (is_long (hex_run (b ∷ s)))
    (and_left (not d) (is_long (hex_run (b ∷ w))) t)
    (long_in_both b f.agree (and_right (not d) (is_long (hex_run (b ∷ w))) t)))
    (λ t z. let run = hex_run (b ∷ s) in
    let six = leb-true 6 (length run) (and_left (nat_le 6 (length run)) (some_of is_ascii_digit run)
    (and_right (not d) (is_long run) t)) in
    absurd (omega arith)) h
no_token labels Uuid label {s} {w} d b i f h =
    by_test (begins_uuid d (b ∷ w)) (begins_uuid d (b ∷ s)) 36 36
    (uuid_in_both labels d b (ap is_some i) f) (λ t z. absurd (omega arith)) h

pub stays_literal : (labels : Labels) (d : Bool) (b : ℕ) {s w : List ℕ} → AreLabels labels
    → Agree labels 0 (is_ascii_hexdigit b) s w → token_at labels d (b ∷ s) ≡ None
    → token_at labels d (b ∷ w) ≡ None
stays_literal labels d b {s} {w} l a h =
    let nothing = nothing_of labels d (b ∷ s) h in
    nothing_at labels d (b ∷ w)
    (skipped_again labels (name_counts (b ∷ s)) (name_counts (b ∷ w)) all_forms
    (λ form label i z. no_name label b (l form label i) a z) nothing.0)
    (skipped_again labels (token_counts d (b ∷ s)) (token_counts d (b ∷ w)) (tried labels)
    (λ form label i z. no_token labels form label d b i (follows_byte b a) z) nothing.1)
