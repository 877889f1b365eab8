-- The actions that change a value, step by step: only `blank` changes a text without decimal digits
-- and dashes. Source: own.
use Rattle.std.proofs.Common.{◌≡◌, ℕ, Bool, true, false, ◌||◌, not, if◌then◌else◌, eqb, bit_or}
use Rattle.std.proofs.Common.{List, [], ◌∷◌, ◌++◌, length, String, bytes_eq, refl, sym, ◌∙◌, ap}
use Rattle.std.proofs.Common.{append-nil, append_assoc, arith}
use Rattle.std.specs.{Char.{is_ascii_digit, is_ascii_hexdigit}, List.list_any}
use Rattle.std.specs.declared.alloc.Global.{Global}
use Rattle.std.proofs.lemmas.Bool.{and_from, and_right, eq-eqb, eqb-true, false_from_ne_true}
use Rattle.std.proofs.lemmas.Bool.{false≢true, ne_eqb, not_from_true, or_from, or_parts, true≢false}
use Rattle.dap_tree.specs.Doc.{text, list, object}
use Rattle.dap_tree.specs.View.{items_view, members_view}
use Rattle.dap_tree.specs.declared.tree.Tree.{Tree}
use Rattle.dap_words.specs.{Digits.{digits, digits_from, hex}, Long.{long, long_from, is_long}}
use Rattle.dap_words.specs.{Runs.some_of, Uuids.{begins_in_form, nil_uuid, uuid, uuid_from}}
use Rattle.dap_mask.specs.declared.rules.Verb.TheVariants.{Blank, Digits, Hex, Long, Uuid}
use Rattle.dap_suggest.specs.Hidden.{actions_of, is_changed, is_digit_or_dash}

abbrev IsPlain : List ℕ → Type 0
IsPlain s = list_any is_digit_or_dash s ≡ false

-- ---- the first byte of such a text, and the rest

module _ (b : ℕ) (s : List ℕ) (plain : IsPlain (b ∷ s)) where
  first : is_digit_or_dash b ≡ false
  first = (or_parts (is_digit_or_dash b) (list_any is_digit_or_dash s) plain).0

  rest : IsPlain s
  rest = (or_parts (is_digit_or_dash b) (list_any is_digit_or_dash s) plain).1

  no_digit : is_ascii_digit b ≡ false
  no_digit = (or_parts (is_ascii_digit b) (eqb b 45) first).0

  no_dash : eqb b 45 ≡ false
  no_dash = (or_parts (is_ascii_digit b) (eqb b 45) first).1

  no_zero : eqb b 48 ≡ false
  no_zero = false_from_ne_true (eqb b 48)
      (λ zero. true≢false (sym (ap is_ascii_digit (eqb-true b 48 zero)) ∙ no_digit))

-- ---- what the actions make of it

same_digits : (s : List ℕ) (inside : Bool) → IsPlain s → digits_from inside s ≡ s
same_digits [] inside plain = refl
same_digits (b ∷ s) inside plain =
    rw (no_digit b s plain) (ap (λ t. b ∷ t) (same_digits s false (rest b s plain)))

same_hex : (s : List ℕ) → IsPlain s → hex s ≡ s
same_hex [] plain = refl
same_hex (b ∷ s) plain = rw (no_zero b s plain) (ap (λ t. b ∷ t) (same_hex s (rest b s plain)))

no_long : (run : List ℕ) → some_of is_ascii_digit run ≡ false → is_long run ≡ false
no_long run none = and_right _ (some_of is_ascii_digit run) none

none_more : (run : List ℕ) (b : ℕ) → some_of is_ascii_digit run ≡ false → is_ascii_digit b ≡ false
    → some_of is_ascii_digit (run ++ b ∷ []) ≡ false
none_more [] b none digit = or_from (is_ascii_digit b) false digit refl
none_more (c ∷ run) b none digit =
    let parts = or_parts (is_ascii_digit c) (some_of is_ascii_digit run) none in
    or_from (is_ascii_digit c) _ parts.0 (none_more run b parts.1 digit)

-- `run` is hexadecimal digits before the text, none of them decimal.
same_long : (s run : List ℕ) → some_of is_ascii_digit run ≡ false → IsPlain s
    → long_from run s ≡ run ++ s
same_long [] run none plain = rw (no_long run none) (sym (append-nil run))
same_long (b ∷ s) run none plain =
    let more = same_long s (run ++ b ∷ []) (none_more run b none (no_digit b s plain))
    (rest b s plain) ∙ append_assoc run (b ∷ []) s in
    let again = same_long s [] refl (rest b s plain) in
    go (is_ascii_hexdigit b) refl more again
  where
    go : (is_hex : Bool) → is_ascii_hexdigit b ≡ is_hex
        → long_from (run ++ b ∷ []) s ≡ run ++ b ∷ s → long_from [] s ≡ s
        → long_from run (b ∷ s) ≡ run ++ b ∷ s
    go true is more again = rw is more
    go false is more again = rw (is, no_long run none, again) refl

-- The text does not begin with a form that has a dash.
no_form : (form s : List ℕ) → list_any (λ f. eqb f 45) form ≡ true → IsPlain s
    → begins_in_form form s ≡ false
no_form [] s dash plain = absurd (false≢true dash)
no_form (f ∷ form) [] dash plain = refl
no_form (f ∷ form) (b ∷ s) dash plain =
    go (eqb f 45) refl (λ more. no_form form s more (rest b s plain))
  where
    go : (is_dash : Bool) → eqb f 45 ≡ is_dash
        → (list_any (λ g. eqb g 45) form ≡ true → begins_in_form form s ≡ false)
        → begins_in_form (f ∷ form) (b ∷ s) ≡ false
    go true is later = rw (is, no_dash b s plain) refl
    go false is later =
        and_right _ (begins_in_form form s)
        (later (sym (ap (λ x. x || list_any (λ g. eqb g 45) form) is) ∙ dash))

same_uuid : (s : List ℕ) (after_digit : Bool) → IsPlain s → uuid_from s [] after_digit ≡ s
same_uuid [] after_digit plain = refl
same_uuid (b ∷ s) after_digit plain =
    let none = no_form nil_uuid (b ∷ s) refl plain in
    let again = same_uuid s (is_ascii_hexdigit b) (rest b s plain) in
    rw (none, and_right _ false refl) (ap (λ t. b ∷ t) again)

-- ---- the actions that change a text

same_bytes : (s : List ℕ) → bytes_eq s s ≡ true
same_bytes [] = refl
same_bytes (b ∷ s) = and_from (eqb b b) (bytes_eq s s) (eq-eqb b b refl) (same_bytes s)

not_changed : (t s : List ℕ) → t ≡ s → not (bytes_eq t s) ≡ false
not_changed t s same = not_from_true (bytes_eq t s) (ap (λ x. bytes_eq x s) same ∙ same_bytes s)

some_changed : (s : List ℕ) → eqb (length s) 0 ≡ false → is_changed Blank (text s) ≡ true
unfolding is_changed
some_changed [] some = absurd (true≢false some)
some_changed (b ∷ s) some = refl

set_of : (u l d h b : Bool) → ℕ
set_of u l d h b =
    let first = if u then bit_or 0 1 else 0 in
    let second = if l then bit_or first 2 else first in
    let third = if d then bit_or second 4 else second in
    let fourth = if h then bit_or third 8 else third in
    if b then bit_or fourth 16 else fourth

only_blank : (u l d h b : Bool) → u ≡ false → l ≡ false → d ≡ false → h ≡ false → b ≡ true
    → 16 ≡ set_of u l d h b
unfolding set_of
only_blank u l d h b no_u no_l no_d no_h blank = rw (no_u, no_l, no_d, no_h, blank) refl

pub plain_actions : (s : List ℕ) → IsPlain s → eqb (length s) 0 ≡ false
    → 16 ≡ actions_of (text s)
unfolding set_of is_changed
plain_actions s plain some =
    only_blank (is_changed Uuid (text s)) (is_changed Long (text s)) (is_changed Digits (text s))
    (is_changed Hex (text s)) (is_changed Blank (text s))
    (not_changed (uuid s) s (same_uuid s false plain))
    (not_changed (long s) s (same_long s [] refl plain))
    (not_changed (digits s) s (same_digits s false plain))
    (not_changed (hex s) s (same_hex s plain)) (some_changed s some)

not_empty : {A : Type 0} (x : A) (xs : List A) → eqb (length (x ∷ xs)) 0 ≡ false
not_empty x xs = ne_eqb (length (x ∷ xs)) 0 (λ same. omega (arith, same))

pub empty_actions : (s : List ℕ) → eqb (length s) 0 ≡ true → 0 ≡ actions_of (text s)
unfolding is_changed
empty_actions [] empty = refl
empty_actions (b ∷ s) empty = absurd (true≢false (sym empty ∙ not_empty b s))

-- ---- the actions that change a list or an object

pub list_actions : (ts : List Tree)
    → (if not (eqb (length ts) 0) then 16 else 0) ≡ actions_of (list (items_view ts))
unfolding is_changed
list_actions [] = refl
list_actions (t ∷ ts) = rw (not_empty t ts) refl

pub object_actions : (ms : List (String Global × Tree))
    → (if not (eqb (length ms) 0) then 16 else 0) ≡ actions_of (object (members_view ms))
unfolding is_changed
object_actions [] = refl
object_actions (m ∷ ms) = rw (not_empty m ms) refl
