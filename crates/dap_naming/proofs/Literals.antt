-- Runs of literal bytes: no name and no token starts at one of them.
use Rattle.std.proofs.Common.{◌≡◌, ◌∙◌, ℕ, suc, ◌-◌, ◌<◌, ◌≤◌, ◌==◌, Bool, true, false, cond, not}
use Rattle.std.proofs.Common.{◌&&◌, ◌||◌, Option, Some, None, is_some, List, [], ◌∷◌, ◌++◌, length}
use Rattle.std.proofs.Common.{drop, take, map, get_or, refl, ap, sym, subst, arith}
use Rattle.std.specs.Char.{is_ascii_digit, is_ascii_hexdigit}
use Rattle.std.proofs.Math.Seq.{take-append_seam}
use Rattle.dap_words.specs.Long.{is_long}
use Rattle.dap_tokens.specs.Tokens.{Labels, Part, literal, parts_from, token_at, token_length}
use Rattle.dap_tokens.specs.Tokens.{tried}
use Rattle.dap_tokens.specs.Naming.{Numbering, ids_of_parts, named_parts}
use Rattle.dap_tokens.specs.declared.form.Form.{Form}
use Rattle.dap_tokens.specs.declared.form.Form.TheVariants.{Whole, Digits, Hex, Long, Uuid}
use Rattle.dap_tokens.proofs.Booleans.{by_bool, or_left, or_right, not_false}
use Rattle.dap_tokens.proofs.FirstTokens.{AllSkipped, none, more, Each}
use Rattle.dap_tokens.proofs.Lists.{yes, no, split}
use Rattle.dap_tokens.proofs.Readings.{of_byte}
use Rattle.dap_tokens.proofs.Starts.{Scans, token_counts, no_names, nothing_at, scans_in}
use Rattle.dap_naming.specs.Literals.{ends_in_digit, literal_run, may_begin, may_begin_run}
use Rattle.dap_naming.specs.declared.value_numbers.ValueNumbers.{ValueNumbers}
use Rattle.dap_naming.proofs.Writing.{Reads, same_step}

-- ---- one byte

-- the run of hexadecimal digits is empty
no_long : (after_digit : Bool) (b : ℕ) (s : List ℕ) → is_ascii_hexdigit b ≡ false
    → token_length Long after_digit (b ∷ s) ≡ 0
no_long true b s h = refl
no_long false b s h =
    ap (λ run. cond (is_long run) (length run) 0) (no is_ascii_hexdigit b s h)

no_uuid : (after_digit : Bool) (b : ℕ) (s : List ℕ) → is_ascii_hexdigit b ≡ false
    → token_length Uuid after_digit (b ∷ s) ≡ 0
no_uuid true b s h = refl
no_uuid false b s h = rw h refl

no_hex : (after_digit : Bool) (b : ℕ) (s : List ℕ) → (b == 48) ≡ false
    → token_length Hex after_digit (b ∷ s) ≡ 0
no_hex true b s h = refl
no_hex false b s h = rw h refl

-- the form has a label, so the class has not the byte
given : (o : Option (List ℕ)) (label : List ℕ) (c : Bool) → o ≡ Some label
    → (is_some o && c) ≡ false → c ≡ false
given o label c e h = subst (λ x. (is_some x && c) ≡ false) e h

given_first : (o p : Option (List ℕ)) (label : List ℕ) (c : Bool) → o ≡ Some label
    → ((is_some o || is_some p) && c) ≡ false → c ≡ false
given_first o p label c e h = subst (λ x. ((is_some x || is_some p) && c) ≡ false) e h

given_second : (o p : Option (List ℕ)) (label : List ℕ) (c : Bool) → p ≡ Some label
    → ((is_some o || is_some p) && c) ≡ false → c ≡ false
given_second (Some l) p label c e h = h
given_second None p label c e h = given p label c e h

module _ (labels : Labels) (b : ℕ) (h : may_begin labels b ≡ false) where
  after_opening : ((is_some (labels Digits) && is_ascii_digit b)
      || ((is_some (labels Hex) && (b == 48)) || may_begin_run labels b)) ≡ false
  after_opening = or_right (b == 60) _ h

  after_digits : ((is_some (labels Hex) && (b == 48)) || may_begin_run labels b) ≡ false
  after_digits = or_right (is_some (labels Digits) && is_ascii_digit b) _ after_opening

  after_hex : may_begin_run labels b ≡ false
  after_hex = or_right (is_some (labels Hex) && (b == 48)) _ after_digits

  no_token : (form : Form) (d : Bool) (s label : List ℕ) → Scans form
      → labels form ≡ Some label → token_length form d (b ∷ s) ≡ 0
  no_token Whole d s label i e = absurd i
  no_token Digits d s label i e =
      ap length (no is_ascii_digit b s (given (labels Digits) label (is_ascii_digit b) e
      (or_left (is_some (labels Digits) && is_ascii_digit b) _ after_opening)))
  no_token Hex d s label i e =
      no_hex d b s (given (labels Hex) label (b == 48) e
      (or_left (is_some (labels Hex) && (b == 48)) _ after_digits))
  no_token Long d s label i e =
      no_long d b s
      (given_first (labels Long) (labels Uuid) label (is_ascii_hexdigit b) e after_hex)
  no_token Uuid d s label i e =
      no_uuid d b s
      (given_second (labels Long) (labels Uuid) label (is_ascii_hexdigit b) e after_hex)

  no_tokens : (forms : List Form) (d : Bool) (s : List ℕ) → Each Scans forms
      → AllSkipped labels (token_counts d (b ∷ s)) forms
  no_tokens [] d s i = none
  no_tokens (form ∷ forms) d s i =
      more (λ label e. no_token form d s label i.0 e) (no_tokens forms d s i.1)

  nothing_begins : (d : Bool) (s : List ℕ) → token_at labels d (b ∷ s) ≡ None
  nothing_begins d s =
      nothing_at labels d (b ∷ s)
      (no_names labels b s (not_false (b == 60) (or_left (b == 60) _ h)))
      (no_tokens (tried labels) d s (scans_in (is_some (labels Uuid))))

-- ---- a run

pub last_digit : (s : List ℕ) → 1 ≤ length s
    → ends_in_digit s ≡ is_ascii_hexdigit (get_or s (length s - 1) 0)
last_digit [] h = absurd (omega arith)
last_digit (b ∷ []) h = refl
last_digit (b ∷ c ∷ s) h =
    let next : length (b ∷ c ∷ s) - 1 ≡ suc (length (c ∷ s) - 1) = omega arith in
    last_digit (c ∷ s) (omega arith)
    ∙ ap (λ n. is_ascii_hexdigit (get_or (b ∷ c ∷ s) n 0)) (sym next)

abbrev literals : List ℕ → List Part
literals run = map literal run

no_ids : (run : List ℕ) → ids_of_parts (literals run) ≡ []
no_ids [] = refl
no_ids (b ∷ run) = no_ids run

same_run : (number : Numbering) (run : List ℕ) → named_parts number (literals run) ≡ run
same_run number [] = refl
same_run number (b ∷ run) = ap (λ s. b ∷ s) (same_run number run)

-- a literal digit comes before the byte after the run
abbrev digit_before : Bool → List ℕ → Bool
digit_before d [] = d
digit_before d (b ∷ run) = ends_in_digit (b ∷ run)

digit_first : (b : ℕ) (run : List ℕ)
    → digit_before (is_ascii_hexdigit b) run ≡ ends_in_digit (b ∷ run)
digit_first b [] = refl
digit_first b (c ∷ run) = refl

module _ (labels : Labels) where
  abbrev is_literal : ℕ → Bool
  is_literal b = not (may_begin labels b)

  -- the parts of a text that starts with this run
  abbrev after_run : Bool → List ℕ → List ℕ → List Part
  after_run d run s =
      literals run ++ parts_from labels 0 (digit_before d run) (drop (length run) s)

  run_read : (d : Bool) (s : List ℕ)
      → parts_from labels 0 d s ≡ after_run d (literal_run labels s) s
  run_read d [] = refl
  run_read d (b ∷ s) =
      by_bool (may_begin labels b)
      (λ k. sym (ap (λ run. after_run d run (b ∷ s)) (no is_literal b s (ap not k))))
      (λ k. let run = literal_run labels s in
      of_byte labels d b s (nothing_begins labels b k d s)
      ∙ ap (λ ps. literal b ∷ ps) (run_read (is_ascii_hexdigit b) s
      ∙ ap (λ e. literals run ++ parts_from labels 0 e (drop (length run) s)) (digit_first b run))
      ∙ sym (ap (λ r. after_run d r (b ∷ s)) (yes is_literal b s (not_false _ k))))

  -- the flag after a run with bytes
  after_some : (d : Bool) (run : List ℕ) → 0 < length run
      → digit_before d run ≡ ends_in_digit run
  after_some d [] h = absurd (omega arith)
  after_some d (b ∷ run) h = refl

  run_taken : (s : List ℕ) (n : ℕ) → n ≡ length (literal_run labels s)
      → take n s ≡ literal_run labels s
  run_taken s n e =
      let run = literal_run labels s in
      let cut = split is_literal s in
      ap (λ k. take k s) e ∙ ap (take (length run)) cut.whole ∙ take-append_seam run cut.rest

  -- A run is written as it is.
  pub run_step : (a c : ValueNumbers) (all : List Part) (d e : Bool) (rest run others : List ℕ)
      (n : ℕ) (x y z : List ℕ) → Reads labels a c all d rest x y
      → n ≡ length (literal_run labels rest) → 0 < n → run ≡ take n rest → others ≡ drop n rest
      → e ≡ ends_in_digit run → z ≡ y ++ run → Reads labels a c all e others x z
  run_step a c all d e rest run others n x y z h long some first after flag written =
      let found = literal_run labels rest in
      let run_is : run ≡ found = first ∙ run_taken rest n long in
      let others_is : others ≡ drop (length found) rest = after ∙ ap (λ k. drop k rest) long in
      let flag_is : e ≡ digit_before d found =
      flag ∙ ap ends_in_digit run_is ∙ sym (after_some d found (omega (arith, some, long))) in
      same_step labels a c all (literals run) d e rest others x y z h
      (run_read d rest
      ∙ ap (λ r. literals r
      ++ parts_from labels 0 (digit_before d found) (drop (length found) rest)) (sym run_is)
      ∙ ap (λ q. literals run ++ parts_from labels 0 q (drop (length found) rest)) (sym flag_is)
      ∙ ap (λ s. literals run ++ parts_from labels 0 e s) (sym others_is))
      (no_ids run) (λ number. written ∙ ap (λ s. y ++ s) (sym (same_run number run)))
