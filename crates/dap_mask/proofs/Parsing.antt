-- The parser returns the meaning that the grammar gives a line.
use Rattle.std.proofs.Common.{◌≡◌, ℕ, suc, ◌<◌, Bool, true, false, cond, ◌==◌}
use Rattle.std.proofs.Common.{◌||◌, List, [], ◌∷◌, ◌++◌, length, Option, Some, None, option_map}
use Rattle.std.proofs.Common.{option_and_then, refl, sym, ap, ap₂, ◌∙◌, subst, true≢false, arith}
use Rattle.std.proofs.Common.{append_assoc, length-append, bytes_eq}
use Rattle.std.specs.Prelude.{zero, codes}
use Rattle.serde_json.specs.Data as json
use Rattle.dap_tree.specs.Json.{Reads}
use Rattle.dap_tree.proofs.Booleans.{or_left, or_right}
use Rattle.dap_message.proofs.Edits.{by_bool}
use Rattle.dap_profile.specs.declared.profile.Kind.{Kind, TheVariants.{Request, Response, Event}}
use Rattle.dap_mask.specs.Grammar.{IsGap, GoesOn, HasWords, IsName, bare, quoted, IsNameOrAny}
use Rattle.dap_mask.specs.Grammar.{AreSteps, IsPlace, verb_word, kind_word, AreWordsOf, SaysRule}
use Rattle.dap_mask.specs.Grammar.{AreCategoryWords, joining_words, IsValue, plain, in_quotes}
use Rattle.dap_mask.specs.Declarations.{Declaration}
use Rattle.dap_mask.specs.Categories.{CategoryRule, output_name}
use Rattle.dap_mask.specs.Mask.{Statement, change, leave_out, leave_out_category, swap, restart}
use Rattle.dap_mask.specs.Fills.{Fill, Scalar}
use Rattle.dap_mask.specs.Mask.{join, put, fill, omit, declare, Line, nothing, rule}
use Rattle.dap_mask.specs.Omissions.{Omission}
use Rattle.dap_mask.specs.RuleSteps.{RuleStep, named, elements}
use Rattle.dap_mask.specs.RuleText.{quoted_at, plain_at, name_at, this_name, any_name, called_step}
use Rattle.dap_mask.specs.RuleText.{member_step, next_step, step_then, steps_from, place_at}
use Rattle.dap_mask.specs.RuleText.{verb_named, kind_named, Head, name_behind, kind_then, head_at}
use Rattle.dap_mask.specs.RuleText.{text_behind, category_at, limit_from, limit_at, placed}
use Rattle.dap_mask.specs.RuleText.{labelled, label_at, stated}
use Rattle.dap_mask.specs.RuleText.{place_behind, change_behind, change_at, with_category}
use Rattle.dap_mask.specs.RuleText.{category_behind, dropped_at, leave_out_at, half_at, swap_with}
use Rattle.dap_mask.specs.RuleText.{swap_at, restart_at, is_output, join_ended, join_stops}
use Rattle.dap_mask.specs.RuleText.{joined_at, join_at, part_at, word_with, put_at, statement_at}
use Rattle.dap_mask.specs.RuleText.{value_at, valued, value_behind, fill_behind}
use Rattle.dap_mask.specs.RuleText.{fill_at, omission_behind, omit_at, reported, line_said}
use Rattle.dap_words.specs.Words.{Pair}
use Rattle.dap_mask.specs.Rules.{Rule, same_kind}
use Rattle.dap_mask.specs.Runs.{is_blank, is_plain, behind, gap, is_over, is_end}
use Rattle.dap_message.specs.SwapRules.{Half, SwapRule}
use Rattle.dap_mask.specs.Texts.{all_of, begins_with}
use Rattle.dap_mask.specs.declared.joining.Joining.{Joining, TheVariants.{Whole, PerStop}}
use Rattle.dap_mask.specs.declared.rules.Verb.{Verb, TheVariants.{Blank, Digits, Hex, Long, Uuid}}
use Rattle.dap_mask.proofs.Blanks.{front_run, behind_run, not_zero, differs, NoBlank, blank_fails}
use Rattle.dap_mask.proofs.Blanks.{gap_stops, gap_read, end_read, NoEnd, end_stops, words_stop}
use Rattle.dap_mask.proofs.Lines.{Steps}
use Rattle.dap_mask.proofs.Options.{then_then}
use Rattle.dap_mask.proofs.Quoted.{quoted_read}
use Rattle.dap_mask.proofs.Values.{value_read, last_split}

-- ---- names

-- a byte with which a name starts
abbrev pub is_opening : ℕ → Bool
is_opening b = is_plain b || (b == 34)

pub no_opening : NoBlank is_opening
no_opening = record { space = refl; tab = refl; carriage_return = refl }

pub opens_plain : (n : List ℕ) → begins_with is_plain n ≡ true → begins_with is_opening n ≡ true
opens_plain [] h = h
opens_plain (b ∷ n) h = ap (λ (c : Bool). c || (b == 34)) h

name_opens : {n name : List ℕ} → IsName n name → begins_with is_opening n ≡ true
name_opens (bare {w} b a) = opens_plain w b
name_opens (quoted inside e i r) = ap (begins_with is_opening) e

pub opens_longer : (n s : List ℕ) → begins_with is_opening n ≡ true
    → begins_with is_opening (n ++ s) ≡ true
opens_longer [] s h = absurd (true≢false (sym h))
opens_longer (b ∷ n) s h = h

pub opens_not_blank : (s : List ℕ) → begins_with is_opening s ≡ true
    → begins_with is_blank s ≡ false
opens_not_blank [] h = refl
opens_not_blank (b ∷ s) h = by_bool (is_blank b)
    (λ k. absurd (true≢false (sym h ∙ blank_fails is_opening b no_opening k))) (λ k. k)

pub opens_some : (n : List ℕ) → begins_with is_opening n ≡ true → 0 < length n
opens_some [] h = absurd (true≢false (sym h))
opens_some (b ∷ n) h = omega arith

abbrev name_by : List ℕ → Bool → Option (List ℕ × List ℕ)
name_by s is_quote = cond is_quote (quoted_at s) (plain_at s)

abbrev none_or_run : List ℕ → List ℕ → Bool → Option (List ℕ × List ℕ)
none_or_run run rest none = cond none None (Some (run, rest))

abbrev plain_by : List ℕ → List ℕ → Option (List ℕ × List ℕ)
plain_by run rest = none_or_run run rest (length run == 0)

bare_read : (n rest : List ℕ) → begins_with is_plain n ≡ true → all_of is_plain n ≡ true
    → begins_with is_plain rest ≡ false → name_at (n ++ rest) ≡ Some (n, rest)
bare_read [] rest b a e = absurd (true≢false (sym b))
bare_read (x ∷ n) rest b a e =
    ap (name_by (x ∷ (n ++ rest))) (differs is_plain x 34 b refl)
    ∙ ap₂ plain_by (front_run is_plain (x ∷ n) rest a e) (behind_run is_plain (x ∷ n) rest a e)
    ∙ ap (none_or_run (x ∷ n) rest) (not_zero (length n))

name_read : {n name : List ℕ} → IsName n name → (rest : List ℕ)
    → begins_with is_plain rest ≡ false → name_at (n ++ rest) ≡ Some (name, rest)
name_read (bare {w} b a) rest e = bare_read w rest b a e
name_read (quoted {w} {name} inside is i r) rest e =
    ap (λ (t : List ℕ). name_at (t ++ rest)) is
    ∙ quoted_read i name rest (rw is at r)

abbrev pub any_by : List ℕ → Option (List ℕ × List ℕ) → Bool → Option (Option (List ℕ) × List ℕ)
any_by s name is_star = cond is_star (Some (None, s)) (option_map this_name name)

any_by_name : (n rest : List ℕ) → begins_with is_opening n ≡ true
    → any_name (n ++ rest) ≡ option_map this_name (name_at (n ++ rest))
any_by_name [] rest h = absurd (true≢false (sym h))
any_by_name (b ∷ n) rest h =
    ap (any_by (n ++ rest) (name_at (b ∷ (n ++ rest)))) (differs is_opening b 42 h refl)

any_read : (n : List ℕ) (name : Option (List ℕ)) (rest : List ℕ) → IsNameOrAny n name
    → begins_with is_plain rest ≡ false → any_name (n ++ rest) ≡ Some (name, rest)
any_read n None rest c e = ap (λ (t : List ℕ). any_name (t ++ rest)) c
any_read n (Some k) rest c e =
    any_by_name n rest (name_opens c) ∙ ap (option_map this_name) (name_read c rest e)

any_not_blank : (n : List ℕ) (name : Option (List ℕ)) (rest : List ℕ) → IsNameOrAny n name
    → begins_with is_blank (n ++ rest) ≡ false
any_not_blank n None rest c = ap (λ (t : List ℕ). begins_with is_blank (t ++ rest)) c
any_not_blank n (Some k) rest c =
    opens_not_blank (n ++ rest) (opens_longer n rest (name_opens c))

-- ---- places

-- a byte with which a place may continue
abbrev goes_on : ℕ → Bool
goes_on b = is_plain b || ((b == 46) || (b == 91))

pub plain_no_end : NoEnd is_plain
plain_no_end = record {
  blank = record { space = refl; tab = refl; carriage_return = refl };
  comment = refl;
}

place_no_end : NoEnd goes_on
place_no_end = record {
  blank = record { space = refl; tab = refl; carriage_return = refl };
  comment = refl;
}

stops_plain : (s : List ℕ) → begins_with goes_on s ≡ false → begins_with is_plain s ≡ false
stops_plain [] h = refl
stops_plain (b ∷ s) h = or_left (is_plain b) ((b == 46) || (b == 91)) h

no_step : (s : List ℕ) → begins_with goes_on s ≡ false → next_step s ≡ None
no_step [] h = refl
no_step (b ∷ s) h =
    let neither = or_right (is_plain b) ((b == 46) || (b == 91)) h in
    rw (or_left (b == 46) (b == 91) neither, or_right (b == 46) (b == 91) neither) refl

-- the bytes with which further steps of a place start, `.` and `[`, do not pass the test
pub record NoStep (test : ℕ → Bool) : Type 0 where
  pub dot : test 46 ≡ false
  pub bracket : test 91 ≡ false

plain_no_step : NoStep is_plain
plain_no_step = record { dot = refl; bracket = refl }

steps_stop : (test : ℕ → Bool) (steps : List RuleStep) (s rest : List ℕ) → NoStep test
    → AreSteps s steps → begins_with test rest ≡ false → begins_with test (s ++ rest) ≡ false
steps_stop test [] s rest free is e = ap (λ (t : List ℕ). begins_with test (t ++ rest)) is ∙ e
steps_stop test (named name ∷ steps) s rest free (n, more, is, c, on) e =
    ap (λ (t : List ℕ). begins_with test (t ++ rest)) is ∙ free.dot
steps_stop test (elements None ∷ steps) s rest free (more, is, on) e =
    ap (λ (t : List ℕ). begins_with test (t ++ rest)) is ∙ free.bracket
steps_stop test (elements (Some name) ∷ steps) s rest free (n, more, is, c, on) e =
    ap (λ (t : List ℕ). begins_with test (t ++ rest)) is ∙ free.bracket

abbrev pub then_step : RuleStep → Steps → Steps
then_step step r = (step ∷ r.0, r.1)

steps_read : (steps : List RuleStep) (s rest : List ℕ) (fuel : ℕ) → AreSteps s steps
    → begins_with goes_on rest ≡ false → length s < fuel
    → steps_from fuel (s ++ rest) ≡ Some (steps, rest)
steps_read steps s rest zero is e l = absurd (omega arith)
steps_read [] s rest (suc n) is e l =
    ap (λ (t : List ℕ). steps_from (suc n) (t ++ rest)) is
    ∙ ap (step_then rest (steps_from n)) (no_step rest e)
steps_read (named name ∷ steps) s rest (suc n) (m, more, is, c, on) e l =
    let text = m ++ (more ++ rest) in
    let whole : s ++ rest ≡ 46 ∷ text =
    ap (λ (t : List ℕ). t ++ rest) is ∙ ap (λ (t : List ℕ). 46 ∷ t) (append_assoc m more rest) in
    let member = name_read c (more ++ rest)
    (steps_stop is_plain steps more rest plain_no_step on (stops_plain rest e)) in
    let long : length s ≡ suc (length (m ++ more)) = ap length is in
    let sum = length-append m more in
    let shorter : length more < n = omega arith in
    ap (steps_from (suc n)) whole
    ∙ ap (step_then (46 ∷ text) (steps_from n)) (ap (option_map member_step) member)
    ∙ ap (option_map (then_step (named name))) (steps_read steps more rest n on e shorter)
steps_read (elements None ∷ steps) s rest (suc n) (more, is, on) e l =
    let long : length s ≡ suc (suc (length more)) = ap length is in
    let shorter : length more < n = omega arith in
    ap (λ (t : List ℕ). steps_from (suc n) (t ++ rest)) is
    ∙ ap (option_map (then_step (elements None))) (steps_read steps more rest n on e shorter)
steps_read (elements (Some name) ∷ steps) s rest (suc n) (m, more, is, (inside, w, i, r), on) e l =
    let text = (inside ++ 34 ∷ []) ++ (93 ∷ (more ++ rest)) in
    let whole : s ++ rest ≡ 91 ∷ 34 ∷ text =
    ap (λ (t : List ℕ). t ++ rest) (is ∙ ap (λ (t : List ℕ). 91 ∷ (t ++ 93 ∷ more)) w)
    ∙ ap (λ (t : List ℕ). 91 ∷ 34 ∷ t) (append_assoc (inside ++ 34 ∷ []) (93 ∷ more) rest) in
    let closed = quoted_read i name (93 ∷ (more ++ rest))
    (subst (λ (t : List ℕ). Reads t (json.string name)) w r) in
    let long : length s ≡ suc (length (m ++ 93 ∷ more)) = ap length is in
    let sum = length-append m (93 ∷ more) in
    let shorter : length more < n = omega arith in
    ap (steps_from (suc n)) whole
    ∙ ap (step_then (91 ∷ 34 ∷ text) (steps_from n)) (ap (option_and_then called_step) closed)
    ∙ ap (option_map (then_step (elements (Some name)))) (steps_read steps more rest n on e shorter)

abbrev pub place_on : ℕ → List ℕ × List ℕ → Option Steps
place_on len n = option_map (then_step (named n.0)) (steps_from len n.1)

place_read : (place : List RuleStep) (p rest : List ℕ) → IsPlace p place
    → begins_with goes_on rest ≡ false → place_at (p ++ rest) ≡ Some (place, rest)
place_read [] p rest c e = absurd c
place_read (elements n ∷ steps) p rest c e = absurd c
place_read (named name ∷ steps) p rest (n, more, is, c, on) e =
    let whole : p ++ rest ≡ n ++ (more ++ rest) =
    ap (λ (t : List ℕ). t ++ rest) is ∙ append_assoc n more rest in
    let member = name_read c (more ++ rest)
    (steps_stop is_plain steps more rest plain_no_step on (stops_plain rest e)) in
    let some = opens_some n (name_opens c) in
    let long = ap length whole in
    let sum = length-append n (more ++ rest) in
    let parts = length-append more rest in
    let shorter : length more < length (p ++ rest) = omega arith in
    ap (option_and_then (place_on (length (p ++ rest)))) (ap name_at whole ∙ member)
    ∙ ap (option_map (then_step (named name)))
    (steps_read steps more rest (length (p ++ rest)) on e shorter)

place_opens : (place : List RuleStep) (p : List ℕ) → IsPlace p place
    → begins_with is_opening p ≡ true
place_opens [] p c = absurd c
place_opens (elements n ∷ steps) p c = absurd c
place_opens (named name ∷ steps) p (n, more, is, c, on) =
    ap (begins_with is_opening) is ∙ opens_longer n more (name_opens c)

-- ---- fixed words

kind_plain : (k : Kind) → all_of is_plain (kind_word k) ≡ true
kind_plain Request = refl
kind_plain Response = refl
kind_plain Event = refl

kind_opens : (k : Kind) (s : List ℕ) → begins_with is_blank (kind_word k ++ s) ≡ false
kind_opens Request s = refl
kind_opens Response s = refl
kind_opens Event s = refl

kind_read : (k : Kind) → kind_named (kind_word k) ≡ Some k
kind_read Request = refl
kind_read Response = refl
kind_read Event = refl

verb_plain : (v : Verb) → all_of is_plain (verb_word v) ≡ true
verb_plain Blank = refl
verb_plain Digits = refl
verb_plain Hex = refl
verb_plain Long = refl
verb_plain Uuid = refl

verb_begins : (v : Verb) → begins_with is_plain (verb_word v) ≡ true
verb_begins Blank = refl
verb_begins Digits = refl
verb_begins Hex = refl
verb_begins Long = refl
verb_begins Uuid = refl

-- ---- heads

abbrev pub with_kind : Kind → Option (List ℕ) × List ℕ → Head
with_kind k n = (k, n.0, n.1)

abbrev pub kind_on : List ℕ → Kind → Option Head
kind_on rest k = option_and_then (name_behind k) (gap rest)

abbrev pub kind_by : List ℕ → List ℕ → Option Head
kind_by word rest = option_and_then (kind_on rest) (kind_named word)

-- the text after the name, if the text starts with the head of a rule
pub record HeadRead (k : Kind) (name : Option (List ℕ)) (ws : List (List ℕ))
    (s : List ℕ) : Type 0 where
  pub rest : List ℕ
  pub head : head_at s ≡ Some (k, name, rest)
  pub on : GoesOn ws rest

head_parts : (k : Kind) (name : Option (List ℕ)) (g h n rest : List ℕ) → IsGap g → IsGap h
    → IsNameOrAny n name → begins_with is_plain rest ≡ false
    → head_at (g ++ (kind_word k ++ (h ++ (n ++ rest)))) ≡ Some (k, name, rest)
head_parts k name g h n rest a b c e =
    let text = h ++ (n ++ rest) in
    let stops = gap_stops is_plain h (n ++ rest) plain_no_end.blank b in
    ap (option_and_then kind_then) (gap_read g (kind_word k ++ text) a (kind_opens k text))
    ∙ ap₂ kind_by (front_run is_plain (kind_word k) text (kind_plain k) stops)
    (behind_run is_plain (kind_word k) text (kind_plain k) stops)
    ∙ ap (option_and_then (kind_on text)) (kind_read k)
    ∙ ap (option_and_then (name_behind k)) (gap_read h (n ++ rest) b (any_not_blank n name rest c))
    ∙ ap (option_map (with_kind k)) (any_read n name rest c e)

head_read : (k : Kind) (name : Option (List ℕ)) (n : List ℕ) (ws : List (List ℕ)) (s : List ℕ)
    → GoesOn (kind_word k ∷ n ∷ ws) s → IsNameOrAny n name → HeadRead k name ws s
head_read k name n ws s (g, text, is, a, next) c =
    let on = next.4 in
    record {
      rest = next.1;
      head = ap head_at (is ∙ ap (λ (t : List ℕ). g ++ (kind_word k ++ t)) next.2)
          ∙ head_parts k name g next.0 n next.1 a next.3 c
          (words_stop is_plain ws next.1 plain_no_end on);
      on = on;
    }

-- ---- rules

-- the sign of a category
abbrev is_sign : ℕ → Bool
is_sign b = b == 61

sign_no_end : NoEnd is_sign
sign_no_end = record {
  blank = record { space = refl; tab = refl; carriage_return = refl };
  comment = refl;
}

sign_no_step : NoStep is_sign
sign_no_step = record { dot = refl; bracket = refl }

no_value : (s : List ℕ) → begins_with is_sign s ≡ false → text_behind s ≡ None
no_value [] h = refl
no_value (b ∷ s) h = ap (λ (c : Bool). cond c (name_at s) None) h

abbrev category_by : List ℕ → List ℕ → Option (List ℕ × List ℕ)
category_by word rest = cond (bytes_eq word (codes "category")) (text_behind rest) None

no_category_by : (word rest : List ℕ) → begins_with is_sign rest ≡ false
    → category_by word rest ≡ None
no_category_by word rest h = go (bytes_eq word (codes "category"))
  where
    go : (b : Bool) → cond b (text_behind rest) None ≡ None
    go true = no_value rest h
    go false = refl

name_no_category : {n name : List ℕ} → IsName n name → (rest : List ℕ)
    → begins_with is_plain rest ≡ false → begins_with is_sign rest ≡ false
    → category_at (n ++ rest) ≡ None
name_no_category (bare {w} b a) rest e f =
    ap₂ category_by (front_run is_plain w rest a e) (behind_run is_plain w rest a e)
    ∙ no_category_by w rest f
name_no_category (quoted {w} {name} inside is i r) rest e f =
    ap (λ (t : List ℕ). category_at (t ++ rest)) is

-- no place starts as a category does
place_no_category : (place : List RuleStep) (p rest : List ℕ) (ws : List (List ℕ))
    → IsPlace p place → GoesOn ws rest → category_at (p ++ rest) ≡ None
place_no_category [] p rest ws c goes = absurd c
place_no_category (elements n ∷ steps) p rest ws c goes = absurd c
place_no_category (named name ∷ steps) p rest ws (n, more, is, c, on) goes =
    ap category_at (ap (λ (t : List ℕ). t ++ rest) is ∙ append_assoc n more rest)
    ∙ name_no_category c (more ++ rest)
    (steps_stop is_plain steps more rest plain_no_step on
    (words_stop is_plain ws rest plain_no_end goes))
    (steps_stop is_sign steps more rest sign_no_step on
    (words_stop is_sign ws rest sign_no_end goes))

place_not_blank : (place : List RuleStep) (p rest : List ℕ) → IsPlace p place
    → begins_with is_blank (p ++ rest) ≡ false
place_not_blank place p rest d =
    opens_not_blank (p ++ rest) (opens_longer p rest (place_opens place p d))

abbrev pub of_category : List ℕ → List ℕ → Option (List ℕ) × List ℕ
of_category c s = (Some c, s)

-- the text after the place, if the text continues with the category of a rule, its place, and other
-- words
record LimitRead (k : Kind) (c : Option (List ℕ)) (p : List ℕ) (ws : List (List ℕ)) (s : List ℕ)
    : Type 0 where
  rest : List ℕ
  limit : option_and_then (limit_at k) (gap s) ≡ Some (c, p ++ rest)
  goes : GoesOn ws rest

limit_read : (k : Kind) (c : Option (List ℕ)) (cs : List (List ℕ)) (p s : List ℕ)
    (ws : List (List ℕ)) (place : List RuleStep) → AreCategoryWords k c cs → IsPlace p place
    → GoesOn (cs ++ p ∷ ws) s → LimitRead k c p ws s
limit_read k None cs p s ws place is d on =
    let next = subst (λ (xs : List (List ℕ)). GoesOn (xs ++ p ∷ ws) s) is on in
    let goes = next.4 in
    let text = p ++ next.1 in
    record {
      rest = next.1;
      limit = ap (option_and_then (limit_at k)) (ap gap next.2
          ∙ gap_read next.0 text next.3 (place_not_blank place p next.1 d))
          ∙ ap (limit_from k text) (place_no_category place p next.1 ws d goes);
      goes = goes;
    }
limit_read k (Some name) cs p s ws place (t, is, c, event) d on =
    let first = subst (λ (xs : List (List ℕ)). GoesOn (xs ++ p ∷ ws) s) is on in
    let next = first.4 in
    let text : List ℕ = (codes "category=" ++ t) ++ first.1 in
    let read : category_at text ≡ Some (name, first.1) =
    name_read c first.1 (words_stop is_plain (p ∷ ws) first.1 plain_no_end next) in
    record {
      rest = next.1;
      limit = ap (option_and_then (limit_at k)) (ap gap first.2
          ∙ gap_read first.0 text first.3 refl)
          ∙ ap (limit_from k text) read
          ∙ ap (λ (j : Kind). cond (same_kind j Event)
          (option_map (of_category name) (gap first.1)) None) event
          ∙ ap (option_map (of_category name)) (ap gap next.2
          ∙ gap_read next.0 (p ++ next.1) next.3 (place_not_blank place p next.1 d));
      goes = next.4;
    }

placed_read : (r : Rule) (p rest : List ℕ) (ws : List (List ℕ)) (st : Statement)
    → IsPlace p r.place → GoesOn ws rest → stated r rest ≡ Some st
    → place_behind r.verb r.kind r.name (r.category, p ++ rest) ≡ Some st
placed_read r p rest ws st d goes h =
    ap (option_and_then (placed r.verb r.kind r.name r.category))
    (place_read r.place p rest d (words_stop goes_on ws rest place_no_end goes))
    ∙ h

abbrev pub change_on : Verb → Head → Option Statement
change_on v h = option_and_then (change_behind v h.0 h.1) (gap h.2)

-- the words of a rule, and then other words by which it is stated
change_read : (r : Rule) (n p s : List ℕ) (cs ws : List (List ℕ)) (st : Statement)
    → GoesOn (kind_word r.kind ∷ n ∷ (cs ++ p ∷ ws)) s → IsNameOrAny n r.name
    → AreCategoryWords r.kind r.category cs → IsPlace p r.place
    → ((rest : List ℕ) → GoesOn ws rest → stated r rest ≡ Some st)
    → change_at r.verb s ≡ Some st
change_read r n p s cs ws st on c words d states =
    let h = head_read r.kind r.name n (cs ++ p ∷ ws) s on c in
    let l = limit_read r.kind r.category cs p h.rest ws r.place words d h.on in
    ap (option_and_then (change_on r.verb)) h.head
    ∙ then_then (place_behind r.verb r.kind r.name) (limit_at r.kind) (gap h.rest)
    ∙ ap (option_and_then (place_behind r.verb r.kind r.name)) l.limit
    ∙ placed_read r p l.rest ws st d l.goes (states l.rest l.goes)

abbrev pub stated_by : Rule → List ℕ → Bool → Option Statement
stated_by r s ended = cond ended (Some (change r)) (option_and_then (label_at r) (gap s))

change_states : (r : Rule) (s : List ℕ) → GoesOn [] s → stated r s ≡ Some (change r)
change_states r s ended = ap (stated_by r s) (end_read s ended)

abbrev pub leave_out_on : Head → Option Statement
leave_out_on h = cond (same_kind h.0 Event) (dropped_at h.1 h.2) None

leave_out_read : (name : Option (List ℕ)) (n s : List ℕ) → GoesOn (codes "event" ∷ n ∷ []) s
    → IsNameOrAny n name → leave_out_at s ≡ Some (leave_out name)
leave_out_read name n s on c =
    let h = head_read Event name n [] s on c in
    ap (option_and_then leave_out_on) h.head
    ∙ ap (λ (b : Bool). cond b (Some (leave_out name)) (category_behind name h.rest))
    (end_read h.rest h.on)

abbrev pub category_on : Option (List ℕ) → List ℕ → Option Statement
category_on name t = option_and_then (with_category name) (category_at t)

category_read : (c : CategoryRule) (n t s : List ℕ)
    → GoesOn (codes "event" ∷ n ∷ (codes "category=" ++ t) ∷ []) s → IsNameOrAny n c.name
    → IsName t c.category → leave_out_at s ≡ Some (leave_out_category c)
category_read c n t s on is_name is_text =
    let h = head_read Event c.name n ((codes "category=" ++ t) ∷ []) s on is_name in
    let next = h.on in
    let ended = next.4 in
    let text : List ℕ = (codes "category=" ++ t) ++ next.1 in
    let more : is_end h.rest ≡ false =
    ap is_end next.2 ∙ ap is_over (behind_run is_blank next.0 text next.3.1 refl) in
    let read : category_at text ≡ Some (c.category, next.1) =
    name_read is_text next.1 (end_stops is_plain next.1 plain_no_end ended) in
    ap (option_and_then leave_out_on) h.head
    ∙ ap (λ (b : Bool). cond b (Some (leave_out c.name)) (category_behind c.name h.rest)) more
    ∙ ap (option_and_then (category_on c.name)) (ap gap next.2 ∙ gap_read next.0 text next.3 refl)
    ∙ ap (option_and_then (with_category c.name)) read
    ∙ ap (λ (b : Bool). cond b (Some (leave_out_category c)) None) (end_read next.1 ended)

abbrev pub half_on : Head → Half × List ℕ
half_on h = (record { kind = h.0; name = h.1 }, h.2)

abbrev pub swap_on : Half × List ℕ → Option Statement
swap_on h = option_and_then (swap_with h.0) (half_at h.1)

swap_read : (r : SwapRule) (n m s : List ℕ)
    → GoesOn (kind_word r.one.kind ∷ n ∷ kind_word r.another.kind ∷ m ∷ []) s
    → IsNameOrAny n r.one.name → IsNameOrAny m r.another.name → swap_at s ≡ Some (swap r)
swap_read r n m s on c d =
    let one = head_read r.one.kind r.one.name n (kind_word r.another.kind ∷ m ∷ []) s on c in
    let another = head_read r.another.kind r.another.name m [] one.rest one.on d in
    ap (option_and_then swap_on) (ap (option_map half_on) one.head)
    ∙ ap (option_and_then (swap_with r.one)) (ap (option_map half_on) another.head)
    ∙ ap (λ (b : Bool). cond b (Some (swap r)) None) (end_read another.rest another.on)

restart_read : (s : List ℕ) → GoesOn [] s → restart_at s ≡ Some restart
restart_read s on = ap (λ (b : Bool). cond b (Some restart) None) (end_read s on)

abbrev pub join_on : Head → Option Statement
join_on h = cond (is_output h.0 h.1) (joined_at h.2) None

abbrev join_by : List ℕ → List ℕ → Option Statement
join_by w s = cond (bytes_eq w (codes "per-stop")) (join_ended s) None

joined_read : (j : Joining) (s : List ℕ) → GoesOn (joining_words j) s
    → joined_at s ≡ Some (join j)
joined_read Whole s on =
    ap (λ (b : Bool). cond b (Some (join Whole)) (option_and_then join_stops (gap s)))
    (end_read s on)
joined_read PerStop s on =
    let ended = on.4 in
    let text : List ℕ = codes "per-stop" ++ on.1 in
    let more : is_end s ≡ false =
    ap is_end on.2 ∙ ap is_over (behind_run is_blank on.0 text on.3.1 refl) in
    let stops = end_stops is_plain on.1 plain_no_end ended in
    ap (λ (b : Bool). cond b (Some (join Whole)) (option_and_then join_stops (gap s))) more
    ∙ ap (option_and_then join_stops) (ap gap on.2 ∙ gap_read on.0 text on.3 refl)
    ∙ ap₂ join_by (front_run is_plain (codes "per-stop") on.1 refl stops)
    (behind_run is_plain (codes "per-stop") on.1 refl stops)
    ∙ ap (λ (b : Bool). cond b (Some (join PerStop)) None) (end_read on.1 ended)

join_read : (j : Joining) (n s : List ℕ) → GoesOn (codes "event" ∷ n ∷ joining_words j) s
    → IsName n output_name → join_at s ≡ Some (join j)
join_read j n s on c =
    let h = head_read Event (Some output_name) n (joining_words j) s on c in
    ap (option_and_then join_on) h.head ∙ joined_read j h.rest h.on

-- the next word, which is a name
part_read : (name n : List ℕ) (ws : List (List ℕ)) (s : List ℕ) (on : GoesOn (n ∷ ws) s)
    → IsName n name → part_at s ≡ Some (name, on.1)
part_read name n ws s (blanks, rest, is, gapped, more) c =
    ap (option_and_then name_at) (ap gap is ∙ gap_read blanks (n ++ rest) gapped
    (opens_not_blank (n ++ rest) (opens_longer n rest (name_opens c))))
    ∙ name_read c rest (words_stop is_plain ws rest plain_no_end more)

abbrev label_by : Rule → List ℕ → List ℕ → Option Statement
label_by r w s =
    cond (bytes_eq w (codes "as")) (option_and_then (labelled r) (part_at s)) None

-- the word `as` and a label
label_states : (x : Declaration) (l s : List ℕ) → GoesOn (codes "as" ∷ l ∷ []) s
    → IsName l x.label → stated x.rule s ≡ Some (declare x)
label_states x l s on c =
    let next = on.4 in
    let text : List ℕ = codes "as" ++ on.1 in
    let more : is_end s ≡ false =
    ap is_end on.2 ∙ ap is_over (behind_run is_blank on.0 text on.3.1 refl) in
    let stops = words_stop is_plain (l ∷ []) on.1 plain_no_end next in
    ap (stated_by x.rule s) more
    ∙ ap (option_and_then (label_at x.rule)) (ap gap on.2 ∙ gap_read on.0 text on.3 refl)
    ∙ ap₂ (label_by x.rule) (front_run is_plain (codes "as") on.1 refl stops)
    (behind_run is_plain (codes "as") on.1 refl stops)
    ∙ ap (option_and_then (labelled x.rule)) (part_read x.label l [] on.1 next c)
    ∙ ap (λ (b : Bool). cond b (Some (declare x)) None) (end_read next.1 next.4)

abbrev pub put_on : List ℕ × List ℕ → Option Statement
put_on t = option_and_then (word_with t.0) (part_at t.1)

put_read : (p : Pair) (t w s : List ℕ) → GoesOn (t ∷ w ∷ []) s → IsName t p.text
    → IsName w p.word → put_at s ≡ Some (put p)
put_read p t w s on c d =
    let next = on.4 in
    ap (option_and_then put_on) (part_read p.text t (w ∷ []) s on c)
    ∙ ap (option_and_then (word_with p.text)) (part_read p.word w [] on.1 next d)
    ∙ ap (λ (b : Bool). cond b (Some (put p)) None) (end_read next.1 next.4)

value_opens : {w : List ℕ} {v : Scalar} → IsValue w v → begins_with is_opening w ≡ true
value_opens (plain {w} d b a r is) = opens_plain w b
value_opens (in_quotes (inside, e, i, r)) = ap (begins_with is_opening) e

abbrev pub fill_on : Head → Option Statement
fill_on h = option_and_then (fill_behind h.0 h.1) (option_and_then place_at (gap h.2))

fill_read : (f : Fill) (n p w s : List ℕ) → GoesOn (kind_word f.kind ∷ n ∷ p ∷ w ∷ []) s
    → IsNameOrAny n f.name → IsPlace p (f.parent ++ f.last ∷ []) → IsValue w f.value
    → fill_at s ≡ Some (fill f)
fill_read f n p w s on c d v =
    let place = f.parent ++ f.last ∷ [] in
    let h = head_read f.kind f.name n (p ∷ w ∷ []) s on c in
    let next = h.on in
    let last = next.4 in
    let ended = last.4 in
    ap (option_and_then fill_on) h.head
    ∙ ap (option_and_then (fill_behind f.kind f.name))
    (ap (option_and_then place_at) (ap gap next.2
    ∙ gap_read next.0 (p ++ next.1) next.3 (place_not_blank place p next.1 d))
    ∙ place_read place p next.1 d (words_stop goes_on (w ∷ []) next.1 place_no_end last))
    ∙ ap (option_and_then (value_behind f.kind f.name next.1)) (last_split f.parent f.last)
    ∙ ap (option_and_then (valued f.kind f.name (f.parent, f.last)))
    (ap (option_and_then value_at) (ap gap last.2
    ∙ gap_read last.0 (w ++ last.1) last.3
    (opens_not_blank (w ++ last.1) (opens_longer w last.1 (value_opens v))))
    ∙ value_read v last.1 (end_stops is_plain last.1 plain_no_end ended))
    ∙ ap (λ (b : Bool). cond b (Some (fill f)) None) (end_read last.1 ended)

abbrev pub omit_on : Head → Option Statement
omit_on h = option_and_then (omission_behind h.0 h.1) (option_and_then place_at (gap h.2))

-- the rule that omits elements, if the line ends after this place
abbrev omission_if : Kind → Option (List ℕ) → Option (List RuleStep × RuleStep) → Bool
    → Option Statement
omission_if k n o ended =
    cond ended (option_map (λ r. omit (record { kind = k; name = n; parent = r.0; last = r.1 })) o)
    None

omit_read : (o : Omission) (n p s : List ℕ) → GoesOn (kind_word o.kind ∷ n ∷ p ∷ []) s
    → IsNameOrAny n o.name → IsPlace p (o.parent ++ o.last ∷ []) → omit_at s ≡ Some (omit o)
omit_read o n p s on c d =
    let place = o.parent ++ o.last ∷ [] in
    let h = head_read o.kind o.name n (p ∷ []) s on c in
    let next = h.on in
    let ended = next.4 in
    ap (option_and_then omit_on) h.head
    ∙ ap (option_and_then (omission_behind o.kind o.name))
    (ap (option_and_then place_at) (ap gap next.2
    ∙ gap_read next.0 (p ++ next.1) next.3 (place_not_blank place p next.1 d))
    ∙ place_read place p next.1 d (words_stop goes_on [] next.1 place_no_end ended))
    ∙ ap₂ (omission_if o.kind o.name) (last_split o.parent o.last) (end_read next.1 ended)

-- ---- lines

abbrev pub statement_by : List ℕ → List ℕ → Option Statement
statement_by w s =
    cond (bytes_eq w (codes "drop")) (leave_out_at s) (cond (bytes_eq w (codes "swap")) (swap_at s)
    (cond (bytes_eq w (codes "per-stop")) (restart_at s)
    (cond (bytes_eq w (codes "join")) (join_at s)
    (cond (bytes_eq w (codes "word")) (put_at s)
    (cond (bytes_eq w (codes "fill")) (fill_at s)
    (cond (bytes_eq w (codes "omit")) (omit_at s)
    (option_and_then (λ v. change_at v s) (verb_named w))))))))

abbrev line_by : List ℕ → Line
line_by s = cond (is_over s) nothing (reported (statement_at s))

abbrev unless_over : List ℕ → Bool → Line
unless_over s over = cond over nothing (reported (statement_at s))

not_over : (w s : List ℕ) → begins_with is_plain w ≡ true → is_over (w ++ s) ≡ false
not_over [] s b = absurd (true≢false (sym b))
not_over (x ∷ w) s b = differs is_plain x 35 b refl

-- a line that starts with a plain word, by the text after the word
words_read : (l w : List ℕ) (ws : List (List ℕ)) (st : Statement) (on : HasWords (w ∷ ws) l)
    → begins_with is_plain w ≡ true → all_of is_plain w ≡ true
    → statement_by w on.1 ≡ Some st → line_said l ≡ rule st
words_read l w ws st (blanks, rest, is, a, on) b all h =
    let opens = opens_not_blank (w ++ rest) (opens_longer w rest (opens_plain w b)) in
    let stops = words_stop is_plain ws rest plain_no_end on in
    ap line_by (ap (behind is_blank) is ∙ behind_run is_blank blanks (w ++ rest) a opens)
    ∙ ap (unless_over (w ++ rest)) (not_over w rest b)
    ∙ ap reported (ap₂ statement_by (front_run is_plain w rest all stops)
    (behind_run is_plain w rest all stops) ∙ h)

verb_read : (v : Verb) (s : List ℕ) → statement_by (verb_word v) s ≡ change_at v s
verb_read Blank s = refl
verb_read Digits s = refl
verb_read Hex s = refl
verb_read Long s = refl
verb_read Uuid s = refl

says_words : (l : List ℕ) (st : Statement) (ws : List (List ℕ)) → AreWordsOf ws st
    → HasWords ws l → line_said l ≡ rule st
says_words l (change r) ws (n, cs, p, is, c, words, d) has =
    let on = subst (λ (xs : List (List ℕ)). HasWords xs l) is has in
    words_read l (verb_word r.verb) (kind_word r.kind ∷ n ∷ (cs ++ p ∷ [])) (change r) on
    (verb_begins r.verb) (verb_plain r.verb)
    (verb_read r.verb on.1
    ∙ change_read r n p on.1 cs [] (change r) on.4 c words d (change_states r))
says_words l (declare x) ws (t, (n, cs, p, is, c, words, d), called) has =
    let r = x.rule in
    let others : List (List ℕ) = codes "as" ∷ t ∷ [] in
    let on = subst (λ (xs : List (List ℕ)). HasWords xs l) is has in
    words_read l (verb_word r.verb) (kind_word r.kind ∷ n ∷ (cs ++ p ∷ others)) (declare x) on
    (verb_begins r.verb) (verb_plain r.verb)
    (verb_read r.verb on.1
    ∙ change_read r n p on.1 cs others (declare x) on.4 c words d
    (λ rest goes. label_states x t rest goes called))
says_words l (leave_out name) ws (n, is, c) has =
    let on = subst (λ (xs : List (List ℕ)). HasWords xs l) is has in
    words_read l (codes "drop") (codes "event" ∷ n ∷ []) (leave_out name) on refl refl
    (leave_out_read name n on.1 on.4 c)
says_words l (leave_out_category r) ws (n, t, is, c, d) has =
    let on = subst (λ (xs : List (List ℕ)). HasWords xs l) is has in
    words_read l (codes "drop") (codes "event" ∷ n ∷ (codes "category=" ++ t) ∷ [])
    (leave_out_category r) on refl refl (category_read r n t on.1 on.4 c d)
says_words l (swap r) ws (n, m, is, c, d) has =
    let on = subst (λ (xs : List (List ℕ)). HasWords xs l) is has in
    words_read l (codes "swap") (kind_word r.one.kind ∷ n ∷ kind_word r.another.kind ∷ m ∷ [])
    (swap r) on refl refl (swap_read r n m on.1 on.4 c d)
says_words l restart ws is has =
    let on = subst (λ (xs : List (List ℕ)). HasWords xs l) is has in
    words_read l (codes "per-stop") [] restart on refl refl (restart_read on.1 on.4)
says_words l (join j) ws (n, is, c) has =
    let on = subst (λ (xs : List (List ℕ)). HasWords xs l) is has in
    words_read l (codes "join") (codes "event" ∷ n ∷ joining_words j) (join j) on refl refl
    (join_read j n on.1 on.4 c)
says_words l (put p) ws (t, w, is, c, d) has =
    let on = subst (λ (xs : List (List ℕ)). HasWords xs l) is has in
    words_read l (codes "word") (t ∷ w ∷ []) (put p) on refl refl (put_read p t w on.1 on.4 c d)
says_words l (fill f) ws (n, p, w, is, c, d, v) has =
    let on = subst (λ (xs : List (List ℕ)). HasWords xs l) is has in
    words_read l (codes "fill") (kind_word f.kind ∷ n ∷ p ∷ w ∷ []) (fill f) on refl refl
    (fill_read f n p w on.1 on.4 c d v)
says_words l (omit o) ws (n, p, is, c, d) has =
    let on = subst (λ (xs : List (List ℕ)). HasWords xs l) is has in
    words_read l (codes "omit") (kind_word o.kind ∷ n ∷ p ∷ []) (omit o) on refl refl
    (omit_read o n p on.1 on.4 c d)

pub rule_read : (l : List ℕ) (st : Statement) → SaysRule l st → line_said l ≡ rule st
rule_read l st (ws, has, words) = says_words l st ws words has
