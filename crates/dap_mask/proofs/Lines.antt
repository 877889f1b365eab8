-- Lines, names and steps, as the reader of a rules file processes them.
use Rattle.std.proofs.Common.{◌≡◌, ℕ, suc, ◌+◌, ◌<◌, ◌≤◌, Bool, true, false, cond, not, ◌==◌, List}
use Rattle.std.proofs.Common.{[], ◌∷◌, ◌++◌, length, refl, sym, ap, ap₂, ◌∙◌, arith, IsUtf8, take}
use Rattle.std.proofs.Common.{drop, Option, Some, None, option_map, append-nil, ◌-◌, Result, Ok}
use Rattle.std.proofs.Common.{Err, true≢false, length-drop}
use Rattle.std.proofs.lemmas.Str.{IsUtf8-nil, IsUtf8-append}
use Rattle.std.proofs.Math.Seq.{take-length}
use Rattle.std.proofs.lemmas.List.{length-take}
use Rattle.std.proofs.lemmas.Str.{IsUtf8-from_is_utf8, is_utf8-from_IsUtf8}
use Rattle.std.specs.Result.{OnOk}
use Rattle.std.specs.Str.{is_utf8}
use Rattle.serde_json.specs.Data as json
use Rattle.serde_json.specs.Read.{read}
use Rattle.dap_mask.specs.Mask.{Mask}
use Rattle.dap_mask.specs.RulesFile.{line_outcome, outcome_then, rules_from}
use Rattle.dap_mask.specs.declared.fault.RulesCause.{RulesCause}
use Rattle.dap_message.proofs.Edits.{by_bool}
use Rattle.dap_mask.specs.RuleSteps.{RuleStep}
use Rattle.dap_words.proofs.Utf8.{ascii_one}
use Rattle.dap_mask.specs.RuleText.{text_in, string_of, next_step, steps_from, step_then}
use Rattle.dap_mask.specs.Rules.{step_of, place_of}
use Rattle.dap_mask.specs.declared.rules.Step.{Step}
use Rattle.dap_mask.specs.Runs.{has_class, is_plain, front, behind, lines_of, onto}
use Rattle.dap_mask.specs.declared.runs.ByteClass.TheVariants.{InLine}

-- the lines after the first line, given the text from its line feed on
abbrev pub lines_behind : List ℕ → List (List ℕ)
lines_behind [] = []
lines_behind (b ∷ s) = lines_of s

pub lines_first : (s : List ℕ)
    → lines_of s ≡ front (has_class InLine) s ∷ lines_behind (behind (has_class InLine) s)
lines_first [] = refl
lines_first (b ∷ s) = go (b == 10) (lines_first s)
  where
    go : (c : Bool) → lines_of s ≡ front (has_class InLine) s
        ∷ lines_behind (behind (has_class InLine) s)
        → cond c ([] ∷ lines_of s) (onto b (lines_of s))
        ≡ cond (not c) (b ∷ front (has_class InLine) s) []
        ∷ lines_behind (cond (not c) (behind (has_class InLine) s) (b ∷ s))
    go true h = refl
    go false h = ap (onto b) h

pub behind_shorter : (class : ℕ → Bool) (s : List ℕ) → length (behind class s) ≤ length s
behind_shorter class [] = omega arith
behind_shorter class (b ∷ s) = go (class b) (behind_shorter class s)
  where
    go : (c : Bool) → length (behind class s) ≤ length s → length (cond c (behind class s) (b ∷ s))
        ≤ suc (length s)
    go true h = omega (arith, h)
    go false h = omega arith

-- ---- names

-- plain bytes are UTF-8
plain_low : (b : ℕ) → is_plain b ≡ true → b < 128
plain_low b h = grind (arith, h)

pub plain_utf8 : (s : List ℕ) → IsUtf8 (front is_plain s)
plain_utf8 [] = IsUtf8-nil
plain_utf8 (b ∷ s) = by_bool (is_plain b)
    (λ h. rw h (IsUtf8-append (b ∷ []) (front is_plain s) (ascii_one b (plain_low b h))
    (plain_utf8 s)))
    (λ h. rw h IsUtf8-nil)

-- ---- steps of a place

abbrev pub Steps : Type 0
Steps = List RuleStep × List ℕ

-- adds steps before the remaining steps
abbrev pub with_steps : List RuleStep → Steps → Steps
with_steps ps r = (ps ++ r.0, r.1)

abbrev one_more : RuleStep → Steps → Steps
one_more p r = (p ∷ r.0, r.1)

pushed : (steps : List Step) (step : Step) (r : Steps)
    → with_steps (place_of (steps ++ step ∷ [])) r
    ≡ with_steps (place_of steps) (one_more (step_of step) r)
pushed [] step r = refl
pushed (p ∷ steps) step r = ap (one_more (step_of p)) (pushed steps step r)

all_pushed : (steps : List Step) (step : Step) (o : Option Steps)
    → option_map (with_steps (place_of (steps ++ step ∷ []))) o
    ≡ option_map (with_steps (place_of steps)) (option_map (one_more (step_of step)) o)
all_pushed steps step None = refl
all_pushed steps step (Some r) = ap Some (pushed steps step r)

-- the steps so far and the remaining steps, after one more step
pub steps_on : (steps : List Step) (step : Step) (n : ℕ) (rest behind : List ℕ) (p : RuleStep
    × List ℕ)
    → next_step rest ≡ Some p → p.0 ≡ step_of step → p.1 ≡ behind
    → option_map (with_steps (place_of (steps ++ step ∷ []))) (steps_from n behind)
    ≡ option_map (with_steps (place_of steps)) (steps_from (suc n) rest)
steps_on steps step n rest behind p e f g =
    all_pushed steps step (steps_from n behind)
    ∙ ap₂ (λ q s. option_map (with_steps (place_of steps))
    (option_map (one_more q) (steps_from n s))) (sym f) (sym g)
    ∙ ap (λ o. option_map (with_steps (place_of steps)) (step_then rest (steps_from n) o)) (sym e)

abbrev steps_pair : List RuleStep → List ℕ → Steps
steps_pair ps s = (ps, s)

-- the same if no step remains
pub steps_end : (steps : List Step) (n : ℕ) (rest : List ℕ) → next_step rest ≡ None
    → Some (steps_pair (place_of steps) rest)
    ≡ option_map (with_steps (place_of steps)) (steps_from (suc n) rest)
steps_end steps n rest e =
    ap (λ qs. Some (steps_pair qs rest)) (sym (append-nil (place_of steps)))
    ∙ ap (λ o. option_map (with_steps (place_of steps)) (step_then rest (steps_from n) o)) (sym e)

-- ---- strings

-- the string of a text, if the text is read as a JSON value
pub string_is : (token : List ℕ) (d : json.Data) → IsUtf8 token → read token ≡ Some d
    → string_of token ≡ text_in (Some d)
unfolding string_of
string_is token d u r =
    ap (λ b. cond b (text_in (read token)) None) (is_utf8-from_IsUtf8 token u) ∙ ap text_in r

pub no_string : (token : List ℕ) → (IsUtf8 token → read token ≡ None) → string_of token ≡ None
unfolding string_of
no_string token h = by_bool (is_utf8 token)
    (λ u. ap (λ b. cond b (text_in (read token)) None) u
    ∙ ap text_in (h (IsUtf8-from_is_utf8 token u)))
    (λ u. ap (λ b. cond b (text_in (read token)) None) u)

pub quiet : {M : Type 0} (b : Bool) → ((b ≡ true → M) × (M → b ≡ true)) → b ≡ false → M → ⊥
quiet b h e m = true≢false (sym (h.1 m) ∙ e)

-- ---- the meaning of lines

pub done_ok : {U : Type 0} (P : Type 0) (r : Result U RulesCause)
    → ((c : RulesCause) → r ≡ Err c → ⊥) → OnOk r P → P
done_ok P (Ok u) n h = h
done_ok P (Err c) n h = absurd (n c refl)

pub lines_then : (m : Mask) (n : ℕ) (s line : List ℕ) (o : Result Mask RulesCause)
    → line ≡ front (has_class InLine) s → line_outcome m line ≡ o
    → rules_from m n (lines_of s)
    ≡ outcome_then n (λ k. rules_from k (suc n) (lines_behind (behind (has_class InLine) s))) o
lines_then m n s line o f e =
    ap (rules_from m n) (lines_first s)
    ∙ ap (outcome_then n (λ k. rules_from k (suc n) (lines_behind (behind (has_class InLine) s))))
    (ap (line_outcome m) (sym f) ∙ e)

-- the first line is rejected
pub lines_err : (m : Mask) (n : ℕ) (s line : List ℕ) (c : RulesCause)
    → line ≡ front (has_class InLine) s → line_outcome m line ≡ Err c
    → rules_from m n (lines_of s) ≡ Err (record { line = n; cause = c })
lines_err m n s line c f e = lines_then m n s line (Err c) f e

-- the first line is the last line
pub lines_end : (m k : Mask) (n : ℕ) (s line b : List ℕ) → line ≡ front (has_class InLine) s
    → b ≡ behind (has_class InLine) s → length b < 1 → line_outcome m line ≡ Ok k
    → rules_from m n (lines_of s) ≡ Ok k
lines_end m k n s line b f g l e =
    lines_then m n s line (Ok k) f e
    ∙ ap (rules_from k (suc n)) (ap lines_behind (sym g) ∙ empty b l)
  where
    empty : (b : List ℕ) → length b < 1 → lines_behind b ≡ []
    empty [] l = refl
    empty (x ∷ t) l = absurd (omega arith)

tail_is : (b : List ℕ) → 1 ≤ length b → take (length b - 1) (drop 1 b) ≡ drop 1 b
tail_is [] l = absurd (omega arith)
tail_is (x ∷ t) l =
    let e : length (x ∷ t) - 1 ≡ length t = omega arith in
    ap (λ i. take i t) e ∙ take-length t

-- other lines follow
pub lines_on : (m k : Mask) (n : ℕ) (s line b : List ℕ) → line ≡ front (has_class InLine) s
    → b ≡ behind (has_class InLine) s → 1 ≤ length b → line_outcome m line ≡ Ok k
    → rules_from k (n + 1) (lines_of (take (length b - 1) (drop 1 b)))
    ≡ rules_from m n (lines_of s)
lines_on m k n s line b f g l e =
    let next : n + 1 ≡ suc n = omega arith in
    ap₂ (λ i t. rules_from k i (lines_of t)) next (tail_is b l)
    ∙ ap (rules_from k (suc n)) (sym (some b l) ∙ ap lines_behind g)
    ∙ sym (lines_then m n s line (Ok k) f e)
  where
    some : (b : List ℕ) → 1 ≤ length b → lines_behind b ≡ lines_of (drop 1 b)
    some [] l = absurd (omega arith)
    some (x ∷ t) l = refl

pub tail_shorter : (b r : List ℕ) → length b ≤ length r → 1 ≤ length b
    → length (take (length b - 1) (drop 1 b)) < length r
tail_shorter b r h l =
    let t = length-take (length b - 1) (drop 1 b) in
    let d = length-drop 1 b in
    omega (arith, t, d, h, l)

-- the length of a prefix of n bytes
pub taken_len : (n : ℕ) (s : List ℕ) → n < length s → n ≡ length (take n s)
taken_len n s h = let t = length-take n s in omega (arith, t, h)

pub taken_most : (n : ℕ) (s : List ℕ) → length (take n s) ≤ n
taken_most n s = let t = length-take n s in omega (arith, t)
