-- A file without rules needs no allocation: each line that needs one adds a rule or is rejected.
use Rattle.std.proofs.Common.{◌≡◌, ◌≢◌, ◌⊎◌, inl, inr, ℕ, suc, ◌≤◌, ◌<◌, Bool, true, false}
use Rattle.std.proofs.Common.{cond, List, [], ◌∷◌, length, Option, Some, None, Result, Ok, Err}
use Rattle.std.proofs.Common.{IfErr, take, nat_le, refl, sym, ap, ◌∙◌, subst, arith}
use Rattle.std.proofs.lemmas.Bool.{le-ltb}
use Rattle.std.proofs.lemmas.List.{length_push}
use Rattle.std.specs.{Prelude.{is_some}, Str.is_utf8}
use Rattle.dap_mask.specs.Categories.{is_output_moved_by}
use Rattle.dap_mask.specs.Mask.{Mask, no_rules, rule_count, with_rule, Statement, change, leave_out}
use Rattle.dap_mask.specs.Mask.{leave_out_category, swap, restart, join, put, fill, Line, nothing}
use Rattle.dap_mask.specs.Mask.{omit, declare, rule, bad}
use Rattle.dap_mask.specs.RuleText.{line_said, statement_at, reported}
use Rattle.dap_mask.specs.Rules.{Rule, comes_before, inserted}
use Rattle.dap_mask.specs.RulesFile.{cause_against, outcome_unless, outcome_of, line_outcome}
use Rattle.dap_mask.specs.RulesFile.{outcome_then, rules_from, last_line, rules_said}
use Rattle.dap_mask.specs.Runs.{has_class, is_blank, front, behind, lines_of, is_end}
use Rattle.dap_mask.specs.declared.fault.RulesCause.{RulesCause}
use Rattle.dap_mask.specs.declared.fault.RulesCause.TheVariants.{NotUtf8, TooLong, Memory}
use Rattle.dap_mask.specs.declared.fault.RulesCause.TheVariants.{TooMany, Repeated, Clash}
use Rattle.dap_mask.specs.declared.joining.Joining.{Joining}
use Rattle.dap_mask.specs.declared.fault.RulesFault.{RulesFault}
use Rattle.dap_mask.specs.declared.runs.ByteClass.TheVariants.{InLine}
use Rattle.dap_mask.proofs.Lines.{lines_behind, lines_then}

-- ---- a line with a rule or an error

told_something : (o : Option Statement) → reported o ≡ nothing → ⊥
told_something None h = cc
told_something (Some st) h = cc

pub says_something : (l : List ℕ) → is_end l ≡ false → line_said l ≢ nothing
says_something l e h =
    told_something (statement_at (behind is_blank l))
    (sym (ap (λ b. cond b nothing (reported (statement_at (behind is_blank l)))) e) ∙ h)

-- ---- the number of rules

-- a rule without an error is new
first_restart : (m : Mask) → cause_against m restart ≡ None → m.per_stop ≡ false
first_restart m h = go (nat_le 1000 (rule_count m)) m.per_stop h
  where
    go : (a b : Bool) → cond a (Some TooMany) (cond b (Some Repeated) None) ≡ None → b ≡ false
    go true b k = cc
    go false true k = cc
    go false false k = refl

first_join : (m : Mask) (j : Joining) → cause_against m (join j) ≡ None
    → is_some m.joining ≡ false
first_join m j h =
    go (nat_le 1000 (rule_count m)) (is_some m.joining) (is_output_moved_by m.changes) h
  where
    go : (a b c : Bool)
        → cond a (Some TooMany) (cond b (Some Repeated) (cond c (Some Clash) None)) ≡ None
        → b ≡ false
    go true b c k = cc
    go false true c k = cc
    go false false c k = refl

length-inserted : (r : Rule) (rs : List Rule) → length (inserted r rs) ≡ suc (length rs)
length-inserted r [] = refl
length-inserted r (t ∷ ts) = go (length-inserted r ts) (comes_before r t)
  where
    go : length (inserted r ts) ≡ suc (length ts) → (b : Bool)
        → length (cond b (r ∷ t ∷ ts) (t ∷ inserted r ts)) ≡ suc (length (t ∷ ts))
    go more true = refl
    go more false = ap suc more

one_more : (m : Mask) (st : Statement) → cause_against m st ≡ None
    → rule_count (with_rule m st) ≡ suc (rule_count m)
one_more m (change r) h = let more = length-inserted r m.changes in omega arith
one_more m (leave_out n) h = let more = length_push m.dropped n in omega arith
one_more m (leave_out_category c) h = let more = length_push m.categories c in omega arith
one_more m (swap s) h = let more = length_push m.swaps s in omega arith
one_more m restart h =
    let first : ◌≡◌ {A = ℕ} (cond m.per_stop 1 0) 0 =
    ap (λ (b : Bool). cond b 1 0) (first_restart m h) in
    omega (arith, first)
one_more m (join j) h =
    let first : ◌≡◌ {A = ℕ} (cond (is_some m.joining) 1 0) 0 =
    ap (λ (b : Bool). cond b 1 0) (first_join m j h) in
    omega (arith, first)
one_more m (put p) h = let more = length_push m.words p in omega arith
one_more m (fill f) h = let more = length_push m.fills f in omega arith
one_more m (omit o) h = let more = length_push m.omissions o in omega arith
one_more m (declare x) h = let more = length_push m.declared x in omega arith

same_mask : (m k : Mask) → ◌≡◌ {A = Result Mask RulesCause} (Ok m) (Ok k) → m ≡ k
same_mask m k h = cc

no_mask : (c : RulesCause) (k : Mask) → ◌≡◌ {A = Result Mask RulesCause} (Err c) (Ok k) → ⊥
no_mask c k h = cc

-- a line that is not rejected contains no rule, or adds one
abbrev Adds : Mask → Mask → Line → Type 0
Adds m k l = ((l ≡ nothing) × (m ≡ k)) ⊎ (rule_count k ≡ suc (rule_count m))

rule_adds : (m k : Mask) (st : Statement) (o : Option RulesCause) → cause_against m st ≡ o
    → outcome_unless m st o ≡ Ok k → rule_count k ≡ suc (rule_count m)
rule_adds m k st None e h = ap rule_count (sym (same_mask (with_rule m st) k h)) ∙ one_more m st e
rule_adds m k st (Some c) e h = absurd (no_mask c k h)

said_adds : (m k : Mask) (l : Line) → outcome_of m l ≡ Ok k → Adds m k l
said_adds m k nothing h = inl (refl, same_mask m k h)
said_adds m k bad h = absurd (no_mask _ k h)
said_adds m k (rule st) h = inr (rule_adds m k st (cause_against m st) refl h)

line_adds : (m k : Mask) (l : List ℕ) → line_outcome m l ≡ Ok k → Adds m k (line_said l)
line_adds m k l h = go (is_utf8 l) h
  where
    go : (b : Bool) → cond b (outcome_of m (line_said l)) (Err NotUtf8) ≡ Ok k
        → Adds m k (line_said l)
    go true e = said_adds m k (line_said l) e
    go false e = absurd (no_mask NotUtf8 k e)

adds_no_less : (m k : Mask) (l : Line) → Adds m k l → rule_count m ≤ rule_count k
adds_no_less m k l (inl (e, is)) = let same = ap rule_count is in omega arith
adds_no_less m k l (inr e) = omega arith

adds_more : (m k : Mask) (l : Line) → l ≢ nothing → Adds m k l → rule_count m < rule_count k
adds_more m k l some (inl (e, is)) = absurd (some e)
adds_more m k l some (inr e) = omega arith

pub taken_no_less : (m k : Mask) (l : List ℕ) → line_outcome m l ≡ Ok k
    → rule_count m ≤ rule_count k
taken_no_less m k l h = adds_no_less m k (line_said l) (line_adds m k l h)

same_rules : (m k : Mask) → ◌≡◌ {A = Result Mask RulesFault} (Ok m) (Ok k) → m ≡ k
same_rules m k h = cc

no_rules_said : (f : RulesFault) (k : Mask) → ◌≡◌ {A = Result Mask RulesFault} (Err f) (Ok k) → ⊥
no_rules_said f k h = cc

-- if the lines after a line do not reduce the number of rules, nor does the line with them
then_no_less : (m k : Mask) (n : ℕ) (l : List ℕ) (more : Mask → Result Mask RulesFault)
    → ((j : Mask) → more j ≡ Ok k → rule_count j ≤ rule_count k)
    → (o : Result Mask RulesCause) → line_outcome m l ≡ o → outcome_then n more o ≡ Ok k
    → rule_count m ≤ rule_count k
then_no_less m k n l more less (Ok j) e h =
    let here = taken_no_less m j l e in
    let rest = less j h in
    omega arith
then_no_less m k n l more less (Err c) e h = absurd (no_rules_said _ k h)

lines_no_less : (m k : Mask) (n : ℕ) (ls : List (List ℕ)) → rules_from m n ls ≡ Ok k
    → rule_count m ≤ rule_count k
lines_no_less m k n [] h = let same = ap rule_count (same_rules m k h) in omega arith
lines_no_less m k n (l ∷ ls) h =
    then_no_less m k n l (λ j. rules_from j (suc n) ls) (λ j e. lines_no_less j k (suc n) ls e)
    (line_outcome m l) refl h

-- ---- a file that needs an allocation

then_more : (m k : Mask) (n : ℕ) (l : List ℕ) (more : Mask → Result Mask RulesFault)
    → ((j : Mask) → more j ≡ Ok k → rule_count j ≤ rule_count k) → line_said l ≢ nothing
    → (o : Result Mask RulesCause) → line_outcome m l ≡ o → outcome_then n more o ≡ Ok k
    → rule_count m < rule_count k
then_more m k n l more less some (Ok j) e h =
    let here = adds_more m j (line_said l) some (line_adds m j l e) in
    let rest = less j h in
    omega arith
then_more m k n l more less some (Err c) e h = absurd (no_rules_said _ k h)

-- if a line contains a rule or an error, the text does not result in the rules before the line
pub other_rules : (m first : Mask) (n : ℕ) (s line : List ℕ) → rule_count first ≤ rule_count m
    → line ≡ front (has_class InLine) s → line_said line ≢ nothing
    → rules_from m n (lines_of s) ≢ Ok first
other_rules m first n s line grown is some h =
    let later = lines_behind (behind (has_class InLine) s) in
    let more = then_more m first n line (λ j. rules_from j (suc n) later)
    (λ j e. lines_no_less j first (suc n) later e) some (line_outcome m line) refl
    (sym (lines_then m n s line (line_outcome m line) is refl) ∙ h) in
    omega arith

-- a file with rules is not a file without rules
pub some_rules : (m : Mask) (said : Result Mask RulesFault) → said ≡ Ok m → 0 < length m.changes
    → said ≢ Ok no_rules
some_rules m said e l h =
    let same : length m.changes ≡ 0 =
    ap (λ (k : Mask). length k.changes) (same_rules m no_rules (sym e ∙ h)) in
    omega arith

-- ---- errors that are passed on

pub any_err : {T E P : Type 0} → (r : Result T E) → P → IfErr r (λ _. P)
any_err (Ok x) p = tt
any_err (Err e) p = p

pub err_passed : {T X : Type 0} → (r : Result T RulesFault) (f g : RulesFault) → r ≡ Err g → g ≡ f
    → (f.cause ≡ Memory → X) → IfErr r (λ h. h.cause ≡ Memory → X)
err_passed {T} {X} r f g e same p =
    subst (λ (q : Result T RulesFault). IfErr q (λ h. h.cause ≡ Memory → X))
    (sym (e ∙ ap Err same)) p

pub err_is : {T : Type 0} → (P : RulesFault → Type 0) → (r : Result T RulesFault)
    (f g : RulesFault) → r ≡ Err g → g ≡ f → P f → IfErr r P
err_is P r f g e same p = subst (λ q. IfErr q P) (sym (e ∙ ap Err same)) p

abbrev said_if : List ℕ → Bool → Result Mask RulesFault
said_if s long =
    cond long (Err (record { line = last_line (take 65536 s); cause = TooLong }))
    (rules_from no_rules 1 (lines_of s))

-- the meaning of a file is that of its lines
pub said_other : (s : List ℕ) (m : Mask) → m ≡ no_rules → length s ≤ 65536
    → rules_from m 1 (lines_of s) ≢ Ok m → rules_said s ≢ Ok no_rules
unfolding rules_said
said_other s m e short other said =
    other (subst (λ (k : Mask). rules_from k 1 (lines_of s) ≡ Ok k) (sym e)
    (sym (ap (said_if s) (le-ltb 65536 (length s) short)) ∙ said))

pub said_err : (s : List ℕ) (m : Mask) (f : RulesFault) → m ≡ no_rules → length s ≤ 65536
    → rules_from m 1 (lines_of s) ≡ Err f → rules_said s ≡ Err f
unfolding rules_said
said_err s m f e short h =
    ap (said_if s) (le-ltb 65536 (length s) short)
    ∙ subst (λ (k : Mask). rules_from k 1 (lines_of s) ≡ Err f) e h
