-- Runs of bytes, gaps between words, and the end of a line.
use Rattle.std.proofs.Common.{◌≡◌, ℕ, suc, Bool, true, false, cond, ◌==◌, List, []}
use Rattle.std.proofs.Common.{◌∷◌, ◌++◌, length, Option, Some, None, refl, sym, ap, ap₂, ◌∙◌}
use Rattle.std.proofs.Common.{true≢false, arith}
use Rattle.std.proofs.lemmas.Bool.{eqb-true}
use Rattle.dap_tree.proofs.Booleans.{and_left, and_right, and_both}
use Rattle.dap_message.proofs.Edits.{by_bool}
use Rattle.dap_mask.specs.Grammar.{AreBlanks, IsGap, IsComment, IsEnd, GoesOn}
use Rattle.dap_mask.specs.Runs.{is_blank, front, behind, gap, is_over, is_end}
use Rattle.dap_mask.specs.Texts.{all_of, begins_with}
use Rattle.dap_mask.proofs.Options.{if_false}

-- ---- runs

pub front_run : (class : ℕ → Bool) (run rest : List ℕ) → all_of class run ≡ true
    → begins_with class rest ≡ false → front class (run ++ rest) ≡ run
front_run class [] [] a e = refl
front_run class [] (b ∷ rest) a e = rw e refl
front_run class (b ∷ run) rest a e =
    rw (and_left (class b) (all_of class run) a) (ap (λ t. b ∷ t)
    (front_run class run rest (and_right (class b) (all_of class run) a) e))

pub behind_run : (class : ℕ → Bool) (run rest : List ℕ) → all_of class run ≡ true
    → begins_with class rest ≡ false → behind class (run ++ rest) ≡ rest
behind_run class [] [] a e = refl
behind_run class [] (b ∷ rest) a e = rw e refl
behind_run class (b ∷ run) rest a e =
    rw (and_left (class b) (all_of class run) a)
    (behind_run class run rest (and_right (class b) (all_of class run) a) e)

pub run_split : (class : ℕ → Bool) (s : List ℕ) → s ≡ front class s ++ behind class s
run_split class [] = refl
run_split class (b ∷ s) = by_bool (class b)
    (λ h. rw h (ap (λ t. b ∷ t) (run_split class s)))
    (λ h. rw h refl)

pub run_all : (class : ℕ → Bool) (s : List ℕ) → all_of class (front class s) ≡ true
run_all class [] = refl
run_all class (b ∷ s) = by_bool (class b)
    (λ h. ap (λ c. all_of class (cond c (b ∷ front class s) [])) h
    ∙ and_both (class b) (all_of class (front class s)) h (run_all class s))
    (λ h. ap (λ c. all_of class (cond c (b ∷ front class s) [])) h)

pub run_ends : (class : ℕ → Bool) (s : List ℕ) → begins_with class (behind class s) ≡ false
run_ends class [] = refl
run_ends class (b ∷ s) = by_bool (class b)
    (λ h. ap (λ c. begins_with class (cond c (behind class s) (b ∷ s))) h ∙ run_ends class s)
    (λ h. ap (λ c. begins_with class (cond c (behind class s) (b ∷ s))) h ∙ h)

pub run_begins : (class : ℕ → Bool) (s : List ℕ) → (length (front class s) == 0) ≡ false
    → begins_with class (front class s) ≡ true
run_begins class [] e = absurd (true≢false e)
run_begins class (b ∷ s) e = by_bool (class b)
    (λ h. ap (λ c. begins_with class (cond c (b ∷ front class s) [])) h ∙ h)
    (λ h. absurd (true≢false
    (sym (ap (λ c. length (cond c (b ∷ front class s) []) == 0) h) ∙ e)))

pub not_zero : (n : ℕ) → (suc n == 0) ≡ false
not_zero n = by_bool (suc n == 0)
    (λ h. let e : suc n ≡ 0 = eqb-true (suc n) 0 h in absurd (omega arith)) (λ h. h)

-- ---- bytes

-- a byte that passes a test differs from a byte that does not pass it
pub differs : (test : ℕ → Bool) (b c : ℕ) → test b ≡ true → test c ≡ false → (b == c) ≡ false
differs test b c h k = by_bool (b == c)
    (λ e. absurd (true≢false (sym h ∙ ap test (eqb-true b c e) ∙ k))) (λ e. e)

-- no blank passes the test
pub record NoBlank (test : ℕ → Bool) : Type 0 where
  pub space : test 32 ≡ false
  pub tab : test 9 ≡ false
  pub carriage_return : test 13 ≡ false

pub blank_fails : (test : ℕ → Bool) (b : ℕ) → NoBlank test → is_blank b ≡ true → test b ≡ false
blank_fails test b free h = by_bool (b == 32) (λ e. ap test (eqb-true b 32 e) ∙ free.space)
    (λ e. by_bool (b == 9) (λ f. ap test (eqb-true b 9 f) ∙ free.tab)
    (λ f. ap test (eqb-true b 13 (rw (e, f) at h)) ∙ free.carriage_return))

-- ---- gaps

pub gap_stops : (test : ℕ → Bool) (g s : List ℕ) → NoBlank test → IsGap g
    → begins_with test (g ++ s) ≡ false
gap_stops test [] s free h = absurd (true≢false (sym h.0))
gap_stops test (b ∷ g) s free h = blank_fails test b free h.0

abbrev none_or : List ℕ → Bool → Option (List ℕ)
none_or s none = cond none None (Some s)

abbrev gap_by : List ℕ → List ℕ → Option (List ℕ)
gap_by blanks s = none_or s (length blanks == 0)

pub gap_read : (g s : List ℕ) → IsGap g → begins_with is_blank s ≡ false → gap (g ++ s) ≡ Some s
gap_read [] s h e = absurd (true≢false (sym h.0))
gap_read (b ∷ g) s h e =
    ap₂ gap_by (front_run is_blank (b ∷ g) s h.1 e) (behind_run is_blank (b ∷ g) s h.1 e)
    ∙ ap (none_or s) (not_zero (length g))

-- the gap with which the text starts, and the rest of the text
pub record HasGap (s rest : List ℕ) : Type 0 where
  pub blanks : List ℕ
  pub whole : s ≡ blanks ++ rest
  pub is_gap : IsGap blanks

pub gap_found : (s rest : List ℕ) → gap s ≡ Some rest → HasGap s rest
gap_found s rest h =
    let i = if_false (length (front is_blank s) == 0) (behind is_blank s) rest h in
    record {
      blanks = front is_blank s;
      whole = run_split is_blank s ∙ ap (λ t. front is_blank s ++ t) i.1;
      is_gap = (run_begins is_blank s i.0, run_all is_blank s);
    }

-- ---- the end of a line

comment_fails : (test : ℕ → Bool) (s : List ℕ) → test 35 ≡ false → IsComment s
    → begins_with test s ≡ false
comment_fails test [] free c = refl
comment_fails test (b ∷ s) free c = ap test c ∙ free

comment_over : (s : List ℕ) → IsComment s → is_over s ≡ true
comment_over [] c = refl
comment_over (b ∷ s) c = ap (λ (x : ℕ). x == 35) c

pub end_read : (s : List ℕ) → IsEnd s → is_end s ≡ true
end_read s (blanks, comment, is, b, c) =
    ap is_end is
    ∙ ap is_over (behind_run is_blank blanks comment b (comment_fails is_blank comment refl c))
    ∙ comment_over comment c

comment_found : (s : List ℕ) → is_over s ≡ true → IsComment s
comment_found [] h = tt
comment_found (b ∷ s) h = eqb-true b 35 h

pub end_found : (s : List ℕ) → is_end s ≡ true → IsEnd s
end_found s h = (
  front is_blank s,
  behind is_blank s,
  run_split is_blank s,
  run_all is_blank s,
  comment_found (behind is_blank s) h,
)

-- ---- the text after a word

-- neither a blank nor `#` passes the test
pub record NoEnd (test : ℕ → Bool) : Type 0 where
  pub blank : NoBlank test
  pub comment : test 35 ≡ false

end_parts : (test : ℕ → Bool) (blanks comment : List ℕ) → NoEnd test → AreBlanks blanks
    → IsComment comment → begins_with test (blanks ++ comment) ≡ false
end_parts test [] comment free b c = comment_fails test comment free.comment c
end_parts test (x ∷ blanks) comment free b c =
    blank_fails test x free.blank (and_left (is_blank x) (all_of is_blank blanks) b)

pub end_stops : (test : ℕ → Bool) (s : List ℕ) → NoEnd test → IsEnd s
    → begins_with test s ≡ false
end_stops test s free (blanks, comment, is, b, c) =
    ap (begins_with test) is ∙ end_parts test blanks comment free b c

pub words_stop : (test : ℕ → Bool) (ws : List (List ℕ)) (s : List ℕ) → NoEnd test → GoesOn ws s
    → begins_with test s ≡ false
words_stop test [] s free on = end_stops test s free on
words_stop test (w ∷ ws) s free (blanks, rest, is, g, on) =
    ap (begins_with test) is ∙ gap_stops test blanks (w ++ rest) free.blank g
