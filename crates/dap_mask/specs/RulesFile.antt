-- The meaning of a rules file, line by line, and the errors of its lines.
use Rattle.std.specs.Prelude.{ℕ, suc, ◌==◌, Bool, cond, ◌||◌, nat_le, nat_lt, List, [], ◌∷◌, length}
use Rattle.std.specs.Prelude.{not}
use Rattle.std.specs.Prelude.{take, Option, Some, None, Result, Ok, Err, count_by, option_map}
use Rattle.std.specs.Prelude.{is_some}
use Rattle.std.specs.{Str.is_utf8, List.list_any}
use Rattle.dap_mask.specs.Categories.{is_category_among, is_moved_by, moves_one_of, moves_joined}
use Rattle.dap_mask.specs.Categories.{is_output_moved_by}
use Rattle.dap_mask.specs.Declarations.{Declaration, is_own_label, is_misdeclared, disagrees_with}
use Rattle.dap_mask.specs.Declarations.{is_declared_among, blurs_one_of, is_blurred_by}
use Rattle.dap_mask.specs.Ids.{takes_profile_id}
use Rattle.dap_mask.specs.Mask.{Mask, no_rules, rule_count, with_rule, Statement, change, leave_out}
use Rattle.dap_mask.specs.Fills.{Fill, is_fill_misplaced, is_fill_among, clashes_with_fills}
use Rattle.dap_mask.specs.Fills.{removes_one_of, is_removed_by}
use Rattle.dap_mask.specs.Mask.{leave_out_category, swap, restart, join, put, fill, Line, nothing}
use Rattle.dap_mask.specs.Mask.{omit, declare, rule, bad}
use Rattle.dap_mask.specs.Omissions.{Omission, is_by_name, is_omission_among}
use Rattle.dap_mask.specs.RuleText.{line_said}
use Rattle.dap_mask.specs.Rules.{Rule, is_among, is_misplaced, clashes_with, disturbs_one_of}
use Rattle.dap_mask.specs.Rules.{same_name}
use Rattle.dap_mask.specs.{Runs.lines_of, Swaps.is_swap_among}
use Rattle.dap_mask.specs.declared.fault.RulesCause.{RulesCause}
use Rattle.dap_mask.specs.declared.fault.RulesCause.TheVariants.{TooLong, NotUtf8, BadRule, TooMany}
use Rattle.dap_mask.specs.declared.fault.RulesCause.TheVariants.{BadPlace, Repeated, Clash}
use Rattle.dap_mask.specs.declared.fault.RulesCause.TheVariants.{BadWord, BadLabel, Memory}
use Rattle.dap_mask.specs.declared.fault.RulesFault.{RulesFault}
use Rattle.dap_words.specs.Kept.{cause_against as word_cause}
use Rattle.dap_words.specs.declared.word_list.WordCause.{WordCause}
use Rattle.dap_words.specs.declared.word_list.WordCause.TheVariants as of_word

-- The name, or `None` for any name, is one of these.
abbrev pub is_name_among : Option (List ℕ) → List (Option (List ℕ)) → Bool
is_name_among n ms = list_any (same_name n) ms

-- Why a change may not follow the rules of a mask, apart from the limit on their number.
abbrev pub change_cause : Mask → Rule → Option RulesCause
change_cause m r =
    cond (is_misplaced r || takes_profile_id r) (Some BadPlace)
    (cond (is_among r m.changes) (Some Repeated)
    (cond (clashes_with r m.changes || (disturbs_one_of r m.changes
    || (moves_one_of r m.categories || (moves_joined r m.joining || removes_one_of r m.fills))))
    (Some Clash) (cond (blurs_one_of r m.declared) (Some Clash) None)))

-- Why a rule that joins output may not follow the rules of a mask, apart from the limit on their
-- number. A mask has at most one such rule.
abbrev pub join_cause : Mask → Option RulesCause
join_cause m = cond (is_some m.joining) (Some Repeated)
    (cond (is_output_moved_by m.changes) (Some Clash) None)

-- Why a rule that sets a member may not follow the rules of a mask, apart from the limit on their
-- number.
abbrev pub fill_cause : Mask → Fill → Option RulesCause
fill_cause m f = cond (is_fill_misplaced f) (Some BadPlace)
    (cond (is_fill_among f m.fills) (Some Repeated)
    (cond (clashes_with_fills f m.fills || is_removed_by m.changes f) (Some Clash) None))

-- Why a rule that omits elements may not follow the rules of a mask, apart from the limit on their
-- number. Its place ends in a step that selects elements by their name.
abbrev pub omission_cause : Mask → Omission → Option RulesCause
omission_cause m o = cond (is_by_name o.last)
    (cond (is_omission_among o m.omissions) (Some Repeated) None) (Some BadPlace)

-- Why a declaration may not follow the rules of a mask, apart from the limit on their number.
abbrev pub declaration_cause : Mask → Declaration → Option RulesCause
declaration_cause m x = cond (not (is_own_label x.label)) (Some BadLabel)
    (cond (is_misdeclared x.rule) (Some BadPlace)
    (cond (is_declared_among x m.declared) (Some Repeated)
    (cond (disagrees_with x m.declared || is_blurred_by m.changes x) (Some Clash) None)))

-- The cause, as an error of a rules file.
abbrev pub cause_of_word : WordCause → RulesCause
cause_of_word of_word.Empty = BadWord
cause_of_word of_word.Repeated = Repeated
cause_of_word of_word.Meets = BadWord
cause_of_word of_word.Memory = Memory

-- Why a rule may not follow the rules of a mask, apart from the limit on their number.
abbrev pub cause_of : Mask → Statement → Option RulesCause
cause_of m (change r) = change_cause m r
cause_of m (leave_out n) = cond (is_name_among n m.dropped) (Some Repeated) None
cause_of m (leave_out_category c) = cond (is_category_among c m.categories) (Some Repeated)
    (cond (is_moved_by m.changes c) (Some Clash) None)
cause_of m (swap s) = cond (is_swap_among s m.swaps) (Some Repeated) None
cause_of m restart = cond m.per_stop (Some Repeated) None
cause_of m (join j) = join_cause m
cause_of m (put p) = option_map cause_of_word (word_cause m.words p)
cause_of m (fill f) = fill_cause m f
cause_of m (omit o) = omission_cause m o
cause_of m (declare x) = declaration_cause m x

-- Why a rule may not follow the rules of a mask; `None` if it may. A mask has at most a thousand
-- rules.
abbrev pub cause_against : Mask → Statement → Option RulesCause
cause_against m st = cond (nat_le 1000 (rule_count m)) (Some TooMany) (cause_of m st)

-- ---- a line after the lines that define the mask m

abbrev pub outcome_unless : Mask → Statement → Option RulesCause → Result Mask RulesCause
outcome_unless m st None = Ok (with_rule m st)
outcome_unless m st (Some c) = Err c

abbrev pub outcome_of : Mask → Line → Result Mask RulesCause
outcome_of m nothing = Ok m
outcome_of m bad = Err BadRule
outcome_of m (rule st) = outcome_unless m st (cause_against m st)

abbrev pub line_outcome : Mask → List ℕ → Result Mask RulesCause
line_outcome m l = cond (is_utf8 l) (outcome_of m (line_said l)) (Err NotUtf8)

-- ---- all lines

-- Continues with the mask after a line, or returns the error of the line.
abbrev pub outcome_then : ℕ → (Mask → Result Mask RulesFault) → Result Mask RulesCause
    → Result Mask RulesFault
outcome_then n more (Ok m) = more m
outcome_then n more (Err c) = Err (record { line = n; cause = c })

-- The mask after these lines, which follow those that define m, or the first line that is rejected
-- and the reason. The first of these lines has the number n.
abbrev pub rules_from : Mask → ℕ → List (List ℕ) → Result Mask RulesFault
rules_from m n [] = Ok m
rules_from m n (l ∷ ls) = outcome_then n (λ k. rules_from k (suc n) ls) (line_outcome m l)

-- A line feed.
abbrev pub is_line_feed : ℕ → Bool
is_line_feed b = b == 10

-- The number of the last line of the text.
abbrev pub last_line : List ℕ → ℕ
last_line s = suc (count_by is_line_feed s)

-- The meaning of the file: its mask, or the line that is rejected and the reason. A file with more
-- than 65,536 bytes is rejected.
unfoldable pub rules_said : List ℕ → Result Mask RulesFault
rules_said s =
    cond (nat_lt 65536 (length s)) (Err (record {
      line = last_line (take 65536 s);
      cause =
          TooLong;
    }))
    (rules_from no_rules 1 (lines_of s))
