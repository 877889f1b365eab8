-- The option `--word`: what a value means, and the text of the rules with the words. Source: own.
use Rattle.std.specs.Prelude.{◌≡◌, ◌≢◌, ◌==◌, ◌<◌, ◌-◌, ◌⊎◌, ◌++◌, ℕ, Bool, true, cond, List, []}
use Rattle.std.specs.Prelude.{◌∷◌, Option, Some, None, Err, codes, count_by, flat_map, get_or}
use Rattle.std.specs.Prelude.{is_ok, length, slice_get, string_bytes}
use Rattle.std.specs.List.{after_first, before_first, position_or_len}
use Rattle.dap_commands.specs.declared.commands.UsageFault.{UsageFault}
use Rattle.dap_mask.specs.{RulesFile.{is_line_feed, rules_said}, WordLines.word_line}
use Rattle.dap_mask.specs.declared.fault.{RulesCause.RulesCause, RulesFault.RulesFault}
use Rattle.dap_words.specs.Words.{Pair}

-- ---- a value TEXT=WORD

abbrev pub is_equals : ℕ → Bool
is_equals b = b == 61

-- The value contains `=`, or not.
abbrev pub HasEquals : List ℕ → Type 0
HasEquals value = position_or_len is_equals value < length value

abbrev pub HasNoEquals : List ℕ → Type 0
HasNoEquals value = position_or_len is_equals value ≡ length value

-- TEXT is the part before the first `=`, and WORD the part after it.
abbrev pub pair_in : List ℕ → Pair
pair_in value = record { text = before_first is_equals value; word = after_first is_equals value }

-- The first n values contain `=`.
abbrev pub HaveEquals : List (List ℕ) → ℕ → Type 0
HaveEquals values n = (k : ℕ) (d : List ℕ) → k < n → HasEquals (get_or values k d)

-- ---- the text of the rules

-- A line feed after a last byte that is none.
abbrev pub line_end_after : Option ℕ → List ℕ
line_end_after None = []
line_end_after (Some b) = cond (b == 10) [] (10 ∷ [])

-- The line feed that the last line of the text lacks, if it lacks one.
abbrev pub line_end : List ℕ → List ℕ
line_end s = line_end_after (slice_get s (length s - 1))

-- The line of a rules file for a value, with its line feed.
abbrev pub value_line : List ℕ → List ℕ
value_line value = word_line (pair_in value) ++ 10 ∷ []

-- The text, the line feed that its last line lacks, and a line for each value, in their order.
abbrev pub with_lines : List ℕ → List (List ℕ) → List ℕ
with_lines s values = (s ++ line_end s) ++ flat_map value_line values

-- A rules file of this text is accepted.
abbrev pub IsAccepted : List ℕ → Type 0
IsAccepted text = is_ok (rules_said text) ≡ true

-- The rules are the text, and after it the lines for the values, if there are any. They are
-- accepted if the text alone is.
pub record HasLinesOf (values : List (List ℕ)) (text rules : List ℕ) : Type 0 where
  pub named : HaveEquals values (length values)
  pub none : values ≡ [] → rules ≡ text
  pub lines : values ≢ [] → rules ≡ with_lines text values
  pub accepted : IsAccepted text → IsAccepted rules

-- The lines of the values alone are accepted.
pub record AreAccepted (values : List (List ℕ)) : Type 0 where
  pub rules : List ℕ
  pub lines : HasLinesOf values [] rules
  pub accepted : IsAccepted rules

-- ---- why the values have not been added to the text

-- The report of a value, which says why; or an allocation failed.
abbrev pub IsReportOf : List ℕ → List ℕ → UsageFault → Type 0
IsReportOf value why (UsageFault.Usage said) = string_bytes said
    ≡ codes "error: --word " ++ (value ++ (codes ": " ++ (why ++ codes "\n")))
IsReportOf value why (UsageFault.Help said) = ⊥
IsReportOf value why UsageFault.Memory = Unit {0}

-- This is reported of the first value that does not contain `=`.
pub record BlamesFirst (values : List (List ℕ)) (report : UsageFault) : Type 0 where
  pub index : ℕ
  pub value : List ℕ
  pub within : index < length values
  pub at : get_or values index value ≡ value
  pub named : HaveEquals values index
  pub without : HasNoEquals value
  pub reported : IsReportOf value (codes "write TEXT=WORD") report

-- Why the rules reject a line as no rule: TEXT or WORD is empty, or they overlap.
abbrev pub bad_word : Pair → List ℕ
bad_word p =
    cond (length p.text == 0) (codes "TEXT is empty")
    (cond (length p.word == 0) (codes "WORD is empty")
    (codes "a WORD and a TEXT overlap: take another WORD, such as <home>"))

-- Why the rules reject the line of a pair.
abbrev pub reason_of : Pair → RulesCause → List ℕ
reason_of p RulesCause.Repeated = codes "TEXT has a WORD already"
reason_of p RulesCause.TooMany = codes "there are more than 1,000 rules"
reason_of p RulesCause.TooLong = codes "the rules are longer than 65,536 bytes"
reason_of p other = bad_word p

-- The value whose line is rejected. The last lines of the rules are those of the values, so as many
-- lines follow it as values.
abbrev pub rejected_value : List (List ℕ) → List ℕ → RulesFault → List ℕ
rejected_value values rules fault =
    get_or values ((length values - 1) - (count_by is_line_feed rules - fault.line)) []

-- This is reported of the value.
abbrev pub ReportsLine : List (List ℕ) → List ℕ → RulesFault → UsageFault → Type 0
ReportsLine values rules fault = IsReportOf (rejected_value values rules fault)
    (reason_of (pair_in (rejected_value values rules fault)) fault.cause)

-- The text is accepted. With the lines of the values it is rejected, and this is reported.
pub record RejectsLines (values : List (List ℕ)) (text : List ℕ) (report : UsageFault)
    : Type 0 where
  pub named : HaveEquals values (length values)
  pub accepted : IsAccepted text
  pub fault : RulesFault
  pub rejected : rules_said (with_lines text values) ≡ Err fault
  pub reported : ReportsLine values (with_lines text values) fault report

-- Why the text lacks lines for the values, of which there are some: a value does not contain `=`,
-- the rules reject a line, or an allocation failed.
pub record HasNoLines (values : List (List ℕ)) (text : List ℕ) (report : UsageFault) : Type 0 where
  pub some : values ≢ []
  pub because : BlamesFirst values report ⊎ (RejectsLines values text report
      ⊎ (report ≡ UsageFault.Memory))
