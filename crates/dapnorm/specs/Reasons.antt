-- Why a command did not finish: the line that reports it, and the status. Source: own.
use Rattle.std.specs.Prelude.{ℕ, ◌++◌, Bool, true, false, List, [], ◌∷◌, Option, Some, None, codes}
use Rattle.std.specs.Prelude.{decimal, is_some, string_bytes}
use Rattle.dap_commands.specs.declared.commands.UsageFault.{UsageFault}
use Rattle.dap_compare.specs.Which.{compare_refused_text, which_text}
use Rattle.dap_compare.specs.declared.verdict.{CompareRefused.CompareRefused, Which.Which}
use Rattle.dap_input.specs.RefusedText.{refused_text}
use Rattle.dap_input.specs.declared.refused.Refused.{Refused, TheVariants.{Memory, ReadFault}}
use Rattle.dap_mask.specs.RulesCauseName.{rules_cause_name}
use Rattle.dap_rules.specs.declared.fault.ApplyRefused.{ApplyRefused}
use Rattle.dapnorm.specs.{GoldenLines.{golden_line, stop_line, stop_status}, Lines.fault_line}
use Rattle.dapnorm.specs.Readings.{unread_status, unread_text}
use Rattle.dapnorm.specs.{Reporting.{refusal_status, refused_status}, Saving.unsaved_words}
use Rattle.dapnorm.specs.declared.{reading.Unread.TheVariants.Unopened, rules.NoRules.NoRules}
use Rattle.dapnorm.specs.declared.{stream.Unstreamed.Unstreamed, why.Mistake.Mistake}
use Rattle.dapnorm.specs.declared.why.{Overlap.Overlap, Why.Why}

-- ---- mistakes

abbrev pub mistake_line : Mistake → List ℕ
mistake_line Mistake.TwoStandard = codes "error: only one of A and B can be standard input\n"
mistake_line Mistake.NoRow =
    codes "error: no row has this number: dapnorm rows prints them all\n"
mistake_line Mistake.RecordAlone =
    codes "error: --record prints one content: use it without --full, --yaml and --faulty\n"
mistake_line Mistake.RecordNumber =
    codes "error: --record needs the number of a record, from 1 on\n"
mistake_line Mistake.YamlAlone =
    codes "error: --yaml prints a transcript: use it without --full and --faulty\n"

-- what the line says before the name of the file
abbrev pub overlap_words : Overlap → List ℕ
overlap_words Overlap.OutputAndRules = codes "the output and the rules file are the same file: "
overlap_words Overlap.GoldenAndInput =
    codes "golden: the golden file and the input are the same file: "
overlap_words Overlap.GoldenAndRules =
    codes "golden: the golden file and the rules file are the same file: "

-- ---- files that are not read

-- the error of an input, or of one of two
abbrev pub input_line : Option Which → Refused → List ℕ
input_line None refused = fault_line (refused_text refused ∷ [])
input_line (Some which) refused =
    fault_line (compare_refused_text (CompareRefused.Input which refused) ∷ [])

-- what the line about one of two inputs starts with
abbrev pub which_texts : Option Which → List (List ℕ)
which_texts None = [] ∷ [] ∷ []
which_texts (Some which) = which_text which ∷ codes ": " ∷ []

-- the input of `golden`
abbrev pub unread_session_line : List ℕ
unread_session_line = golden_line (codes "read fault" ∷ [])

-- a golden file that was not found cannot be written on an update, and otherwise not read
abbrev pub lost_words : Bool → List ℕ
lost_words true = codes ": write fault"
lost_words false = codes ": read fault"

-- ---- rules

abbrev pub no_rules_line : NoRules → List ℕ
no_rules_line (NoRules.Words (UsageFault.Usage text)) = string_bytes text
no_rules_line (NoRules.Words (UsageFault.Help text)) = string_bytes text
no_rules_line (NoRules.Words UsageFault.Memory) = fault_line (refused_text Memory ∷ [])
no_rules_line (NoRules.File why) =
    unread_text why (fault_line (codes "rules: read fault" ∷ [])) (codes "rules: " ∷ [] ∷ [])
no_rules_line (NoRules.Line why text) = fault_line
    (codes "rules: line " ∷ decimal why.line ∷ codes ": " ∷ rules_cause_name why.cause ∷ [])
no_rules_line NoRules.Memory = fault_line (refused_text Memory ∷ [])

abbrev pub no_rules_status : NoRules → ℕ
no_rules_status (NoRules.Words UsageFault.Memory) = 5
no_rules_status (NoRules.Words why) = 3
no_rules_status (NoRules.File why) = unread_status why
no_rules_status (NoRules.Line why text) = 2
no_rules_status NoRules.Memory = 5

-- the line that reports why the rules cannot be applied to an input, or to one of two; records of a
-- recording in order are counted after the rules
abbrev pub unapplied_line : Option Which → ApplyRefused → List ℕ
unapplied_line which (ApplyRefused.Mask refused) = input_line which refused
unapplied_line which (ApplyRefused.Order refused) =
    fault_line (which_texts which ++ codes "after the rules: " ∷ refused_text refused ∷ [])
unapplied_line which ApplyRefused.ReadFault = input_line which ReadFault
unapplied_line which ApplyRefused.Memory = fault_line (refused_text Memory ∷ [])

abbrev pub unapplied_status : ApplyRefused → ℕ
unapplied_status (ApplyRefused.Mask refused) = refused_status refused
unapplied_status (ApplyRefused.Order refused) = refused_status refused
unapplied_status ApplyRefused.ReadFault = 4
unapplied_status ApplyRefused.Memory = 5

-- ---- one input

-- a recording does not have the record of this number
abbrev pub unstreamed_line : Unstreamed → List ℕ
unstreamed_line (Unstreamed.Input refused) = fault_line (refused_text refused ∷ [])
unstreamed_line (Unstreamed.NoRecord number count) = fault_line
    (codes "no record " ∷ decimal number ∷ codes ": the recording has " ∷ decimal count ∷ [])

abbrev pub unstreamed_status : Unstreamed → ℕ
unstreamed_status (Unstreamed.Input refused) = refused_status refused
unstreamed_status (Unstreamed.NoRecord number count) = 2

-- ---- each reason

abbrev pub why_line : Why → List ℕ
why_line (Why.Mistake one) = mistake_line one
why_line (Why.SameFile files name) = fault_line (overlap_words files ∷ name ∷ [])
why_line (Why.Rules one) = no_rules_line one
why_line (Why.Unread which one) = unread_text one (input_line which ReadFault) (which_texts which)
why_line (Why.Input refused) = fault_line (refused_text refused ∷ [])
why_line (Why.Stream one mask) = unstreamed_line one
why_line (Why.Pair refused) = fault_line (compare_refused_text refused ∷ [])
why_line (Why.Unapplied which refused mask) = unapplied_line which refused
why_line (Why.Output name one) =
    unread_text (Unopened one) (fault_line (name ∷ codes ": write fault" ∷ []))
    (name ∷ codes ": " ∷ [])
why_line (Why.Unsaved name one) = fault_line (name ∷ unsaved_words one.step ∷ [])
why_line (Why.Session one) = unread_text one unread_session_line (codes "golden: " ∷ [] ∷ [])
why_line (Why.GoldenFile name update one) =
    unread_text (Unopened one) (golden_line (name ∷ lost_words update ∷ []))
    (name ∷ codes ": " ∷ [])
why_line (Why.Golden name stop mask) = stop_line (is_some mask) name stop
why_line (Why.NoSuggestion line) = string_bytes line

abbrev pub why_status : Why → ℕ
why_status (Why.Mistake one) = 3
why_status (Why.SameFile files name) = 3
why_status (Why.Rules one) = no_rules_status one
why_status (Why.Unread which one) = unread_status one
why_status (Why.Input refused) = refused_status refused
why_status (Why.Stream one mask) = unstreamed_status one
why_status (Why.Pair refused) = refusal_status refused
why_status (Why.Unapplied which refused mask) = unapplied_status refused
why_status (Why.Output name one) = unread_status (Unopened one)
why_status (Why.Unsaved name one) = 4
why_status (Why.Session one) = unread_status one
why_status (Why.GoldenFile name update one) = unread_status (Unopened one)
why_status (Why.Golden name stop mask) = stop_status stop
why_status (Why.NoSuggestion line) = 1
