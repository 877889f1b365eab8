-- What a command found: what is printed of it, and the status. Source: own.
use Rattle.std.specs.Prelude.{ℕ, ◌==◌, ◌++◌, Bool, true, false, List, [], ◌∷◌, codes, cond, decimal}
use Rattle.std.specs.{Fmt.signed_decimal, List.flat_map, Prelude.string_bytes}
use Rattle.dap_compare.specs.declared.verdict.Verdict.{Verdict}
use Rattle.dap_diff.specs.declared.all_differences.AllDifferences.{AllDifferences}
use Rattle.dap_diff.specs.declared.outcome.Diff.{Diff}
use Rattle.dap_golden.specs.declared.comparing.GoldenVerdict.{GoldenVerdict}
use Rattle.dap_golden.specs.declared.updates.GoldenDone.{GoldenDone}
use Rattle.dap_host.specs.declared.host.Stream.{Stream, TheVariants.{Lines, Names}}
use Rattle.dap_normalise.specs.declared.checked.Checked.{Checked}
use Rattle.dap_rename.specs.Renaming.{pairs_of}
use Rattle.dap_rename.specs.declared.mode.Mode.{Mode, TheVariants.{PerStop, Whole}}
use Rattle.dap_rename.specs.declared.pair.Pair.{Pair}
use Rattle.dap_tree.specs.Sorts.{sort_word}
use Rattle.dap_tree.specs.declared.sort.Sort.{Sort, TheVariants.{Frame, Reference}}
use Rattle.dapnorm.specs.{Lines.joined, declared.answer.Answer.Answer}

-- ---- the lines

-- the line with the numbers of an accepted recording
abbrev pub accepted_texts : Checked → List (List ℕ)
accepted_texts checked =
    codes "accepted records=" ∷ decimal checked.records ∷ codes " open="
    ∷ decimal checked.client_open ∷ codes "," ∷ decimal checked.adapter_open ∷ codes "\n" ∷ []

-- the lines for two recordings that are the same, and for two that differ at this record
abbrev pub same_texts : List (List ℕ)
same_texts = codes "same\n" ∷ []

abbrev pub differ_texts : ℕ → List ℕ → List (List ℕ)
differ_texts number lines = codes "differ " ∷ decimal number ∷ codes "\n" ∷ lines ∷ []

-- If the numbers of the kind restart, the line of a pair has its stop.
abbrev pub shows_stop : Mode → Sort → Bool
shows_stop PerStop Frame = true
shows_stop PerStop Reference = true
shows_stop mode sort = false

-- the line of a pair: the kind, perhaps with the number of stops before its class, and the two
-- numbers
abbrev pub pair_line : Mode → Pair → List ℕ
pair_line mode pair = joined
    (sort_word pair.sort ∷ cond (shows_stop mode pair.sort) (codes "@" ++ decimal pair.stop) []
    ∷ codes " " ∷ signed_decimal pair.from ∷ codes " " ∷ signed_decimal pair.to ∷ codes "\n" ∷ [])

-- ---- what is printed

abbrev pub verdict_texts : Verdict → List (List ℕ)
verdict_texts (Verdict.Same renaming) = same_texts
verdict_texts (Verdict.Differ number) = differ_texts number []

abbrev pub diff_texts : Diff → List (List ℕ)
diff_texts Diff.Same = same_texts
diff_texts (Diff.Differ number lines) = differ_texts number lines.items

abbrev pub all_texts : AllDifferences → List (List ℕ)
all_texts AllDifferences.Same = same_texts
all_texts (AllDifferences.Differ lines) = lines.items ∷ []

-- the verdict on a golden file: what `diff` prints, the golden file first
abbrev pub golden_texts : GoldenVerdict → List (List ℕ)
golden_texts GoldenVerdict.Same = same_texts
golden_texts (GoldenVerdict.Differs number lines) = differ_texts number lines.items
golden_texts GoldenVerdict.NotNormal = codes
    "the session is the same, but the golden file is not in normal form: --update rewrites it\n"
    ∷ []

-- what was done with the golden file of this name
abbrev pub done_texts : List ℕ → GoldenDone → List (List ℕ)
done_texts name (GoldenDone.Compared verdict) = golden_texts verdict
done_texts name GoldenDone.Unchanged = codes "unchanged\n" ∷ []
done_texts name (GoldenDone.Written records) = codes "wrote " ∷ name ∷ codes " (" ∷ decimal records
    ∷ cond (records == 1) (codes " record)\n") (codes " records)\n") ∷ []

abbrev pub answer_texts : Answer → List (List ℕ)
answer_texts (Answer.Accepted checked) = accepted_texts checked
answer_texts (Answer.Verdict mode found) = verdict_texts found
answer_texts (Answer.Difference found) = diff_texts found
answer_texts (Answer.Differences found) = all_texts found
answer_texts (Answer.Golden name done) = done_texts name done
answer_texts (Answer.Rows lines) = string_bytes lines ∷ []
answer_texts (Answer.Rules lines) = lines.items ∷ []

-- the pairs of ids that have a line after that, and the mode in which the ids are numbered
abbrev pub pairs_in : Verdict → List Pair
pairs_in (Verdict.Same renaming) = pairs_of renaming
pairs_in (Verdict.Differ number) = []

abbrev pub answer_pairs : Answer → List Pair
answer_pairs (Answer.Verdict mode found) = pairs_in found
answer_pairs found = []

abbrev pub answer_mode : Answer → Mode
answer_mode (Answer.Verdict mode found) = mode
answer_mode found = Whole

abbrev pub answer_text : Answer → List ℕ
answer_text found =
    joined (answer_texts found) ++ flat_map (pair_line (answer_mode found)) (answer_pairs found)

abbrev pub accepted_line : Checked → List ℕ
accepted_line checked = answer_text (Answer.Accepted checked)

abbrev pub verdict_text : Mode → Verdict → List ℕ
verdict_text mode found = answer_text (Answer.Verdict mode found)

-- the standard output that it is printed on: only `golden` prints names of files
abbrev pub answer_stream : Answer → Stream
answer_stream (Answer.Golden name done) = Names
answer_stream found = Lines

-- ---- the status: 0 for the same, 1 for different

abbrev pub verdict_status : Verdict → ℕ
verdict_status (Verdict.Same renaming) = 0
verdict_status (Verdict.Differ number) = 1

-- the golden file has the session, or not
abbrev pub done_status : GoldenDone → ℕ
done_status (GoldenDone.Compared GoldenVerdict.Same) = 0
done_status (GoldenDone.Compared verdict) = 1
done_status one = 0

abbrev pub answer_status : Answer → ℕ
answer_status (Answer.Verdict mode found) = verdict_status found
answer_status (Answer.Difference (Diff.Differ number lines)) = 1
answer_status (Answer.Differences (AllDifferences.Differ lines)) = 1
answer_status (Answer.Golden name done) = done_status done
answer_status found = 0
