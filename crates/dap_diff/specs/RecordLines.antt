-- The parts of the lines that report all differences. Source: own.
use Rattle.std.specs.Prelude.{ℕ, List, ◌++◌, Option, Some, None, codes, decimal}

-- The number of a record, or `-` if the recording has no such record.
abbrev pub record_text : Option ℕ → List ℕ
record_text None = codes "-"
record_text (Some number) = decimal number

-- The line of a record of A and its counterpart in B, such as `12/13 < event "stopped"`.
abbrev pub place_line : Option ℕ → Option ℕ → List ℕ → List ℕ
place_line a b head = record_text a ++ codes "/" ++ record_text b ++ codes " " ++ head ++ codes "\n"

-- The first line: how many pairs differ, and how many records have no counterpart.
abbrev pub count_line : ℕ → ℕ → ℕ → List ℕ
count_line pairs only_a only_b =
    codes "differ: " ++ decimal pairs ++ codes " paired, " ++ decimal only_a ++ codes " only in A, "
    ++ decimal only_b ++ codes " only in B\n"
