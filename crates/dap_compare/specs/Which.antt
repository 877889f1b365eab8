-- The two inputs that are compared, and the text that reports that one is rejected. Source: own.
use Rattle.std.specs.Prelude.{ℕ, List, ◌++◌, codes}
use Rattle.dap_compare.specs.declared.verdict.CompareRefused.{CompareRefused}
use Rattle.dap_compare.specs.declared.verdict.CompareRefused.TheVariants.{Input, Memory}
use Rattle.dap_compare.specs.declared.verdict.Which.{Which}
use Rattle.dap_compare.specs.declared.verdict.Which.TheVariants.{A, B}
use Rattle.dap_input.specs.RefusedText.{refused_text}

-- the letter of one of two inputs
abbrev pub which_text : Which → List ℕ
which_text A = codes "A"
which_text B = codes "B"

-- the text that reports why two inputs were not compared to the end
abbrev pub compare_refused_text : CompareRefused → List ℕ
compare_refused_text (Input which refused) =
    which_text which ++ codes ": " ++ refused_text refused
compare_refused_text Memory = codes "out of memory"
