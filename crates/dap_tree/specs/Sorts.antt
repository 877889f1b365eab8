-- The list of the kinds of ids. Statements about each kind quantify over this list.
use Rattle.std.specs.Prelude.{ℕ, Bool, eqb, List, [], ◌∷◌, codes}
use Rattle.std.specs.List.{AllByRecursion}
use Rattle.dap_tree.specs.declared.sort.Sort.{Sort}
use Rattle.dap_tree.specs.declared.sort.Sort.TheVariants.{ClientSeq, AdapterSeq, Frame, Reference}
use Rattle.dap_tree.specs.declared.sort.Sort.TheVariants.{Thread, Breakpoint}

-- All kinds, in the order of the variants.
abbrev pub all_sorts : List Sort
all_sorts = ClientSeq ∷ AdapterSeq ∷ Frame ∷ Reference ∷ Thread ∷ Breakpoint ∷ []

-- The statement holds for each kind.
abbrev pub EachSort : (Sort → Type 0) → Type 0
EachSort P = AllByRecursion P all_sorts

-- The index of a kind in the list, from 0.
abbrev pub sort_number : Sort → ℕ
sort_number ClientSeq = 0
sort_number AdapterSeq = 1
sort_number Frame = 2
sort_number Reference = 3
sort_number Thread = 4
sort_number Breakpoint = 5

abbrev pub same_sort : Sort → Sort → Bool
same_sort s t = eqb (sort_number s) (sort_number t)

-- The name of a kind in output (own).
abbrev pub sort_word : Sort → List ℕ
sort_word ClientSeq = codes "client-seq"
sort_word AdapterSeq = codes "adapter-seq"
sort_word Frame = codes "frame"
sort_word Reference = codes "reference"
sort_word Thread = codes "thread"
sort_word Breakpoint = codes "breakpoint"
