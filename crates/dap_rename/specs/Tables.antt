-- The tables of the kinds of ids. For private clauses: their numbers as lists, and the canonical
-- numbers that these define.
use Rattle.std.specs.Prelude.{◌≡◌, ◌≤◌, ◌<◌, ℕ, ℤ, cond, List, [], ◌∷◌, length, take}
use Rattle.dap_tree.specs.declared.sort.Sort.{Sort}
use Rattle.dap_tree.specs.declared.sort.Sort.TheVariants.{ClientSeq, AdapterSeq, Frame, Reference}
use Rattle.dap_tree.specs.declared.sort.Sort.TheVariants.{Thread, Breakpoint}
use Rattle.dap_rename.specs.Numbering.{add}
use Rattle.dap_rename.specs.Table.{place}
use Rattle.dap_rename.specs.Sorts.{same_sort}
use Rattle.dap_rename.specs.declared.tables.Tables.{Tables}

-- The table of a kind.
abbrev pub table_of : {T : Type 0} → Tables T → Sort → T
table_of t ClientSeq = t.client_seq
table_of t AdapterSeq = t.adapter_seq
table_of t Frame = t.frame
table_of t Reference = t.reference
table_of t Thread = t.thread
table_of t Breakpoint = t.breakpoint

-- The value of a function for each kind.
abbrev pub tables_of : {T : Type 0} → (Sort → T) → Tables T
tables_of f =
    record {
      client_seq = f ClientSeq;
      adapter_seq = f AdapterSeq;
      frame = f Frame;
      reference = f Reference;
      thread = f Thread;
      breakpoint = f Breakpoint;
    }

-- A list for each kind of id.
abbrev pub Lists : Type 0
Lists = Tables (List ℤ)

-- The numbers in the tables.
abbrev pub lists : {T : Type 0} → (T → List ℤ) → Tables T → Lists
lists numbers t = tables_of (λ s. numbers (table_of t s))

-- The lengths of the tables.
abbrev pub counts : {T : Type 0} → (T → List ℤ) → Tables T → Tables ℕ
counts numbers t = tables_of (λ s. length (numbers (table_of t s)))

-- The lists after an id was interned.
abbrev pub added : Lists → Sort → ℤ → Lists
added l s x = tables_of (λ r. cond (same_sort r s) (add (table_of l r) x) (table_of l r))

-- The lists after these ids were interned, one after another.
abbrev pub added_all : Lists → List (Sort × ℤ) → Lists
added_all l [] = l
added_all l (i ∷ is) = added_all (added l i.0 i.1) is

-- The canonical number of each id, if they are interned one after another.
abbrev pub names_from : Lists → List (Sort × ℤ) → List ℤ
names_from l [] = []
names_from l (i ∷ is) = place (table_of l i.0) i.1 ∷ names_from (added l i.0 i.1) is

-- The old list is a prefix of the new list.
abbrev pub Extends : List ℤ → List ℤ → Type 0
Extends old new = (length old ≤ length new) × (take (length old) new ≡ old)

-- Each old list is a prefix of its new list.
unfoldable pub AllExtend : Lists → Lists → Type 0
AllExtend old new = (s : Sort) → Extends (table_of old s) (table_of new s)

-- A limit for each kind of id.
abbrev pub Limits : Type 0
Limits = Tables ℕ

abbrev pub limits : {T : Type 0} → (T → ℕ) → Tables T → Limits
limits limit t = tables_of (λ s. limit (table_of t s))

-- No list is longer than its limit.
unfoldable pub AllFit : Limits → Lists → Type 0
AllFit m l = (s : Sort) → length (table_of l s) ≤ table_of m s

-- Some list is longer than its limit.
abbrev pub SomeExceedsLimit : Limits → Lists → Type 0
SomeExceedsLimit m l = (s : Sort) × (table_of m s < length (table_of l s))
