-- The model of an interning table without an index.
use Rattle.std.specs.Prelude.{ℕ, ℤ, List}
use Rattle.dap_rename.specs.declared.plain_names.PlainNames.{PlainNames}

-- The numbers of the table, in the order of their canonical numbers.
abbrev pub plain_numbers : PlainNames → List ℤ
plain_numbers t = t.items.items

-- The maximum length of the table.
abbrev pub plain_limit : PlainNames → ℕ
plain_limit t = t.limit
