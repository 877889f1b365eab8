-- The interning tables that are passed to a command function.
use Rattle.std.specs.Prelude.{◌≡◌, ℕ, ℤ, List}
use Rattle.dap_rename.specs.{Names.AreEmpty, Tables.table_of, declared.tables.Tables.Tables}
use Rattle.dap_tree.specs.declared.sort.Sort.{Sort}
use Rattle.dap_input.specs.declared.limits.Limits.{Limits}

-- The tables are ready for a new recording (own): all are empty, and each accepts as many numbers
-- as its kind may have ids.
abbrev pub AreReady : {T : Type 0} → (T → List ℤ) → (T → ℕ) → Limits → Tables T → Type 0
AreReady numbers table_limit limits tables = AreEmpty numbers tables
    × ((s : Sort) → table_limit (table_of tables s) ≡ limits.ids)
