-- The model of an interning table with a hash index, for any hasher.
use Rattle.std.specs.Prelude.{ℕ, ℤ, List}
use Rattle.std.specs.declared.hash.BuildHasher as builder
use Rattle.std.specs.declared.hash.Hasher as hasher
use Rattle.dap_rename.specs.declared.index_names.IndexNames.{IndexNames}

module _ {S H : Type 0} {build : builder.Ghosts S H} {hash : hasher.Ghosts H} where
  -- The numbers of the table, in the order of their canonical numbers.
  abbrev pub index_numbers : IndexNames S H build hash → List ℤ
  index_numbers t = t.items.keys

  -- The maximum length of the table.
  abbrev pub index_limit : IndexNames S H build hash → ℕ
  index_limit t = t.limit
