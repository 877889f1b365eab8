-- What is needed so that the lines of members determine the members. Source: own.
use Rattle.std.specs.Prelude.{◌≡◌, ℕ, ⊤, true, List, [], ◌∷◌}
use Rattle.dap_tree.specs.Doc.{Members, members_plain, members_utf8}

-- The members can be written: they have no id, every integer is in range, and every string and
-- every name is UTF-8.
abbrev pub AreWritable : Members → Type 0
AreWritable ms = (members_plain ms ≡ true) × (members_utf8 ms ≡ true)

-- A record ends before these bytes: there are none, or they start with `-`, as a head does.
abbrev pub EndsRecord : List ℕ → Type 0
EndsRecord [] = ⊤
EndsRecord (b ∷ x) = b ≡ 45
