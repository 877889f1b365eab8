-- The canonical text of a content.
use Rattle.std.specs.Prelude.{◌≡◌, ℕ, List, ◌++◌}
use Rattle.dap_tree.specs.{Doc.Doc, Json.{IsRead, text_of}}

-- The text of the document that the content is read as comes after the old bytes.
abbrev pub AppendsCanonical : List ℕ → List ℕ → List ℕ → Type 0
AppendsCanonical content old new = (d : Doc) × IsRead content d × (new ≡ old ++ text_of d)
