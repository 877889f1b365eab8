-- A content that is read as a document is not empty.
use Rattle.std.proofs.Common.{ℕ, ◌<◌, List, length}
use Rattle.dap_tree.specs.Doc.{Doc}
use Rattle.dap_tree.specs.Json.{IsRead, data_of}
use Rattle.dap_tree.proofs.Outcomes.{some_byte}

pub some_content : (bytes : List ℕ) (d : Doc) → IsRead bytes d → 0 < length bytes
some_content bytes d is = some_byte bytes (data_of d) is.0.1
