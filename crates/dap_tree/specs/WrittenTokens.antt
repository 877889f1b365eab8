-- For private clauses: the tokens that are passed to a JSON writer for a document. Reading them
-- yields the document.
use Rattle.std.specs.Prelude.{◌≡◌, List, ◌++◌, Some}
use Rattle.json.specs.Token.{Token}
use Rattle.json.specs.Json as grammar
use Rattle.json.specs.Tree.{json_tokens, items_tokens, members_tokens}
use Rattle.serde_json.specs.Data as json
use Rattle.serde_json.specs.Read.{of_json, of_items, of_members}
use Rattle.serde_json.specs.Written.{outline, items_outline, members_outline}
use Rattle.dap_tree.specs.Doc.{Doc, Items, Members}
use Rattle.dap_tree.specs.Json.{data_of, items_data, members_data}

-- A document in the grammar of JSON (RFC 8259).
abbrev pub json_of : Doc → grammar.Json
json_of d = outline (data_of d)

abbrev pub items_json : Items → grammar.Items
items_json ds = items_outline (items_data ds)

abbrev pub members_json : Members → grammar.Members
members_json ms = members_outline (members_data ms)

-- The document's tokens are appended, and reading their text yields the document.
abbrev pub WritesDoc : Doc → List Token → List Token → Type 0
WritesDoc d old new = (new ≡ old ++ json_tokens (json_of d))
    × (of_json (json_of d) ≡ Some (data_of d))

-- The same for the items of an array and the bracket that ends it.
abbrev pub WritesItems : Items → List Token → List Token → Type 0
WritesItems ds old new = (new ≡ old ++ items_tokens (items_json ds))
    × (of_items (items_json ds) ≡ Some (items_data ds))

-- The same for the members of an object and the brace that ends it.
abbrev pub WritesMembers : Members → List Token → List Token → Type 0
WritesMembers ms old new = (new ≡ old ++ members_tokens (members_json ms))
    × (of_members (members_json ms) json.no_members ≡ Some (members_data ms))
