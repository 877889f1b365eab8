-- For private clauses: relates a document to the value that is read from a string in one pass, and
-- to the remaining tokens.
use Rattle.std.specs.Prelude.{◌≡◌, List, ℕ, false, Option, Some, option_map}
use Rattle.json.specs.Token.{Token}
use Rattle.serde_json.specs.Data as json
use Rattle.serde_json.specs.Read.{read}
use Rattle.dap_tree.specs.Doc.{Doc, Items, Members, has_id, items_have_id, members_have_id}
use Rattle.dap_tree.specs.Json.{data_of, items_data, members_data}

-- The string is read as this document.
abbrev pub IsTextOf : List ℕ → Doc → Type 0
IsTextOf bytes d = (read bytes ≡ Some (data_of d)) × (has_id d ≡ false)

-- The number is this document.
abbrev pub IsNumberOf : Option json.Num → Doc → Type 0
IsNumberOf n d = (option_map json.number n ≡ Some (data_of d)) × (has_id d ≡ false)

-- The value that was read is this document, and these tokens follow it.
abbrev pub IsParsed : Option (json.Data × List Token) → Doc → List Token → Type 0
IsParsed found d left = (found ≡ Some (data_of d, left)) × (has_id d ≡ false)

-- The same for the items of an array and the bracket that ends it.
abbrev pub AreItemsParsed : Option (json.Items × List Token) → Items → List Token → Type 0
AreItemsParsed found ds left = (found ≡ Some (items_data ds, left)) × (items_have_id ds ≡ false)

-- The same for the members of an object and the brace that ends it.
abbrev pub AreMembersParsed : Option (json.Members × List Token) → Members → List Token → Type 0
AreMembersParsed found ms left =
    (found ≡ Some (members_data ms, left)) × (members_have_id ms ≡ false)
