-- The result of reading a content as a flat document. All but the first is for private clauses.
use Rattle.std.specs.Prelude.{◌≡◌, ℕ, ℤ, List, Option}
use Rattle.json.specs.Token.{Token}
use Rattle.serde_json.specs.Data as json
use Rattle.dap_tree.specs.{Doc.{Doc, whole, Items, Members}, Json.IsRead}
use Rattle.dap_tree.specs.ReadTokens.{IsTextOf, IsNumberOf, IsParsed, AreItemsParsed}
use Rattle.dap_tree.specs.ReadTokens.{AreMembersParsed}
use Rattle.dap_flat.specs.declared.node.Node.{Node}
use Rattle.dap_flat.specs.Pieces.{Piece, piece_of, pieces, items_pieces, members_pieces, Appends}
use Rattle.dap_flat.specs.Pieces.{Represents}
use Rattle.dap_flat.specs.Pieces as flat

-- The content is read as a document, and the nodes represent it.
abbrev pub ReadsDocument : List ℕ → List Node → Type 0
ReadsDocument bytes ns = (d : Doc) × IsRead bytes d × Represents ns d

abbrev pub ReadsText : List ℕ → List Node → Type 0
ReadsText bytes ns = (d : Doc) × IsTextOf bytes d × Represents ns d

abbrev pub ReadsNumber : Option json.Num → Node → Type 0
ReadsNumber n node = (z : ℤ) × IsNumberOf n (whole z) × (piece_of node ≡ flat.leaf (whole z))

abbrev pub ReadsValue : Option (json.Data × List Token) → List Node → List Node → List Token
    → Type 0
ReadsValue found old new left = (d : Doc) × IsParsed found d left × Appends old new (pieces d)

abbrev pub ReadsItems : Option (json.Items × List Token) → List Node → List Node → List Token
    → Type 0
ReadsItems found old new left = (ds : Items) × AreItemsParsed found ds left
    × Appends old new (items_pieces ds)

abbrev pub ReadsMembers : Option (json.Members × List Token) → List Node → List Node → List Token
    → Type 0
ReadsMembers found old new left = (ms : Members) × AreMembersParsed found ms left
    × Appends old new (members_pieces ms)
