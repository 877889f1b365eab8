-- For private clauses: the tokens that a flat document is written as.
use Rattle.std.specs.{Prelude.{List, [], ◌∷◌}, List.flat_map}
use Rattle.json.specs.Token.{Token}
use Rattle.json.specs.Token as token
use Rattle.json.specs.Tree.{json_tokens}
use Rattle.dap_tree.specs.WrittenTokens.{json_of}
use Rattle.dap_flat.specs.declared.node.Node.{Node}
use Rattle.dap_flat.specs.Pieces.{Piece, leaf, begin_list, end_list, begin_object, end_object, name}
use Rattle.dap_flat.specs.Pieces.{piece_of}

abbrev pub piece_tokens : Piece → List Token
piece_tokens (leaf d) = json_tokens (json_of d)
piece_tokens (begin_list n) = token.begin_array ∷ []
piece_tokens end_list = token.end_array ∷ []
piece_tokens (begin_object n) = token.begin_object ∷ []
piece_tokens end_object = token.end_object ∷ []
piece_tokens (name k) = token.key k ∷ []

abbrev pub node_tokens : Node → List Token
node_tokens n = piece_tokens (piece_of n)

abbrev pub tokens_of : List Node → List Token
tokens_of ns = flat_map node_tokens ns
