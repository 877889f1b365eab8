-- The tokens of a flat document are those of the document.
use Rattle.std.proofs.Common.{◌≡◌, List, [], ◌∷◌, ◌++◌, map, refl, ap, ap₂, ◌∙◌, append_assoc}
use Rattle.std.specs.List.{flat_map}
use Rattle.std.proofs.lemmas.Grind.{flat_map-append}
use Rattle.json.specs.Token.{Token}
use Rattle.json.specs.Token as token
use Rattle.json.specs.Print.{print}
use Rattle.json.specs.Tree.{json_tokens, items_tokens, members_tokens}
use Rattle.serde_json.proofs.Texts.{print-outline}
use Rattle.dap_tree.specs.Doc.{Doc, null, boolean, whole, text, list, object, id, Items, no_items}
use Rattle.dap_tree.specs.Doc.{item, Members, no_members, member}
use Rattle.dap_tree.specs.Json.{data_of, text_of}
use Rattle.dap_tree.specs.WrittenTokens.{json_of, items_json, members_json}
use Rattle.dap_flat.specs.declared.node.Node.{Node}
use Rattle.dap_flat.specs.Pieces.{Piece, end_list, end_object}
use Rattle.dap_flat.specs.Pieces.{piece_of, pieces, items_pieces, members_pieces, Represents}
use Rattle.dap_flat.specs.Writing.{piece_tokens, node_tokens, tokens_of}

abbrev pub spell : List Piece → List Token
spell ps = flat_map piece_tokens ps

spell-append : (ps qs : List Piece) → spell (ps ++ qs) ≡ spell ps ++ spell qs
spell-append ps qs = flat_map-append piece_tokens ps qs

mutual
  pub pieces_spell : (d : Doc) → spell (pieces d) ≡ json_tokens (json_of d)
  pieces_spell null = refl
  pieces_spell (boolean b) = refl
  pieces_spell (whole z) = refl
  pieces_spell (text s) = refl
  pieces_spell (list ds) =
      ap (λ ts. token.begin_array ∷ ts)
      (spell-append (items_pieces ds) (end_list ∷ []) ∙ items_spell ds)
  pieces_spell (object ms) =
      ap (λ ts. token.begin_object ∷ ts)
      (spell-append (members_pieces ms) (end_object ∷ []) ∙ members_spell ms)
  pieces_spell (id s z) = refl

  items_spell : (ds : Items)
      → spell (items_pieces ds) ++ token.end_array ∷ [] ≡ items_tokens (items_json ds)
  items_spell no_items = refl
  items_spell (item d ds) =
      ap (λ ts. ts ++ token.end_array ∷ []) (spell-append (pieces d) (items_pieces ds))
      ∙ append_assoc (spell (pieces d)) (spell (items_pieces ds)) (token.end_array ∷ [])
      ∙ ap₂ (λ xs ys. xs ++ ys) (pieces_spell d) (items_spell ds)

  members_spell : (ms : Members)
      → spell (members_pieces ms) ++ token.end_object ∷ [] ≡ members_tokens (members_json ms)
  members_spell no_members = refl
  members_spell (member k d ms) =
      ap (λ ts. token.key k ∷ (ts ++ token.end_object ∷ []))
      (spell-append (pieces d) (members_pieces ms))
      ∙ ap (λ ts. token.key k ∷ ts)
      (append_assoc (spell (pieces d)) (spell (members_pieces ms)) (token.end_object ∷ [])
      ∙ ap₂ (λ xs ys. xs ++ ys) (pieces_spell d) (members_spell ms))

nodes_spell : (ns : List Node) → tokens_of ns ≡ spell (map piece_of ns)
nodes_spell [] = refl
nodes_spell (n ∷ ns) = ap (λ ts. node_tokens n ++ ts) (nodes_spell ns)

pub text_spelled : (ns : List Node) (d : Doc) → Represents ns d → print (tokens_of ns) ≡ text_of d
text_spelled ns d shows =
    ap print (nodes_spell ns ∙ ap spell shows ∙ pieces_spell d) ∙ print-outline (data_of d)
