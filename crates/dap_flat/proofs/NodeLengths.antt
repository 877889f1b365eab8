-- The lengths of the nodes add up to the length of the text.
use Rattle.std.proofs.Common.{◌≡◌, ℕ, ℤ, pos, negsuc, ◌+◌, ◌<◌, Bool, true, false, cond, List, []}
use Rattle.std.proofs.Common.{◌∷◌, ◌++◌, length, map, drop, get_or, refl, sym, ap, ap₂, ◌∙◌, arith}
use Rattle.std.proofs.Common.{length-append}
use Rattle.std.specs.Fmt.{signed_decimal}
use Rattle.std.proofs.lemmas.List.{at_drop_more}
use Rattle.json.specs.Token.{Token}
use Rattle.json.specs.Token as token
use Rattle.json.specs.Print.{print, print_from, separator, token_text, begins, ends, escape, quoted}
use Rattle.serde_json.specs.Find.{of_integer}
use Rattle.serde_json.specs.Written.{number_text}
use Rattle.serde_json.proofs.Texts.{print-outline}
use Rattle.dap_tree.specs.Doc.{Doc}
use Rattle.dap_tree.specs.Ids.{with_ids}
use Rattle.dap_tree.specs.Json.{data_of, text_of}
use Rattle.dap_flat.specs.declared.node.Node.{Node}
use Rattle.dap_flat.specs.declared.node.Node.TheVariants as node
use Rattle.dap_flat.specs.Ids.{numbered, after_piece}
use Rattle.dap_flat.specs.Lengths.{comma_length, node_length, ends_value, nodes_length}
use Rattle.dap_flat.specs.Pieces.{piece_of, Represents}
use Rattle.dap_flat.proofs.IdPieces.{all_numbered}
use Rattle.dap_flat.proofs.Spelling.{spell, pieces_spell}

-- ---- one token

abbrev comma_if : Bool → List ℕ
comma_if b = cond b (44 ∷ []) []

pub with_comma : (comes : Bool) (t : Token) → begins t ≡ true
    → length (separator comes t) ≡ comma_length comes
with_comma true t is = ap (λ b. length (comma_if b)) is
with_comma false t is = refl

pub without_comma : (comes : Bool) (t : Token) → begins t ≡ false → length (separator comes t) ≡ 0
without_comma true t is = ap (λ b. length (comma_if b)) is
without_comma false t is = refl

token_added : (comes : Bool) (t : Token) (ts : List Token)
    → length (print_from comes (t ∷ ts))
    ≡ length (separator comes t) + (length (token_text t) + length (print_from (ends t) ts))
unfolding print_from
token_added comes t ts =
    length-append (separator comes t) (token_text t ++ print_from (ends t) ts)
    ∙ ap (λ n. length (separator comes t) + n)
    (length-append (token_text t) (print_from (ends t) ts))

begun : (comes : Bool) (t : Token) (ts : List Token) (k rest : ℕ) → begins t ≡ true
    → length (token_text t) ≡ k → rest ≡ length (print_from (ends t) ts)
    → (comma_length comes + k) + rest ≡ length (print_from comes (t ∷ ts))
begun comes t ts k rest is long more =
    omega (arith, with_comma comes t is, long, more, token_added comes t ts)

closed : (comes : Bool) (t : Token) (ts : List Token) (rest : ℕ) → begins t ≡ false
    → length (token_text t) ≡ 1 → rest ≡ length (print_from (ends t) ts)
    → 1 + rest ≡ length (print_from comes (t ∷ ts))
closed comes t ts rest is long more =
    omega (arith, without_comma comes t is, long, more, token_added comes t ts)

pub quoted_length : (s : List ℕ) → length (quoted s) ≡ length (escape s) + 2
quoted_length s = omega (arith, length-append (escape s) (34 ∷ []))

pub key_length : (s : List ℕ) → length (token_text (token.key s)) ≡ length (escape s) + 3
key_length s = omega (arith, quoted_length s, length-append (quoted s) (58 ∷ []))

pub number_is : (z : ℤ) → number_text (of_integer z) ≡ signed_decimal z
number_is (pos n) = refl
number_is (negsuc n) = refl

-- ---- all nodes

nodes_counted : (comes : Bool) (is : List ℤ) (ns : List Node)
    → nodes_length comes is ns
    ≡ length (print_from comes (spell (numbered (map piece_of ns) is)))
unfolding print_from
nodes_counted comes is [] = refl
nodes_counted comes is (node.Null ∷ ns) =
    begun comes token.null _ 4 _ refl refl (nodes_counted true is ns)
nodes_counted comes is (node.Bool true ∷ ns) =
    begun comes (token.boolean true) _ 4 _ refl refl (nodes_counted true is ns)
nodes_counted comes is (node.Bool false ∷ ns) =
    begun comes (token.boolean false) _ 5 _ refl refl (nodes_counted true is ns)
nodes_counted comes is (node.Unsigned n ∷ ns) =
    begun comes (token.number (number_text (of_integer (pos n)))) _ _ _ refl refl
    (nodes_counted true is ns)
nodes_counted comes is (node.Negative z ∷ ns) =
    begun comes (token.number (number_text (of_integer z))) _ _ _ refl (ap length (number_is z))
    (nodes_counted true is ns)
nodes_counted comes is (node.Text s ∷ ns) =
    begun comes (token.string s.now) _ _ _ refl (quoted_length s.now) (nodes_counted true is ns)
nodes_counted comes is (node.List n ∷ ns) =
    begun comes token.begin_array _ 1 _ refl refl (nodes_counted false is ns)
nodes_counted comes is (node.EndList ∷ ns) =
    closed comes token.end_array _ _ refl refl (nodes_counted true is ns)
nodes_counted comes is (node.Object n ∷ ns) =
    begun comes token.begin_object _ 1 _ refl refl (nodes_counted false is ns)
nodes_counted comes is (node.EndObject ∷ ns) =
    closed comes token.end_object _ _ refl refl (nodes_counted true is ns)
nodes_counted comes is (node.Name s ∷ ns) =
    begun comes (token.key s.now) _ _ _ refl (key_length s.now) (nodes_counted false is ns)
nodes_counted comes is (node.Id s z ∷ ns) =
    let y = get_or is 0 z in
    begun comes (token.number (number_text (of_integer y))) _ _ _ refl (ap length (number_is y))
    (nodes_counted true (drop 1 is) ns)

pub text_counted : (ns : List Node) (d : Doc) (is : List ℤ) → Represents ns d
    → nodes_length false is ns ≡ length (text_of (with_ids d is))
text_counted ns d is shows =
    nodes_counted false is ns
    ∙ ap (λ ps. length (print (spell ps)))
    (ap (λ ps. numbered ps is) shows ∙ all_numbered d is)
    ∙ ap length (ap print (pieces_spell (with_ids d is)) ∙ print-outline (data_of (with_ids d is)))

-- the next node, and those after it
pub next_counted : (comes : Bool) (is : List ℤ) (ns : List Node) (i : ℕ) (x : Node)
    → i < length ns
    → nodes_length comes is (drop i ns)
    ≡ node_length comes is (get_or ns i x)
    + nodes_length (ends_value (get_or ns i x)) (after_piece (piece_of (get_or ns i x)) is)
    (drop (i + 1) ns)
next_counted comes is ns i x within = at_drop_more (nodes_length comes is) ns i x within
