-- The length of the compact text of a flat document (own): what each node adds to it.
use Rattle.std.specs.Prelude.{◌≡◌, ℕ, ℤ, ◌+◌, ◌<◌, ◌≤◌, Bool, true, false, List, [], ◌∷◌, length}
use Rattle.std.specs.{Prelude.{decimal, slice_index_or, Option, MatchOption}, Fmt.signed_decimal}
use Rattle.json.specs.Print.{escape}
use Rattle.dap_flat.specs.declared.node.Node.{Node}
use Rattle.dap_flat.specs.declared.node.Node.TheVariants as node
use Rattle.dap_flat.specs.{Ids.after_piece, Pieces.piece_of}

-- The result is the length of the text, or the text is longer than the limit.
abbrev pub IsLengthWithin : ℕ → List ℕ → Option ℕ → Type 0
IsLengthWithin limit text r = MatchOption r (limit < length text)
    (λ n. (n ≡ length text) × (n ≤ limit))

-- All below is for private clauses.

-- The result is what remains of the bytes after n of them, or there are fewer than n.
abbrev pub Spends : ℕ → ℕ → Option ℕ → Type 0
Spends left n r = MatchOption r (left < n) (λ rest. rest + n ≡ left)

-- The length of the comma before a value or a name, if a value ended before it.
abbrev pub comma_length : Bool → ℕ
comma_length true = 1
comma_length false = 0

-- The length of the text of a node and of the comma before it. These numbers are those of the
-- remaining ids.
abbrev pub node_length : Bool → List ℤ → Node → ℕ
node_length comes ns node.Null = comma_length comes + 4
node_length comes ns (node.Bool true) = comma_length comes + 4
node_length comes ns (node.Bool false) = comma_length comes + 5
node_length comes ns (node.Unsigned n) = comma_length comes + length (decimal n)
node_length comes ns (node.Negative z) = comma_length comes + length (signed_decimal z)
node_length comes ns (node.Text s) = comma_length comes + (length (escape s.now) + 2)
node_length comes ns (node.List n) = comma_length comes + 1
node_length comes ns node.EndList = 1
node_length comes ns (node.Object n) = comma_length comes + 1
node_length comes ns node.EndObject = 1
node_length comes ns (node.Name s) = comma_length comes + (length (escape s.now) + 3)
node_length comes ns (node.Id s z) = comma_length comes
    + length (signed_decimal (slice_index_or ns 0 z))

-- Whether a value ends with this node.
abbrev pub ends_value : Node → Bool
ends_value node.Null = true
ends_value (node.Bool b) = true
ends_value (node.Unsigned n) = true
ends_value (node.Negative z) = true
ends_value (node.Text s) = true
ends_value (node.List n) = false
ends_value node.EndList = true
ends_value (node.Object n) = false
ends_value node.EndObject = true
ends_value (node.Name s) = false
ends_value (node.Id s z) = true

-- The length of the text of the nodes.
abbrev pub nodes_length : Bool → List ℤ → List Node → ℕ
nodes_length comes ns [] = 0
nodes_length comes ns (n ∷ rest) = node_length comes ns n
    + nodes_length (ends_value n) (after_piece (piece_of n) ns) rest
