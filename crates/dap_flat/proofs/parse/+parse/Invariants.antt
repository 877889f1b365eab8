use Rattle.std.proofs.Common.{◌≡◌, ℕ, ◌+◌, ◌*◌, ◌≤◌, length, false, option_map}
use Rattle.json.specs.Json.{items, members, value, parse_map}
use Rattle.serde_json.specs.Data.{no_members}
use Rattle.serde_json.specs.Read.{of_items, of_members, converted}
use Rattle.dap_tree.specs.Doc.{Items, Members, items_have_id, members_have_id}
use Rattle.dap_tree.specs.Json.{members_data}
use Rattle.dap_flat.specs.Order.{EndsAt}
use Rattle.dap_flat.specs.Pieces.{items_pieces, members_pieces, Appends}
use Rattle.dap_flat.proofs.Placing.{items_before}
use Rattle.dap_flat.proofs.parse.+parse.Given as goal

abbrev pub decreases-parse_value : goal.decreases-parse_value
decreases-parse_value l = 2 * l.depth

abbrev pub decreases-parse_items : goal.decreases-parse_items
decreases-parse_items l = 2 * l.depth + 1

abbrev pub decreases-parse_members : goal.decreases-parse_members
decreases-parse_members l = 2 * l.depth + 1

-- the nodes so far come before those read from the remaining tokens, for which n iterations are
-- enough
abbrev pub invariant-parse_items-items : goal.invariant-parse_items-items
invariant-parse_items-items l =
    (ds : Items) × (n : ℕ) × (length l.reader ≤ n)
    × (converted of_items (items (value l.depth) (length l.initial.reader) l.initial.reader)
    ≡ parse_map (items_before ds) (converted of_items (items (value l.depth) n l.reader)))
    × (length l.reader ≤ length l.initial.reader)
    × (items_have_id ds ≡ false)
    × Appends l.initial.nodes.items l.nodes.items (items_pieces ds)

abbrev pub decreases-parse_items-items : goal.decreases-parse_items-items
decreases-parse_items-items l = length l.reader

abbrev pub invariant-parse_members-members : goal.invariant-parse_members-members
invariant-parse_members-members l =
    (ms : Members) × (n : ℕ) × (length l.reader ≤ n)
    × (converted (λ ns. of_members ns no_members)
    (members (value l.depth) (length l.initial.reader) l.initial.reader)
    ≡ converted (λ ns. of_members ns (members_data ms)) (members (value l.depth) n l.reader))
    × (length l.reader ≤ length l.initial.reader)
    × (members_have_id ms ≡ false)
    × Appends l.initial.nodes.items l.nodes.items (members_pieces ms)
    × EndsAt (option_map (λ s. s.now) l.last) ms

abbrev pub decreases-parse_members-members : goal.decreases-parse_members-members
decreases-parse_members-members l = length l.reader
