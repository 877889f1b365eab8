use Rattle.std.proofs.Common.{◌≡◌, ℕ, ◌+◌, ◌*◌, ◌≤◌, length, false}
use Rattle.json.specs.Json.{items, members, value, parse_map}
use Rattle.serde_json.specs.Data.{no_members}
use Rattle.serde_json.specs.Read.{of_items, of_members, converted}
use Rattle.dap_tree.specs.Doc.{items_have_id, members_have_id}
use Rattle.dap_tree.specs.Json.{members_data}
use Rattle.dap_tree.specs.View.{items_view, members_view}
use Rattle.dap_tree.proofs.Parsing.{items_before}
use Rattle.dap_tree.proofs.parse.+parse.Given as goal

abbrev pub decreases-parse_value : goal.decreases-parse_value
decreases-parse_value l = 2 * l.depth

abbrev pub decreases-parse_items : goal.decreases-parse_items
decreases-parse_items l = 2 * l.depth + 1

abbrev pub decreases-parse_members : goal.decreases-parse_members
decreases-parse_members l = 2 * l.depth + 1

-- the items found so far precede those read from the remaining tokens, for which n iterations are
-- enough
abbrev pub invariant-parse_items-items : goal.invariant-parse_items-items
invariant-parse_items-items l =
    (n : ℕ) × (length l.reader ≤ n)
    × (converted of_items (items (value l.depth) (length l.initial.reader) l.initial.reader)
    ≡ parse_map (items_before l.found.items)
    (converted of_items (items (value l.depth) n l.reader)))
    × (length l.reader ≤ length l.initial.reader)
    × (items_have_id (items_view l.found.items) ≡ false)

abbrev pub decreases-parse_items-items : goal.decreases-parse_items-items
decreases-parse_items-items l = length l.reader

abbrev pub invariant-parse_members-members : goal.invariant-parse_members-members
invariant-parse_members-members l =
    (n : ℕ) × (length l.reader ≤ n)
    × (converted (λ ms. of_members ms no_members)
    (members (value l.depth) (length l.initial.reader) l.initial.reader)
    ≡ converted (λ ms. of_members ms (members_data (members_view l.found.entries)))
    (members (value l.depth) n l.reader))
    × (length l.reader ≤ length l.initial.reader)
    × (members_have_id (members_view l.found.entries) ≡ false)

abbrev pub decreases-parse_members-members : goal.decreases-parse_members-members
decreases-parse_members-members l = length l.reader
